use Rattle.std.proofs.Common.{◌∙◌, sym}
use Rattle.law_chases.proofs.FutureLemmas.{none_true}
use Rattle.core_state.proofs.VerdictLemmas.{none_away, some_away}
use Rattle.asp_core.specs.Cores.{code_of, history_of}
use Rattle.asp_core.proofs.HomeLemmas.{false_not, true_not}
use Rattle.asp_core.proofs.cores.Core.is_home.Goals as goal

pub is_any_out-requires : goal.is_any_out-requires
is_any_out-requires g c = let r = c.requires.kept c.if-self.false in record { kept = r.1.stand.core.populated.kept }

pub returns-then-self-clause-home : goal.returns-then-self-clause-home
returns-then-self-clause-home g c = λ is s run. none_true (sym run.fresh ∙ c.if-self.true)

pub returns-then-self-clause-out : goal.returns-then-self-clause-out
returns-then-self-clause-out g c = λ s run is. none_true (sym is)

pub returns-clause-home : goal.returns-clause-home
returns-clause-home g c = λ is s run.
    let x = c.args.self.now in
    none_away (history_of x) (code_of x) x.state s run.stand.core (sym c.is_any_out.ensures.out ∙ false_not c.is_any_out.result is)

pub returns-clause-out : goal.returns-clause-out
returns-clause-out g c = λ s run is.
    let x = c.args.self.now in
    some_away (history_of x) (code_of x) x.state s run.stand.core (sym c.is_any_out.ensures.out ∙ true_not c.is_any_out.result is)
