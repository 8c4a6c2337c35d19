use Rattle.std.proofs.Common.{◌∙◌, sym}
use Rattle.asp_core.specs.Cores.{code_of, history_of}
use Rattle.asp_core.proofs.EndLemmas.{due_told}
use Rattle.asp_core.proofs.cores.Core.verdict.Goals as goal

pub verdict-requires : goal.verdict-requires
verdict-requires g c =
    let x = c.args.self.now in
    let r = c.requires.kept c.if-self.false in
    record { core = (history_of x, code_of x, r.0, r.1.stand.core) }

pub returns-clause-verdict : goal.returns-clause-verdict
returns-clause-verdict g c = λ s run.
    let x = c.args.self.now in
    let due = due_told (history_of x) (code_of x) s x.state x.edges.holders run.stand c.next_due.result c.next_due.ensures.due in
    sym (c.verdict.ensures.verdict (history_of x) (code_of x) s run.stand.core x.edges.holders.holders x.edges.holders.answers (due ∙ sym c.is_some.ensures))
