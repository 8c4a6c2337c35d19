use Rattle.std.proofs.Common.{◌≡◌, ◌∙◌, [], ap, subst, sym}
use Rattle.asp_model.specs.History.{program_history}
use Rattle.asp_model.specs.Term.{Tree, locations}
use Rattle.def_journals.specs.Journals.{begun as start_of}
use Rattle.core_state.specs.Cores.{IsCore, program_of}
use Rattle.asp_core.proofs.cores.begun.Goals as goal

pub returns-clause-program : goal.returns-clause-program
returns-clause-program c = ap program_of c.in_ok-code.ensures.ok ∙ c.in_ok-compile.ensures.program

pub returns-clause-state : goal.returns-clause-state
returns-clause-state c =
    subst (λ k. IsCore (program_history (program_of k) c.args.budget []) k c.in_ok-state.state (start_of (program_of k) c.args.budget)) c.in_ok-clone.ensures.cases c.in_ok-state.ensures.begun

pub returns-clause-bare : goal.returns-clause-bare
returns-clause-bare c =
    let program = ap program_of c.in_ok-code.ensures.ok ∙ c.in_ok-compile.ensures.program in
    subst (λ (t : Tree). locations t ≡ []) (sym program) c.in_ok-compile.ensures.bare
