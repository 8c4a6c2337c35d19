use Rattle.std.proofs.Common.{◌∙◌, ap, sym}
use Rattle.asp_model.specs.History.{HistoryShape}
use Rattle.asp_model.specs.Shapes.{marked_of, tree_of}
use Rattle.asp_model.specs.Term.{locations}
use Rattle.asp_core.specs.Cores.{history_of}
use Rattle.run_saves.proofs.SavedLemmas.{later_program, own_run}
use Rattle.run_saves.proofs.saved.run_saved.Goals as goal

pub returns : goal.returns
returns g c =
    let program = c.args.program.now.program in
    let budget = c.args.settings.budget in
    let h = history_of c.in_ok-core-2.core in
    let is = later_program h (history_of c.in_ok-core.core) (tree_of program.root) budget
    c.in_ok-core-2.ensures.begins c.in_ok-core.ensures.history in
    let bare = sym (ap (λ (k : HistoryShape). locations k.program) is) ∙ c.in_ok-core-2.ensures.over.is.bare in
    record { saved = own_run (marked_of program.root) budget h is c.left_of.result bare c.left_of.ensures.left }
