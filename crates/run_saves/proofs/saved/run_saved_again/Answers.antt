use Rattle.std.proofs.Common.{◌≡◌, ◌∙◌, ap, subst}
use Rattle.asp_model.specs.Shapes.{marked_of, tree_of}
use Rattle.asp_model.specs.Term.{Tree, locations}
use Rattle.asp_core.specs.Cores.{entries_of, history_of}
use Rattle.run_resumes.specs.Resumed.{history_since}
use Rattle.asp_check.proofs.PlaceLemmas.{readable_has_no_places}
use Rattle.run_saves.proofs.SavedLemmas.{run_since}
use Rattle.run_saves.proofs.saved.run_saved_again.Goals as goal

pub resume_core-requires-clause-bare : goal.resume_core-requires-clause-bare
resume_core-requires-clause-bare g c κs within =
    ap locations c.requires.program
    ∙ readable_has_no_places (tree_of c.args.program.now.program.root) c.args.program.now.readable

pub returns : goal.returns
returns g c =
    let root = c.args.program.now.program.root in
    let budget = c.args.settings.budget in
    let core = c.in_ok-core.core in
    record {
      saved = λ x is.
          let own : history_of core ≡ history_since (tree_of root) x budget (entries_of core) =
          subst (λ (t : Tree). history_of core ≡ history_since t x budget (entries_of core)) c.requires.program
          (c.in_ok-core.ensures.history x is) in
          run_since (marked_of root) x budget (history_of core) own c.left_of.result c.left_of.ensures.left;
    }
