-- One entry keeps what a core has of its run.
use Rattle.std.proofs.Common.{◌≡◌, ◌∷◌, [], Option, Some, None, ap}
use Rattle.asp_model.specs.History.{EntryShape}
use Rattle.def_journals.specs.Journals.{RunShape, all_entered, entered}
use Rattle.law_steps.specs.Sound.{IsSound}
use Rattle.law_journals.specs.Numbered.{AreNumbered}
use Rattle.law_journals.proofs.NumberLemmas.{entries_keep_numbers}
use Rattle.law_paths.specs.Whole.{IsWhole}
use Rattle.law_paths.proofs.WholeLemmas.{entries_keep_whole}

module _ (x : EntryShape) (s t : RunShape) (goes : entered x s ≡ Some t) where
  one_entry : all_entered (x ∷ []) s ≡ Some t
  one_entry = ap (λ (o : Option RunShape). elim o [ None ↦ None | Some u ↦ Some u ]) goes

  pub whole_then : IsWhole s.configuration → IsWhole t.configuration
  whole_then = entries_keep_whole (x ∷ []) s t one_entry

  pub numbered_then : IsSound s.configuration → AreNumbered s → AreNumbered t
  numbered_then = entries_keep_numbers (x ∷ []) s t one_entry
