use Rattle.std.specs.Prelude.{[], ◌∷◌}
use Rattle.std.specs.Fmt.{digits}
use Rattle.std.proofs.Common.{refl}
use Rattle.def_paths.specs.Places.{In_store, In_value}
use Rattle.worked_rows.proofs.ExampleLemmas.{alike, tells, places_differ, shows}
use Rattle.worked_rows.proofs.reading.futures.Goals as goal

pub returns : goal.returns
unfolding digits
returns c = record {
  awaited = λ h. tells (shows "future 0#1") _ _ refl refl (h.finds 0 []);
  passed_on = alike _ _ ((In_store 0, In_store 0) ∷ []) ((refl, refl), tt) refl (0 ∷ []) (0 ∷ []) refl;
  shared = λ h. places_differ (In_store 1) (In_store 2) refl ((h.shares 0 0 (0 ∷ []) (1 ∷ [])).1 refl);
  delivered = alike _ _ ((In_store 0, In_store 0) ∷ (In_store 1, In_store 1) ∷ (In_store 2, In_store 2) ∷ (In_value (In_store 1) 1, In_store 3) ∷ (In_value (In_store 2) 1, In_value (In_store 2) 1) ∷ []) ((refl, refl), ((refl, refl), ((refl, refl), ((refl, refl), ((refl, refl), tt))))) refl (0 ∷ []) (0 ∷ []) refl;
}
