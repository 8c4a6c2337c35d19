use Rattle.std.specs.Prelude.{[], ◌∷◌}
use Rattle.std.specs.Fmt.{digits}
use Rattle.std.proofs.Common.{refl}
use Rattle.def_paths.specs.Places.{In_store}
use Rattle.worked_rows.proofs.ExampleLemmas.{alike, places_differ}
use Rattle.worked_rows.proofs.reading.sharing.Goals as goal

pub returns : goal.returns
unfolding digits
returns c = record {
  apart = λ h. places_differ (In_store 1) (In_store 2) refl ((h.shares 0 0 (0 ∷ []) (1 ∷ [])).0 refl);
  alike = alike _ _ ((In_store 0, In_store 0) ∷ (In_store 1, In_store 2) ∷ (In_store 2, In_store 1) ∷ []) ((refl, refl), ((refl, refl), ((refl, refl), tt))) refl (0 ∷ []) (0 ∷ []) refl;
}
