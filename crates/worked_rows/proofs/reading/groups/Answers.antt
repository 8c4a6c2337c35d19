use Rattle.std.specs.Prelude.{[], ◌∷◌}
use Rattle.std.specs.Fmt.{digits}
use Rattle.std.proofs.Common.{refl}
use Rattle.def_paths.specs.Places.{In_store}
use Rattle.worked_rows.proofs.ExampleLemmas.{alike, tells, shows}
use Rattle.worked_rows.proofs.reading.groups.Goals as goal

pub returns : goal.returns
unfolding digits
returns c = record {
  size = λ h. tells (shows "group 1") _ _ refl refl (h.finds 0 []);
  alike = alike _ _ ((In_store 0, In_store 0) ∷ (In_store 1, In_store 2) ∷ (In_store 2, In_store 1) ∷ []) ((refl, refl), ((refl, refl), ((refl, refl), tt))) refl (0 ∷ []) (0 ∷ []) refl;
}
