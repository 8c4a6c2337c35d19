use Rattle.std.specs.Prelude.{[], ◌∷◌}
use Rattle.std.specs.Fmt.{digits}
use Rattle.std.proofs.Common.{refl}
use Rattle.def_paths.specs.Places.{In_store}
use Rattle.worked_rows.proofs.ExampleLemmas.{alike, tells, shows}
use Rattle.worked_rows.proofs.reading.fields.Goals as goal

pub returns : goal.returns
unfolding digits
returns c = record {
  label = λ h. tells (shows "object a ;") _ _ refl refl (h.finds 0 []);
  value = λ h. tells (shows "number 5") _ _ refl refl (h.finds 0 (0 ∷ []));
  reference = λ h. tells (shows "ref 0.1") _ _ refl refl (h.finds 0 []);
  alike = alike _ _ ((In_store 0, In_store 0) ∷ (In_store 1, In_store 2) ∷ []) ((refl, refl), ((refl, refl), tt)) refl (0 ∷ []) (0 ∷ []) refl;
}
