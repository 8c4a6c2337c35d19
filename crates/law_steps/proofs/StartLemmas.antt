-- What holds at the start.
use Rattle.std.specs.Prelude.{◌≡◌, ◌≤◌, [], ◌∷◌, ◌++◌, is_some}
use Rattle.std.proofs.Common.{sym, ap, subst, ◌∙◌, arith, ⊎_elim}
use Rattle.asp_model.specs.Names.{Name, name_cmp}
use Rattle.asp_model.specs.Term.{Tree}
use Rattle.asp_model.specs.Store.{Object}
use Rattle.asp_model.specs.Parcel.{has_place}
use Rattle.asp_model.specs.Configuration.{Activity, start, begun}
use Rattle.std.specs.Prelude.{None}
use Rattle.law_steps.proofs.NameLemmas.{name_total, name_same, name_case, last_same}
use Rattle.law_chases.proofs.FutureLemmas.{no_some, none_true}
use Rattle.law_chases.proofs.MapLemmas as Maps
use Rattle.law_steps.specs.Kept.{mark}
use Rattle.law_steps.proofs.FactLemmas.{face, holds}
use Rattle.law_steps.proofs.SoundLemmas.{Sound, at_name}

abbrev first : Tree → Activity
first t = begun t (Object [] [] ∷ [])

pub start_face : (t : Tree) (m : Name) → at_name (start t) m ≡ face None
start_face t m = ⊎_elim
    (λ p. ap (at_name (start t)) p ∙ ap face (Maps.find_same name_cmp name_total name_same (0 ∷ []) (first t) []))
    (λ a. ap face (Maps.find_other name_cmp name_total name_same m (0 ∷ []) (first t) [] a))
    (name_case m (0 ∷ []))

pub sound_start : (t : Tree) → Sound (start t)
sound_start t = record {
  ordered = record { activities = tt; received = tt; logs = tt; futures = tt };
  named = λ m k h. ⊎_elim
      (λ p. omega (arith, (last_same k 0 m [] p).1))
      (λ a. none_true (ap is_some (sym (Maps.find_other name_cmp name_total name_same (m ++ k ∷ []) (0 ∷ []) (first t) [] a)) ∙ h))
      (name_case (m ++ k ∷ []) (0 ∷ []));
  begun = λ m k r st. no_some st;
  apart = λ m k r l j q st su same. no_some st;
  served = λ m k h. none_true (ap (λ x. has_place k x.served) (sym (start_face t m)) ∙ h);
  balanced = λ m k r st. no_some st;
  held = λ m f h. let g : 1 ≤ holds (mark f) (face None) = subst (λ x. 1 ≤ holds (mark f) x) (start_face t m) h in absurd (omega (arith, g));
  filled = λ f h. none_true h;
}
