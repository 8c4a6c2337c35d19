-- Behind which places of a log another entry comes.
use Rattle.std.specs.Prelude.{◌≡◌, ◌<◌, ◌≤◌, ℕ, zero, suc, nat_lt, true, false, List, [], ◌∷◌, Some, length, map}
use Rattle.std.proofs.Common.{refl, sym, ap, ◌∙◌, arith, slice_index_or}
use Rattle.std.proofs.lemmas.Bool.{ltb-true, ltb-false}
use Rattle.asp_model.specs.Configuration.{ReceptionShape}
use Rattle.asp_model.specs.Step.{reception_at, same_reception}
use Rattle.asp_model.specs.Shapes.{reception_shape}
use Rattle.asp_model.specs.declared.outcome.Reception.{Reception}
use Rattle.law_chases.proofs.FutureLemmas.{no_some, some_is}
use Rattle.law_steps.proofs.NameLemmas.{receptions_tied}
use Rattle.law_families.specs.Families.{ComesBehind}

-- from this place on the entries are this one
abbrev pub AreOneFrom : ReceptionShape → ℕ → List ReceptionShape → Type 0
AreOneFrom x from xs = (k : ℕ) (y : ReceptionShape) → from ≤ k → reception_at xs k ≡ Some y → same_reception x y ≡ true

-- behind none of them another one comes
pub none_behind : (x : ReceptionShape) (from : ℕ) (xs : List ReceptionShape) → AreOneFrom x from xs → (k : ℕ) (entry : ReceptionShape) → ComesBehind xs k entry → k < from
none_behind x from xs one k entry b = elim (nat_lt k from) as (λ t. nat_lt k from ≡ t → k < from) [
  | true ↦ λ h. ltb-true k from h
  | false ↦ λ h.
      let le = ltb-false k from h in
      let far : from ≤ b.place = omega (arith, le, b.behind) in
      absurd (b.other (sym (receptions_tied x entry (one b.place entry far b.comes)) ∙ receptions_tied x b.here (one k b.here le b.at)))
] refl

at_shape : (log : List Reception) (k : ℕ) (r d : Reception) → k < length log → r ≡ slice_index_or log k d → reception_at (map reception_shape log) k ≡ Some (reception_shape r)
at_shape [] k r d lt is = absurd (omega (arith, lt))
at_shape (x ∷ xs) zero r d lt is = ap (λ z. Some (reception_shape z)) (sym is)
at_shape (x ∷ xs) (suc k) r d lt is = at_shape xs k r d (omega (arith, lt)) is

-- one place earlier
pub one_more : (log : List Reception) (x : ReceptionShape) (from later : ℕ) (r d : Reception) → AreOneFrom x later (map reception_shape log) → later ≡ suc from → from < length log → r ≡ slice_index_or log from d → same_reception x (reception_shape r) ≡ true → AreOneFrom x from (map reception_shape log)
one_more log x from later r d one next lt is same k y le at = elim (nat_lt from k) as (λ t. nat_lt from k ≡ t → same_reception x y ≡ true) [
  | true ↦ λ h. let more = ltb-true from k h in one k y (omega (arith, next, more)) at
  | false ↦ λ h.
      let p : k ≡ from = omega (arith, le, ltb-false from k h) in
      let q : reception_shape r ≡ y = some_is (sym (at_shape log from r d lt is) ∙ ap (reception_at (map reception_shape log)) (sym p) ∙ at) in
      ap (same_reception x) (sym q) ∙ same
] refl

-- an entry that is there is within the log
pub place_within : (xs : List ReceptionShape) (k : ℕ) (y : ReceptionShape) → reception_at xs k ≡ Some y → k < length xs
place_within [] k y at = no_some at
place_within (x ∷ xs) zero y at = omega arith
place_within (x ∷ xs) (suc k) y at = let r = place_within xs k y at in omega (arith, r)
