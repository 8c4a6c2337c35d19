-- The order of futures is total, and futures that tie are equal.
use Rattle.std.specs.Prelude.{◌≡◌, ◌≢◌, Bool, true, false, T, Some, None, is_some, not}
use Rattle.std.proofs.Common.{refl, sym, ap, subst, ◌∙◌, ◌⊎◌}
use Rattle.std.proofs.lemmas.Bool.{false_from_ne_true}
use Rattle.std.specs.Ordering.{is_eq}
use Rattle.std.specs.Cmp.{IsTotalOrder, nat_cmp_total, then_total, on_total, tied_itself}
use Rattle.std.specs.Cmp.Lexicographic.{nat_list_cmp_total}
use Rattle.std.specs.FinMap.{IsAntisymmetric}
use Rattle.asp_model.specs.Names.{FutureShape, future_cmp, same_future}
use Rattle.asp_model.specs.Order.{future_cmp_same, same_future_same}
use Rattle.law_chases.proofs.MapLemmas.{key_case}

abbrev pub future_total : IsTotalOrder future_cmp
future_total = then_total (on_total (λ f. f.by) nat_list_cmp_total) (on_total (λ f. f.index) nat_cmp_total)

abbrev pub future_same : IsAntisymmetric future_cmp
future_same = future_cmp_same

abbrev pub future_case : (f g : FutureShape) → (f ≡ g) ⊎ (f ≢ g)
future_case = key_case future_cmp future_total future_same

-- Options and truth

pub no_some : {A C : Type 0} {x : A} → None ≡ Some x → C
no_some e = absurd (subst (λ o. T (not (is_some o))) e tt)

pub some_is : {A : Type 0} {x y : A} → Some x ≡ Some y → x ≡ y
some_is {A} {x} {y} e = ap (λ o. elim o [ None ↦ x | Some z ↦ z ]) e

pub true_false : (b : Bool) → b ≡ true → b ≡ false → ⊥
true_false b p q = subst T (sym p ∙ q) tt

pub none_true : {A : Type 0} → false ≡ true → A
none_true e = absurd (true_false false e refl)

-- Tests of futures

pub futures_tied : (f g : FutureShape) → same_future f g ≡ true → f ≡ g
futures_tied = same_future_same

pub future_itself : (f : FutureShape) → same_future f f ≡ true
future_itself f = ap is_eq (tied_itself future_total f)

pub futures_apart : (f g : FutureShape) → f ≢ g → same_future f g ≡ false
futures_apart f g a = false_from_ne_true (same_future f g) (λ h. a (futures_tied f g h))
