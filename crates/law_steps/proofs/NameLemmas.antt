-- The orders of names and futures are total, and names that tie are equal.
use Rattle.std.specs.Prelude.{◌≡◌, ◌≢◌, ℕ, true, false, [], ◌∷◌, ◌++◌, Option, Some, None, length, is_some}
use Rattle.std.proofs.Common.{refl, sym, ap, arith, ◌⊎◌}
use Rattle.std.proofs.lemmas.Bool.{false_from_ne_true}
use Rattle.std.specs.declared.cmp.Ordering.{Ordering}
use Rattle.std.specs.declared.cmp.Ordering.TheVariants.{Less, Equal, Greater}
use Rattle.std.specs.Ordering.{is_eq}
use Rattle.std.specs.Cmp.{IsTotalOrder, tied_itself}
use Rattle.std.specs.Cmp.Lexicographic.{nat_list_cmp_total}
use Rattle.std.specs.FinMap.{IsAntisymmetric, nat_cmp-IsAntisymmetric, slice_cmp-IsAntisymmetric}
use Rattle.asp_model.specs.Names.{Name, name_cmp, same_name}
use Rattle.asp_model.specs.Configuration.{ReceptionShape, From, Poll}
use Rattle.asp_model.specs.Step.{same_reception, is_reception}
use Rattle.law_chases.proofs.MapLemmas.{key_case}
use Rattle.law_chases.proofs.FutureLemmas.{none_true}

abbrev pub name_total : IsTotalOrder name_cmp
name_total = nat_list_cmp_total

abbrev pub name_same : IsAntisymmetric name_cmp
name_same = slice_cmp-IsAntisymmetric nat_cmp-IsAntisymmetric

abbrev pub name_case : (n m : Name) → (n ≡ m) ⊎ (n ≢ m)
name_case = key_case name_cmp name_total name_same

-- Options

pub not_some : {A : Type 0} (o : Option A) → (is_some o ≡ true → ⊥) → o ≡ None
not_some None h = refl
not_some (Some x) h = absurd (h refl)

pub is_there : {A : Type 0} (o : Option A) → is_some o ≡ true → (x : A) × (o ≡ Some x)
is_there None h = none_true h
is_there (Some x) h = (x, refl)

-- Tests of names

equal_of : (r : Ordering) → is_eq r ≡ true → r ≡ Equal
equal_of Less h = none_true h
equal_of Equal h = refl
equal_of Greater h = none_true h

pub names_tied : (n m : Name) → same_name n m ≡ true → n ≡ m
names_tied n m h = name_same n m (equal_of (name_cmp n m) h)

pub name_itself : (n : Name) → same_name n n ≡ true
name_itself n = ap is_eq (tied_itself name_total n)

pub names_apart : (n m : Name) → n ≢ m → same_name n m ≡ false
names_apart n m a = false_from_ne_true (same_name n m) (λ h. a (names_tied n m h))

-- names with equal last numbers and equal rests
pub last_same : (x y : ℕ) (xs ys : Name) → xs ++ x ∷ [] ≡ ys ++ y ∷ [] → (xs ≡ ys) × (x ≡ y)
last_same x y [] [] e = (refl, ap (λ l. elim l [ [] ↦ x | z ∷ zs ↦ z ]) e)
last_same x y [] (b ∷ []) e = absurd (omega (arith, ap length e))
last_same x y [] (b ∷ d ∷ ys) e = absurd (omega (arith, ap length e))
last_same x y (a ∷ []) [] e = absurd (omega (arith, ap length e))
last_same x y (a ∷ d ∷ xs) [] e = absurd (omega (arith, ap length e))
last_same x y (a ∷ xs) (b ∷ ys) e =
    let t = last_same x y xs ys (ap (λ l. elim l [ [] ↦ [] | z ∷ zs ↦ zs ]) e) in
    let h : a ≡ b = ap (λ l. elim l [ [] ↦ a | z ∷ zs ↦ z ]) e in
    ((λ i. h i ∷ t.0 i), t.1)

-- Tests of receptions

pub receptions_tied : (x y : ReceptionShape) → same_reception x y ≡ true → x ≡ y
receptions_tied (From n) (From m) h = ap From (names_tied n m h)
receptions_tied (From n) Poll h = none_true h
receptions_tied Poll (From m) h = none_true h
receptions_tied Poll Poll h = refl

pub reception_itself : (x : ReceptionShape) → same_reception x x ≡ true
reception_itself (From n) = name_itself n
reception_itself Poll = refl

pub reception_is : (x : ReceptionShape) (o : Option ReceptionShape) → is_reception x o ≡ true → o ≡ Some x
reception_is x None h = none_true h
reception_is x (Some y) h = ap Some (sym (receptions_tied x y h))
