-- Members of a group that have come, one after the other, and while values come.
use Rattle.std.proofs.Common.{◌≡◌, ◌∙◌, ◌<◌, ◌≤◌, ◌+◌, ℕ, zero, suc, true, false, List, [], ◌∷◌, Some, None, add-one, drop, get_or, length, take, refl, sym, ap, subst, arith}
use Rattle.std.proofs.lemmas.List.{take-append-drop, take_all}
use Rattle.asp_model.specs.Configuration.{Activity}
use Rattle.asp_model.specs.Contraction.{first_future, is_future, members_of}
use Rattle.asp_model.specs.Parcel.{ParcelShape, unpack_at, with_cells_at}
use Rattle.asp_model.specs.Store.{CellShape, Number, Object, Reference, Future, Group, Store, cell, with_cell}
use Rattle.law_steps.specs.Linked.{Each}
use Rattle.law_steps.proofs.EachLemmas.{each_weaker}
use Rattle.law_steps.proofs.MovedLemmas.{length_written}
use Rattle.step_reads.proofs.SightLemmas.{cell_before}
use Rattle.step_activity.specs.Clear.{AreClear, HasClear, IsClear}
use Rattle.step_activity.proofs.FillingLemmas.{unpacked_longer}
use Rattle.step_activity.proofs.HeldLemmas.{first_behind}

-- One after the other

module _ {X : Type 0} (P : X → Type 0) where
  one_more : (xs : List X) (i : ℕ) (d : X) → i < length xs → Each P (take i xs) → P (get_or xs i d) → Each P (take (suc i) xs)
  one_more [] i d lt h p = absurd (omega (arith, lt))
  one_more (x ∷ xs) zero d lt h p = (p, tt)
  one_more (x ∷ xs) (suc i) d lt h p = (h.0, one_more xs i d (omega (arith, lt)) h.1 p)

  -- one more of the first
  pub each_on : (xs : List X) (i : ℕ) (d : X) → i < length xs → Each P (take i xs) → P (get_or xs i d) → Each P (take (i + 1) xs)
  each_on xs i d lt h p = subst (λ (k : ℕ). Each P (take k xs)) (sym (add-one i)) (one_more xs i d lt h p)

  -- all are
  pub each_all : (xs : List X) (i : ℕ) → length xs ≤ i → Each P (take i xs) → Each P (take (length xs) xs)
  each_all xs i le h =
      let whole : length xs ≤ length xs = omega arith in
      subst (Each P) (take_all i xs le ∙ sym (take_all (length xs) xs whole)) h

-- Where none of the first holds a future

clear_none : (s : Store) (ns : List ℕ) → Each (IsClear s) ns → first_future s ns ≡ None
clear_none s [] h = refl
clear_none s (n ∷ ns) h = (λ i. elim (h.0.1 i) [ true ↦ Some n | false ↦ first_future s ns ]) ∙ clear_none s ns h.1

nothing_in : (s : Store) (k : ℕ) → first_future s (take k []) ≡ None
nothing_in s zero = refl
nothing_in s (suc k) = refl

pub members_none : (s : Store) (c : CellShape) (k : ℕ) → AreClear s c k → first_future s (take k (members_of c)) ≡ None
members_none s (Group ns) k h = clear_none s (take k ns) h
members_none s (Number z) k h = nothing_in s k
members_none s (Object fields methods) k h = nothing_in s k
members_none s (Reference n) k h = nothing_in s k
members_none s (Future f) k h = nothing_in s k

-- the first is among the others
pub first_after : (s : Store) (ns : List ℕ) (k : ℕ) → first_future s (take k ns) ≡ None → first_future s ns ≡ first_future s (drop k ns)
first_after s ns k e = ap (first_future s) (sym (take-append-drop k ns)) ∙ first_behind s (take k ns) (drop k ns) e

-- More members of a group

pub clear_more : (s : Store) (c : CellShape) (ns : List ℕ) (from n : ℕ) → ns ≡ members_of c → n ≤ length ns → (Each (IsClear s) (take from ns) → Each (IsClear s) (take n ns)) → AreClear s c from → AreClear s c n
clear_more s (Group ms) ns from n e le to h = subst (λ (l : List ℕ). Each (IsClear s) (take n l)) e (to (subst (λ (l : List ℕ). Each (IsClear s) (take from l)) (sym e) h))
clear_more s (Number z) ns from n e le to h = let empty : length ns ≡ 0 = ap length e in omega (arith, le, empty)
clear_more s (Object fields methods) ns from n e le to h = let empty : length ns ≡ 0 = ap length e in omega (arith, le, empty)
clear_more s (Reference m) ns from n e le to h = let empty : length ns ≡ 0 = ap length e in omega (arith, le, empty)
clear_more s (Future f) ns from n e le to h = let empty : length ns ≡ 0 = ap length e in omega (arith, le, empty)

-- At first none is known

none_clear : (s : Store) (c : CellShape) → AreClear s c 0
none_clear s (Group ns) = tt
none_clear s (Number z) = refl
none_clear s (Object fields methods) = refl
none_clear s (Reference n) = refl
none_clear s (Future f) = refl

pub first_clear : (a : Activity) → HasClear a 0
first_clear a = λ cs i e. none_clear a.store (cell a.store i)

-- Where a value comes in place of a future

plain_kept : (s : Store) (n m : ℕ) (d : CellShape) → is_future (cell s n) ≡ true → is_future (cell s m) ≡ false → cell (with_cell s n d) m ≡ cell s m
plain_kept [] n m d is e = refl
plain_kept (c ∷ s) zero zero d is e = let no : true ≡ false = sym is ∙ e in absurd cc
plain_kept (c ∷ s) zero (suc m) d is e = refl
plain_kept (c ∷ s) (suc n) zero d is e = refl
plain_kept (c ∷ s) (suc n) (suc m) d is e = plain_kept s n m d is e

clear_kept : (s : Store) (n m : ℕ) (cs : List CellShape) → is_future (cell s n) ≡ true → IsClear s m → cell (with_cells_at s n cs) m ≡ cell s m
clear_kept s n m [] is h = refl
clear_kept s n m (c ∷ cs) is h =
    let size : length (with_cell s n c) ≡ length s = length_written s n c in
    let less : m < length (with_cell s n c) = omega (arith, size, h.0) in
    cell_before (with_cell s n c) cs m less ∙ plain_kept s n m c is h.1

group_within : (s : Store) (i : ℕ) (ns : List ℕ) → cell s i ≡ Group ns → i < length s
group_within [] i ns e = absurd cc
group_within (c ∷ s) zero ns e = omega arith
group_within (c ∷ s) (suc i) ns e = let below : i < length s = group_within s i ns e in omega (arith, below)

module _ (s : Store) (n : ℕ) (p : ParcelShape) (is : is_future (cell s n) ≡ true) where
  abbrev now : Store
  now = unpack_at s n p

  stays : (m : ℕ) → IsClear s m → cell now m ≡ cell s m
  stays m h = clear_kept s n m _ is h

  still_clear : (m : ℕ) → IsClear s m → IsClear now m
  still_clear m h = (omega (arith, h.0, unpacked_longer s n p), ap is_future (stays m h) ∙ h.1)

  still_none : (i k : ℕ) → k ≡ 0 → AreClear now (cell now i) k
  still_none i k e = subst (AreClear now (cell now i)) (sym e) (none_clear now (cell now i))

  filled_by : (i k : ℕ) (c : CellShape) → cell s i ≡ c → AreClear s c k → AreClear now (cell now i) k
  filled_by i k (Group ns) e h =
      let here : IsClear s i = (group_within s i ns e, ap is_future e) in
      subst (λ (c : CellShape). AreClear now c k) (sym (stays i here ∙ e)) (each_weaker (IsClear s) (IsClear now) still_clear (take k ns) h)
  filled_by i k (Number z) e h = still_none i k h
  filled_by i k (Object fields methods) e h = still_none i k h
  filled_by i k (Reference m) e h = still_none i k h
  filled_by i k (Future f) e h = still_none i k h

-- those that have come stay so
pub filled_clear : (a : Activity) (n : ℕ) (p : ParcelShape) (k : ℕ) → is_future (cell a.store n) ≡ true → HasClear a k → HasClear (record a { store = unpack_at a.store n p }) k
filled_clear a n p k is h = λ cs i e. filled_by a.store n p is i k (cell a.store i) refl (h cs i e)
