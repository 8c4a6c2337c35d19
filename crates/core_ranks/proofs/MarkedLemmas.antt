-- Sets of numbers, as marks.
use Rattle.std.proofs.Common.{◌≡◌, ◌≢◌, ℕ, zero, suc, ◌+◌, ◌<◌, ◌≤◌, ◌||◌, ◌∷◌, Bool, true, false, cond, List, refl, sym, ap, ◌∙◌, inl, inr, arith}
use Rattle.std.specs.Prelude.{◌==◌, ◌&&◌, Option, Some, None}
use Rattle.std.proofs.lemmas.Bool.{false≢true}
use Rattle.std.proofs.lemmas.Bool.Decides.{eqb_tells, leb_tells}
use Rattle.std.proofs.lemmas.List.{get_or_past}
use Rattle.std.specs.BTreeMap.{is_at}
use Rattle.std.specs.Ordering.{nat_cmp}
use Rattle.core_sets.specs.declared.marks.Marks.{Marks}
use Rattle.core_sets.specs.Firsts.{IsFirstFrom}
use Rattle.core_sets.specs.Marks.{IsTree, MarkedSo, SameMarks, is_marked, room}
use Rattle.core_ranks.specs.Numbers.{IsFirst, Switches, has_number, numbers_below}
use Rattle.core_ranks.specs.Marked.{marked_in}
use Rattle.core_ranks.proofs.NumberLemmas.{number_itself, numbers_apart}

-- What is in the list of those that pass a test

first_told : (k n : ℕ) (b : Bool) (ns : List ℕ) → has_number k (cond b (n ∷ ns) ns) ≡ ((b && is_at (nat_cmp k) n) || has_number k ns)
first_told k n true ns = refl
first_told k n false ns = refl

neither : (b : Bool) → ((b && false) || false) ≡ false
neither true = refl
neither false = refl

only_first : (b : Bool) → ((b && true) || false) ≡ b
only_first true = refl
only_first false = refl

only_rest : (b c : Bool) → ((b && false) || c) ≡ c
only_rest true c = refl
only_rest false c = refl

none_above : (n k : ℕ) (test : ℕ → Bool) → n ≤ k → has_number k (numbers_below n test) ≡ false
none_above zero k test le = refl
none_above (suc n) k test le =
    let other : k ≢ n = λ e. omega (arith, le, e) in
    first_told k n (test n) (numbers_below n test)
    ∙ (λ i. (test n && numbers_apart k n other i) || none_above n k test (omega (arith, le)) i)
    ∙ neither (test n)

all_below : (n k : ℕ) (test : ℕ → Bool) → k < n → has_number k (numbers_below n test) ≡ test k
all_below zero k test lt = absurd (omega (arith, lt))
all_below (suc n) k test lt = first_told k n (test n) (numbers_below n test) ∙ elim (eqb_tells k n) [
  | inl a ↦
      let here : is_at (nat_cmp k) n ≡ true = ap (λ j. is_at (nat_cmp j) n) a.1 ∙ number_itself n in
      (λ i. (test n && here i) || none_above n k test (omega (arith, a.1)) i) ∙ only_first (test n) ∙ ap test (sym a.1)
  | inr a ↦
      ap (λ b. (test n && b) || has_number k (numbers_below n test)) (numbers_apart k n a.1)
      ∙ only_rest (test n) (has_number k (numbers_below n test))
      ∙ all_below n k test (omega (arith, lt, a.1))
]

-- a number is in the set where its place is marked
pub marked_told : (m : Marks) → IsTree m → (k : ℕ) → has_number k (marked_in m).keys ≡ is_marked m k
marked_told m tree k = elim (leb_tells (room m) k) [
  | inl e ↦ none_above (room m) k (is_marked m) e.1 ∙ sym (get_or_past m.nodes.items (room m + k) false (omega (arith, tree.whole, e.1)))
  | inr e ↦ all_below (room m) k (is_marked m) e.1
]

-- Marks and numbers

same_test : (n k : ℕ) → (k == n) ≡ is_at (nat_cmp n) k
same_test n k = elim (eqb_tells k n) [
  | inl a ↦ a.0 ∙ sym (ap (is_at (nat_cmp n)) a.1 ∙ number_itself n)
  | inr a ↦ a.0 ∙ sym (numbers_apart n k (λ e. a.1 (sym e)))
]

-- a place that is marked so is a number that is there, or not
pub switched : (b : Bool) (n : ℕ) (old mid new : Marks) → IsTree old → SameMarks old mid → IsTree new → MarkedSo n b mid new → Switches b n (marked_in old).keys (marked_in new).keys
switched b n old mid new was same tree so k =
    marked_told new tree k
    ∙ so k
    ∙ (λ i. elim (same_test n k i) [ true ↦ b | false ↦ (same k ∙ sym (marked_told old was k)) i ])
    ∙ told (is_at (nat_cmp n) k)
  where
    told : (c : Bool) → elim c [ true ↦ b | false ↦ has_number k (marked_in old).keys ] ≡ cond c b (has_number k (marked_in old).keys)
    told true = refl
    told false = refl

-- what is not there is lost
pub lost_before : (n : ℕ) (m : Marks) → IsTree m → is_marked m n ≡ false → Switches false n (marked_in m).keys (marked_in m).keys
lost_before n m tree none k = elim (eqb_tells k n) [
  | inl a ↦ marked_told m tree k ∙ ap (is_marked m) a.1 ∙ none ∙ sym (ap (λ b. cond b false (has_number k (marked_in m).keys)) (ap (is_at (nat_cmp n)) a.1 ∙ number_itself n))
  | inr a ↦ sym (ap (λ b. cond b false (has_number k (marked_in m).keys)) (numbers_apart n k (λ e. a.1 (sym e))))
]

pub first_number : (m : Marks) → IsTree m → (o : Option ℕ) → IsFirstFrom (is_marked m) 0 o → IsFirst (marked_in m).keys o
first_number m tree None none = λ k. marked_told m tree k ∙ none k (omega arith)
first_number m tree (Some n) first = (
  marked_told m tree n ∙ first.1,
  λ k is. elim (leb_tells n k) [
    | inl e ↦ e.1
    | inr e ↦ absurd (false≢true (sym (first.2 k (omega arith) e.1) ∙ sym (marked_told m tree k) ∙ is))
  ],
)
