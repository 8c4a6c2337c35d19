-- Numbers in ascending order.
use denote.Ref.{Bor}
use Rattle.std.proofs.Common.{◌≡◌, ◌≤◌, ◌<◌, ◌||◌, ℕ, zero, suc, Bool, true, false, cond, List, [], ◌∷◌, ◌++◌, Option, Some, None, Result, Ok, Err, get_or, drop, length, nat_lt, nat_eq, option_copied, true≢false, ◌≢◌, IsSome, OnSome, refl, sym, ap, subst, ◌∙◌, arith}
use Rattle.std.proofs.lemmas.Bool.Decides.{nat_tests}
use Rattle.std.proofs.lemmas.List.Folds.{list_any-append, list_any_none}
use Rattle.std.proofs.lemmas.List.Sorted.{searched}
use Rattle.std.proofs.lemmas.List.{get_or_default}
use Rattle.std.proofs.lemmas.Map.Keys.{non_decreasing_from_sorted}
use Rattle.std.specs.List.{AllByRecursion, remove}
use Rattle.std.specs.List.Sorted.{IsBinarySearchResult, IsStrictlySortedBy}
use Rattle.std.specs.Ordering.{eq_by_cmp, is_eq, nat_cmp}
use Rattle.std.specs.declared.cmp.Ordering.TheVariants.{Less, Equal, Greater}
use Rattle.std.specs.Slice.{IsItemAt}
use Rattle.std.specs.BTreeMap.{is_at}
use Rattle.request_queue.specs.Numbers.{IsLeast, IsUpTo, Turns, has_number}
use Rattle.request_queue.proofs.PendingLemmas.{equal_numbers}

abbrev pub Ascends : List ℕ → Type 0
Ascends ns = IsStrictlySortedBy nat_cmp ns

-- all of them are above this number
abbrev AreAbove : ℕ → List ℕ → Type 0
AreAbove n = AllByRecursion (λ y. nat_cmp n y ≡ Less)

-- Orders

pub less : (n k : ℕ) → nat_cmp n k ≡ Less → n < k
less n k d = by (nat_lt n k) refl d
  where
    no : (b : Bool) → cond b Equal Greater ≡ Less → ⊥
    no true q = absurd cc
    no false q = absurd cc

    by : (b : Bool) → nat_lt n k ≡ b → cond b Less (cond (nat_eq n k) Equal Greater) ≡ Less → n < k
    by true p q = grind (arith, nat_tests)
    by false p q = absurd (no (nat_eq n k) q)

pub is_less : (n k : ℕ) → n < k → nat_cmp n k ≡ Less
is_less n k lt = let e : nat_lt n k ≡ true = grind (arith, nat_tests) in ap (λ b. cond b Less (cond (nat_eq n k) Equal Greater)) e

pub equal_same : (n k : ℕ) → nat_eq n k ≡ true → n ≡ k
equal_same n k e = grind (arith, nat_tests)

pub number_same : (n k : ℕ) → eq_by_cmp nat_cmp n k ≡ true → n ≡ k
number_same n k e = equal_same n k (equal_numbers n k ∙ e)

pub apart : (n k : ℕ) → (n ≡ k → ⊥) → is_eq (nat_cmp n k) ≡ false
apart n k never = by (is_eq (nat_cmp n k)) refl
  where
    by : (b : Bool) → is_eq (nat_cmp n k) ≡ b → b ≡ false
    by true e = absurd (never (number_same n k e))
    by false e = refl

pub flipped : (n k : ℕ) → is_eq (nat_cmp n k) ≡ is_eq (nat_cmp k n)
flipped n k = let e : nat_eq n k ≡ nat_eq k n = grind (arith, nat_tests) in sym (equal_numbers n k) ∙ e ∙ equal_numbers k n

pub itself : (k : ℕ) → is_eq (nat_cmp k k) ≡ true
itself k = sym (equal_numbers k k) ∙ grind (arith, nat_tests)

some_same : (a b : ℕ) → Some a ≡ Some b → a ≡ b
some_same a b e = cc

-- a number below all is not there
not_above : (n : ℕ) (ns : List ℕ) → AreAbove n ns → has_number n ns ≡ false
not_above n [] a = refl
not_above n (k ∷ ns) a = ap (λ o. is_eq o || has_number n ns) a.0 ∙ not_above n ns a.1

-- what is there is above a number below all
below_all : (n : ℕ) (ns : List ℕ) (k : ℕ) → AreAbove n ns → has_number k ns ≡ true → n < k
below_all n [] k a h = absurd (true≢false (sym h))
below_all n (y ∷ ys) k a h = by (is_eq (nat_cmp k y)) refl h (below_all n ys k a.1)
  where
    by : (b : Bool) → is_eq (nat_cmp k y) ≡ b → (b || has_number k ys) ≡ true → (has_number k ys ≡ true → n < k) → n < k
    by true e q next = let lt : n < y = less n y a.0 in let same : k ≡ y = number_same k y e in omega (arith, lt, same)
    by false e q next = next q

-- One more

pub ascends_none : Ascends []
unfolding IsStrictlySortedBy
ascends_none = tt

pub ascends_more : (ns : List ℕ) (n : ℕ) → ((k : ℕ) → has_number k ns ≡ true → k < n) → Ascends ns → Ascends (ns ++ n ∷ [])
unfolding IsStrictlySortedBy
ascends_more [] n below up = (tt, tt)
ascends_more (k ∷ ns) n below up = (more ns up.0, ascends_more ns n (λ j h. below j (later j h)) up.1)
  where
    lt : k < n
    lt = below k (ap (λ b. b || has_number k ns) (itself k))

    later : (j : ℕ) → has_number j ns ≡ true → has_number j (k ∷ ns) ≡ true
    later j h = by (is_eq (nat_cmp j k))
      where
        by : (b : Bool) → (b || has_number j ns) ≡ true
        by true = refl
        by false = h

    more : (xs : List ℕ) → AreAbove k xs → AreAbove k (xs ++ n ∷ [])
    more [] a = (is_less k n lt, tt)
    more (x ∷ xs) a = (a.0, more xs a.1)

pub turns_more : (ns : List ℕ) (n : ℕ) → Turns n true ns (ns ++ n ∷ [])
turns_more ns n j = list_any-append (is_at (nat_cmp j)) ns (n ∷ []) ∙ ap (λ b. has_number j ns || (b || false)) (flipped j n) ∙ by (is_eq (nat_cmp n j)) (has_number j ns)
  where
    by : (b c : Bool) → (c || (b || false)) ≡ cond b true c
    by true true = refl
    by true false = refl
    by false true = refl
    by false false = refl

-- One less

-- the first leaves
pub turns_first : (n : ℕ) (ns : List ℕ) → Ascends (n ∷ ns) → Turns n false (n ∷ ns) ns
unfolding IsStrictlySortedBy
turns_first n ns up j = by (is_eq (nat_cmp n j)) refl ∙ ap (λ b. cond (is_eq (nat_cmp n j)) false (b || has_number j ns)) (flipped n j)
  where
    by : (b : Bool) → is_eq (nat_cmp n j) ≡ b → has_number j ns ≡ cond b false (b || has_number j ns)
    by true e = ap (λ m. has_number m ns) (sym (number_same n j e)) ∙ not_above n ns up.0
    by false e = refl

abbrev Leaves : ℕ → List ℕ → List ℕ → Type 0
Leaves k old new = Turns k false old new × Ascends new

above_less : (n : ℕ) (ns : List ℕ) (i : ℕ) → AreAbove n ns → AreAbove n (remove ns i)
above_less n [] zero a = tt
above_less n [] (suc i) a = tt
above_less n (k ∷ ns) zero a = a.1
above_less n (k ∷ ns) (suc i) a = (a.0, above_less n ns i a.1)

above_at : (n : ℕ) (ns : List ℕ) (i : ℕ) → AreAbove n ns → i < length ns → n < get_or ns i 0
above_at n [] i a lt = absurd (omega (arith, lt))
above_at n (k ∷ ns) zero a lt = less n k a.0
above_at n (k ∷ ns) (suc i) a lt = above_at n ns i a.1 (omega (arith, lt))

-- another number stands before
turns_behind : (n k : ℕ) (old new : List ℕ) → is_eq (nat_cmp k n) ≡ false → Turns k false old new → Turns k false (n ∷ old) (n ∷ new)
turns_behind n k old new other turns j = by (is_eq (nat_cmp k j)) refl (turns j)
  where
    by : (b : Bool) → is_eq (nat_cmp k j) ≡ b → has_number j new ≡ cond b false (has_number j old) → (is_eq (nat_cmp j n) || has_number j new) ≡ cond b false (is_eq (nat_cmp j n) || has_number j old)
    by true e t = ap (λ m. is_eq (nat_cmp m n) || has_number j new) (sym (number_same k j e)) ∙ ap (λ b. b || has_number j new) other ∙ t
    by false e t = ap (λ b. is_eq (nat_cmp j n) || b) t

-- the number at a place leaves
pub turns_less : (ns : List ℕ) (i k : ℕ) → Ascends ns → i < length ns → get_or ns i 0 ≡ k → Leaves k ns (remove ns i)
unfolding IsStrictlySortedBy
turns_less [] i k up lt at = absurd (omega (arith, lt))
turns_less (n ∷ ns) zero k up lt at = (subst (λ m. Turns m false (n ∷ ns) ns) at (turns_first n ns up), up.1)
turns_less (n ∷ ns) (suc i) k up lt at =
    let within : i < length ns = omega (arith, lt) in
    let next : Leaves k ns (remove ns i) = turns_less ns i k up.1 within at in
    let above : n < get_or ns i 0 = above_at n ns i up.0 within in
    let other : is_eq (nat_cmp k n) ≡ false = apart k n (λ e. omega (arith, above, at, e)) in
    (turns_behind n k ns (remove ns i) other next.0, (above_less n ns i up.0, next.1))

-- a number that is not there leaves nothing
pub turns_none : (ns : List ℕ) (k : ℕ) → has_number k ns ≡ false → Turns k false ns ns
turns_none ns k none j = by (is_eq (nat_cmp k j)) refl
  where
    by : (b : Bool) → is_eq (nat_cmp k j) ≡ b → has_number j ns ≡ cond b false (has_number j ns)
    by true e = ap (λ m. has_number m ns) (sym (number_same k j e)) ∙ none
    by false e = refl

-- The least

pub first_least : (ns : List ℕ) (o : Option (Bor ℕ)) → Ascends ns → IsItemAt ns 0 o → IsLeast ns (option_copied o)
unfolding IsStrictlySortedBy
first_least [] None up item = record { found = λ n e. absurd cc; least = λ k h. absurd cc }
first_least [] (Some x) up item = absurd (omega (arith, item.3.0))
first_least (n ∷ ns) None up item = absurd (true≢false (sym (item.2 (omega arith))))
first_least (n ∷ ns) (Some x) up item = record {
  found = λ m e. let same : m ≡ n = sym (some_same x.now m e) ∙ item.1 in ap (λ q. has_number q (n ∷ ns)) same ∙ ap (λ b. b || has_number n ns) (itself n);
  least = λ k h. (x.now, refl, at_most k (is_eq (nat_cmp k n)) refl h);
}
  where
    at_most : (k : ℕ) (b : Bool) → is_eq (nat_cmp k n) ≡ b → (b || has_number k ns) ≡ true → x.now ≤ k
    at_most k true e q = let same : k ≡ n = number_same k n e in let is : x.now ≡ n = item.1 in omega (arith, same, is)
    at_most k false e q = let lt : n < k = below_all n ns k up.0 q in let is : x.now ≡ n = item.1 in omega (arith, lt, is)

-- the least number is the first
pub least_leaves : (ns : List ℕ) (k : ℕ) → Ascends ns → IsLeast ns (Some k) → Leaves k ns (drop 1 ns)
unfolding IsStrictlySortedBy
least_leaves [] k up least = absurd (true≢false (sym (least.found k refl)))
least_leaves (n ∷ ns) k up least = (subst (λ m. Turns m false (n ∷ ns) ns) same (turns_first n ns up), up.1)
  where
    upper : IsUpTo n (Some k)
    upper = least.least n (ap (λ b. b || has_number n ns) (itself n))

    no_more : k ≤ n
    no_more = let is : k ≡ upper.0 = some_same k upper.0 upper.1 in omega (arith, is, upper.2)

    by : (b : Bool) → is_eq (nat_cmp k n) ≡ b → (b || has_number k ns) ≡ true → n ≡ k
    by true e q = sym (number_same k n e)
    by false e q = let lt : n < k = below_all n ns k up.0 q in absurd (omega (arith, lt, no_more))

    same : n ≡ k
    same = by (is_eq (nat_cmp k n)) refl (least.found k refl)

-- The search

-- what a search finds leaves
pub search_less : (ns : List ℕ) (i k : ℕ) → Ascends ns → IsBinarySearchResult (λ y. nat_cmp y k) ns (Ok i) → Leaves k ns (remove ns i)
search_less ns i k up found = let at = searched ns k (Ok i) found (λ a b le lt. non_decreasing_from_sorted ns up a b 0 le lt) in turns_less ns i k up at.0 at.1

-- and where it finds nothing, nothing is there
pub search_none : (ns : List ℕ) (k : ℕ) (r : Result ℕ ℕ) → Ascends ns → IsBinarySearchResult (λ y. nat_cmp y k) ns r → ((i : ℕ) → r ≢ Ok i) → Turns k false ns ns
search_none ns k (Ok i) up found never = absurd (never i refl)
search_none ns k (Err i) up found never = turns_none ns k (list_any_none (is_at (nat_cmp k)) ns (λ m d lt. apart k (get_or ns m d) (λ e. either m d lt e)))
  where
    at : (i ≤ length ns) × ((j : ℕ) → j < i → get_or ns j 0 < k) × ((j : ℕ) → i ≤ j → j < length ns → k < get_or ns j 0)
    at = searched ns k (Err i) found (λ a b le lt. non_decreasing_from_sorted ns up a b 0 le lt)

    either : (m d : ℕ) → m < length ns → k ≡ get_or ns m d → ⊥
    either m d lt e = by (nat_lt m i) refl
      where
        same : get_or ns m d ≡ get_or ns m 0
        same = get_or_default ns m d 0 lt

        by : (b : Bool) → nat_lt m i ≡ b → ⊥
        by true p = let low : get_or ns m 0 < k = at.1 m (grind (arith, nat_tests)) in omega (arith, low, same, e)
        by false p = let high : k < get_or ns m 0 = at.2 m (grind (arith, nat_tests)) lt in omega (arith, high, same, e)

pub on_some : {A P : Type 0} (o : Option A) → IsSome o → OnSome o P → P
on_some None h p = absurd (true≢false (sym h))
on_some (Some x) h p = p
