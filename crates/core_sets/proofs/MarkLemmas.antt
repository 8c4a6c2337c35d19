-- Trees over places: where the first marked leaf stands.
use Rattle.std.proofs.Common.{◌≡◌, ◌≢◌, ℕ, zero, suc, ◌+◌, ◌-◌, ◌*◌, ◌/◌, ◌%◌, ◌^◌, ◌<◌, ◌≤◌, ◌⊎◌, inl, inr, Bool, true, false, List, length, refl, sym, ap, ◌∙◌, subst, T, arith, eqb, leb, nat_lt}
use Rattle.std.specs.Prelude.{◌||◌, ◌&&◌, ◌==◌, Option, Some, None, slice_index_or}
use Rattle.std.proofs.lemmas.Bool.Decides.{eqb_tells, leb_tells, nat_tests}
use Rattle.std.proofs.lemmas.Bool.{eqb-true}
use Rattle.std.proofs.lemmas.Nat.{pow_below, pow_pos, pow-add}
use Rattle.std.proofs.lemmas.List.{get_or_past}
use Rattle.std.proofs.Math.Nat.{mul-le-mul_right, le-mul_of_pos_right}
use Rattle.std.specs.Prelude.{replicate}
use Rattle.std.proofs.lemmas.List.{length-replicate}
use Rattle.core_sets.specs.declared.marks.Marks.{Marks}
use Rattle.core_sets.specs.Marks.{AgreesAt, IsTree, is_marked, node_at, room}
use Rattle.core_sets.specs.Firsts.{IsFirstFrom}

-- Powers

pub double : (h k : ℕ) → h ≡ k + 1 → 2 ^ h ≡ 2 * 2 ^ k
double h k e = ap (λ n. 2 ^ n) e ∙ pow-add 2 k 1 ∙ omega arith

-- a room that numbers of 32 bits do not fill can be doubled
pub low_height : (h r : ℕ) → r ≡ 2 ^ h → r < 2 ^ 32 → h + 1 ≤ 32
low_height h r power small = by (leb_tells 33 h) (eqb_tells h 32)
  where
    by : ((leb 33 h ≡ true) × (33 ≤ h)) ⊎ ((leb 33 h ≡ false) × (h < 33)) → ((eqb h 32 ≡ true) × (h ≡ 32)) ⊎ ((eqb h 32 ≡ false) × (h ≢ 32)) → h + 1 ≤ 32
    by (inl e) _ = let more : 2 ^ 32 < 2 ^ h = pow_below 32 h (omega (arith, e.1)) in absurd (omega (arith, power, small, more))
    by (inr e) (inl d) = let same : r ≡ 2 ^ 32 = power ∙ ap (λ n. 2 ^ n) d.1 in absurd (omega (arith, same, small))
    by (inr e) (inr d) = omega (arith, e.1, d.1)

-- a node above the leaves is below the room
pub above_leaves : (i h k r : ℕ) → h ≡ k + 1 → (i + 1) * 2 ^ h ≤ 2 * r → i + 1 ≤ r
above_leaves i h k r e le =
    let v : ℕ = 2 ^ k in
    let le_two : (i + 1) * (2 * v) ≤ 2 * r = ap_le (double h k e) le in
    let more : i + 1 ≤ (i + 1) * v = le-mul_of_pos_right (i + 1) (pow_pos k) in
    omega (arith, le_two, more)
  where
    ap_le : {x y : ℕ} → x ≡ y → (i + 1) * x ≤ 2 * r → (i + 1) * y ≤ 2 * r
    ap_le {x} {y} e le = subst (λ z. (i + 1) * z ≤ 2 * r) e le

-- The first from a number on

pub begun_at : (test : ℕ → Bool) (s t : ℕ) (o : Option ℕ) → s ≡ t → IsFirstFrom test s o → IsFirstFrom test t o
begun_at test s t o e h = subst (λ n. IsFirstFrom test n o) e h

-- nothing stands between two starts
pub begun_before : (test : ℕ → Bool) (s t : ℕ) (o : Option ℕ) → t ≤ s → ((n : ℕ) → t ≤ n → n < s → test n ≡ false) → IsFirstFrom test s o → IsFirstFrom test t o
begun_before test s t None le none h = λ n from. grind (arith, none n, h n)
begun_before test s t (Some m) le none h = (omega (arith, le, h.0), h.1, λ n from to. grind (arith, none n, h.2 n))

-- What lies below a node

clash : {b : Bool} {C : Type 0} → b ≡ true → b ≡ false → C
clash e d = absurd (subst T (sym e ∙ d) tt)

both_false : (a b : Bool) → (a || b) ≡ false → (a ≡ false) × (b ≡ false)
both_false true b e = clash refl e
both_false false b e = (refl, e)

-- no leaf below a node that is not marked is marked
pub none_below : (xs : List Bool) (r : ℕ) → ((n : ℕ) → 1 ≤ n → n < r → AgreesAt xs n) → (k i : ℕ) → 1 ≤ i → (i + 1) * 2 ^ k ≤ 2 * r → node_at xs i ≡ false → (j : ℕ) → i * 2 ^ k ≤ j → j < (i + 1) * 2 ^ k → node_at xs j ≡ false
none_below xs r tree zero i low within unmarked j from to =
    let same : i ≡ j = omega arith in
    subst (λ x. node_at xs x ≡ false) same unmarked
none_below xs r tree (suc k) i low within unmarked j from to =
    let v : ℕ = 2 ^ k in
    let twice : 2 ^ suc k ≡ 2 * v = double (suc k) k (omega arith) in
    let within_two : (i + 1) * (2 * v) ≤ 2 * r = subst (λ x. (i + 1) * x ≤ 2 * r) twice within in
    let from_two : i * (2 * v) ≤ j = subst (λ x. i * x ≤ j) twice from in
    let to_two : j < (i + 1) * (2 * v) = subst (λ x. j < (i + 1) * x) twice to in
    let above : i + 1 ≤ r = above_leaves i (suc k) k r (omega arith) within in
    let both = both_false (node_at xs (2 * i)) (node_at xs (2 * i + 1)) (sym (tree i low (omega (arith, above))) ∙ unmarked) in
    elim (leb_tells ((2 * i + 1) * v) j) [
      | inl e ↦ none_below xs r tree k (2 * i + 1) (omega arith) (omega (arith, within_two)) both.1 j e.1 (omega (arith, to_two))
      | inr e ↦ none_below xs r tree k (2 * i) (omega (arith, low)) (omega (arith, within_two)) both.0 j (omega (arith, from_two)) e.1
    ]

-- the first leaf below the left child is the first below the node, and that below the right one where the left one is not
-- marked
pub first_left : (xs : List Bool) (i h k m : ℕ) → h ≡ k + 1 → IsFirstFrom (node_at xs) ((2 * i) * 2 ^ k) (Some m) → IsFirstFrom (node_at xs) (i * 2 ^ h) (Some m)
first_left xs i h k m e first =
    let twice : i * 2 ^ h ≡ i * (2 * 2 ^ k) = ap (λ x. i * x) (double h k e) in
    begun_at (node_at xs) ((2 * i) * 2 ^ k) (i * 2 ^ h) (Some m) (omega (arith, twice)) first

pub first_right : (xs : List Bool) (r : ℕ) → ((n : ℕ) → 1 ≤ n → n < r → AgreesAt xs n) → (i h k m : ℕ) → h ≡ k + 1 → 1 ≤ i → (2 * i + 1) * 2 ^ k ≤ 2 * r → node_at xs (2 * i) ≡ false → IsFirstFrom (node_at xs) ((2 * i + 1) * 2 ^ k) (Some m) → IsFirstFrom (node_at xs) (i * 2 ^ h) (Some m)
first_right xs r tree i h k m e low within unmarked first =
    first_left xs i h k m e (begun_before (node_at xs) ((2 * i + 1) * 2 ^ k) ((2 * i) * 2 ^ k) (Some m) (omega arith) (none_below xs r tree k (2 * i) (omega (arith, low)) within unmarked) first)

-- both children end where the node ends
pub within_children : (i h k r : ℕ) → h ≡ k + 1 → (i + 1) * 2 ^ h ≤ 2 * r → ((2 * i + 1) * 2 ^ k ≤ 2 * r) × ((2 * i + 1 + 1) * 2 ^ k ≤ 2 * r)
within_children i h k r e within =
    let v : ℕ = 2 ^ k in
    let within_two : (i + 1) * (2 * v) ≤ 2 * r = subst (λ x. (i + 1) * x ≤ 2 * r) (double h k e) within in
    (omega (arith, within_two), omega (arith, within_two))

-- a node that is marked has a child that is
pub right_marked : (xs : List Bool) (i : ℕ) → AgreesAt xs i → node_at xs i ≡ true → node_at xs (2 * i) ≡ false → node_at xs (2 * i + 1) ≡ true
right_marked xs i agrees marked left = sym (ap (λ b. b || node_at xs (2 * i + 1)) left) ∙ sym agrees ∙ marked

pub root_unmarked : (xs : List Bool) (b : Bool) → b ≡ slice_index_or xs 1 b → b ≡ false → node_at xs 1 ≡ false
root_unmarked xs b read unmarked = sym (subst (λ d. d ≡ slice_index_or xs 1 d) unmarked read)

-- where the root is not marked no place is
pub none_marked : (m : Marks) (start : ℕ) → IsTree m → 0 < room m → node_at m.nodes.items 1 ≡ false → IsFirstFrom (is_marked m) start None
none_marked m start tree some unmarked = λ n from. by n (leb_tells (room m) n)
  where
    size : room m ≡ 2 ^ m.height
    size = tree.power some

    by : (n : ℕ) → ((leb (room m) n ≡ true) × (room m ≤ n)) ⊎ ((leb (room m) n ≡ false) × (n < room m)) → is_marked m n ≡ false
    by n (inl e) = get_or_past m.nodes.items (room m + n) false (omega (arith, tree.whole, e.1))
    by n (inr e) = none_below m.nodes.items (room m) tree.nodes m.height 1 (omega arith) (omega (arith, size)) unmarked (room m + n) (omega (arith, size)) (omega (arith, size, e.1))

-- Up to the parent

-- on the root's level nothing stands behind
pub none_behind : (xs : List Bool) (r height h : ℕ) → length xs ≡ 2 * r → r ≡ 2 ^ height → h ≤ height → 2 ^ (height - h) ≤ 1 → IsFirstFrom (node_at xs) ((1 + 1) * 2 ^ h) None
none_behind xs r height h size power low last = λ n from. get_or_past xs n false (ends (height - h) refl from)
  where
    ends : (d : ℕ) → height - h ≡ d → {n : ℕ} → (1 + 1) * 2 ^ h ≤ n → length xs ≤ n
    ends zero e from = omega (arith, size, power, ap (λ k. 2 ^ k) (same e), from)
      where
        same : height - h ≡ 0 → height ≡ h
        same e = omega (arith, low, e)
    ends (suc d) e from = absurd (omega (arith, subst (λ k. 2 ^ k ≤ 1) e last, double (suc d) d (omega arith), pow_pos d))

-- the end of a node on a level
pub ends_within : (i height h r : ℕ) → r ≡ 2 ^ height → h ≤ height → i + 1 ≤ 2 * 2 ^ (height - h) → (i + 1) * 2 ^ h ≤ 2 * r
ends_within i height h r power low le =
    let product : 2 ^ (height - h) * 2 ^ h ≡ r = sym (pow-add 2 (height - h) h) ∙ ap (λ n. 2 ^ n) (omega (arith, low)) ∙ sym power in
    let more : (i + 1) * 2 ^ h ≤ (2 * 2 ^ (height - h)) * 2 ^ h = mul-le-mul_right (2 ^ h) le in
    omega (arith, product, more)

-- a node on a level, counted from the leaves, of a tree of this height
pub record OnLevel (i h height r : ℕ) : Type 0 where
  pub power : r ≡ 2 ^ height
  pub low : h ≤ height
  pub from : 2 ^ (height - h) ≤ i
  pub to : i < 2 * 2 ^ (height - h)

pub level_within : (i h height r : ℕ) → OnLevel i h height r → i < 2 * r
level_within i h height r l =
    let ends : (i + 1) * 2 ^ h ≤ 2 * r = ends_within i height h r l.power l.low (omega (arith, l.to)) in
    let more : i + 1 ≤ (i + 1) * 2 ^ h = le-mul_of_pos_right (i + 1) (pow_pos h) in
    omega (arith, ends, more)

-- the right child of a left one's parent
pub right_ends : (i h height r : ℕ) → OnLevel i h height r → i % 2 ≡ 0 → (i + 1 + 1) * 2 ^ h ≤ 2 * r
right_ends i h height r l even = ends_within (i + 1) height h r l.power l.low (omega (arith, l.to, even))

-- the parent is a level higher
pub parent_level : (i h height r : ℕ) → OnLevel i h height r → (i ≡ 1 → ⊥) → OnLevel (i / 2) (h + 1) height r
parent_level i h height r l ne = by (height - h) refl l.from l.to
  where
    by : (d : ℕ) → height - h ≡ d → 2 ^ d ≤ i → i < 2 * 2 ^ d → OnLevel (i / 2) (h + 1) height r
    by zero e from to = absurd (ne (omega (arith, from, to)))
    by (suc d) e from to =
        let half : height - (h + 1) ≡ d = omega (arith, e) in
        let twice : 2 ^ suc d ≡ 2 * 2 ^ d = double (suc d) d (omega arith) in
        record {
          power = l.power;
          low = omega (arith, e, l.low);
          from = subst (λ x. 2 ^ x ≤ i / 2) (sym half) (omega (arith, twice, from));
          to = subst (λ x. i / 2 < 2 * 2 ^ x) (sym half) (omega (arith, twice, to));
        }

both_true : (a b : Bool) → (a && b) ≡ true → (a ≡ true) × (b ≡ true)
both_true true b e = (refl, e)
both_true false b e = clash e refl

pub right_of : (i : ℕ) (b : Bool) → ((i % 2 == 0) && b) ≡ true → (i % 2 ≡ 0) × (b ≡ true)
right_of i b e = let both = both_true (i % 2 == 0) b e in (eqb-true (i % 2) 0 both.0, both.1)

twofold : (a b v : ℕ) → a * 2 ≡ b → a * (2 * v) ≡ b * v
twofold a b v e = let h : a * 2 * v ≡ b * v = ap (λ x. x * v) e in omega (arith, h)

-- what stands behind the parent is what stands behind a node that has no marked one on its right
pub behind_parent : (xs : List Bool) (r : ℕ) → ((n : ℕ) → 1 ≤ n → n < r → AgreesAt xs n) → (i h height : ℕ) (o : Option ℕ) → OnLevel i h height r → ((i % 2 == 0) && node_at xs (i + 1)) ≡ false → IsFirstFrom (node_at xs) ((i / 2 + 1) * 2 ^ (h + 1)) o → IsFirstFrom (node_at xs) ((i + 1) * 2 ^ h) o
behind_parent xs r tree i h height o l unmarked first = by (eqb_tells (i % 2) 0)
  where
    by : ((eqb (i % 2) 0 ≡ true) × (i % 2 ≡ 0)) ⊎ ((eqb (i % 2) 0 ≡ false) × (i % 2 ≢ 0)) → IsFirstFrom (node_at xs) ((i + 1) * 2 ^ h) o
    by (inr odd) =
        let same : (i / 2 + 1) * 2 ^ (h + 1) ≡ (i + 1) * 2 ^ h = ap (λ x. (i / 2 + 1) * x) (double (h + 1) h refl) ∙ twofold (i / 2 + 1) (i + 1) (2 ^ h) (pair i odd.1) in
        begun_at (node_at xs) ((i / 2 + 1) * 2 ^ (h + 1)) ((i + 1) * 2 ^ h) o same first
      where
        pair : (i : ℕ) → i % 2 ≢ 0 → (i / 2 + 1) * 2 ≡ i + 1
        pair i odd = omega (arith, odd)
    by (inl even) =
        let same : (i / 2 + 1) * 2 ^ (h + 1) ≡ (i + 1 + 1) * 2 ^ h = ap (λ x. (i / 2 + 1) * x) (double (h + 1) h refl) ∙ twofold (i / 2 + 1) (i + 1 + 1) (2 ^ h) (pair i even.1) in
        let right : node_at xs (i + 1) ≡ false = sym (ap (λ b. b && node_at xs (i + 1)) even.0) ∙ unmarked in
        begun_before (node_at xs) ((i + 1 + 1) * 2 ^ h) ((i + 1) * 2 ^ h) o (omega arith)
        (none_below xs r tree h (i + 1) (omega arith) (right_ends i h height r l even.1) right)
        (begun_at (node_at xs) ((i / 2 + 1) * 2 ^ (h + 1)) ((i + 1 + 1) * 2 ^ h) o same first)
      where
        pair : (i : ℕ) → i % 2 ≡ 0 → (i / 2 + 1) * 2 ≡ i + 1 + 1
        pair i even = omega (arith, even)

-- Marks that are copied up to a place

less : (m n : ℕ) → m < n → nat_lt m n ≡ true
less m n lt = grind (arith, nat_tests)

not_less : (m n : ℕ) → n ≤ m → nat_lt m n ≡ false
not_less m n le = grind (arith, nat_tests)

pub none_copied : (a b : ℕ → Bool) → ((p : ℕ) → a p ≡ false) → (p : ℕ) → a p ≡ (nat_lt p 0 && b p)
none_copied a b none p = none p ∙ sym (ap (λ x. x && b p) (not_less p 0 (omega arith)))

-- whether the place is among the first ones, where it is another one than the next
next_less : (p n : ℕ) → p ≢ n → nat_lt p n ≡ nat_lt p (n + 1)
next_less p n ne = elim (leb_tells n p) [
  | inl e ↦ not_less p n e.1 ∙ sym (not_less p (n + 1) (omega (arith, e.1, ne)))
  | inr e ↦ less p n e.1 ∙ sym (less p (n + 1) (omega (arith, e.1)))
]

-- the next place is marked too
pub copied : (a b c : ℕ → Bool) (n : ℕ) → ((p : ℕ) → a p ≡ (nat_lt p n && b p)) → b n ≡ true → ((p : ℕ) → c p ≡ elim (p == n) [ true ↦ true | false ↦ a p ]) → (p : ℕ) → c p ≡ (nat_lt p (n + 1) && b p)
copied a b c n so_far marked set p = set p ∙ by (eqb_tells p n)
  where
    by : ((eqb p n ≡ true) × (p ≡ n)) ⊎ ((eqb p n ≡ false) × (p ≢ n)) → elim (p == n) [ true ↦ true | false ↦ a p ] ≡ (nat_lt p (n + 1) && b p)
    by (inl e) =
        let here : b p ≡ true = ap b e.1 ∙ marked in
        ap (λ x. elim x [ true ↦ true | false ↦ a p ]) e.0 ∙ sym (λ i. less p (n + 1) (omega (arith, e.1)) i && here i)
    by (inr e) = ap (λ x. elim x [ true ↦ true | false ↦ a p ]) e.0 ∙ so_far p ∙ ap (λ x. x && b p) (next_less p n e.1)

-- the next place is not marked
pub passed_over : (a b : ℕ → Bool) (n : ℕ) → ((p : ℕ) → a p ≡ (nat_lt p n && b p)) → b n ≡ false → (p : ℕ) → a p ≡ (nat_lt p (n + 1) && b p)
passed_over a b n so_far unmarked p = so_far p ∙ by (eqb_tells p n)
  where
    none : (x : Bool) → (x && false) ≡ false
    none true = refl
    none false = refl

    by : ((eqb p n ≡ true) × (p ≡ n)) ⊎ ((eqb p n ≡ false) × (p ≢ n)) → (nat_lt p n && b p) ≡ (nat_lt p (n + 1) && b p)
    by (inl e) =
        let here : b p ≡ false = ap b e.1 ∙ unmarked in
        ap (λ x. nat_lt p n && x) here ∙ none (nat_lt p n) ∙ sym (ap (λ x. nat_lt p (n + 1) && x) here ∙ none (nat_lt p (n + 1)))
    by (inr e) = ap (λ x. x && b p) (next_less p n e.1)

-- all marks are copied, since none is marked beyond the room
pub all_copied : (a : ℕ → Bool) (m : Marks) (n : ℕ) → IsTree m → room m ≤ n → ((p : ℕ) → a p ≡ (nat_lt p n && is_marked m p)) → (p : ℕ) → a p ≡ is_marked m p
all_copied a m n tree all so_far p = so_far p ∙ elim (leb_tells n p) [
  | inl e ↦ ap (λ x. x && is_marked m p) (not_less p n e.1) ∙ sym (get_or_past m.nodes.items (room m + p) false (omega (arith, tree.whole, e.1, all)))
  | inr e ↦ ap (λ x. x && is_marked m p) (less p n e.1)
]

-- No mark at all

none_in : (n k : ℕ) → node_at (replicate n false) k ≡ false
none_in zero k = refl
none_in (suc n) zero = refl
none_in (suc n) (suc k) = none_in n k

pub begun_tree : (m : Marks) (n : ℕ) → m.nodes.items ≡ replicate n false → n ≡ 2 * 2 ^ m.height → IsTree m
begun_tree m n items size =
    let long : length m.nodes.items ≡ n = ap (λ xs. length xs) items ∙ length-replicate n false in
    let none : (k : ℕ) → node_at m.nodes.items k ≡ false = λ k. ap (λ xs. node_at xs k) items ∙ none_in n k in
    record {
      whole = omega (arith, long, size);
      power = λ _. omega (arith, long, size);
      nodes = λ k _ _. none k ∙ sym (λ j. none (2 * k) j || none (2 * k + 1) j);
    }

pub small_power : (h : ℕ) → h ≤ 32 → (2 * 2 ^ h) % 18446744073709551616 ≡ 2 * 2 ^ h
small_power h low =
    let le : 2 ^ h < 2 ^ 33 = pow_below h 33 (omega (arith, low)) in
    omega (arith, le)
