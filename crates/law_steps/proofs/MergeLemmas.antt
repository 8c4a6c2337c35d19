-- Joined lists and counts, entry by entry.
use Rattle.std.specs.Prelude.{◌≡◌, ℕ, ◌≤◌, nat_lt, ◌||◌, true, false, cond, T, max, List, [], ◌∷◌, ◌++◌, Option, Some, None, length}
use Rattle.std.specs.List.{starts_with}
use Rattle.std.proofs.Common.{refl, sym, ap, ◌∙◌, arith, inl, inr, ⊎_elim, ◌⊎◌, length-append}
use Rattle.std.proofs.lemmas.List.{append-nil}
use Rattle.std.proofs.lemmas.Bool.{ltb-false, le-ltb, and_parts, and_from, or_cases}
use Rattle.std.specs.FinMap.{find, put, is_sorted}
use Rattle.std.specs.FinMap.Entries.{below_all, is_sorted-put}
use Rattle.std.specs.Ordering.{is_eq, is_lt}
use Rattle.std.specs.declared.cmp.Ordering.{Ordering}
use Rattle.std.specs.declared.cmp.Ordering.TheVariants.{Less, Equal, Greater}
use Rattle.asp_model.specs.Names.{Name, name_cmp, same_name}
use Rattle.asp_model.specs.Configuration.{ReceptionShape, or_none}
use Rattle.asp_model.specs.Step.{ListsShape, same_reception}
use Rattle.asp_model.specs.Replay.{CountsShape, log_in, count_in, zero_or, longer, joined_lists, joined_counts}
use Rattle.law_steps.proofs.NameLemmas.{name_total, name_same, name_case, name_itself, names_apart, receptions_tied, reception_itself}
use Rattle.law_chases.proofs.FutureLemmas.{none_true}
use Rattle.law_chases.proofs.MapLemmas as Maps
use Rattle.law_steps.proofs.ListLemmas.{IsPrefix}
use Rattle.law_steps.proofs.EntryLemmas.{first_of_both, second_of_both}

-- Prefixes

pub prefix_of_test : (ys xs : List ReceptionShape) → starts_with same_reception xs ys ≡ true → IsPrefix ys xs
prefix_of_test [] xs h = (xs, refl)
prefix_of_test (y ∷ ys) [] h = none_true h
prefix_of_test (y ∷ ys) (x ∷ xs) h =
    let b = and_parts (same_reception y x) (starts_with same_reception xs ys) h in
    let r = prefix_of_test ys xs b.1 in
    (r.0, λ i. receptions_tied y x b.0 i ∷ r.1 i)

test_of_append : (ys zs : List ReceptionShape) → starts_with same_reception (ys ++ zs) ys ≡ true
test_of_append [] zs = refl
test_of_append (y ∷ ys) zs = and_from (same_reception y y) (starts_with same_reception (ys ++ zs) ys) (reception_itself y) (test_of_append ys zs)

pub test_of_prefix : (ys xs : List ReceptionShape) → IsPrefix ys xs → starts_with same_reception xs ys ≡ true
test_of_prefix ys xs p = ap (λ l. starts_with same_reception l ys) (sym p.1) ∙ test_of_append ys p.0

empty_of : (xs : List ReceptionShape) → length xs ≡ 0 → xs ≡ []
empty_of [] h = refl
empty_of (x ∷ xs) h = absurd (omega (arith, h))

pub prefix_length : (xs ys : List ReceptionShape) → IsPrefix xs ys → length xs ≤ length ys
prefix_length xs ys p = let h : length ys ≡ length (xs ++ p.0) = ap length (sym p.1) in omega (arith, h, length-append xs p.0)

pub prefix_short : (xs ys : List ReceptionShape) → IsPrefix xs ys → length ys ≤ length xs → xs ≡ ys
prefix_short xs ys p le =
    let h : length ys ≡ length (xs ++ p.0) = ap length (sym p.1) in
    sym (append-nil xs) ∙ ap (λ l. xs ++ l) (sym (empty_of p.0 (omega (arith, h, length-append xs p.0, le)))) ∙ p.1

pub prefix_anti : (xs ys : List ReceptionShape) → IsPrefix xs ys → IsPrefix ys xs → xs ≡ ys
prefix_anti xs ys p q = prefix_short xs ys p (prefix_length ys xs q)

-- the longer of two lists, where one begins with the other
abbrev pub IsJoin : List ReceptionShape → List ReceptionShape → List ReceptionShape → Type 0
IsJoin xs ys zs = (IsPrefix xs ys × (zs ≡ ys)) ⊎ (IsPrefix ys xs × (zs ≡ xs))

longer_second : (xs ys : List ReceptionShape) → IsPrefix xs ys → longer xs ys ≡ ys
longer_second xs ys p = elim (nat_lt (length xs) (length ys)) as (λ b. nat_lt (length xs) (length ys) ≡ b → elim b [ true ↦ ys | false ↦ xs ] ≡ ys) [ true ↦ λ h. refl | false ↦ λ h. prefix_short xs ys p (ltb-false (length xs) (length ys) h) ] refl

longer_first : (xs ys : List ReceptionShape) → IsPrefix ys xs → longer xs ys ≡ xs
longer_first xs ys p = ap (λ b. elim b [ true ↦ ys | false ↦ xs ]) (le-ltb (length xs) (length ys) (prefix_length ys xs p))

pub longer_joins : (xs ys : List ReceptionShape) → (starts_with same_reception xs ys || starts_with same_reception ys xs) ≡ true → IsJoin xs ys (longer xs ys)
longer_joins xs ys h = ⊎_elim
    (λ a. let p = prefix_of_test ys xs a in inr (p, longer_first xs ys p))
    (λ b. let p = prefix_of_test xs ys b in inl (p, longer_second xs ys p))
    (or_cases (starts_with same_reception xs ys) (starts_with same_reception ys xs) h)

-- Joined entries

less_is : (r : Ordering) → T (is_lt r) → is_eq r ≡ false
less_is Less h = refl
less_is Equal h = absurd h
less_is Greater h = absurd h

absent_below : {X : Type 0} (k : Name) (es : List (Name × X)) → T (below_all name_cmp k es) → find name_cmp k es ≡ None
absent_below k [] h = refl
absent_below k (e ∷ es) h = ap (λ b. cond b (Some e.1) (find name_cmp k es)) (less_is (name_cmp k e.0) (first_of_both _ _ h)) ∙ absent_below k es (second_of_both _ _ h)

module _ {X : Type 0} (g : Option X → X → X) where
  -- each entry of the second list joined with that of the first
  abbrev pub joined : List (Name × X) → List (Name × X) → List (Name × X)
  joined es [] = es
  joined es (x ∷ xs) = joined (put name_cmp x.0 (g (find name_cmp x.0 es) x.1) es) xs

  abbrev pub join_entry : Option X → Option X → Option X
  join_entry o None = o
  join_entry o (Some y) = Some (g o y)

  pub find_joined : (es xs : List (Name × X)) → T (is_sorted name_cmp xs) → (q : Name) → find name_cmp q (joined es xs) ≡ join_entry (find name_cmp q es) (find name_cmp q xs)
  find_joined es [] h q = refl
  find_joined es (x ∷ xs) h q =
      let ds = put name_cmp x.0 (g (find name_cmp x.0 es) x.1) es in
      find_joined ds xs (second_of_both _ _ h) q
      ∙ ⊎_elim
      (λ same. ap (join_entry (find name_cmp q ds)) (ap (λ k. find name_cmp k xs) same ∙ absent_below x.0 xs (first_of_both _ _ h))
      ∙ ap (λ k. find name_cmp k ds) same
      ∙ Maps.find_same name_cmp name_total name_same x.0 (g (find name_cmp x.0 es) x.1) es
      ∙ ap (λ k. Some (g (find name_cmp k es) x.1)) (sym same)
      ∙ ap (λ b. join_entry (find name_cmp q es) (cond b (Some x.1) (find name_cmp q xs))) (sym (ap (same_name q) (sym same) ∙ name_itself q)))
      (λ apart. ap (λ o. join_entry o (find name_cmp q xs)) (Maps.find_other name_cmp name_total name_same q x.0 (g (find name_cmp x.0 es) x.1) es apart)
      ∙ ap (λ b. join_entry (find name_cmp q es) (cond b (Some x.1) (find name_cmp q xs))) (sym (names_apart q x.0 apart)))
      (name_case q x.0)

  pub joined_sorted : (es xs : List (Name × X)) → T (is_sorted name_cmp es) → T (is_sorted name_cmp (joined es xs))
  joined_sorted es [] h = h
  joined_sorted es (x ∷ xs) h = joined_sorted (put name_cmp x.0 (g (find name_cmp x.0 es) x.1) es) xs (is_sorted-put name_cmp name_total x.0 (g (find name_cmp x.0 es) x.1) es h)

abbrev pub join_names : Option (List ReceptionShape) → List ReceptionShape → List ReceptionShape
join_names o ns = longer (or_none o) ns

abbrev pub join_count : Option ℕ → ℕ → ℕ
join_count o n = max (zero_or o) n

pub lists_joined : (lists others : ListsShape) → joined_lists lists others ≡ joined join_names lists others
lists_joined lists [] = refl
lists_joined lists (x ∷ xs) = lists_joined (put name_cmp x.0 (longer (log_in lists x.0) x.1) lists) xs

pub counts_joined : (counts others : CountsShape) → joined_counts counts others ≡ joined join_count counts others
counts_joined counts [] = refl
counts_joined counts (x ∷ xs) = counts_joined (put name_cmp x.0 (max (count_in counts x.0) x.1) counts) xs

longer_none : (xs : List ReceptionShape) → longer xs [] ≡ xs
longer_none xs = longer_first xs [] (xs, refl)

join_names_is : (o p : Option (List ReceptionShape)) → or_none (join_entry join_names o p) ≡ longer (or_none o) (or_none p)
join_names_is o None = sym (longer_none (or_none o))
join_names_is o (Some ns) = refl

-- the joined lists and counts at a name
pub senders_joined : (lists others : ListsShape) → T (is_sorted name_cmp others) → (q : Name) → log_in (joined_lists lists others) q ≡ longer (log_in lists q) (log_in others q)
senders_joined lists others h q = ap (λ l. log_in l q) (lists_joined lists others) ∙ ap or_none (find_joined join_names lists others h q) ∙ join_names_is (find name_cmp q lists) (find name_cmp q others)

max_none : (n : ℕ) → n ≡ max n 0
max_none n = omega arith

join_count_is : (o p : Option ℕ) → zero_or (join_entry join_count o p) ≡ max (zero_or o) (zero_or p)
join_count_is o None = max_none (zero_or o)
join_count_is o (Some n) = refl

pub count_joined : (counts others : CountsShape) → T (is_sorted name_cmp others) → (q : Name) → count_in (joined_counts counts others) q ≡ max (count_in counts q) (count_in others q)
count_joined counts others h q = ap (λ l. count_in l q) (counts_joined counts others) ∙ ap zero_or (find_joined join_count counts others h q) ∙ join_count_is (find name_cmp q counts) (find name_cmp q others)
