-- A visit comes to all that is reached, and a deep copy is closed.
use Rattle.std.specs.Prelude.{◌≡◌, ℕ, zero, suc, ◌+◌, ◌<◌, ◌≤◌, ◌==◌, Bool, true, false, List, [], ◌∷◌, ◌++◌, length, map}
use Rattle.std.proofs.Common.{refl, sym, ap, subst, ◌∙◌, arith, inl, inr, ⊎_elim, ◌⊎◌, append_assoc}
use Rattle.std.proofs.lemmas.Bool.{eq-eqb, eqb-true, cases_lt}
use Rattle.std.proofs.lemmas.List.{append-nil, length-map}
use Rattle.asp_model.specs.Store.{Store, cell, moved_cell, reached}
use Rattle.asp_model.specs.Parcel.{has_place, walk, visit, visit_order, number_in, parcel_of}
use Rattle.law_steps.specs.Linked.{Each}
use Rattle.law_steps.specs.Closed.{AreBelow, IsClosedStore, IsClosedParcel, IsClosedValue}
use Rattle.law_chases.proofs.FutureLemmas.{none_true}
use Rattle.law_steps.proofs.EachLemmas.{each_both, each_first, each_second, each_weaker, each_mapped}
use Rattle.law_steps.proofs.MovedLemmas.{reached_moved, cell_below}

-- Places that were seen

abbrev or_else : Bool → Bool → Bool
or_else b c = elim b [ true ↦ true | false ↦ c ]

has_more : (q : ℕ) (xs : List ℕ) (p : ℕ) → has_place q (xs ++ p ∷ []) ≡ or_else (has_place q xs) (q == p)
has_more q [] p = elim (q == p) as (λ b. or_else b false ≡ b) [ true ↦ refl | false ↦ refl ]
has_more q (x ∷ xs) p = elim (q == x) as (λ b. or_else b (has_place q (xs ++ p ∷ [])) ≡ or_else (or_else b (has_place q xs)) (q == p)) [ true ↦ refl | false ↦ has_more q xs p ]

seen_still : (q : ℕ) (xs : List ℕ) (p : ℕ) → has_place q xs ≡ true → has_place q (xs ++ p ∷ []) ≡ true
seen_still q xs p h = has_more q xs p ∙ ap (λ b. or_else b (q == p)) h

seen_last : (xs : List ℕ) (p : ℕ) → has_place p (xs ++ p ∷ []) ≡ true
seen_last xs p = has_more p xs p ∙ ap (or_else (has_place p xs)) (eq-eqb p p refl) ∙ elim (has_place p xs) as (λ b. or_else b true ≡ true) [ true ↦ refl | false ↦ refl ]

seen_before : (q : ℕ) (xs : List ℕ) (p : ℕ) → has_place q (xs ++ p ∷ []) ≡ true → (has_place q xs ≡ true) ⊎ (q ≡ p)
seen_before q xs p h = elim (has_place q xs) as (λ b. has_place q xs ≡ b → or_else b (q == p) ≡ true → (has_place q xs ≡ true) ⊎ (q ≡ p)) [ true ↦ λ is h. inl is | false ↦ λ is h. inr (eqb-true q p h) ] refl (sym (has_more q xs p) ∙ h)

-- Places that were not seen

abbrev weigh : Bool → ℕ
weigh true = 0
weigh false = 1

-- how many places below k were not seen
abbrev unseen : ℕ → List ℕ → ℕ
unseen zero seen = 0
unseen (suc k) seen = weigh (has_place k seen) + unseen k seen

lighter : (a b : Bool) → weigh (or_else a b) ≤ weigh a
lighter true b = omega arith
lighter false true = omega arith
lighter false false = omega arith

unseen_less : (k p : ℕ) (seen : List ℕ) → unseen k (seen ++ p ∷ []) ≤ unseen k seen
unseen_less zero p seen = omega arith
unseen_less (suc k) p seen = let e = ap weigh (has_more k seen p) in omega (arith, e, lighter (has_place k seen) (k == p), unseen_less k p seen)

unseen_drops : (k p : ℕ) (seen : List ℕ) → p < k → has_place p seen ≡ false → suc (unseen k (seen ++ p ∷ [])) ≤ unseen k seen
unseen_drops zero p seen lt e = absurd (omega (arith, lt))
unseen_drops (suc k) p seen lt e = ⊎_elim
    (λ l. let d = ap weigh (has_more k seen p) in omega (arith, d, lighter (has_place k seen) (k == p), unseen_drops k p seen l e))
    (λ l. let same : p ≡ k = omega (arith, lt, l) in
    let a : weigh (has_place k (seen ++ p ∷ [])) ≡ 0 = ap weigh (subst (λ q. has_place q (seen ++ p ∷ []) ≡ true) same (seen_last seen p)) in
    let b : weigh (has_place k seen) ≡ 1 = ap weigh (subst (λ q. has_place q seen ≡ false) same e) in
    omega (arith, a, b, unseen_less k p seen))
    (cases_lt p k)

all_seen : (k p : ℕ) (seen : List ℕ) → p < k → unseen k seen ≤ 0 → has_place p seen ≡ true
all_seen k p seen lt le = elim (has_place p seen) as (λ b. has_place p seen ≡ b → b ≡ true) [ true ↦ λ e. refl | false ↦ λ e. absurd (omega (arith, unseen_drops k p seen lt e, le)) ] refl

unseen_most : (k : ℕ) (seen : List ℕ) → unseen k seen ≤ k
unseen_most zero seen = omega arith
unseen_most (suc k) seen = let e = elim (has_place k seen) as (λ b. weigh b ≤ 1) [ true ↦ omega arith | false ↦ omega arith ] in omega (arith, e, unseen_most k seen)

-- Visits

abbrev pub AllSeen : List ℕ → List ℕ → Type 0
AllSeen out = Each (λ q. has_place q out ≡ true)

-- what a visit of these places leads to
pub record Visited (s : Store) (todo seen out : List ℕ) : Type 0 where
  pub more : List ℕ
  pub front : seen ++ more ≡ out
  pub came : AllSeen out todo
  pub kept : (q : ℕ) → has_place q seen ≡ true → has_place q out ≡ true
  pub round : (q : ℕ) → has_place q out ≡ true → (has_place q seen ≡ true) ⊎ AllSeen out (reached (cell s q))

again : (s : Store) (p : ℕ) (ps seen out : List ℕ) → has_place p seen ≡ true → Visited s ps seen out → Visited s (p ∷ ps) seen out
again s p ps seen out h v = record { more = v.more; front = v.front; came = (v.kept p h, v.came); kept = v.kept; round = v.round }

fresh : (s : Store) (p : ℕ) (ps seen out : List ℕ) → Visited s (reached (cell s p) ++ ps) (seen ++ p ∷ []) out → Visited s (p ∷ ps) seen out
fresh s p ps seen out v = record {
  more = p ∷ v.more;
  front = sym (append_assoc seen (p ∷ []) v.more) ∙ v.front;
  came = (v.kept p (seen_last seen p), each_second (λ q. has_place q out ≡ true) (reached (cell s p)) ps v.came);
  kept = λ q h. v.kept q (seen_still q seen p h);
  round = λ q h. ⊎_elim
      (λ old. ⊎_elim
      (λ k. inl k)
      (λ e. inr (subst (λ x. AllSeen out (reached (cell s x))) (sym e) (each_first (λ q. has_place q out ≡ true) (reached (cell s p)) ps v.came)))
      (seen_before q seen p old))
      (λ k. inr k)
      (v.round q h);
}

nothing_new : (s : Store) (ps seen : List ℕ) → AllSeen seen ps → Visited s ps seen seen
nothing_new s ps seen h = record { more = []; front = append-nil seen; came = h; kept = λ q k. k; round = λ q k. inl k }

module _ (s : Store) (closed : IsClosedStore s) where
  walks : (next : List ℕ → List ℕ → List ℕ) (seen : List ℕ) → ((q : ℕ) (ps : List ℕ) → AreBelow (length s) ps → q < length s → has_place q seen ≡ false → Visited s ps (seen ++ q ∷ []) (next ps (seen ++ q ∷ []))) → (qs : List ℕ) → AreBelow (length s) qs → Visited s qs seen (walk next s qs seen)
  walks next seen to [] h = nothing_new s [] seen tt
  walks next seen to (q ∷ qs) h = elim (has_place q seen) as (λ b. has_place q seen ≡ b → Visited s (q ∷ qs) seen (elim b [ true ↦ walk next s qs seen | false ↦ next (reached (cell s q) ++ qs) (seen ++ q ∷ []) ])) [
    | true ↦ λ e. again s q qs seen (walk next s qs seen) e (walks next seen to qs h.1)
    | false ↦ λ e. fresh s q qs seen (next (reached (cell s q) ++ qs) (seen ++ q ∷ [])) (to q (reached (cell s q) ++ qs) (each_both (λ i. i < length s) (reached (cell s q)) qs (cell_below (length s) s closed q) h.1) h.0 e)
  ] refl

  visits : (n : ℕ) (ps seen : List ℕ) → AreBelow (length s) ps → unseen (length s) seen ≤ n → Visited s ps seen (visit n s ps seen)
  visits zero ps seen h le = nothing_new s ps seen (each_weaker (λ i. i < length s) (λ q. has_place q seen ≡ true) (λ q lt. all_seen (length s) q seen lt le) ps h)
  visits (suc n) ps seen h le = walks (visit n s) seen (λ q qs g lt e. visits n qs (seen ++ q ∷ []) g (omega (arith, le, unseen_drops (length s) q seen lt e))) ps h

  pub order_visited : (roots : List ℕ) → AreBelow (length s) roots → Visited s roots [] (visit_order s roots)
  order_visited roots h = visits (length s) roots [] h (unseen_most (length s) [])

-- Numbers in an order

abbrev numbered_by : Bool → ℕ → ℕ
numbered_by b n = elim b [ true ↦ 0 | false ↦ suc n ]

pub number_below : (order : List ℕ) (q : ℕ) → has_place q order ≡ true → number_in order q < length order
number_below [] q h = none_true h
number_below (x ∷ xs) q h = elim (q == x) as (λ b. or_else b (has_place q xs) ≡ true → numbered_by b (number_in xs q) < suc (length xs)) [ true ↦ λ h. omega arith | false ↦ λ h. omega (arith, number_below xs q h) ] h

seen_in_more : (q y : ℕ) (xs : List ℕ) → has_place q xs ≡ true → has_place q (y ∷ xs) ≡ true
seen_in_more q y xs h = elim (q == y) as (λ b. or_else b (has_place q xs) ≡ true) [ true ↦ refl | false ↦ h ]

seen_first : (q : ℕ) (xs : List ℕ) → has_place q (q ∷ xs) ≡ true
seen_first q xs = ap (λ b. or_else b (has_place q xs)) (eq-eqb q q refl)

each_seen : (P : ℕ → Type 0) (xs : List ℕ) → ((q : ℕ) → has_place q xs ≡ true → P q) → Each P xs
each_seen P [] to = tt
each_seen P (x ∷ xs) to = (to x (seen_first x xs), each_seen P xs (λ q h. to q (seen_in_more q x xs h)))

-- Deep copies

pub packed_closed : (s : Store) (roots : List ℕ) → IsClosedStore s → AreBelow (length s) roots → IsClosedParcel (parcel_of s roots)
packed_closed s roots closed h =
    let order = visit_order s roots in
    let v = order_visited s closed roots h in
    let ix : ℕ → ℕ = number_in order in
    let size : ℕ = length (map (λ p. moved_cell ix (cell s p)) order) in
    let e : size ≡ length order = length-map order (λ p. moved_cell ix (cell s p)) in
    let numbers : (ns : List ℕ) → AllSeen order ns → AreBelow size (map ix ns) = λ ns. each_mapped (λ q. has_place q order ≡ true) (λ i. i < size) ix (λ q k. subst (λ n. ix q < n) (sym e) (number_below order q k)) ns in
    record {
      cells = each_mapped (λ q. AllSeen order (reached (cell s q))) (λ c. AreBelow size (reached c)) (λ p. moved_cell ix (cell s p)) (λ q k. subst (AreBelow size) (sym (reached_moved ix (cell s q))) (numbers (reached (cell s q)) k)) order
          (each_seen (λ q. AllSeen order (reached (cell s q))) order (λ q k. ⊎_elim (λ old. none_true old) (λ r. r) (v.round q k)));
      roots = numbers roots v.came;
    }

-- a visit begins with its first place
pub first_number : (s : Store) (i : ℕ) → IsClosedStore s → i < length s → number_in (visit_order s (i ∷ [])) i ≡ 0
first_number s i closed lt = by_fuel (length s) refl
  where
    by_fuel : (n : ℕ) → length s ≡ n → number_in (visit n s (i ∷ []) []) i ≡ 0
    by_fuel zero e = absurd (omega (arith, e, lt))
    by_fuel (suc n) e =
        let first : Visited s (reached (cell s i) ++ []) (i ∷ []) (visit n s (reached (cell s i) ++ []) (i ∷ [])) = visits s closed n (reached (cell s i) ++ []) (i ∷ []) (each_both (λ j. j < length s) (reached (cell s i)) [] (cell_below (length s) s closed i) tt) (omega (arith, unseen_drops (length s) i [] lt refl, unseen_most (length s) [], e)) in
        ap (λ l. number_in l i) (sym first.front) ∙ ap (λ b. numbered_by b (number_in first.more i)) (eq-eqb i i refl)

-- the copy of one place is a value
pub value_closed : (s : Store) (i : ℕ) → IsClosedStore s → i < length s → IsClosedValue (parcel_of s (i ∷ []))
value_closed s i closed lt = record { closed = packed_closed s (i ∷ []) closed (lt, tt); root = ap (λ n. n ∷ []) (first_number s i closed lt) }
