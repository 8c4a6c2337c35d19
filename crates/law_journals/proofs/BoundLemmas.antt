-- Edges are among the futures that were begun, each with two different activities: so they are not many.
use Rattle.std.specs.Prelude.{◌≡◌, ℕ, zero, suc, ◌*◌, ◌-◌, ◌≤◌, ◌||◌, Bool, true, false, List, [], ◌∷◌, Option, Some, None, length, map}
use Rattle.std.specs.List.{flat_map}
use Rattle.std.proofs.Common.{refl, sym, ap, subst, ◌∙◌, arith, inl, inr, ⊎_elim, ◌⊎◌, length-append}
use Rattle.std.proofs.lemmas.List.{length-map}
use Rattle.std.specs.FinMap.{find}
use Rattle.asp_model.specs.Names.{Name, FutureShape, name_cmp, same_name}
use Rattle.asp_model.specs.Configuration.{Activity, Configuration}
use Rattle.def_journals.specs.Edges.{EdgeShape, same_edge, has_edge}
use Rattle.def_journals.specs.Journals.{first_in}
use Rattle.def_journals.specs.Passing.{events_of, holders_of}
use Rattle.law_steps.specs.Reached.{IsThere}
use Rattle.law_steps.specs.Kept.{IsBegun, sends_of, number_of}
use Rattle.law_steps.specs.Linked.{Each}
use Rattle.law_steps.proofs.NameLemmas.{is_there, name_itself}
use Rattle.law_steps.proofs.EntryLemmas.{In, found_entry}
use Rattle.law_journals.specs.EdgesKept.{AreEdges, IsKnownEdge, sends_in, EdgesAreBounded}
use Rattle.law_journals.proofs.EdgeLemmas.{edge_tied, edge_itself, edges_are_distinct}
use Rattle.law_journals.proofs.CountLemmas.{has, Different, no_more_than, in_mapped, in_flat, flat_length, others, pairs, in_others, pairs_length}
use Rattle.law_journals.proofs.KnownLemmas.{edges_are_known}

-- Futures that were begun

-- the first k futures of an activity
firsts : Name → ℕ → List FutureShape
firsts n zero = []
firsts n (suc k) = record { by = n; index = suc k } ∷ firsts n k

firsts_length : (n : Name) (k : ℕ) → length (firsts n k) ≡ k
unfolding firsts
firsts_length n zero = refl
firsts_length n (suc k) = ap suc (firsts_length n k)

in_firsts : (f : FutureShape) (k : ℕ) → 1 ≤ f.index → f.index ≤ k → In f (firsts f.by k)
unfolding firsts
in_firsts f zero le up = absurd (omega (arith, le, up))
in_firsts f (suc k) le up = ⊎_elim
    (λ e. inl (λ i. record { by = f.by; index = e i }))
    (λ lt. inr (in_firsts f k le lt))
    (last_or f.index k up)
  where
    last_or : (i k : ℕ) → i ≤ suc k → (i ≡ suc k) ⊎ (i ≤ k)
    last_or zero k h = inr (omega arith)
    last_or (suc i) zero h = inl (omega (arith, h))
    last_or (suc i) (suc k) h = ⊎_elim (λ e. inl (ap suc e)) (λ le. inr (omega (arith, le))) (last_or i k (omega (arith, h)))

begun_by : Name × Activity → List FutureShape
begun_by x = firsts x.0 x.1.sends

all_begun : List (Name × Activity) → List FutureShape
all_begun xs = flat_map begun_by xs

begun_length : (xs : List (Name × Activity)) → length (all_begun xs) ≡ sends_in xs
unfolding all_begun begun_by
begun_length [] = refl
begun_length (x ∷ xs) = omega (arith, length-append (firsts x.0 x.1.sends) (all_begun xs), firsts_length x.0 x.1.sends, begun_length xs)

-- an activity that has sent is there
sender_at : (c : Configuration) (n : Name) → 1 ≤ sends_of c n → (a : Activity) × (find name_cmp n c.activities ≡ Some a) × (sends_of c n ≡ a.sends)
sender_at c n h = by (find name_cmp n c.activities) refl h
  where
    by : (o : Option Activity) → find name_cmp n c.activities ≡ o → 1 ≤ number_of (λ a. a.sends) o → (a : Activity) × (find name_cmp n c.activities ≡ Some a) × (sends_of c n ≡ a.sends)
    by None is h = absurd (omega (arith, h))
    by (Some a) is h = (a, is, ap (number_of (λ a. a.sends)) is)

in_begun : (c : Configuration) (f : FutureShape) → IsBegun c f → In f (all_begun c.activities)
unfolding all_begun begun_by
in_begun c f b =
    let x = sender_at c f.by (omega (arith, b.0, b.1)) in
    let y = found_entry c.activities f.by x.0 x.1 in
    let le : f.index ≤ x.0.sends = omega (arith, b.1, x.2) in
    let own : In f (firsts y.0.0 y.0.1.sends) = subst (λ n. In f (firsts n y.0.1.sends)) (sym y.2) (subst (λ a. In f (firsts f.by a.sends)) (sym y.3) (in_firsts f x.0.sends b.0 le)) in
    in_flat (λ z. firsts z.0 z.1.sends) y.0 f c.activities y.1 own

-- Activities

names_in : List (Name × Activity) → List Name
names_in xs = map (λ x. x.0) xs

names_length : (xs : List (Name × Activity)) → length (names_in xs) ≡ length xs
unfolding names_in
names_length xs = length-map xs (λ x. x.0)

in_names : (c : Configuration) (n : Name) → IsThere c n → In n (names_in c.activities)
unfolding names_in
in_names c n there =
    let x = is_there (find name_cmp n c.activities) there in
    let y = found_entry c.activities n x.0 x.1 in
    subst (λ m. In m (map (λ z. z.0) c.activities)) y.2 (in_mapped (λ z. z.0) y.0 c.activities y.1)

-- Edges

edge_of : FutureShape → Name × Name → EdgeShape
edge_of f p = record { future = f; from = p.0; to = p.1 }

possible : List (Name × Activity) → List EdgeShape
possible xs = flat_map (λ f. map (edge_of f) (pairs same_name name_itself (names_in xs))) (all_begun xs)

in_possible : (c : Configuration) (x : EdgeShape) → same_name x.from x.to ≡ false → IsKnownEdge c x → In x (possible c.activities)
unfolding possible edge_of
in_possible c x apart k =
    let ns = names_in c.activities in
    let ends : In (x.from, x.to) (pairs same_name name_itself ns) =
    in_flat (λ n. map (λ m. (n, m)) (others same_name name_itself n ns)) x.from (x.from, x.to) ns (in_names c x.from k.1)
    (in_mapped (λ m. (x.from, m)) x.to (others same_name name_itself x.from ns) (in_others same_name name_itself x.from x.to ns apart (in_names c x.to k.2))) in
    in_flat (λ f. map (edge_of f) (pairs same_name name_itself ns)) x.future x (all_begun c.activities) (in_begun c x.future k.0)
    (in_mapped (edge_of x.future) (x.from, x.to) (pairs same_name name_itself ns) ends)

each_length : (k : ℕ) (ps : List (Name × Name)) → length ps ≤ k → (fs : List FutureShape) → Each (λ f. length (map (edge_of f) ps) ≤ k) fs
each_length k ps h [] = tt
each_length k ps h (f ∷ fs) = (let e = length-map ps (edge_of f) in omega (arith, e, h), each_length k ps h fs)

possible_length : (xs : List (Name × Activity)) → length (possible xs) ≤ sends_in xs * (length xs * (length xs - 1))
unfolding possible
possible_length xs =
    let k = length xs * (length xs - 1) in
    let few : length (pairs same_name name_itself (names_in xs)) ≤ k = subst (λ n. length (pairs same_name name_itself (names_in xs)) ≤ n * (n - 1)) (names_length xs) (pairs_length same_name name_itself (names_in xs)) in
    let most = flat_length (λ f. map (edge_of f) (pairs same_name name_itself (names_in xs))) k (all_begun xs) (each_length k (pairs same_name name_itself (names_in xs)) few (all_begun xs)) in
    subst (λ n. length (flat_map (λ f. map (edge_of f) (pairs same_name name_itself (names_in xs))) (all_begun xs)) ≤ n * k) (begun_length xs) most

-- in the words of counting

or_elim : (a b : Bool) → (a || b) ≡ elim a [ true ↦ true | false ↦ b ]
or_elim true b = refl
or_elim false b = refl

has_is : (x : EdgeShape) (xs : List EdgeShape) → has same_edge edge_tied edge_itself x xs ≡ has_edge x xs
has_is x [] = refl
has_is x (y ∷ ys) = ap (λ b. elim (same_edge x y) [ true ↦ true | false ↦ b ]) (has_is x ys) ∙ sym (or_elim (same_edge x y) (has_edge x ys))

different : (xs : List EdgeShape) → AreEdges xs → Different same_edge edge_tied edge_itself xs
different [] h = tt
different (x ∷ xs) h = (has_is x xs ∙ h.1, different xs h.2)

all_possible : (c : Configuration) (xs : List EdgeShape) → AreEdges xs → Each (IsKnownEdge c) xs → Each (λ x. In x (possible c.activities)) xs
all_possible c [] h k = tt
all_possible c (x ∷ xs) h k = (in_possible c x h.0 k.0, all_possible c xs h.2 k.1)

pub edges_are_bounded : EdgesAreBounded
edges_are_bounded h s sound e =
    let c = s.configuration in
    let xs = (holders_of h).edges in
    let distinct : AreEdges xs = (edges_are_distinct (first_in h).configuration (events_of h)).0 in
    let few = no_more_than same_edge edge_tied edge_itself xs (possible c.activities) (different xs distinct) (all_possible c xs distinct (edges_are_known h s sound e)) in
    omega (arith, few, possible_length c.activities)
