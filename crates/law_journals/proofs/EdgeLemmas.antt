-- Edges that are entered are pairwise different, and those that were delivered are kept.
use Rattle.std.specs.Prelude.{◌≡◌, ◌&&◌, ◌||◌, not, Bool, true, false, List, [], ◌∷◌, ◌++◌, Option, Some, None}
use Rattle.std.proofs.Common.{refl, sym, ap, ◌∙◌}
use Rattle.asp_model.specs.Names.{Name, FutureShape, same_name, same_future}
use Rattle.def_journals.specs.Edges.{EdgeShape, Event, Begins, Passes, Fills, Receives, Delivers, HoldersShape, first_holders, same_edge, has_edge, home_of, is_no_edge, with_edge, with_edges, with_held, with_delivered, after_event, after_events}
use Rattle.law_steps.specs.Linked.{Each}
use Rattle.law_steps.proofs.NameLemmas.{names_tied, name_itself}
use Rattle.law_chases.proofs.FutureLemmas.{none_true, true_false, futures_tied, future_itself}
use Rattle.law_steps.proofs.EachLemmas.{each_both, each_weaker}
use Rattle.law_journals.specs.EdgesKept.{AreEdges, EdgesAreDistinct}

both_true : (a b : Bool) → (a && b) ≡ true → (a ≡ true) × (b ≡ true)
both_true true b h = (refl, h)
both_true false b h = none_true h

neither : (a b : Bool) → (a || b) ≡ false → (a ≡ false) × (b ≡ false)
neither true b h = none_true (sym h)
neither false b h = (refl, h)

-- Edges can be told apart

pub edge_tied : (x y : EdgeShape) → same_edge x y ≡ true → x ≡ y
edge_tied x y h =
    let a = both_true (same_future x.future y.future) (same_name x.from y.from && same_name x.to y.to) h in
    let b = both_true (same_name x.from y.from) (same_name x.to y.to) a.1 in
    let future = futures_tied x.future y.future a.0 in
    let from = names_tied x.from y.from b.0 in
    let to = names_tied x.to y.to b.1 in
    λ i. record { future = future i; from = from i; to = to i }

pub edge_itself : (x : EdgeShape) → same_edge x x ≡ true
edge_itself x = λ i. future_itself x.future i && (name_itself x.from i && name_itself x.to i)

edge_back : (x y : EdgeShape) → same_edge y x ≡ false → same_edge x y ≡ false
edge_back x y h = by (same_edge x y) refl
  where
    by : (b : Bool) → same_edge x y ≡ b → b ≡ false
    by false e = refl
    by true e = absurd (true_false (same_edge y x) (ap (λ z. same_edge z x) (sym (edge_tied x y e)) ∙ edge_itself x) h)

-- Lists of edges

or_more : (a b c : Bool) → (a || (b || c)) ≡ ((a || b) || c)
or_more true b c = refl
or_more false b c = refl

pub has_more : (x : EdgeShape) (ys zs : List EdgeShape) → has_edge x (ys ++ zs) ≡ (has_edge x ys || has_edge x zs)
has_more x [] zs = refl
has_more x (y ∷ ys) zs = ap (λ b. same_edge x y || b) (has_more x ys zs) ∙ or_more (same_edge x y) (has_edge x ys) (has_edge x zs)

or_false : (a b : Bool) → a ≡ false → b ≡ false → (a || b) ≡ false
or_false a b p q = λ i. p i || q i

still_had : (x : EdgeShape) (ys zs : List EdgeShape) → has_edge x ys ≡ true → has_edge x (ys ++ zs) ≡ true
still_had x ys zs h = has_more x ys zs ∙ ap (λ b. b || has_edge x zs) h

-- one more, which is none of them
one_more : (xs : List EdgeShape) (x : EdgeShape) → AreEdges xs → same_name x.from x.to ≡ false → has_edge x xs ≡ false → AreEdges (xs ++ x ∷ [])
one_more [] x h apart new = (apart, refl, tt)
one_more (y ∷ ys) x h apart new =
    let n = neither (same_edge x y) (has_edge x ys) new in (
      h.0,
      has_more y ys (x ∷ []) ∙ or_false (has_edge y ys) (same_edge y x || false) h.1 (or_false (same_edge y x) false (edge_back y x n.0) refl),
      one_more ys x h.2 apart n.1,
    )

pub with_edge_are : (x : EdgeShape) (xs : List EdgeShape) → AreEdges xs → AreEdges (with_edge x xs)
with_edge_are x xs h = by (is_no_edge x xs) refl
  where
    by : (b : Bool) → is_no_edge x xs ≡ b → AreEdges (elim b [ true ↦ xs | false ↦ xs ++ x ∷ [] ])
    by true e = h
    by false e = let n = neither (same_name x.from x.to) (has_edge x xs) e in one_more xs x h n.0 n.1

with_edges_are : (fs : List FutureShape) (from to : Name) (xs : List EdgeShape) → AreEdges xs → AreEdges (with_edges fs from to xs)
with_edges_are [] from to xs h = h
with_edges_are (f ∷ fs) from to xs h = with_edges_are fs from to (with_edge (record { future = f; from = from; to = to }) xs) (with_edge_are (record { future = f; from = from; to = to }) xs h)

with_held_are : (fs : List FutureShape) (o : Option Name) (to : Name) (xs : List EdgeShape) → AreEdges xs → AreEdges (with_held fs o to xs)
with_held_are fs None to xs h = h
with_held_are fs (Some home) to xs h = with_edges_are fs home to xs h

-- What is kept stays

kept_edge : (x y : EdgeShape) (xs : List EdgeShape) → has_edge y xs ≡ true → has_edge y (with_edge x xs) ≡ true
kept_edge x y xs h = by (is_no_edge x xs)
  where
    by : (b : Bool) → has_edge y (elim b [ true ↦ xs | false ↦ xs ++ x ∷ [] ]) ≡ true
    by true = h
    by false = still_had y xs (x ∷ []) h

kept_edges : (y : EdgeShape) (fs : List FutureShape) (from to : Name) (xs : List EdgeShape) → has_edge y xs ≡ true → has_edge y (with_edges fs from to xs) ≡ true
kept_edges y [] from to xs h = h
kept_edges y (f ∷ fs) from to xs h = kept_edges y fs from to (with_edge (record { future = f; from = from; to = to }) xs) (kept_edge (record { future = f; from = from; to = to }) y xs h)

kept_held : (y : EdgeShape) (fs : List FutureShape) (o : Option Name) (to : Name) (xs : List EdgeShape) → has_edge y xs ≡ true → has_edge y (with_held fs o to xs) ≡ true
kept_held y fs None to xs h = h
kept_held y fs (Some home) to xs h = kept_edges y fs home to xs h

-- Deliveries

-- an edge that is kept has different ends
had_apart : (x : EdgeShape) (xs : List EdgeShape) → AreEdges xs → has_edge x xs ≡ true → same_name x.from x.to ≡ false
had_apart x [] h e = none_true e
had_apart x (y ∷ ys) h e = by (same_edge x y) refl e (had_apart x ys h.2)
  where
    by : (b : Bool) → same_edge x y ≡ b → (b || has_edge x ys) ≡ true → (has_edge x ys ≡ true → same_name x.from x.to ≡ false) → same_name x.from x.to ≡ false
    by true is k rest = let same = edge_tied x y is in ap (λ z. same_name z.from z.to) same ∙ h.0
    by false is k rest = rest k

abbrev pub Kept : HoldersShape → Type 0
Kept h = AreEdges h.edges × AreEdges h.delivered × Each (λ x. has_edge x h.edges ≡ true) h.delivered

not_true : (b : Bool) → not b ≡ true → b ≡ false
not_true false h = refl
not_true true h = none_true h

delivered_kept : (x : EdgeShape) (edges xs : List EdgeShape) → AreEdges edges → AreEdges xs → Each (λ y. has_edge y edges ≡ true) xs → AreEdges (with_delivered x edges xs) × Each (λ y. has_edge y edges ≡ true) (with_delivered x edges xs)
delivered_kept x edges xs h k all = by (has_edge x edges && not (has_edge x xs)) refl
  where
    by : (b : Bool) → (has_edge x edges && not (has_edge x xs)) ≡ b → AreEdges (elim b [ true ↦ xs ++ x ∷ [] | false ↦ xs ]) × Each (λ y. has_edge y edges ≡ true) (elim b [ true ↦ xs ++ x ∷ [] | false ↦ xs ])
    by true e =
        let t = both_true (has_edge x edges) (not (has_edge x xs)) e in
        (one_more xs x k (had_apart x edges h t.0) (not_true (has_edge x xs) t.1), each_both (λ y. has_edge y edges ≡ true) xs (x ∷ []) all (t.0, tt))
    by false e = (k, all)

after_kept : (e : Event) (h : HoldersShape) → Kept h → Kept (after_event e h)
after_kept (Begins f home) h k = k
after_kept (Passes x) h k = (with_edge_are x h.edges k.0, k.1, each_weaker (λ y. has_edge y h.edges ≡ true) (λ y. has_edge y (with_edge x h.edges) ≡ true) (λ y. kept_edge x y h.edges) h.delivered k.2)
after_kept (Fills f) h k = k
after_kept (Receives f n held) h k = (with_held_are held (home_of f h.homes) n h.edges k.0, k.1, each_weaker (λ y. has_edge y h.edges ≡ true) (λ y. has_edge y (with_held held (home_of f h.homes) n h.edges) ≡ true) (λ y. kept_held y held (home_of f h.homes) n h.edges) h.delivered k.2)
after_kept (Delivers x) h k = let d = delivered_kept x h.edges h.delivered k.0 k.1 k.2 in (k.0, d.0, d.1)

pub all_kept : (es : List Event) (h : HoldersShape) → Kept h → Kept (after_events es h)
all_kept [] h k = k
all_kept (e ∷ es) h k = all_kept es (after_event e h) (after_kept e h k)

pub edges_are_distinct : EdgesAreDistinct
edges_are_distinct c events = all_kept events (first_holders c) (tt, tt, tt)
