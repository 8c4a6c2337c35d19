-- Copies, one after another, and places that move alike.
use Rattle.std.proofs.Common.{◌≡◌, ℕ, zero, suc, ◌<◌, List, [], ◌∷◌, length, map, get_or, refl, sym, ap, subst, arith}
use Rattle.std.specs.List.{flat_map}
use Rattle.asp_model.specs.Term.{Head, Tree, Trees, node, none, more, own_locations, locations, locations_below, moved_head, moved, moved_below}
use Rattle.asp_model.specs.Term as term
use Rattle.asp_model.specs.Store.{MethodShape, Field, CellShape, Number, Object, Reference, Future, Group, moved_cell, reached}
use Rattle.law_steps.specs.Linked.{Each}
use Rattle.law_steps.specs.Closed.{AreBelow, CellsBelow}
use Rattle.law_steps.proofs.EachLemmas.{each_first, each_second, each_weaker}

-- a place among those that are below
pub one_below : (n : ℕ) (ps : List ℕ) (p i : ℕ) → AreBelow n ps → p ≡ get_or ps i p → i < length ps → p < n
one_below n [] p i h e lt = absurd (omega arith)
one_below n (q ∷ ps) p zero h e lt = subst (λ x. x < n) (sym e) h.0
one_below n (q ∷ ps) p (suc i) h e lt = one_below n ps p i h.1 e (omega arith)

-- Places that move alike

module _ (f g : ℕ → ℕ) where
  abbrev Alike : List ℕ → Type 0
  Alike = Each (λ n. f n ≡ g n)

  pub places_alike : (ns : List ℕ) → Alike ns → map f ns ≡ map g ns
  places_alike [] h = refl
  places_alike (n ∷ ns) h = λ i. h.0 i ∷ places_alike ns h.1 i

  head_alike : (h : Head) → Alike (own_locations h) → moved_head f h ≡ moved_head g h
  head_alike (term.Loc n) e = ap term.Loc e.0
  head_alike h e = refl

  mutual
    term_alike : (t : Tree) → Alike (locations t) → moved f t ≡ moved g t
    term_alike (node h ts) e = λ i. node (head_alike h (each_first (λ n. f n ≡ g n) (own_locations h) (locations_below ts) e) i) (below_alike ts (each_second (λ n. f n ≡ g n) (own_locations h) (locations_below ts) e) i)

    below_alike : (ts : Trees) → Alike (locations_below ts) → moved_below f ts ≡ moved_below g ts
    below_alike none e = refl
    below_alike (more t ts) e = λ i. more (term_alike t (each_first (λ n. f n ≡ g n) (locations t) (locations_below ts) e) i) (below_alike ts (each_second (λ n. f n ≡ g n) (locations t) (locations_below ts) e) i)

  fields_alike : (xs : List Field) → Alike (map (λ (x : Field). x.place) xs) → map (λ (x : Field). let y : Field = record { label = x.label; place = f x.place } in y) xs ≡ map (λ (x : Field). let y : Field = record { label = x.label; place = g x.place } in y) xs
  fields_alike [] e = refl
  fields_alike (x ∷ xs) e = λ i. record { label = x.label; place = e.0 i } ∷ fields_alike xs e.1 i

  methods_alike : (ms : List MethodShape) → Alike (flat_map (λ (m : MethodShape). locations m.body) ms) → map (λ (m : MethodShape). let y : MethodShape = record { head = m.head; body = moved f m.body } in y) ms ≡ map (λ (m : MethodShape). let y : MethodShape = record { head = m.head; body = moved g m.body } in y) ms
  methods_alike [] e = refl
  methods_alike (m ∷ ms) e =
      let rest : List ℕ = flat_map (λ (x : MethodShape). locations x.body) ms in
      λ i. record { head = m.head; body = term_alike m.body (each_first (λ n. f n ≡ g n) (locations m.body) rest e) i } ∷ methods_alike ms (each_second (λ n. f n ≡ g n) (locations m.body) rest e) i

  cell_alike : (c : CellShape) → Alike (reached c) → moved_cell f c ≡ moved_cell g c
  cell_alike (Object fields methods) e =
      let ps : List ℕ = map (λ (x : Field). x.place) fields in
      let qs : List ℕ = flat_map (λ (m : MethodShape). locations m.body) methods in
      λ i. Object (fields_alike fields (each_first (λ n. f n ≡ g n) ps qs e) i) (methods_alike methods (each_second (λ n. f n ≡ g n) ps qs e) i)
  cell_alike (Number n) e = refl
  cell_alike (Reference a) e = refl
  cell_alike (Future x) e = refl
  cell_alike (Group ns) e = ap Group (places_alike ns e)

  pub cells_alike : (n : ℕ) → ((i : ℕ) → i < n → f i ≡ g i) → (cs : List CellShape) → CellsBelow n cs → map (moved_cell f) cs ≡ map (moved_cell g) cs
  cells_alike n to [] h = refl
  cells_alike n to (c ∷ cs) h = λ i. cell_alike c (each_weaker (λ k. k < n) (λ k. f k ≡ g k) to (reached c) h.0) i ∷ cells_alike n to cs h.1 i

  pub roots_alike : (n : ℕ) → ((i : ℕ) → i < n → f i ≡ g i) → (ns : List ℕ) → AreBelow n ns → map f ns ≡ map g ns
  roots_alike n to ns h = places_alike ns (each_weaker (λ k. k < n) (λ k. f k ≡ g k) to ns h)
