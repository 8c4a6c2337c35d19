-- What holds of each head of a term holds of what it splits into, and of what is put together from it.
use Rattle.std.specs.Prelude.{ℕ, zero, suc, List, [], ◌∷◌, ◌++◌, Option, Some, None, map}
use Rattle.asp_model.specs.Names.{Text}
use Rattle.asp_model.specs.Term.{Head, Loc, Var, Tree, Trees, node, none, more, locs_then, Environment, location_of, without, binders, variable_or, put_in, put_below, moved, moved_below}
use Rattle.asp_model.specs.Split.{Context, Split, Stands, Splits, split, split_below, reduced_count, plugged, plug}
use Rattle.asp_model.specs.Store.{CellShape, Object, Store, cell, with_cell, moved_cell}
use Rattle.asp_model.specs.Parcel.{parcel_of, visit_order, number_in}
use Rattle.law_steps.specs.Linked.{Each}
use Rattle.law_steps.proofs.EachLemmas.{each_both, each_mapped}
use Rattle.law_outcomes.specs.Heads.{EachHead, EachBelow, LabelHas, MethodHas, HoldsOfWritten, ContextHas, CellHas}

module _ (P : Head → Type 0) where
  -- of the contexts of a redex, of its head and behind it
  abbrev pub SplitHas : Split → Type 0
  SplitHas (Stands place) = Unit {0}
  SplitHas (Splits contexts redex) = Each (ContextHas P) contexts × P redex.head × EachBelow P redex.behind

  goes_on : (h : Head) (places : List ℕ) (ts : Trees) (next : List ℕ → Split) → P h → EachBelow P ts → ((ns : List ℕ) → SplitHas (next ns)) → (x : Split) → SplitHas x → SplitHas (elim x [
    | Stands p ↦ next (places ++ p ∷ [])
    | Splits contexts redex ↦ Splits (contexts ++ record { head = h; before = places; behind = ts } ∷ []) redex
  ])
  goes_on h places ts next own behind to (Stands p) x = to (places ++ p ∷ [])
  goes_on h places ts next own behind to (Splits contexts redex) x = (each_both (ContextHas P) contexts (record { head = h; before = places; behind = ts } ∷ []) x.0 ((own, behind), tt), x.1, x.2)

  mutual
    pub split_has : (t : Tree) → EachHead P t → SplitHas (split t)
    split_has (node (Loc n) ts) g = tt
    split_has (node h ts) g = below_splits h (reduced_count h ts) [] ts g.0 g.1

    below_splits : (h : Head) (n : ℕ) (places : List ℕ) (ts : Trees) → P h → EachBelow P ts → SplitHas (split_below h n places ts)
    below_splits h n places none own behind = (tt, own, tt)
    below_splits h zero places (more t ts) own behind = (tt, own, behind)
    below_splits h (suc n) places (more t ts) own behind = goes_on h places ts (λ ns. split_below h n ns ts) own behind.1 (λ ns. below_splits h n ns ts own behind.1) (split t) (split_has t behind.0)

module _ (P : Head → Type 0) (w : HoldsOfWritten P) where
  pub locs_have : (ns : List ℕ) (ts : Trees) → EachBelow P ts → EachBelow P (locs_then ns ts)
  locs_have [] ts h = h
  locs_have (n ∷ ns) ts h = ((w.loc n, tt), locs_have ns ts h)

  pub plug_has : (cs : List Context) (t : Tree) → Each (ContextHas P) cs → EachHead P t → EachHead P (plug cs t)
  plug_has [] t h g = g
  plug_has (c ∷ cs) t h g = plug_has cs (plugged c t) h.1 (h.0.0, locs_have c.before (more t c.behind) (g, h.0.1))

  -- Substitution

  found_has : (x : Text) (o : Option ℕ) → P (Var x) → EachHead P (variable_or x o)
  found_has x None v = (v, tt)
  found_has x (Some n) v = (w.loc n, tt)

  mutual
    pub put_in_has : (bs : Environment) (t : Tree) → EachHead P t → EachHead P (put_in bs t)
    put_in_has bs (node (Var x) ts) g = found_has x (location_of x bs) g.0
    put_in_has bs (node hd ts) g = (g.0, put_below_has bs (binders hd) ts g.1)

    put_below_has : (bs : Environment) (names : List (List Text)) (ts : Trees) → EachBelow P ts → EachBelow P (put_below bs names ts)
    put_below_has bs names none g = tt
    put_below_has bs [] (more t ts) g = (put_in_has bs t g.0, put_below_has bs [] ts g.1)
    put_below_has bs (xs ∷ names) (more t ts) g = (put_in_has (without xs bs) t g.0, put_below_has bs names ts g.1)

  -- Cells

  mutual
    moved_has : (f : ℕ → ℕ) (t : Tree) → EachHead P t → EachHead P (moved f t)
    moved_has f (node (Loc n) ts) g = (w.loc (f n), moved_below_has f ts g.1)
    moved_has f (node h ts) g = (g.0, moved_below_has f ts g.1)

    moved_below_has : (f : ℕ → ℕ) (ts : Trees) → EachBelow P ts → EachBelow P (moved_below f ts)
    moved_below_has f none g = tt
    moved_below_has f (more t ts) g = (moved_has f t g.0, moved_below_has f ts g.1)

  moved_cell_has : (f : ℕ → ℕ) (c : CellShape) → CellHas P c → CellHas P (moved_cell f c)
  moved_cell_has f (Object fields methods) h = (
    each_mapped (λ x. LabelHas P x.label) (λ x. LabelHas P x.label) (λ x. record { label = x.label; place = f x.place }) (λ x k. k) fields h.0,
    each_mapped (λ m. MethodHas P m.head × EachHead P m.body) (λ m. MethodHas P m.head × EachHead P m.body) (λ m. record { head = m.head; body = moved f m.body }) (λ m k. (k.0, moved_has f m.body k.1)) methods h.1,
  )
  moved_cell_has f c h = tt

  pub all_moved : (f : ℕ → ℕ) (cs : List CellShape) → Each (CellHas P) cs → Each (CellHas P) (map (moved_cell f) cs)
  all_moved f = each_mapped (CellHas P) (CellHas P) (moved_cell f) (moved_cell_has f)

  pub cell_has : (s : Store) → Each (CellHas P) s → (n : ℕ) → CellHas P (cell s n)
  cell_has [] h n = tt
  cell_has (c ∷ cs) h zero = h.0
  cell_has (c ∷ cs) h (suc n) = cell_has cs h.1 n

  pub written_has : (s : Store) (n : ℕ) (d : CellShape) → Each (CellHas P) s → CellHas P d → Each (CellHas P) (with_cell s n d)
  written_has [] n d h k = tt
  written_has (c ∷ cs) zero d h k = (k, h.1)
  written_has (c ∷ cs) (suc n) d h k = (h.0, written_has cs n d h.1 k)

  all_taken : (s : Store) → Each (CellHas P) s → (f : ℕ → ℕ) (ns : List ℕ) → Each (CellHas P) (map (λ p. moved_cell f (cell s p)) ns)
  all_taken s h f [] = tt
  all_taken s h f (n ∷ ns) = (moved_cell_has f (cell s n) (cell_has s h n), all_taken s h f ns)

  -- a deep copy
  pub parcel_has : (s : Store) (roots : List ℕ) → Each (CellHas P) s → Each (CellHas P) (parcel_of s roots).cells
  parcel_has s roots h = all_taken s h (number_in (visit_order s roots)) (visit_order s roots)
