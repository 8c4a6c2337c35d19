-- Places that are there, and those below them.
use Rattle.std.specs.Prelude.{◌≡◌, ℕ, zero, suc, ◌<◌, List, Option, Some, None, length, map}
use Rattle.std.proofs.Common.{refl, sym, subst, ◌∙◌}
use Rattle.asp_model.specs.Names.{FutureShape}
use Rattle.asp_model.specs.Store.{CellShape, Number, Object, Reference, Future, Group, cell, reached}
use Rattle.asp_model.specs.Parcel.{ParcelShape}
use Rattle.law_steps.specs.Linked.{Each}
use Rattle.law_steps.specs.Closed.{AreBelow}
use Rattle.law_chases.proofs.FutureLemmas.{no_some, some_is}
use Rattle.law_steps.proofs.EachLemmas.{each_mapped}
use Rattle.law_steps.proofs.MovedLemmas.{cell_below}
use Rattle.def_paths.specs.Places.{Place, In_store, In_value, Side, inner, beside, part, read_by, child_by, entered_by, written, entered, children}
use Rattle.law_paths.specs.Links.{IsClosedSide, Good}

-- what is entered is a future's value
pub entered_value : (values : FutureShape → Option ParcelShape) (c : CellShape) (u : ParcelShape) → entered_by values c ≡ Some u → (f : FutureShape) × (values f ≡ Some u)
entered_value values (Future f) u e = (f, e)
entered_value values (Number z) u e = no_some e
entered_value values (Object fs ms) u e = no_some e
entered_value values (Reference n) u e = no_some e
entered_value values (Group ns) u e = no_some e

-- two values that are entered at one place are one
pub one_entered : {o : Option ParcelShape} {u v : ParcelShape} → o ≡ Some u → o ≡ Some v → u ≡ v
one_entered e d = some_is (sym e ∙ d)

module _ (a : Side) where
  pub inner_good : (p : Place) (u : ParcelShape) → Good a p → entered a p ≡ Some u → (c : ℕ) → c < length u.cells → Good a (inner p c)
  inner_good p u g e zero lt = g
  inner_good p u g e (suc c) lt = (g, (u, e, lt))

  module _ (h : IsClosedSide a) where
    value_cells : (p : Place) (u : ParcelShape) → entered a p ≡ Some u → (j : ℕ) → AreBelow (length u.cells) (reached (cell u.cells j))
    value_cells p u e j = let f = entered_value a.values (written a p) u e in cell_below (length u.cells) u.cells (h.values f.0 u f.1) j

    entering_good : (p : Place) (u : ParcelShape) → Good a p → entered a p ≡ Some u → (cs : List ℕ) → AreBelow (length u.cells) cs → Each (Good a) (map (inner p) cs)
    entering_good p u g e = each_mapped (λ c. c < length u.cells) (Good a) (inner p) (inner_good p u g e)

    beside_good : (p : Place) → Good a p → Each (Good a) (map (beside p) (reached (written a p)))
    beside_good (In_store j) g = each_mapped (λ c. c < length a.store) (Good a) In_store (λ c lt. lt) (reached (cell a.store j)) (cell_below (length a.store) a.store h.store j)
    beside_good (In_value q j) g =
        let u = g.1.0 in
        let e = g.1.1 in
        subst (λ o. Each (Good a) (map (inner q) (reached (part o j)))) (sym e) (entering_good q u g.0 e (reached (cell u.cells j)) (value_cells q u e j))

    child_good : (p : Place) → Good a p → (o : Option ParcelShape) → entered a p ≡ o → Each (Good a) (map (child_by o p) (reached (read_by (written a p) o)))
    child_good p g None e = beside_good p g
    child_good p g (Some u) e = entering_good p u g e (reached (cell u.cells 0)) (value_cells p u e 0)

    -- what is below a place that is there is there
    pub children_good : (p : Place) → Good a p → Each (Good a) (children a p)
    children_good p g = child_good p g (entered a p) refl
