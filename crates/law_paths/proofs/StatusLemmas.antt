-- What the root of a future's value shows of its chase.
use Rattle.std.specs.Prelude.{◌≡◌, false, T, Option, Some, None, length}
use Rattle.std.proofs.Common.{refl, sym, ap, subst, ◌∙◌}
use Rattle.std.specs.FinMap.{find, is_sorted}
use Rattle.asp_model.specs.Names.{FutureShape, future_cmp}
use Rattle.asp_model.specs.Store.{CellShape, Number, Object, Reference, Future, Group, Store, cell}
use Rattle.asp_model.specs.Parcel.{ParcelShape}
use Rattle.asp_model.specs.Contraction.{is_future}
use Rattle.asp_model.specs.Chase.{Values, Ends, lead_by, lead_of, lead, Chase, Value, Unfilled, Cycle, walk_end, chase}
use Rattle.law_steps.specs.Closed.{IsClosedStore, IsClosedValue}
use Rattle.law_chases.proofs.FutureLemmas.{no_some, some_is, none_true}
use Rattle.law_chases.proofs.ChaseLemmas.{awaited, walk_by, chase_by, chase_finds}
use Rattle.law_steps.proofs.ClosedLemmas.{first_root}
use Rattle.def_paths.specs.Places.{In_store, Side, told, read_by, entered_by, entered, found, side_of, value_by, name_by}
use Rattle.law_paths.specs.Links.{IsClosedSide}
use Rattle.law_paths.proofs.CellLemmas.{not_entered}
use Rattle.law_chases.proofs.MeetLemmas.{chase_goes}

-- every value is closed, with the one root 0
abbrev pub ValuesClosed : Values → Type 0
ValuesClosed vs = (f : FutureShape) (p : ParcelShape) → find future_cmp f vs ≡ Some p → IsClosedValue p

abbrev value_in : Chase → FutureShape × ParcelShape → FutureShape × ParcelShape
value_in (Value f p) d = (f, p)
value_in c d = d

-- the chase that a value comes from
pub value_chased : (c : Chase) (u : ParcelShape) → value_by c ≡ Some u → (f : FutureShape) × (c ≡ Value f u)
value_chased (Value f p) u e = (f, ap (Value f) (some_is e))
value_chased (Unfilled f) u e = no_some e
value_chased (Cycle f) u e = no_some e

pub side_closed : (vs : Values) → ValuesClosed vs → (s : Store) → IsClosedStore s → IsClosedSide (side_of vs s)
side_closed vs h s k = record {
  store = k;
  values = λ f u e. let x = value_chased (chase vs f) u e in (h x.0 u (chase_finds vs f x.0 u x.1).0).closed.cells;
  roots = λ f u e. let x = value_chased (chase vs f) u e in first_root u (h x.0 u (chase_finds vs f x.0 u x.1).0);
  plain = λ f u e. let x = value_chased (chase vs f) u e in (chase_finds vs f x.0 u x.1).1;
}

-- the name that a cell shows
abbrev pub future_in : CellShape → Option FutureShape
future_in (Future f) = Some f
future_in c = None

plain_shows : (names : FutureShape → FutureShape) (c : CellShape) → is_future c ≡ false → future_in (told names c) ≡ None
plain_shows names (Future f) h = none_true (sym h)
plain_shows names (Number z) h = refl
plain_shows names (Object fs ms) h = refl
plain_shows names (Reference n) h = refl
plain_shows names (Group ns) h = refl

awaited_value : (c : Chase) (u : ParcelShape) → value_by c ≡ Some u → awaited c ≡ None
awaited_value (Value f p) u e = refl
awaited_value (Unfilled f) u e = no_some e
awaited_value (Cycle f) u e = no_some e

awaited_name : (c : Chase) → value_by c ≡ None → awaited c ≡ Some (name_by c)
awaited_name (Value f p) e = no_some (sym e)
awaited_name (Unfilled f) e = refl
awaited_name (Cycle f) e = refl

-- the root of a parcel, as it is read
pub data Root (vs : Values) (p : ParcelShape) : Option FutureShape → Type 0 where
  plain_root : is_future (cell p.cells 0) ≡ false → Root vs p None
  entered_root : (g : FutureShape) (u : ParcelShape) → cell p.cells 0 ≡ Future g → value_by (chase vs g) ≡ Some u → Root vs p None
  awaiting_root : (g : FutureShape) → cell p.cells 0 ≡ Future g → value_by (chase vs g) ≡ None → Root vs p (Some (name_by (chase vs g)))

module _ (vs : Values) (values : ValuesClosed vs) (p : ParcelShape) where
  abbrev a : Side
  a = side_of vs p.cells

  -- the name that the root shows
  abbrev pub shown_name : Option FutureShape
  shown_name = future_in (found a (In_store 0))

  plain_case : is_future (cell p.cells 0) ≡ false → Root vs p shown_name
  plain_case e =
      let none : entered a (In_store 0) ≡ None = not_entered a.values (cell p.cells 0) e in
      subst (Root vs p) (sym (ap future_in (λ i. told a.awaited (read_by (cell p.cells 0) (none i))) ∙ plain_shows a.awaited (cell p.cells 0) e)) (plain_root e)

  value_plain : (g : FutureShape) (u : ParcelShape) → value_by (chase vs g) ≡ Some u → is_future (cell u.cells 0) ≡ false
  value_plain g u e = let x = value_chased (chase vs g) u e in (chase_finds vs g x.0 u x.1).1

  future_case : (g : FutureShape) → cell p.cells 0 ≡ Future g → (o : Option ParcelShape) → value_by (chase vs g) ≡ o → Root vs p shown_name
  future_case g at (Some u) e =
      let there : entered a (In_store 0) ≡ Some u = ap (entered_by a.values) at ∙ e in
      subst (Root vs p) (sym (ap future_in (λ i. told a.awaited (read_by (cell p.cells 0) (there i))) ∙ plain_shows a.awaited (cell u.cells 0) (value_plain g u e))) (entered_root g u at e)
  future_case g at None e =
      let none : entered a (In_store 0) ≡ None = ap (entered_by a.values) at ∙ e in
      subst (Root vs p) (sym (ap future_in ((λ i. told a.awaited (read_by (cell p.cells 0) (none i))) ∙ ap (told a.awaited) at))) (awaiting_root g at e)

  by_cell : (c : CellShape) → cell p.cells 0 ≡ c → Root vs p shown_name
  by_cell (Future g) e = future_case g e (value_by (chase vs g)) refl
  by_cell (Number z) e = plain_case (ap is_future e)
  by_cell (Object fs ms) e = plain_case (ap is_future e)
  by_cell (Reference n) e = plain_case (ap is_future e)
  by_cell (Group ns) e = plain_case (ap is_future e)

  pub root_of : Root vs p shown_name
  root_of = by_cell (cell p.cells 0) refl

-- a future that a parcel fills

lead_plain : (p : ParcelShape) (c : CellShape) → is_future c ≡ false → lead_by p c ≡ Ends p
lead_plain p (Future g) h = none_true (sym h)
lead_plain p (Number z) h = refl
lead_plain p (Object fs ms) h = refl
lead_plain p (Reference n) h = refl
lead_plain p (Group ns) h = refl

pub chase_plain : (vs : Values) (x : FutureShape) (p : ParcelShape) → lead vs x ≡ lead_by p (cell p.cells 0) → is_future (cell p.cells 0) ≡ false → chase vs x ≡ Value x p
chase_plain vs x p e h = ap (chase_by vs x) (ap (λ l. walk_by l (walk_end (length vs) vs) x) (e ∙ lead_plain p (cell p.cells 0) h))

status_by : (vs : Values) → T (is_sorted future_cmp vs) → (x : FutureShape) (p : ParcelShape) → lead vs x ≡ lead_by p (cell p.cells 0) → (o : Option FutureShape) → Root vs p o → awaited (chase vs x) ≡ o
status_by vs sorted x p e _ (plain_root h) = ap awaited (chase_plain vs x p e h)
status_by vs sorted x p e _ (entered_root g u at v) = ap awaited (chase_goes vs sorted x g (e ∙ ap (lead_by p) at)) ∙ awaited_value (chase vs g) u v
status_by vs sorted x p e _ (awaiting_root g at v) = ap awaited (chase_goes vs sorted x g (e ∙ ap (lead_by p) at)) ∙ awaited_name (chase vs g) v

-- a filled future awaits what its root shows
pub status_shown : (vs : Values) → T (is_sorted future_cmp vs) → (values : ValuesClosed vs) → (x : FutureShape) (p : ParcelShape) → find future_cmp x vs ≡ Some p → awaited (chase vs x) ≡ shown_name vs values p
status_shown vs sorted values x p e = status_by vs sorted x p (ap lead_of e) (shown_name vs values p) (root_of vs values p)
