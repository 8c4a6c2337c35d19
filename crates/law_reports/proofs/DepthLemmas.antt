-- Reports that show states, written and read.
use Rattle.std.proofs.Common.{◌≡◌, ℕ, zero, suc, true, List, [], ◌∷◌, Option, Some, None, length, refl, ◌∙◌}
use Rattle.std.specs.Prelude.{◌&&◌, cond, false}
use Rattle.std.specs.List.{list_all}
use Rattle.std.specs.FinMap.{find}
use Rattle.std.specs.Ordering.{eq_by_cmp}
use Rattle.std.proofs.lemmas.Bool.{and_parts, and_from}
use Rattle.std.proofs.lemmas.List.Folds.{list_all-map}
use Rattle.asp_model.specs.Names.{FutureShape, future_cmp}
use Rattle.asp_model.specs.Term.{moved}
use Rattle.asp_model.specs.Store.{MethodShape, Field, CellShape, Number, Object, Reference, Future, Group, Store, cell}
use Rattle.asp_model.specs.Parcel.{ParcelShape}
use Rattle.asp_model.specs.Chase.{Values, Lead, Ends, Goes, Misses, lead, lead_by, lead_of, Chase, Value, Unfilled, Cycle, walk_end, cycle_of, chase}
use Rattle.asp_model.specs.WellFormed.{is_printable}
use Rattle.def_paths.specs.Places.{Place, In_store, In_value, Side, part, read_by, entered_by, told, written, entered, read, found, value_by, side_of}
use Rattle.def_paths.specs.Snapshots.{result_in}
use Rattle.def_paths.specs.Outcomes.{EndShape, lines_to}
use Rattle.law_reports.specs.Depths.{has_printable_labels, ReportsToDepthsAreRead}
use Rattle.law_reports.proofs.LineLemmas.{is_plain}
use Rattle.law_reports.proofs.StateLemmas.{shown_plain}
use Rattle.law_reports.proofs.ReadingLemmas.{extended_is_read}

abbrev ArePrintable : Store → Type 0
ArePrintable s = list_all has_printable_labels s ≡ true

cell_printable : (s : Store) → ArePrintable s → (n : ℕ) → has_printable_labels (cell s n) ≡ true
cell_printable [] h n = refl
cell_printable (c ∷ cs) h zero = (and_parts (has_printable_labels c) (list_all has_printable_labels cs) h).0
cell_printable (c ∷ cs) h (suc n) = cell_printable cs (and_parts (has_printable_labels c) (list_all has_printable_labels cs) h).1 n

abbrev MayPrint : Option ParcelShape → Type 0
MayPrint None = Unit {0}
MayPrint (Some p) = ArePrintable p.cells

-- Values that chases find

abbrev ValuesPrint : Values → Type 0
ValuesPrint values = list_all (λ x. list_all has_printable_labels x.1.cells) values ≡ true

found_prints : (f : FutureShape) (values : Values) → ValuesPrint values → MayPrint (find future_cmp f values)
found_prints f [] h = tt
found_prints f (x ∷ values) h =
    let p = and_parts (list_all has_printable_labels x.1.cells) (list_all (λ y. list_all has_printable_labels y.1.cells) values) h in
    elim (eq_by_cmp future_cmp f x.0) as (λ b. MayPrint (cond b (Some x.1) (find future_cmp f values))) [ true ↦ p.0 | false ↦ found_prints f values p.1 ]

abbrev LeadPrints : Lead → Type 0
LeadPrints (Ends p) = ArePrintable p.cells
LeadPrints (Goes g) = Unit {0}
LeadPrints Misses = Unit {0}

root_prints : (p : ParcelShape) (c : CellShape) → ArePrintable p.cells → LeadPrints (lead_by p c)
root_prints p (Future g) h = tt
root_prints p c h = h

lead_prints : (o : Option ParcelShape) → MayPrint o → LeadPrints (lead_of o)
lead_prints None h = tt
lead_prints (Some p) h = root_prints p (cell p.cells 0) h

abbrev WalkPrints : Option Chase → Type 0
WalkPrints None = Unit {0}
WalkPrints (Some c) = MayPrint (value_by c)

led_prints : (n : ℕ) (values : Values) (f : FutureShape) → ((g : FutureShape) → WalkPrints (walk_end n values g)) → (l : Lead) → LeadPrints l → WalkPrints (elim l [ Ends p ↦ Some (Value f p) | Goes g ↦ walk_end n values g | Misses ↦ Some (Unfilled f) ])
led_prints n values f on (Ends p) h = h
led_prints n values f on (Goes g) h = on g
led_prints n values f on Misses h = tt

walk_prints : (n : ℕ) (values : Values) → ValuesPrint values → (f : FutureShape) → WalkPrints (walk_end n values f)
walk_prints zero values h f = tt
walk_prints (suc n) values h f = led_prints n values f (λ g. walk_prints n values h g) (lead values f) (lead_prints (find future_cmp f values) (found_prints f values h))

chased_prints : (values : Values) (f : FutureShape) (o : Option Chase) → WalkPrints o → MayPrint (value_by (elim o [ Some c ↦ c | None ↦ Cycle (cycle_of values f) ]))
chased_prints values f (Some c) h = h
chased_prints values f None h = tt

value_prints : (values : Values) → ValuesPrint values → (f : FutureShape) → MayPrint (value_by (chase values f))
value_prints values h f = chased_prints values f (walk_end (suc (length values)) values f) (walk_prints (suc (length values)) values h f)

-- What is found at places

module _ (values : Values) (s : Store) (h : ValuesPrint values) (g : ArePrintable s) where
  part_prints : (o : Option ParcelShape) → MayPrint o → (j : ℕ) → has_printable_labels (part o j) ≡ true
  part_prints None k j = refl
  part_prints (Some v) k j = cell_printable v.cells k j

  entered_prints : (c : CellShape) → MayPrint (entered_by (side_of values s).values c)
  entered_prints (Future f) = value_prints values h f
  entered_prints (Number z) = tt
  entered_prints (Object fields methods) = tt
  entered_prints (Reference n) = tt
  entered_prints (Group ns) = tt

  written_prints : (p : Place) → has_printable_labels (written (side_of values s) p) ≡ true
  written_prints (In_store i) = cell_printable s g i
  written_prints (In_value q j) = part_prints (entered (side_of values s) q) (entered_prints (written (side_of values s) q)) j

  read_prints : (c : CellShape) (o : Option ParcelShape) → has_printable_labels c ≡ true → MayPrint o → has_printable_labels (read_by c o) ≡ true
  read_prints c None k m = k
  read_prints c (Some v) k m = cell_printable v.cells m 0

-- all that shows of a cell has its labels
told_prints : (awaited : FutureShape → FutureShape) (c : CellShape) → has_printable_labels c ≡ true → has_printable_labels (told awaited c) ≡ true
told_prints awaited (Number z) h = refl
told_prints awaited (Reference n) h = refl
told_prints awaited (Future f) h = refl
told_prints awaited (Group ns) h = refl
told_prints awaited (Object fields methods) h =
    (λ i. list_all-map (λ (x : Field). list_all is_printable x.label) (λ (x : Field). record { label = x.label; place = 0 }) fields i
    && list_all-map (λ (m : MethodShape). list_all is_printable m.head.label) (λ (m : MethodShape). record { head = m.head; body = moved (λ n. 0) m.body }) methods i)
    ∙ h

found_prints_at : (values : Values) (s : Store) → ValuesPrint values → ArePrintable s → (p : Place) → has_printable_labels (found (side_of values s) p) ≡ true
found_prints_at values s h g p =
    let a : Side = side_of values s in
    told_prints a.awaited (read a p) (read_prints values s h g (written a p) (entered a p) (written_prints values s h g p) (entered_prints values s h g (written a p)))

-- Reports

lines_plain : (depth : Option ℕ) (values : Values) (e : EndShape) → ValuesPrint values → ArePrintable e.snapshot.store → list_all is_plain (lines_to depth values e) ≡ true
lines_plain None values e h g = refl
lines_plain (Some d) values e h g = shown_plain (side_of values e.snapshot.store) (found_prints_at values e.snapshot.store h g) d e.snapshot.active (result_in e.report.status e.snapshot.term)

ends_plain : (depth : Option ℕ) (values : Values) (es : List EndShape) → ValuesPrint values → list_all (λ e. list_all has_printable_labels e.snapshot.store) es ≡ true → list_all (λ e. list_all is_plain (lines_to depth values e)) es ≡ true
ends_plain depth values [] h g = refl
ends_plain depth values (e ∷ es) h g =
    let p = and_parts (list_all has_printable_labels e.snapshot.store) (list_all (λ x. list_all has_printable_labels x.snapshot.store) es) g in
    and_from _ _ (lines_plain depth values e h p.0) (ends_plain depth values es h p.1)

pub depths_are_read : ReportsToDepthsAreRead
depths_are_read depth o w labels = extended_is_read (λ (e : EndShape). e.report) (lines_to depth o.futures) o.verdict o.ends w (ends_plain depth o.futures o.ends labels.values labels.stores)
