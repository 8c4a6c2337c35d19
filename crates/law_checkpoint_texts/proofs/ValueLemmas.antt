-- Names, logs, cells, parcels, requests, services and activities.
use Rattle.std.proofs.Common.{◌≡◌, ℕ, ◌^◌, List, [], ◌∷◌, ◌++◌, Option, Some, refl, sym, ap, ◌∙◌, append_assoc, arith}
use Rattle.asp_model.specs.Names.{Name, FutureShape}
use Rattle.asp_model.specs.Term.{Tree}
use Rattle.asp_model.specs.Store.{MethodShape, Field, CellShape, Object, Reference, Future}
use Rattle.asp_model.specs.Store as cells
use Rattle.asp_model.specs.Parcel.{ParcelShape}
use Rattle.asp_model.specs.Contraction.{LineShape, NumberLine, TextLine}
use Rattle.asp_model.specs.Configuration.{RequestShape, ServiceShape, ReceptionShape, From, Poll}
use Rattle.law_frozen.specs.Frozen.{FrozenActivity}
use Rattle.checkpoint_text.specs.Items.{Items, number_items, signed_items, list_items, text_items, option_items, pair_items, name_items, future_items, reception_items, output_items, term_items, running_items, place_items, method_items, cell_items, store_items, parcel_items, request_items, service_items}
use Rattle.checkpoint_text.specs.Lines.{activity_items}
use Rattle.checkpoint_text.specs.Reading.{Reader, reads, nothing, both, signed, list_of, text, option_of, small, place, name, future, reception, output, method_with, term, some_of, waiting_of, field, method, cell, parcel, request, service, activity}
use Rattle.checkpoint_text.specs.Writable.{AreAll}
use Rattle.checkpoint_text.proofs.ObjectLemmas.{method_by}
use Rattle.law_checkpoint_texts.proofs.SureLemmas.{IsSureOf, IsAny, fewer_sure, both_sure, reads_sure, number_sure, signed_sure, list_sure, any_list_sure, at_variant, nothing_sure, value_sure, any_option_sure}
use Rattle.law_checkpoint_texts.proofs.TermLemmas.{text_sure, place_sure, HasArities, method_sure}
use Rattle.law_checkpoint_texts.proofs.ContextLemmas.{AreShaped, IsShapedTerm, at_depth, running_sure, waiting_items, waiting_sure}

four : (a b c d : Items) → a ++ (b ++ (c ++ d)) ≡ ((a ++ b) ++ c) ++ d
four a b c d = sym (append_assoc (a ++ b) c d ∙ append_assoc a b (c ++ d))

-- Names, logs and lines

small_sure : IsSureOf small number_items (λ n. IsAny n)
small_sure = number_sure (2 ^ 32) (omega arith)

pub name_sure : IsSureOf name name_items (λ n. IsAny n)
name_sure = any_list_sure small_sure

pub future_sure : IsSureOf future future_items (λ f. IsAny f)
future_sure =
    reads_sure (both name small) (pair_items name_items number_items) (λ r. IsAny r.0 × IsAny r.1)
    (λ r. record { by = r.0; index = r.1 }) (λ f. (f.by, f.index)) future_items (λ f. IsAny f)
    (both_sure name_sure small_sure) (λ f h. (tt, tt)) (λ f h. refl) (λ f. refl)

abbrev receptions : List (Reader ReceptionShape)
receptions = reads name From ∷ nothing Poll ∷ []

one_reception : (x : ReceptionShape) (ws : Items) (r : ReceptionShape × Items)
    → reception (reception_items x ++ ws) ≡ Some r → r ≡ (x, ws)
one_reception (From n) ws r e =
    value_sure name_sure From n (name_items n) ws r (From n) tt refl refl
    (at_variant 0 receptions (name_items n) ws r (omega arith) e)
one_reception Poll ws r e = nothing_sure Poll ws r (at_variant 1 receptions [] ws r (omega arith) e)

reception_sure : IsSureOf reception reception_items (λ x. IsAny x)
reception_sure = record { sure = λ x ws r h e. one_reception x ws r e }

abbrev outputs : List (Reader LineShape)
outputs = reads signed NumberLine ∷ reads text TextLine ∷ []

one_output : (x : LineShape) (ws : Items) (r : LineShape × Items) → output (output_items x ++ ws) ≡ Some r → r ≡ (x, ws)
one_output (NumberLine n) ws r e =
    value_sure signed_sure NumberLine n (signed_items n) ws r (NumberLine n) tt refl refl
    (at_variant 0 outputs (signed_items n) ws r (omega arith) e)
one_output (TextLine t) ws r e =
    value_sure text_sure TextLine t (text_items t) ws r (TextLine t) tt refl refl
    (at_variant 1 outputs (text_items t) ws r (omega arith) e)

output_sure : IsSureOf output output_items (λ x. IsAny x)
output_sure = record { sure = λ x ws r h e. one_output x ws r e }

-- Cells and parcels

field_sure : IsSureOf field place_items (λ x. IsAny x)
field_sure =
    reads_sure (both text place) (pair_items text_items number_items) (λ r. IsAny r.0 × IsAny r.1)
    (λ r. record { label = r.0; place = r.1 }) (λ x. (x.label, x.place)) place_items (λ x. IsAny x)
    (both_sure text_sure place_sure) (λ x h. (tt, tt)) (λ x h. refl) (λ x. refl)

abbrev stored_items : MethodShape → Items
stored_items m = method_items m.head (term_items m.body)

abbrev pub IsShapedMethod : MethodShape → Type 0
IsShapedMethod m = HasArities m.body

stored_sure : IsSureOf method stored_items IsShapedMethod
stored_sure =
    reads_sure (method_with term) method_by (λ x. IsAny x.0 × HasArities x.1) (λ r. record { head = r.0; body = r.1 })
    (λ m. (m.head, m.body)) stored_items IsShapedMethod
    (method_sure term at_depth) (λ m h. (tt, h)) (λ m h. refl) (λ m. refl)

places_sure : IsSureOf (list_of place) (list_items number_items) (λ ns. IsAny ns)
places_sure = any_list_sure place_sure

abbrev pub IsShapedCell : CellShape → Type 0
IsShapedCell (Object fields methods) = AreAll IsShapedMethod methods
IsShapedCell c = Unit {0}

abbrev object_items : List Field × List MethodShape → Items
object_items = pair_items (list_items place_items) (list_items stored_items)

abbrev kinds_of_cells : List (Reader CellShape)
kinds_of_cells =
    reads signed cells.Number ∷ reads (both (list_of field) (list_of method)) (λ r. Object r.0 r.1)
    ∷ reads name Reference ∷ reads future Future ∷ reads (list_of place) cells.Group ∷ []

one_cell : (x : CellShape) (ws : Items) (r : CellShape × Items) → IsShapedCell x → cell (cell_items x ++ ws) ≡ Some r
    → r ≡ (x, ws)
one_cell (cells.Number n) ws r h e =
    value_sure signed_sure cells.Number n (signed_items n) ws r (cells.Number n) tt refl refl
    (at_variant 0 kinds_of_cells (signed_items n) ws r (omega arith) e)
one_cell (Object fields methods) ws r h e =
    value_sure (both_sure (any_list_sure field_sure) (list_sure stored_sure))
    (λ (v : List Field × List MethodShape). Object v.0 v.1) (fields, methods) (object_items (fields, methods)) ws r
    (Object fields methods) (tt, h) refl refl
    (at_variant 1 kinds_of_cells (object_items (fields, methods)) ws r (omega arith) e)
one_cell (Reference n) ws r h e =
    value_sure name_sure Reference n (name_items n) ws r (Reference n) tt refl refl
    (at_variant 2 kinds_of_cells (name_items n) ws r (omega arith) e)
one_cell (Future f) ws r h e =
    value_sure future_sure Future f (future_items f) ws r (Future f) tt refl refl
    (at_variant 3 kinds_of_cells (future_items f) ws r (omega arith) e)
one_cell (cells.Group ns) ws r h e =
    value_sure places_sure cells.Group ns (list_items number_items ns) ws r (cells.Group ns) tt refl refl
    (at_variant 4 kinds_of_cells (list_items number_items ns) ws r (omega arith) e)

cell_sure : IsSureOf cell cell_items IsShapedCell
cell_sure = record { sure = one_cell }

store_sure : IsSureOf (list_of cell) store_items (AreAll IsShapedCell)
store_sure = list_sure cell_sure

abbrev pub IsShapedParcel : ParcelShape → Type 0
IsShapedParcel p = AreAll IsShapedCell p.cells

pub parcel_sure : IsSureOf parcel parcel_items IsShapedParcel
parcel_sure =
    reads_sure (both (list_of cell) (list_of place)) (pair_items store_items (list_items number_items))
    (λ r. AreAll IsShapedCell r.0 × IsAny r.1) (λ r. record { cells = r.0; roots = r.1 })
    (λ p. (p.cells, p.roots)) parcel_items IsShapedParcel
    (both_sure store_sure places_sure) (λ p h. (h, tt)) (λ p h. refl) (λ p. refl)

-- Requests and services

abbrev pub IsShapedRequest : RequestShape → Type 0
IsShapedRequest r = IsShapedParcel r.arguments

request_sure : IsSureOf request request_items IsShapedRequest
request_sure =
    reads_sure (both text (both name (both future parcel)))
    (pair_items text_items (pair_items name_items (pair_items future_items parcel_items)))
    (λ r. IsAny r.0 × (IsAny r.1.0 × (IsAny r.1.1.0 × IsShapedParcel r.1.1.1)))
    (λ r. record { label = r.0; sender = r.1.0; future = r.1.1.0; arguments = r.1.1.1 })
    (λ q. (q.label, (q.sender, (q.future, q.arguments)))) request_items IsShapedRequest
    (both_sure text_sure (both_sure name_sure (both_sure future_sure parcel_sure)))
    (λ q h. (tt, (tt, (tt, h)))) (λ q h. refl)
    (λ q. four (text_items q.label) (name_items q.sender) (future_items q.future) (parcel_items q.arguments))

abbrev pub IsShapedService : ServiceShape → Type 0
IsShapedService v = AreShaped v.contexts

service_sure : IsSureOf service service_items IsShapedService
service_sure =
    reads_sure (both (some_of (list_of term) waiting_of) (option_of future))
    (pair_items waiting_items (option_items future_items)) (λ r. AreShaped r.0 × IsAny r.1)
    (λ r. record { contexts = r.0; future = r.1 }) (λ v. (v.contexts, v.future)) service_items IsShapedService
    (both_sure waiting_sure (any_option_sure future_sure)) (λ v h. (h, tt)) (λ v h. refl) (λ v. refl)

-- Activities

pub record IsShapedActivity (x : FrozenActivity) : Type 0 where
  pub queue : AreAll IsShapedRequest x.queue
  pub services : AreAll IsShapedService x.activity.services
  pub term : IsShapedTerm x.activity.term
  pub store : AreAll IsShapedCell x.activity.store
  pub served : x.activity.served ≡ []

-- what it runs, and its output, its log and its requests before that
abbrev Runs : Type 0
Runs = List ServiceShape × (Tree × (List CellShape × ℕ))

abbrev run_by : FrozenActivity → Runs
run_by x = (x.activity.services, (x.activity.term, (x.activity.store, x.activity.active)))

abbrev seen_by : FrozenActivity
    → List LineShape × (List ReceptionShape × (List RequestShape × (Option FutureShape × Runs)))
seen_by x = (x.activity.lines, (x.log, (x.queue, (x.activity.present, run_by x))))

twelve : (a b c d e f g h i j k l : Items)
    → a ++ (b ++ (c ++ (d ++ (e ++ (f ++ (g ++ (h ++ (i ++ (j ++ (k ++ l))))))))))
    ≡ a ++ b ++ c ++ d ++ e ++ f ++ g ++ h ++ i ++ j ++ k ++ l
twelve a b c d e f g h i j k l = simp append_assoc

pub activity_sure : IsSureOf activity activity_items IsShapedActivity
activity_sure =
    let stored = both_sure store_sure place_sure in
    let runs = both_sure running_sure stored in
    let serves = both_sure (list_sure service_sure) runs in
    let answers = both_sure (any_option_sure future_sure) serves in
    let waits = both_sure (list_sure request_sure) answers in
    let logs = both_sure (any_list_sure reception_sure) waits in
    let prints = both_sure (any_list_sure output_sure) logs in
    let creates = both_sure small_sure prints in
    let sends = both_sure small_sure creates in
    let reduces = both_sure place_sure sends in
    let all = both_sure name_sure reduces in
    reads_sure _ _ _ _
    (λ x. (x.name, (x.activity.reductions, (x.activity.sends, (x.activity.creations, seen_by x)))))
    activity_items IsShapedActivity all
    (λ x h. (tt, (tt, (tt, (tt, (tt, (tt, (h.queue, (tt, (h.services, (h.term, (h.store, tt))))))))))))
    (λ x h. back x (sym h.served))
    (λ x. twelve (name_items x.name) (number_items x.activity.reductions) (number_items x.activity.sends)
    (number_items x.activity.creations) (list_items output_items x.activity.lines) (list_items reception_items x.log)
    (list_items request_items x.queue) (option_items future_items x.activity.present)
    (list_items service_items x.activity.services) (running_items x.activity.term)
    (store_items x.activity.store) (number_items x.activity.active))
  where
    back : (x : FrozenActivity) → [] ≡ x.activity.served
        → record x { activity = record (x.activity) { served = [] } } ≡ x
    back x e = ap (λ (ns : List ℕ). record x { activity = record (x.activity) { served = ns } }) e

all_homes : (hs : List (FutureShape × Name)) → AreAll (λ h. IsAny h.0 × IsAny h.1) hs
all_homes [] = tt
all_homes (h ∷ hs) = ((tt, tt), all_homes hs)

pub homes_sure : IsSureOf (list_of (both future name)) (list_items (pair_items future_items name_items))
    (λ hs. IsAny hs)
homes_sure = fewer_sure (list_sure (both_sure future_sure name_sure)) (λ hs h. all_homes hs)

pub filled_sure : IsSureOf (list_of (both future parcel)) (list_items (pair_items future_items parcel_items))
    (AreAll (λ v. IsAny v.0 × IsShapedParcel v.1))
filled_sure = list_sure (both_sure future_sure parcel_sure)
