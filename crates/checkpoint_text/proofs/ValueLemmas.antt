-- Names, logs, cells, parcels, requests, services and activities.
use Rattle.std.proofs.Common.{◌≡◌, ℕ, ◌^◌, List, [], ◌∷◌, ◌++◌, map, Option, Some, None, refl, sym, ap, ◌∙◌, append_assoc, arith}
use Rattle.std.specs.Fmt.{decimal}
use Rattle.asp_model.specs.Term.{Hole, leaf}
use Rattle.asp_model.specs.Store.{MethodShape, Field, CellShape, Object, Reference, Future}
use Rattle.asp_model.specs.Store as cells
use Rattle.asp_model.specs.Split.{Context, split}
use Rattle.asp_model.specs.Contraction.{LineShape, NumberLine, TextLine}
use Rattle.asp_model.specs.Configuration.{ReceptionShape, From, Poll}
use Rattle.law_frozen.specs.Frozen.{FrozenActivity}
use Rattle.code_reading.specs.Shown.{hole_tree}
use Rattle.checkpoint_text.specs.Items.{Items, number_items, signed_items, list_items, text_items, option_items, pair_items, name_items, future_items, reception_items, output_items, term_items, terms_items, running_items, place_items, method_items, cell_items, store_items, parcel_items, request_items, service_items}
use Rattle.checkpoint_text.specs.Lines.{activity_items}
use Rattle.checkpoint_text.specs.Reading.{Reader, told, reads, nothing, both, signed, list_of, text, option_of, small, place, name, future, reception, output, method_with, term, if_some, some_of, running_of, running, waiting_of, field, method, cell, parcel, request, service, activity}
use Rattle.checkpoint_text.specs.Writable.{IsList, IsOptional, IsSmall, IsPlace, IsSigned, IsText, IsName, IsFuture, IsReception, IsOutput, IsMethodHead, IsTerm, AreWritten, IsRunning, IsField, IsMethod, IsCell, IsParcel, IsRequest, IsService, IsActivity}
use Rattle.checkpoint_text.proofs.NumberLemmas.{pair_same}
use Rattle.checkpoint_text.proofs.CodecLemmas.{IsCodec, both_codec, then_codec, reads_codec, number_codec, list_codec, option_codec, AreVariants, variant_gives, variant_tells, nothing_tells, reads_tells}
use Rattle.checkpoint_text.proofs.TermLemmas.{text_codec, place_codec, signed_codec, terms_are}
use Rattle.checkpoint_text.proofs.ObjectLemmas.{method_by, method_codec}
use Rattle.checkpoint_text.proofs.NodeLemmas.{term_codec}
use Rattle.checkpoint_text.proofs.ContextLemmas.{split_trees, running_written, running_good, running_again, running_told, waiting_good, waiting_again, waiting_told}

-- Brackets

four : (a b c d : Items) → a ++ (b ++ (c ++ d)) ≡ ((a ++ b) ++ c) ++ d
four a b c d = sym (append_assoc (a ++ b) c d ∙ append_assoc a b (c ++ d))

-- Names, logs and lines

pub small_codec : IsCodec small number_items IsSmall
small_codec = number_codec (2 ^ 32) (omega arith)

pub name_codec : IsCodec name name_items IsName
name_codec = list_codec small number_items IsSmall small_codec

pub future_codec : IsCodec future future_items IsFuture
future_codec = reads_codec (both name small) (pair_items name_items number_items) (λ r. IsName r.0 × IsSmall r.1) (λ r. record { by = r.0; index = r.1 }) (λ f. (f.by, f.index)) future_items IsFuture
    (both_codec name small name_items number_items IsName IsSmall name_codec small_codec) (λ f h. h) (λ f h. refl) (λ r h. h) (λ r. refl)

abbrev receptions : List (Reader ReceptionShape)
receptions = reads name From ∷ nothing Poll ∷ []

reception_gives : (x : ReceptionShape) (ws : Items) → IsReception x → reception (reception_items x ++ ws) ≡ Some (x, ws)
reception_gives (From n) ws h = variant_gives 0 receptions (name_items n) ws (From n) (omega arith) (ap (told From) (name_codec.gives n ws h))
reception_gives Poll ws h = variant_gives 1 receptions [] ws Poll (omega arith) refl

receptions_tell : AreVariants reception_items IsReception 0 receptions
receptions_tell = (reads_tells reception_items IsReception 0 name name_items IsName From name_codec (λ n. refl) (λ n h. h), (nothing_tells reception_items IsReception 1 Poll refl tt, tt))

reception_codec : IsCodec reception reception_items IsReception
reception_codec = record { gives = reception_gives; tells = variant_tells reception_items IsReception receptions receptions_tell }

abbrev outputs : List (Reader LineShape)
outputs = reads signed NumberLine ∷ reads text TextLine ∷ []

output_gives : (x : LineShape) (ws : Items) → IsOutput x → output (output_items x ++ ws) ≡ Some (x, ws)
output_gives (NumberLine n) ws h = variant_gives 0 outputs (signed_items n) ws (NumberLine n) (omega arith) (ap (told NumberLine) (signed_codec.gives n ws h))
output_gives (TextLine t) ws h = variant_gives 1 outputs (text_items t) ws (TextLine t) (omega arith) (ap (told TextLine) (text_codec.gives t ws h))

outputs_tell : AreVariants output_items IsOutput 0 outputs
outputs_tell = (
  reads_tells output_items IsOutput 0 signed signed_items IsSigned NumberLine signed_codec (λ n. refl) (λ n h. h),
  (reads_tells output_items IsOutput 1 text text_items IsText TextLine text_codec (λ t. refl) (λ t h. h), tt),
)

output_codec : IsCodec output output_items IsOutput
output_codec = record { gives = output_gives; tells = variant_tells output_items IsOutput outputs outputs_tell }

-- Cells and parcels

at_depth : IsCodec term term_items IsTerm
unfolding term IsTerm
at_depth = term_codec 25000

field_codec : IsCodec field place_items IsField
field_codec = reads_codec (both text place) (pair_items text_items number_items) (λ r. IsText r.0 × IsPlace r.1) (λ r. record { label = r.0; place = r.1 }) (λ x. (x.label, x.place)) place_items IsField
    (both_codec text place text_items number_items IsText IsPlace text_codec place_codec) (λ x h. h) (λ x h. refl) (λ r h. h) (λ r. refl)

abbrev stored_items : MethodShape → Items
stored_items m = method_items m.head (term_items m.body)

stored_codec : IsCodec method stored_items IsMethod
stored_codec = reads_codec (method_with term) method_by (λ x. IsMethodHead x.0 × IsTerm x.1) (λ r. record { head = r.0; body = r.1 }) (λ m. (m.head, m.body)) stored_items IsMethod
    (method_codec term IsTerm at_depth) (λ m h. h) (λ m h. refl) (λ r h. h) (λ r. refl)

places_codec : IsCodec (list_of place) (list_items number_items) (IsList IsPlace)
places_codec = list_codec place number_items IsPlace place_codec

abbrev object_items : List Field × List MethodShape → Items
object_items = pair_items (list_items place_items) (list_items stored_items)

abbrev IsStored : List Field × List MethodShape → Type 0
IsStored r = IsList IsField r.0 × IsList IsMethod r.1

stored_object : IsCodec (both (list_of field) (list_of method)) object_items IsStored
stored_object = both_codec (list_of field) (list_of method) (list_items place_items) (list_items stored_items) (IsList IsField) (IsList IsMethod)
    (list_codec field place_items IsField field_codec) (list_codec method stored_items IsMethod stored_codec)

abbrev kinds_of_cells : List (Reader CellShape)
kinds_of_cells = reads signed cells.Number ∷ reads (both (list_of field) (list_of method)) (λ r. Object r.0 r.1) ∷ reads name Reference ∷ reads future Future ∷ reads (list_of place) cells.Group ∷ []

object_cell : (fields : List Field) (methods : List MethodShape) → cell_items (Object fields methods) ≡ decimal 1 ∷ object_items (fields, methods)
object_cell fields methods = refl

cell_gives : (x : CellShape) (ws : Items) → IsCell x → cell (cell_items x ++ ws) ≡ Some (x, ws)
cell_gives (cells.Number n) ws h = variant_gives 0 kinds_of_cells (signed_items n) ws (cells.Number n) (omega arith) (ap (told cells.Number) (signed_codec.gives n ws h))
cell_gives (Object fields methods) ws h =
    variant_gives 1 kinds_of_cells (object_items (fields, methods)) ws (Object fields methods) (omega arith) (ap (told (λ (r : List Field × List MethodShape). Object r.0 r.1)) (stored_object.gives (fields, methods) ws h))
cell_gives (Reference n) ws h = variant_gives 2 kinds_of_cells (name_items n) ws (Reference n) (omega arith) (ap (told Reference) (name_codec.gives n ws h))
cell_gives (Future f) ws h = variant_gives 3 kinds_of_cells (future_items f) ws (Future f) (omega arith) (ap (told Future) (future_codec.gives f ws h))
cell_gives (cells.Group ns) ws h = variant_gives 4 kinds_of_cells (list_items number_items ns) ws (cells.Group ns) (omega arith) (ap (told cells.Group) (places_codec.gives ns ws h))

cells_tell : AreVariants cell_items IsCell 0 kinds_of_cells
cells_tell = (
  reads_tells cell_items IsCell 0 signed signed_items IsSigned cells.Number signed_codec (λ n. refl) (λ n h. h),
  (
    reads_tells cell_items IsCell 1 (both (list_of field) (list_of method)) object_items IsStored (λ r. Object r.0 r.1) stored_object (λ r. refl) (λ r h. h),
    (
      reads_tells cell_items IsCell 2 name name_items IsName Reference name_codec (λ n. refl) (λ n h. h),
      (
        reads_tells cell_items IsCell 3 future future_items IsFuture Future future_codec (λ f. refl) (λ f h. h),
        (reads_tells cell_items IsCell 4 (list_of place) (list_items number_items) (IsList IsPlace) cells.Group places_codec (λ ns. refl) (λ ns h. h), tt),
      ),
    ),
  ),
)

pub cell_codec : IsCodec cell cell_items IsCell
cell_codec = record { gives = cell_gives; tells = variant_tells cell_items IsCell kinds_of_cells cells_tell }

store_codec : IsCodec (list_of cell) store_items (IsList IsCell)
store_codec = list_codec cell cell_items IsCell cell_codec

pub parcel_codec : IsCodec parcel parcel_items IsParcel
parcel_codec = reads_codec (both (list_of cell) (list_of place)) (pair_items store_items (list_items number_items)) (λ r. IsList IsCell r.0 × IsList IsPlace r.1) (λ r. record { cells = r.0; roots = r.1 }) (λ p. (p.cells, p.roots)) parcel_items IsParcel
    (both_codec (list_of cell) (list_of place) store_items (list_items number_items) (IsList IsCell) (IsList IsPlace) store_codec places_codec) (λ p h. h) (λ p h. refl) (λ r h. h) (λ r. refl)

-- Requests and services

request_codec : IsCodec request request_items IsRequest
request_codec =
    let last = both_codec future parcel future_items parcel_items IsFuture IsParcel future_codec parcel_codec in
    let sent = both_codec name (both future parcel) name_items (pair_items future_items parcel_items) IsName (λ r. IsFuture r.0 × IsParcel r.1) name_codec last in
    reads_codec (both text (both name (both future parcel))) (pair_items text_items (pair_items name_items (pair_items future_items parcel_items))) (λ r. IsText r.0 × (IsName r.1.0 × (IsFuture r.1.1.0 × IsParcel r.1.1.1)))
    (λ r. record { label = r.0; sender = r.1.0; future = r.1.1.0; arguments = r.1.1.1 }) (λ q. (q.label, (q.sender, (q.future, q.arguments)))) request_items IsRequest
    (both_codec text (both name (both future parcel)) text_items (pair_items name_items (pair_items future_items parcel_items)) IsText (λ r. IsName r.0 × (IsFuture r.1.0 × IsParcel r.1.1)) text_codec sent)
    (λ q h. h) (λ q h. refl) (λ r h. h) (λ r. four (text_items r.0) (name_items r.1.0) (future_items r.1.1.0) (parcel_items r.1.1.1))

by_option : {Y : Type 0} → Items → Option Y → Option (Y × Items)
by_option us o = elim o [ None ↦ None | Some y ↦ Some (y, us) ]

option_told : {Y : Type 0} (o : Option Y) (y : Y) (vs us : Items) → by_option vs o ≡ Some (y, us) → (o ≡ Some y) × (vs ≡ us)
unfolding by_option
option_told None y vs us e = absurd cc
option_told {Y} (Some z) y vs us e =
    let same = pair_same z y vs us e in
    (ap (λ (x : Y). Some x) same.0, same.1)

was_some : {X Y : Type 0} (h : X → Option Y) (o : Option (X × Items)) (y : Y) (us : Items) → if_some (told h o) ≡ Some (y, us) → (x : X) × (o ≡ Some (x, us)) × (h x ≡ Some y)
unfolding by_option
was_some h None y us e = absurd cc
was_some {X} h (Some r) y us e =
    let t = option_told (h r.0) y r.1 us e in
    (r.0, ap {B = Option (X × Items)} (λ ws. Some (r.0, ws)) t.1, t.0)

-- a value that is made of what was read, or not
some_codec : {X Y : Type 0} (p : Reader X) (f : X → Items) (P : X → Type 0) (h : X → Option Y) (k : Y → X) (g : Y → Items) (Q : Y → Type 0) → IsCodec p f P
    → ((y : Y) → Q y → P (k y)) → ((y : Y) → Q y → h (k y) ≡ Some y) → ((x : X) (y : Y) → P x → h x ≡ Some y → (k y ≡ x) × Q y) → ((y : Y) → f (k y) ≡ g y) → IsCodec (some_of p h) g Q
unfolding by_option
some_codec {X} {Y} p f P h k g Q c to again from same = record {
  gives = λ y ws q. ap (λ (items : Items). if_some (told h (p (items ++ ws)))) (sym (same y)) ∙ ap (λ (o : Option (X × Items)). if_some (told h o)) (c.gives (k y) ws (to y q)) ∙ ap (by_option ws) (again y q);
  tells = λ y ws us e.
      let t = was_some h (p ws) y us e in
      let r = c.tells t.0 ws us t.1 in
      let b = from t.0 y r.1 t.2 in
      (r.0 ∙ ap (λ (x : X). f x ++ us) (sym b.0) ∙ ap (λ (items : Items). items ++ us) (same y), b.1);
}

terms_codec : IsCodec (list_of term) (list_items term_items) (IsList IsTerm)
terms_codec = list_codec term term_items IsTerm at_depth

running_codec : IsCodec running running_items IsRunning
running_codec = some_codec (list_of term) (list_items term_items) (IsList IsTerm) running_of (λ t. split_trees (split t)) running_items IsRunning terms_codec running_good running_again running_told running_written

abbrev waiting_items : List Context → Items
waiting_items cs = terms_items (map term_items (leaf Hole ∷ map hole_tree cs))

waiting_codec : IsCodec (some_of (list_of term) waiting_of) waiting_items AreWritten
waiting_codec = some_codec (list_of term) (list_items term_items) (IsList IsTerm) waiting_of (λ cs. leaf Hole ∷ map hole_tree cs) waiting_items AreWritten terms_codec waiting_good waiting_again waiting_told
    (λ cs. sym (terms_are (leaf Hole ∷ map hole_tree cs)))

futures_codec : IsCodec (option_of future) (option_items future_items) (IsOptional IsFuture)
futures_codec = option_codec future future_items IsFuture future_codec

service_codec : IsCodec service service_items IsService
service_codec = reads_codec (both (some_of (list_of term) waiting_of) (option_of future)) (pair_items waiting_items (option_items future_items)) (λ r. AreWritten r.0 × IsOptional IsFuture r.1)
    (λ r. record { contexts = r.0; future = r.1 }) (λ v. (v.contexts, v.future)) service_items IsService
    (both_codec (some_of (list_of term) waiting_of) (option_of future) waiting_items (option_items future_items) AreWritten (IsOptional IsFuture) waiting_codec futures_codec) (λ v h. h) (λ v h. refl) (λ r h. h) (λ r. refl)

-- Activities

twelve : (a b c d e f g h i j k l : Items) → a ++ (b ++ (c ++ (d ++ (e ++ (f ++ (g ++ (h ++ (i ++ (j ++ (k ++ l)))))))))) ≡ a ++ b ++ c ++ d ++ e ++ f ++ g ++ h ++ i ++ j ++ k ++ l
twelve a b c d e f g h i j k l = simp append_assoc

pub activity_codec : IsCodec activity activity_items IsActivity
activity_codec =
    let stored = then_codec store_codec place_codec in
    let runs = then_codec running_codec stored in
    let serves = then_codec (list_codec service service_items IsService service_codec) runs in
    let answers = then_codec futures_codec serves in
    let waits = then_codec (list_codec request request_items IsRequest request_codec) answers in
    let logs = then_codec (list_codec reception reception_items IsReception reception_codec) waits in
    let prints = then_codec (list_codec output output_items IsOutput output_codec) logs in
    let creates = then_codec small_codec prints in
    let sends = then_codec small_codec creates in
    let reduces = then_codec place_codec sends in
    let all = then_codec name_codec reduces in
    reads_codec _ _ _ _ (λ x. (x.name, (x.activity.reductions, (x.activity.sends, (x.activity.creations, (x.activity.lines, (x.log, (x.queue, (x.activity.present, (x.activity.services, (x.activity.term, (x.activity.store, x.activity.active))))))))))))
    activity_items IsActivity all
    (λ x h. (h.name, (h.reductions, (h.sends, (h.creations, (h.lines, (h.log, (h.queue, (h.present, (h.services, (h.term, (h.store, h.active))))))))))))
    (λ x h. back x (sym h.served))
    (λ r h. record {
      name = h.0;
      reductions = h.1.0;
      sends = h.1.1.0;
      creations = h.1.1.1.0;
      lines = h.1.1.1.1.0;
      log = h.1.1.1.1.1.0;
      queue = h.1.1.1.1.1.1.0;
      present = h.1.1.1.1.1.1.1.0;
      services = h.1.1.1.1.1.1.1.1.0;
      term = h.1.1.1.1.1.1.1.1.1.0;
      store = h.1.1.1.1.1.1.1.1.1.1.0;
      active = h.1.1.1.1.1.1.1.1.1.1.1;
      served = refl;
    })
    (λ r. twelve (name_items r.0) (number_items r.1.0) (number_items r.1.1.0) (number_items r.1.1.1.0) (list_items output_items r.1.1.1.1.0) (list_items reception_items r.1.1.1.1.1.0)
    (list_items request_items r.1.1.1.1.1.1.0) (option_items future_items r.1.1.1.1.1.1.1.0) (list_items service_items r.1.1.1.1.1.1.1.1.0) (running_items r.1.1.1.1.1.1.1.1.1.0)
    (store_items r.1.1.1.1.1.1.1.1.1.1.0) (number_items r.1.1.1.1.1.1.1.1.1.1.1))
  where
    back : (x : FrozenActivity) → [] ≡ x.activity.served → record x { activity = record (x.activity) { served = [] } } ≡ x
    back x e = ap (λ (ns : List ℕ). record x { activity = record (x.activity) { served = ns } }) e

pub homes_codec : IsCodec (list_of (both future name)) (list_items (pair_items future_items name_items)) (IsList (λ h. IsFuture h.0 × IsName h.1))
homes_codec = list_codec (both future name) (pair_items future_items name_items) (λ h. IsFuture h.0 × IsName h.1) (then_codec future_codec name_codec)

pub filled_codec : IsCodec (list_of (both future parcel)) (list_items (pair_items future_items parcel_items)) (IsList (λ v. IsFuture v.0 × IsParcel v.1))
filled_codec = list_codec (both future parcel) (pair_items future_items parcel_items) (λ v. IsFuture v.0 × IsParcel v.1) (then_codec future_codec parcel_codec)
