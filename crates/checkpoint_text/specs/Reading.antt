-- Reading a checkpoint: line by line, and in a line item by item.
use Rattle.std.specs.Prelude.{ℕ, ℤ, pos, negsuc, zero, suc, ◌^◌, ◌+◌, nat_lt}
use Rattle.std.specs.Prelude.{Bool, true, false, List, [], ◌∷◌, ◌++◌, Option, Some, None, length, map, codes}
use Rattle.asp_model.specs.Names.{Name, FutureShape, Text, same_text}
use Rattle.asp_model.specs.Term.{SignShape, Add, Subtract, Multiply, Divide, Remainder, Less, Equal, MethodHead, Head, Loc, Hole, Var, Number, Make, Get, Put, Call, Clone, Active, Serve, Let, Steps, If, Repeat, Operate, Print, Echo, Group, Scatter, Size, Member, WaitAll, Pending, Tree, Trees, node, none, more, trees, leaf, one, two, loc, locs_then}
use Rattle.asp_model.specs.Store.{MethodShape, Field, CellShape, Object, Reference, Future}
use Rattle.asp_model.specs.Store as cells
use Rattle.asp_model.specs.Parcel.{ParcelShape}
use Rattle.asp_model.specs.Split.{Context, Split, Splits, reduced_count, split, plug}
use Rattle.asp_model.specs.Contraction.{LineShape, NumberLine, TextLine}
use Rattle.asp_model.specs.Configuration.{RequestShape, ServiceShape, ReceptionShape, From, Poll}
use Rattle.asp_model.specs.ReportLines.{parts}
use Rattle.text_lines.specs.Numbers.{number_below}
use Rattle.law_frozen.specs.Frozen.{FrozenActivity, FrozenShape}
use Rattle.checkpoint_text.specs.Items.{Items}

-- what the first items say, and the items behind them; none where they say nothing
abbrev pub Reader : Type 0 → Type 0
Reader X = Items → Option (X × Items)

-- what was read, as something else
abbrev pub told : {X Y : Type 0} → (X → Y) → Option (X × Items) → Option (Y × Items)
told f None = None
told f (Some r) = Some (f r.0, r.1)

abbrev pub reads : {X Y : Type 0} → Reader X → (X → Y) → Reader Y
reads p f ws = told f (p ws)

-- nothing is read
abbrev pub nothing : {X : Type 0} → X → Reader X
nothing x ws = Some (x, ws)

-- one behind the other
abbrev pub then_read : {X Y : Type 0} → Option (X × Items) → Reader Y → Option ((X × Y) × Items)
then_read None q = None
then_read (Some r) q = told (λ y. (r.0, y)) (q r.1)

abbrev pub both : {X Y : Type 0} → Reader X → Reader Y → Reader (X × Y)
both p q ws = then_read (p ws) q

-- by what was read first
abbrev pub chosen : {X Y : Type 0} → Option (X × Items) → (X → Reader Y) → Option (Y × Items)
chosen None q = None
chosen (Some r) q = q r.0 r.1

abbrev pub choose : {X Y : Type 0} → Reader X → (X → Reader Y) → Reader Y
choose p q ws = chosen (p ws) q

-- the reader of a number, where there is one
abbrev pub reader_at : {X : Type 0} → List (Reader X) → ℕ → Reader X
reader_at [] k ws = None
reader_at (p ∷ ps) zero ws = p ws
reader_at (p ∷ ps) (suc k) ws = reader_at ps k ws

-- Numbers, texts, lists and options

abbrev pub first_read : Items → Option ℕ → Option (ℕ × Items)
first_read ws None = None
first_read ws (Some k) = Some (k, ws)

-- below a limit, without a zero in front
abbrev pub number_to : ℕ → Reader ℕ
number_to limit [] = None
number_to limit (w ∷ ws) = first_read ws (number_below limit w)

abbrev pub negative_by : Items → Option ℕ → Option (ℤ × Items)
negative_by ws None = None
negative_by ws (Some zero) = None
negative_by ws (Some (suc k)) = Some (negsuc k, ws)

abbrev pub positive_by : Items → Option ℕ → Option (ℤ × Items)
positive_by ws None = None
positive_by ws (Some k) = Some (pos k, ws)

abbrev pub signed_by : Items → Text → Option (ℤ × Items)
signed_by ws [] = None
signed_by ws (c ∷ cs) = elim (same_text (c ∷ []) (codes "-")) [
  | true ↦ negative_by ws (number_below (2 ^ 63 + 1) cs)
  | false ↦ positive_by ws (number_below (2 ^ 63) (c ∷ cs))
]

abbrev pub signed : Reader ℤ
signed [] = None
signed (w ∷ ws) = signed_by ws w

-- so many, one behind the other
abbrev pub times : {X : Type 0} → Reader X → ℕ → Reader (List X)
times p zero ws = Some ([], ws)
times p (suc k) ws = chosen (p ws) (λ x us. told (λ xs. x ∷ xs) (times p k us))

abbrev pub list_of : {X : Type 0} → Reader X → Reader (List X)
list_of p = choose (number_to (2 ^ 64)) (times p)

abbrev pub text : Reader Text
text = list_of (number_to (2 ^ 8))

abbrev pub option_of : {X : Type 0} → Reader X → Reader (Option X)
option_of p = choose (number_to 2) (reader_at (nothing None ∷ reads p Some ∷ []))

-- a variant by its number
abbrev pub variant : {X : Type 0} → List (Reader X) → Reader X
variant ps = choose (number_to (2 ^ 64)) (reader_at ps)

-- a number of 32 bits
abbrev pub small : Reader ℕ
small = number_to (2 ^ 32)

-- a place, or a number of a cell; a greater one is past the end of each store
abbrev pub place : Reader ℕ
place = number_to (2 ^ 64)

-- Names, logs and lines

abbrev pub name : Reader Name
name = list_of small

abbrev pub future : Reader FutureShape
future = reads (both name small) (λ r. record { by = r.0; index = r.1 })

abbrev pub reception : Reader ReceptionShape
reception = variant (reads name From ∷ nothing Poll ∷ [])

abbrev pub output : Reader LineShape
output = variant (reads signed NumberLine ∷ reads text TextLine ∷ [])

-- Terms

abbrev pub sign : Reader SignShape
sign = variant (
    nothing Add ∷ nothing Subtract ∷ nothing Multiply ∷ nothing Divide ∷ nothing Remainder ∷ nothing Less
    ∷ nothing Equal ∷ [])

abbrev pub method_with : {X : Type 0} → Reader X → Reader (MethodHead × X)
method_with p = reads (both text (both text (both (list_of text) p)))
    (λ r. (record { label = r.0; slf = r.1.0; parameters = r.1.1.0 }, r.1.1.1))

abbrev pub object_tree : List (Text × Tree) → List (MethodHead × Tree) → Tree
object_tree fields methods = node (Make (map (λ x. x.0) fields) (map (λ x. x.0) methods))
    (trees (map (λ x. x.1) fields ++ map (λ x. x.1) methods))

-- the fields of each kind of node, in the order of the kinds; the terms below are read by t
abbrev pub kinds : Reader Tree → List (Reader Tree)
kinds t =
    reads place loc
    ∷ nothing (leaf Hole)
    ∷ reads text (λ x. leaf (Var x))
    ∷ reads signed (λ n. leaf (Number n))
    ∷ reads (both (list_of (both text t)) (list_of (method_with t))) (λ r. object_tree r.0 r.1)
    ∷ reads (both t text) (λ r. one (Get r.1) r.0)
    ∷ reads (both t (both text t)) (λ r. two (Put r.1.0) r.0 r.1.1)
    ∷ reads (both t (both text (list_of t))) (λ r. node (Call r.1.0) (more r.0 (trees r.1.1)))
    ∷ reads t (one Clone)
    ∷ reads (both t (option_of text)) (λ r. one (Active r.1) r.0)
    ∷ reads (list_of text) (λ ls. leaf (Serve ls))
    ∷ reads (both text (both t t)) (λ r. two (Let r.0) r.1.0 r.1.1)
    ∷ reads (list_of t) (λ ts. node Steps (trees ts))
    ∷ reads (both t (both t t)) (λ r. node If (more r.0 (more r.1.0 (more r.1.1 none))))
    ∷ reads t (one Repeat)
    ∷ reads (both sign (both t t)) (λ r. two (Operate r.0) r.1.0 r.1.1)
    ∷ reads t (one Print)
    ∷ reads text (λ x. leaf (Echo x))
    ∷ reads (list_of t) (λ ts. node Group (trees ts))
    ∷ reads (both t (both text t)) (λ r. two (Scatter r.1.0) r.0 r.1.1)
    ∷ reads t (one Size)
    ∷ reads (both t t) (λ r. two Member r.0 r.1)
    ∷ reads t (one WaitAll)
    ∷ reads (list_of text) (λ ls. leaf (Pending ls))
    ∷ []

-- a term that is nested at most so deep
abbrev pub term_to : ℕ → Reader Tree
term_to zero ws = None
term_to (suc depth) ws = variant (kinds (term_to depth)) ws

-- as deep as a checkpoint may have one
unfoldable pub term : Reader Tree
term = term_to 25000

-- the hole stands where a term is reduced in place
abbrev pub only_context : Context → Option Context
only_context c = elim (nat_lt (length c.before) (reduced_count c.head (locs_then c.before (more (loc 0) c.behind)))) [
  | true ↦ Some c
  | false ↦ None
]

-- locations, then a hole, then terms
abbrev pub context_below : Head → List ℕ → Trees → Option Context
context_below h before none = None
context_below h before (more (node (Loc n) us) ts) = context_below h (before ++ n ∷ []) ts
context_below h before (more (node Hole us) ts) = only_context (record { head = h; before = before; behind = ts })
context_below h before (more (node k us) ts) = None

abbrev pub context_of : Tree → Option Context
context_of (node h ts) = context_below h [] ts

abbrev pub with_context : Option Context → Option (List Context) → Option (List Context)
with_context (Some c) (Some cs) = Some (c ∷ cs)
with_context c cs = None

abbrev pub contexts_of : List Tree → Option (List Context)
contexts_of [] = Some []
contexts_of (t ∷ ts) = with_context (context_of t) (contexts_of ts)

-- only where something came out of what was read
abbrev pub if_some : {X : Type 0} → Option (Option X × Items) → Option (X × Items)
if_some None = None
if_some (Some r) = elim r.0 [ None ↦ None | Some x ↦ Some (x, r.1) ]

abbrev pub some_of : {X Y : Type 0} → Reader X → (X → Option Y) → Reader Y
some_of p f ws = if_some (reads p f ws)

-- a redex, in contexts
abbrev pub plugged_by : Split → Tree → Option (List Context) → Option Tree
plugged_by (Splits [] r) t (Some cs) = Some (plug cs t)
plugged_by s t cs = None

-- a location alone
abbrev pub standing_alone : ℕ → List Tree → Option Tree
standing_alone n [] = Some (loc n)
standing_alone n (t ∷ ts) = None

-- by the node of the first term, and the terms behind it
abbrev pub running_by : Head → Trees → List Tree → Option Tree
running_by (Loc n) us ts = standing_alone n ts
running_by h us ts = plugged_by (split (node h us)) (node h us) (contexts_of ts)

-- a location alone, or a redex in its contexts
abbrev pub running_of : List Tree → Option Tree
running_of [] = None
running_of (node h us ∷ ts) = running_by h us ts

abbrev pub running : Reader Tree
running = some_of (list_of term) running_of

abbrev pub is_hole : Tree → Bool
is_hole (node Hole ts) = true
is_hole t = false

-- a hole in its contexts
abbrev pub waiting_of : List Tree → Option (List Context)
waiting_of [] = None
waiting_of (t ∷ ts) = elim (is_hole t) [ true ↦ contexts_of ts | false ↦ None ]

-- Cells, parcels, requests and services

abbrev pub field : Reader Field
field = reads (both text place) (λ r. record { label = r.0; place = r.1 })

abbrev pub method : Reader MethodShape
method = reads (method_with term) (λ r. record { head = r.0; body = r.1 })

abbrev pub cell : Reader CellShape
cell = variant (
    reads signed cells.Number
    ∷ reads (both (list_of field) (list_of method)) (λ r. Object r.0 r.1)
    ∷ reads name Reference
    ∷ reads future Future
    ∷ reads (list_of place) cells.Group
    ∷ [])

abbrev pub parcel : Reader ParcelShape
parcel = reads (both (list_of cell) (list_of place)) (λ r. record { cells = r.0; roots = r.1 })

abbrev pub request : Reader RequestShape
request = reads (both text (both name (both future parcel)))
    (λ r. record { label = r.0; sender = r.1.0; future = r.1.1.0; arguments = r.1.1.1 })

abbrev pub service : Reader ServiceShape
service = reads (both (some_of (list_of term) waiting_of) (option_of future))
    (λ r. record { contexts = r.0; future = r.1 })

abbrev pub activity : Reader FrozenActivity
activity =
    reads (both name (both (number_to (2 ^ 64)) (both small (both small (both (list_of output)
    (both (list_of reception) (both (list_of request) (both (option_of future) (both (list_of service)
    (both running (both (list_of cell) place)))))))))))
    (λ r. record {
      name = r.0;
      activity = record {
        term = r.1.1.1.1.1.1.1.1.1.0;
        services = r.1.1.1.1.1.1.1.1.0;
        present = r.1.1.1.1.1.1.1.0;
        store = r.1.1.1.1.1.1.1.1.1.1.0;
        active = r.1.1.1.1.1.1.1.1.1.1.1;
        sends = r.1.1.0;
        creations = r.1.1.1.0;
        reductions = r.1.0;
        lines = r.1.1.1.1.0;
        served = [];
      };
      log = r.1.1.1.1.1.0;
      queue = r.1.1.1.1.1.1.0;
    })

-- Lines

-- the whole line was read
abbrev pub whole : {X : Type 0} → Option (X × Items) → Option X
whole None = None
whole (Some r) = elim r.1 [ [] ↦ Some r.0 | w ∷ ws ↦ None ]

-- the items of a line that begins with this word
abbrev pub line_by : {X : Type 0} → Text → Reader X → Items → Option X
line_by word p [] = None
line_by word p (w ∷ ws) = elim (same_text w word) [ true ↦ whole (p ws) | false ↦ None ]

abbrev pub line_read : {X : Type 0} → Text → Reader X → Text → Option X
line_read word p line = line_by word p (parts 32 line)

-- behind the last line nothing
abbrev pub at_end : List Text → Option (List FrozenActivity)
at_end ([] ∷ []) = Some []
at_end ls = None

abbrev pub with_activity : Option FrozenActivity → Option (List FrozenActivity) → Option (List FrozenActivity)
with_activity (Some x) (Some xs) = Some (x ∷ xs)
with_activity x xs = None

-- activities up to the line `end`
abbrev pub activities_read : List Text → Option (List FrozenActivity)
activities_read [] = None
activities_read (l ∷ ls) = elim (same_text l (codes "end")) [
  | true ↦ at_end ls
  | false ↦ with_activity (line_read (codes "activity") activity l) (activities_read ls)
]

-- what a text says
pub data CheckpointReading : Type 0 where
  Reads : (frozen : FrozenShape) → CheckpointReading
  OtherProgram : CheckpointReading
  Malformed : CheckpointReading

abbrev pub frozen_by : Option (List (FutureShape × Name)) → Option (List (FutureShape × ParcelShape))
    → Option (List FrozenActivity) → CheckpointReading
frozen_by (Some homes) (Some filled) (Some xs) = Reads (record { homes = homes; filled = filled; activities = xs })
frozen_by homes filled xs = Malformed

-- from the third line on
abbrev pub body_read : List Text → CheckpointReading
body_read (h ∷ f ∷ ls) = frozen_by
    (line_read (codes "homes") (list_of (both future name)) h)
    (line_read (codes "filled") (list_of (both future parcel)) f)
    (activities_read ls)
body_read ls = Malformed

abbrev pub lines_read : Text → List Text → CheckpointReading
lines_read program (t ∷ p ∷ ls) = elim (same_text t (codes "asp checkpoint 1")) [
  | false ↦ Malformed
  | true ↦ elim (same_text p (codes "program " ++ program)) [ true ↦ body_read ls | false ↦ OtherProgram ]
]
lines_read program ls = Malformed

-- what a checkpoint keeps, where it is one of this program
abbrev pub read_checkpoint : Text → Text → CheckpointReading
read_checkpoint program t = lines_read program (parts 10 t)
