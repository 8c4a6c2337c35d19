-- Tests of cells, parcels, requests and values.
use Rattle.std.specs.Prelude.{ℕ, ◌&&◌, nat_eq, nat_lt, Bool, true, false}
use Rattle.std.specs.Prelude.{List, [], ◌∷◌, Option, Some, None, is_some, length, map}
use Rattle.std.specs.List.{list_all}
use Rattle.asp_model.specs.declared.term.Method.{Method}
use Rattle.asp_model.specs.declared.word.Label.{Label}
use Rattle.asp_model.specs.Names.{Name, FutureShape, same_name}
use Rattle.asp_model.specs.Store.{CellShape, Object, Reference, Future, Group}
use Rattle.asp_model.specs.Parcel.{ParcelShape}
use Rattle.asp_model.specs.Configuration.{RequestShape}
use Rattle.code_table.specs.Parts.{method_head}
use Rattle.checkpoint_reading.specs.Cells.{method_shape, place_field}
use Rattle.proper_terms.specs.Fits.{is_single, method_fits, place_label}
use Rattle.checkpoint_checks.specs.Maps.{Activities, Homes}
use Rattle.checkpoint_checks.specs.Names.{is_named}

abbrev pub are_below : ℕ → List ℕ → Bool
are_below k = list_all (λ i. nat_lt i k)

-- known and proper, with places below a size
abbrev pub cell_fits : Activities → Homes → ℕ → CellShape → Bool
cell_fits look homes k (Object fields methods) =
    is_single (map (λ f. f.label) fields) (map (λ m. m.head) methods)
    && (are_below k (map (λ f. f.place) fields) && list_all (method_fits k) methods)
cell_fits look homes k (Reference n) = is_named look n
cell_fits look homes k (Future g) = is_some (homes g)
cell_fits look homes k (Group ns) = are_below k ns
cell_fits look homes k c = true

abbrev pub cells_fit : Activities → Homes → List CellShape → Bool
cells_fit look homes cs = list_all (cell_fits look homes (length cs)) cs

-- where there is one root, it is the first cell
abbrev pub root_fits : List ℕ → Bool
root_fits (k ∷ []) = nat_eq k 0
root_fits ns = true

abbrev pub parcel_fits : Activities → Homes → ParcelShape → Bool
parcel_fits look homes p = cells_fit look homes p.cells && (are_below (length p.cells) p.roots && root_fits p.roots)

-- the future has this home
abbrev pub is_at : Name → Option Name → Bool
is_at n None = false
is_at n (Some m) = same_name m n

abbrev pub request_fits : Activities → Homes → Name → RequestShape → Bool
request_fits look homes n r = is_at n (homes r.future)
    && (same_name r.sender r.future.by && parcel_fits look homes r.arguments)

abbrev pub has_one_root : List ℕ → Bool
has_one_root (k ∷ []) = nat_eq k 0
has_one_root ns = false

abbrev pub value_fits : Activities → Homes → FutureShape × ParcelShape → Bool
value_fits look homes v = is_some (homes v.0) && (has_one_root v.1.roots && parcel_fits look homes v.1)

-- an object, as it was read
abbrev pub object_fits : ℕ → List (Label × ℕ) → List Method → Bool
object_fits k fields methods =
    is_single (map place_label fields) (map method_head methods)
    && (are_below k (map (λ f. f.place) (map place_field fields))
    && list_all (method_fits k) (map method_shape methods))
