-- What one more filled future changes.
use Rattle.std.specs.Prelude.{◌≡◌, ◌≢◌, T, None}
use Rattle.std.specs.FinMap.{find, put, is_sorted}
use Rattle.asp_model.specs.Names.{FutureShape, future_cmp}
use Rattle.asp_model.specs.Parcel.{ParcelShape}
use Rattle.asp_model.specs.Chase.{Values, Goes, lead, Unfilled, chase}

-- these futures, where f has no value, and has one then
abbrev pub AtFill : (Values → Values → FutureShape → ParcelShape → Type 0) → Type 0
AtFill P = (values : Values) (f : FutureShape) (p : ParcelShape)
    → T (is_sorted future_cmp values) → find future_cmp f values ≡ None → P values (put future_cmp f p values) f p

-- futures of one chase have one then
abbrev pub ChasesStayTogether : Type 0
ChasesStayTogether = AtFill (λ before after f p. (x y : FutureShape) → chase before x ≡ chase before y → chase after x ≡ chase after y)

-- its chase is neither that of the filled future, nor that of the value's root
abbrev pub IsElsewhere : Values → Values → FutureShape → FutureShape → Type 0
IsElsewhere before after f x = (chase before x ≢ Unfilled f) × ((g : FutureShape) → lead after f ≡ Goes g → chase before x ≢ chase before g)

-- the chase of a future elsewhere stays
abbrev pub ChasesStayElsewhere : Type 0
ChasesStayElsewhere = AtFill (λ before after f p. (x : FutureShape) → IsElsewhere before after f x → chase after x ≡ chase before x)

-- where the filled future has a chase that another had, it is that of the value's root
abbrev pub FilledIsOfRoot : Type 0
FilledIsOfRoot = AtFill (λ before after f p. (x : FutureShape) → chase after f ≡ chase before x
    → (g : FutureShape) × (lead after f ≡ Goes g) × (chase before x ≡ chase before g))
