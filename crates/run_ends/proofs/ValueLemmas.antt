-- Values of futures.
use Rattle.std.proofs.Common.{◌≡◌, Option, Some, None, refl, ap, ◌∙◌}
use Rattle.std.specs.Borrow.{Bor}
use Rattle.std.specs.FinMap.{find}
use Rattle.std.specs.Option.{option_map}
use Rattle.asp_model.specs.Names.{FutureShape, future_cmp}
use Rattle.asp_model.specs.Chase.{Values, Chase, Value, Unfilled, Cycle, chase}
use Rattle.code_table.specs.declared.cells.Parcel.{Parcel}
use Rattle.code_table.specs.Shapes.{parcel_shape}
use Rattle.future_table.specs.Values as table
use Rattle.future_table.specs.Values.{told}
use Rattle.law_chases.proofs.ChaseLemmas.{chase_finds}
use Rattle.def_paths.specs.Places.{value_by}
use Rattle.run_ends.specs.Reads.{seen_value}

-- the value of the future at the end of a chase is the value that is read
pub value_told : (vs : Values) (f g : FutureShape) → table.Value g ≡ told (chase vs f) → find future_cmp g vs ≡ value_by (chase vs f)
value_told vs f g e = by (chase vs f) refl e
  where
    by : (k : Chase) → chase vs f ≡ k → table.Value g ≡ told k → find future_cmp g vs ≡ value_by k
    by (Value h p) is t =
        let same : g ≡ h = cc in
        ap (λ (x : FutureShape). find future_cmp x vs) same ∙ (chase_finds vs f h p is).0
    by (Unfilled h) is t = absurd cc
    by (Cycle h) is t = absurd cc

pub seen_is : (o : Option (Bor Parcel)) → seen_value o ≡ option_map (λ (v : Bor Parcel). parcel_shape v.now) o
seen_is None = refl
seen_is (Some v) = refl

pub unfilled_told : (c : Chase) (g : FutureShape) → table.Unfilled g ≡ told c → None ≡ value_by c
unfilled_told (Value h p) g t = absurd cc
unfilled_told (Unfilled h) g t = refl
unfilled_told (Cycle h) g t = refl

pub cycle_told : (c : Chase) (g : FutureShape) → table.Cycle g ≡ told c → None ≡ value_by c
cycle_told (Value h p) g t = absurd cc
cycle_told (Unfilled h) g t = refl
cycle_told (Cycle h) g t = refl
