-- What an effect sends and fills is new to the holders of its run.
use Rattle.std.specs.Prelude.{◌≡◌, false, IsSome, Some, None}
use Rattle.asp_model.specs.Names.{Name, FutureShape}
use Rattle.asp_model.specs.Parcel.{ParcelShape}
use Rattle.asp_model.specs.Configuration.{RequestShape}
use Rattle.asp_model.specs.Intent.{Effect}
use Rattle.def_journals.specs.Edges.{HoldersShape, has_filled, home_of}

-- the future of its request has no home yet, and the one that it fills has a home, and is not filled
pub record IsFresh (h : HoldersShape) (e : Effect) : Type 0 where
  pub sent : (z : Name × RequestShape) → e.sent ≡ Some z → home_of z.1.future h.homes ≡ None
  pub begun : (z : FutureShape × ParcelShape) → e.filled ≡ Some z → IsSome (home_of z.0 h.homes)
  pub filled : (z : FutureShape × ParcelShape) → e.filled ≡ Some z → has_filled z.0 h.filled ≡ false
