-- What a cell needs before its value is read, and what contracts see of that.
use Rattle.asp_model.specs.Names.{FutureShape}
use Rattle.asp_model.specs.Store.{CellShape}
use Rattle.asp_model.specs.Store as store
use Rattle.asp_model.specs.Chase.{Chase, Value, Unfilled, Cycle}
use Rattle.asp_model.specs.Shapes.{future_shape}
use Rattle.future_table.specs.Values.{Told}
use Rattle.future_table.specs.Values as values
use Rattle.wait_need.specs.declared.kinds.Need.{Need}
use Rattle.wait_need.specs.declared.kinds.Need.TheVariants as needs

pub data NeedShape : Type 0 where
  -- it is no future
  Ready : NeedShape
  -- the value of this future is to be unpacked in its place
  Fill : (future : FutureShape) → NeedShape
  -- there is no value before this future is filled
  Awaits : (future : FutureShape) → NeedShape

-- by where the walk from a future ends
abbrev pub need_by : Chase → NeedShape
need_by (Value f value) = Fill f
need_by (Unfilled f) = Awaits f
need_by (Cycle f) = Awaits f

-- what a cell needs, by the chases of futures
abbrev pub need_of : (FutureShape → Chase) → CellShape → NeedShape
need_of chases (store.Future f) = need_by (chases f)
need_of chases c = Ready

-- the same of a chase without its value
abbrev pub need_told : Told → NeedShape
need_told (values.Value f) = Fill f
need_told (values.Unfilled f) = Awaits f
need_told (values.Cycle f) = Awaits f

abbrev pub need_shape : Need → NeedShape
need_shape needs.Ready = Ready
need_shape (needs.Fill f) = Fill (future_shape f.now)
need_shape (needs.Awaits f) = Awaits (future_shape f.now)
