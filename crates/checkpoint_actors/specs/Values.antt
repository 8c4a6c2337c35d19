-- The values of futures, before the code is whole and by it.
use Rattle.std.specs.Prelude.{◌≡◌, List, length, map}
use Rattle.std.specs.FinMap.{put}
use Rattle.asp_model.specs.declared.name.FutureName.{FutureName}
use Rattle.asp_model.specs.Chase.{Values}
use Rattle.asp_model.specs.Names.{FutureShape, future_cmp}
use Rattle.asp_model.specs.Parcel.{ParcelShape}
use Rattle.code_compiler.specs.Compiled.{Grows}
use Rattle.code_table.specs.Cells.{held_future}
use Rattle.code_table.specs.declared.cells.Parcel.{Parcel}
use Rattle.code_table.specs.declared.code.Node.{Node}
use Rattle.future_table.specs.Values.{AreOfCode, values_of}
use Rattle.law_programs.specs.Proper.{IsProperCell}
use Rattle.law_steps.specs.Linked.{Each}
use Rattle.checkpoint_makes.specs.Later.{Later}
use Rattle.checkpoint_makes.specs.Parcels.{parcel_by}
use Rattle.checkpoint_actors.specs.declared.values.MadeValue.{MadeValue}

-- its cells are proper
abbrev pub IsProperValue : FutureShape × ParcelShape → Type 0
IsProperValue v = Each IsProperCell v.1.cells

-- a future with its value, by this code
abbrev pub value_by : List Node → MadeValue → FutureShape × ParcelShape
value_by k v = (held_future v.future, parcel_by k v.value)

abbrev pub HasOneRoot : MadeValue → Type 0
HasOneRoot v = length v.value.roots.items ≡ 1

pub record IsMadeValue (ns ms : List Node) (m : MadeValue) (v : FutureShape × ParcelShape) : Type 0 where
  pub grows : Grows ns ms
  pub made : Later ms (λ k. value_by k m ≡ v)

pub record AreMadeValues (ns ms : List Node) (all : List MadeValue) (vs : Values) : Type 0 where
  pub grows : Grows ns ms
  pub made : Later ms (λ k. map (value_by k) all ≡ vs)

-- a table got one more value, of this code
pub record IsFilledBy (k : List Node) (m : MadeValue) (old new : List (FutureName × Parcel)) : Type 0 where
  pub values : values_of new ≡ put future_cmp (value_by k m).0 (value_by k m).1 (values_of old)
  pub coded : AreOfCode k old → AreOfCode k new
