-- Parcels and requests before the code is whole.
use Rattle.std.specs.Prelude.{◌≡◌, List, map}
use Rattle.asp_model.specs.Configuration.{RequestShape}
use Rattle.asp_model.specs.Parcel.{ParcelShape}
use Rattle.law_steps.specs.Linked.{Each}
use Rattle.law_programs.specs.Proper.{IsProperCell}
use Rattle.code_compiler.specs.Compiled.{Grows}
use Rattle.code_table.specs.Cells.{held_future}
use Rattle.code_table.specs.declared.code.Node.{Node}
use Rattle.code_table.specs.Shapes.{store_of}
use Rattle.checkpoint_makes.specs.declared.parcels.MadeParcel.{MadeParcel}
use Rattle.checkpoint_makes.specs.declared.parcels.MadeRequest.{MadeRequest}
use Rattle.checkpoint_makes.specs.Later.{Later}

-- by this code
abbrev pub parcel_by : List Node → MadeParcel → ParcelShape
parcel_by k p = record { cells = store_of k p.cells.items; roots = p.roots.items }

abbrev pub request_by : List Node → MadeRequest → RequestShape
request_by k r = record {
  label = r.label.text;
  sender = r.sender;
  future = held_future r.future;
  arguments = parcel_by k r.arguments;
}

pub record IsMadeParcel (ns ms : List Node) (p : MadeParcel) (is : ParcelShape) : Type 0 where
  pub grows : Grows ns ms
  pub made : Later ms (λ k. parcel_by k p ≡ is)

pub record IsMadeRequest (ns ms : List Node) (r : MadeRequest) (is : RequestShape) : Type 0 where
  pub grows : Grows ns ms
  pub made : Later ms (λ k. request_by k r ≡ is)

pub record AreMadeRequests (ns ms : List Node) (rs : List MadeRequest) (are : List RequestShape) : Type 0 where
  pub grows : Grows ns ms
  pub made : Later ms (λ k. map (request_by k) rs ≡ are)

-- the cells of its arguments are proper
abbrev pub IsProperRequest : RequestShape → Type 0
IsProperRequest r = Each IsProperCell r.arguments.cells
