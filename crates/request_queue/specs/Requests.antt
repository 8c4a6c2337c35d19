-- What contracts see of a request.
use denote.Ref.{Bor}
use Rattle.std.specs.Prelude.{ℕ, List, map}
use Rattle.asp_model.specs.Configuration.{RequestShape}
use Rattle.code_table.specs.Cells.{held_future}
use Rattle.code_table.specs.Shapes.{parcel_shape}
use Rattle.request_queue.specs.declared.request.Request.{Request}

abbrev pub request_shape : Request → RequestShape
request_shape r = record { label = r.label.text; sender = r.sender; future = held_future r.future; arguments = parcel_shape r.arguments }

-- requests that are lent
abbrev pub lent_shapes : List (Bor Request) → List RequestShape
lent_shapes = map (λ r. request_shape r.now)

-- requests without their numbers
abbrev pub shapes_of : List (ℕ × Request) → List RequestShape
shapes_of = map (λ e. request_shape e.1)
