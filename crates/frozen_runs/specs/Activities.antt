-- What is frozen of an activity.
use denote.Ref.{Bor}
use Rattle.std.specs.Prelude.{List}
use Rattle.asp_model.specs.declared.outcome.Line.{Line}
use Rattle.asp_model.specs.declared.outcome.Reception.{Reception}
use Rattle.asp_model.specs.Names.{Name}
use Rattle.asp_model.specs.Configuration.{Activity, ReceptionShape, RequestShape}
use Rattle.asp_model.specs.Shapes.{line_shape, reception_shape}
use Rattle.law_frozen.specs.Frozen.{FrozenActivity}
use Rattle.law_frozen.specs.Pending.{waiting}
use Rattle.law_services.specs.Correct.{bare}
use Rattle.request_queue.specs.declared.request.Request.{Request}
use Rattle.request_queue.specs.Requests.{request_shape}
use Rattle.checkpoint_text.specs.Items.{Items, output_items, reception_items, request_items}

-- an activity of this name, with this log, which received these requests
abbrev pub frozen_by : Name → Activity → List ReceptionShape → List RequestShape → FrozenActivity
frozen_by n a log rs = record { name = n; activity = bare a; log = log; queue = waiting a.served rs }

-- the items of a line of output, of an entry of a log, and of a request that is lent
abbrev pub line_piece : Line → Items
line_piece l = output_items (line_shape l)

abbrev pub reception_piece : Reception → Items
reception_piece r = reception_items (reception_shape r)

abbrev pub request_piece : Bor Request → Items
request_piece r = request_items (request_shape r.now)
