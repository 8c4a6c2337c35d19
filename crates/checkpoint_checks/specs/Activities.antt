-- Tests of activities.
use Rattle.std.specs.Prelude.{ℕ, ◌&&◌, not, nat_lt, Bool, true, false}
use Rattle.std.specs.Prelude.{List, [], ◌∷◌, Option, Some, None, is_some, length, map}
use Rattle.std.specs.List.{list_all}
use Rattle.std.specs.Option.{option_map}
use Rattle.asp_model.specs.Names.{Name, FutureShape}
use Rattle.asp_model.specs.Shapes.{future_shape, tree_of}
use Rattle.asp_model.specs.Store.{CellShape, Object, cell}
use Rattle.asp_model.specs.Term.{Tree}
use Rattle.checkpoint_reading.specs.Cells.{cell_shape, request_shape}
use Rattle.checkpoint_files.specs.Running.{is_running, is_waiting}
use Rattle.checkpoint_parts.specs.declared.parts.ActivityText.{ActivityText}
use Rattle.checkpoint_parts.specs.declared.parts.ServiceText.{ServiceText}
use Rattle.checkpoint_parts.specs.declared.parts.StateText.{StateText}
use Rattle.checkpoint_parts.specs.declared.parts.WorkText.{WorkText}
use Rattle.proper_terms.specs.Fits.{fits}
use Rattle.checkpoint_checks.specs.Maps.{Activities, Homes}
use Rattle.checkpoint_checks.specs.Cells.{cells_fit, is_at, request_fits}

-- the first has no hole, and each other one
abbrev pub inner_fits : ℕ → List Tree → Bool
inner_fits k [] = false
inner_fits k (t ∷ ts) = fits k 0 t && list_all (fits k 1) ts

-- each behind the first has one
abbrev pub outer_fit : ℕ → List Tree → Bool
outer_fit k [] = false
outer_fit k (t ∷ ts) = list_all (fits k 1) ts

-- a place alone, or a redex and the contexts round it
abbrev pub run_fits : ℕ → List Tree → Bool
run_fits k ts = is_running ts && inner_fits k ts

-- a hole, and the contexts round it
abbrev pub wait_fits : ℕ → List Tree → Bool
wait_fits k ts = is_waiting ts && outer_fit k ts

abbrev pub service_fits : ℕ → ServiceText → Bool
service_fits k s = wait_fits k (map tree_of s.terms.items)

abbrev pub is_object : CellShape → Bool
is_object (Object fields methods) = true
is_object c = false

-- the cell at a place, which is one of them, is an object
abbrev pub has_object : List CellShape → ℕ → Bool
has_object cs n = nat_lt n (length cs) && is_object (cell cs n)

-- what has to be answered here has its home here
abbrev pub answer_fits : Homes → Name → Option FutureShape → Bool
answer_fits homes n None = true
answer_fits homes n (Some g) = is_at n (homes g)

abbrev pub service_future : ServiceText → Option FutureShape
service_future s = option_map future_shape s.future

-- a future is present exactly where a term is suspended; the oldest has none to answer, each other has one
abbrev pub answers_fit : Option FutureShape → List (Option FutureShape) → Bool
answers_fit present [] = not (is_some present)
answers_fit present (o ∷ os) = is_some present && (not (is_some o) && list_all (λ g. is_some g) os)

abbrev pub state_fits : Activities → Homes → StateText → Bool
state_fits look homes s =
    let cells = map cell_shape s.store.items in
    run_fits (length cells) (map tree_of s.terms.items) && (cells_fit look homes cells && has_object cells s.active)

abbrev pub work_fits : Activities → Homes → Name → WorkText → Bool
work_fits look homes n w =
    let size = length (map cell_shape w.state.store.items) in
    let present = option_map future_shape w.present in
    let futures = map service_future w.services.items in
    state_fits look homes w.state
    && (list_all (service_fits size) w.services.items
    && (answer_fits homes n present && (list_all (answer_fits homes n) futures && answers_fit present futures)))

abbrev pub activity_fits : Activities → Homes → ActivityText → Bool
activity_fits look homes a =
    list_all (request_fits look homes a.name) (map request_shape a.parts.queue.items)
    && work_fits look homes a.name a.parts.work
