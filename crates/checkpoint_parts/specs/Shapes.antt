-- What definitions see of activities and checkpoints that were read.
use Rattle.std.specs.Prelude.{ℕ, List, [], ◌∷◌, Option, Some, None, map}
use Rattle.std.specs.Option.{option_map}
use Rattle.asp_model.specs.Configuration.{ReceptionShape, RequestShape, ServiceShape}
use Rattle.asp_model.specs.Contraction.{LineShape}
use Rattle.asp_model.specs.Names.{FutureShape}
use Rattle.asp_model.specs.Shapes.{future_shape, line_shape, reception_shape, tree_of}
use Rattle.asp_model.specs.Split.{Context}
use Rattle.asp_model.specs.Store.{CellShape}
use Rattle.asp_model.specs.Term.{Hole, Tree, none, leaf}
use Rattle.law_frozen.specs.Frozen.{FrozenActivity, FrozenShape}
use Rattle.checkpoint_items.specs.Lines.{home_shape}
use Rattle.checkpoint_parts.specs.declared.parts.ActivityText.{ActivityText}
use Rattle.checkpoint_parts.specs.declared.parts.CheckpointText.{CheckpointText}
use Rattle.checkpoint_parts.specs.declared.parts.PartsText.{PartsText}
use Rattle.checkpoint_parts.specs.declared.parts.ServiceText.{ServiceText}
use Rattle.checkpoint_parts.specs.declared.parts.StateText.{StateText}
use Rattle.checkpoint_parts.specs.declared.parts.WorkText.{WorkText}
use Rattle.checkpoint_text.specs.Reading.{running_of, waiting_of}
use Rattle.checkpoint_reading.specs.Cells.{cell_shape, request_shape, value_shape}

-- Terms that run and wait

abbrev pub or_hole : Option Tree → Tree
or_hole None = leaf Hole
or_hole (Some t) = t

-- the term that these make: a place alone, or a redex in the contexts behind it
abbrev pub running_shape : List Tree → Tree
running_shape ts = or_hole (running_of ts)

-- no hole of it is reduced in place, so it is no context
abbrev pub no_context : Context
no_context = record { head = Hole; before = []; behind = none }

abbrev pub or_none : Option (List Context) → List Context
or_none None = no_context ∷ []
or_none (Some cs) = cs

-- the contexts that these make behind the first, which is the hole of a `serve`
abbrev pub contexts_shape : List Tree → List Context
contexts_shape ts = or_none (waiting_of ts)

-- Activities

abbrev pub service_shape : ServiceText → ServiceShape
service_shape s = record {
  contexts = contexts_shape (map tree_of s.terms.items);
  future = option_map future_shape s.future;
}

abbrev pub state_shape : StateText → Tree × (List CellShape × ℕ)
state_shape s = (running_shape (map tree_of s.terms.items), (map cell_shape s.store.items, s.active))

abbrev pub work_shape : WorkText → Option FutureShape × (List ServiceShape × (Tree × (List CellShape × ℕ)))
work_shape w = (option_map future_shape w.present, (map service_shape w.services.items, state_shape w.state))

abbrev pub parts_shape : PartsText → List LineShape × (List ReceptionShape × (List RequestShape
    × (Option FutureShape × (List ServiceShape × (Tree × (List CellShape × ℕ))))))
parts_shape p = (
  map line_shape p.lines.items,
  (map reception_shape p.log.items, (map request_shape p.queue.items, work_shape p.work)),
)

abbrev pub activity_shape : ActivityText → FrozenActivity
activity_shape a = record {
  name = a.name;
  activity = record {
    term = running_shape (map tree_of a.parts.work.state.terms.items);
    services = map service_shape a.parts.work.services.items;
    present = option_map future_shape a.parts.work.present;
    store = map cell_shape a.parts.work.state.store.items;
    active = a.parts.work.state.active;
    sends = a.sends;
    creations = a.creations;
    reductions = a.reductions;
    lines = map line_shape a.parts.lines.items;
    served = [];
  };
  log = map reception_shape a.parts.log.items;
  queue = map request_shape a.parts.queue.items;
}

abbrev pub checkpoint_shape : CheckpointText → FrozenShape
checkpoint_shape f = record {
  homes = map home_shape f.homes.items;
  filled = map value_shape f.values.items;
  activities = map activity_shape f.activities.items;
}
