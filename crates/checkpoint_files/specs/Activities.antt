-- The parts of an activity's line.
use Rattle.std.specs.Prelude.{ℕ, List, Option}
use Rattle.asp_model.specs.Configuration.{ReceptionShape, RequestShape, ServiceShape}
use Rattle.asp_model.specs.Contraction.{LineShape}
use Rattle.asp_model.specs.Names.{FutureShape}
use Rattle.asp_model.specs.Store.{CellShape}
use Rattle.asp_model.specs.Term.{Tree}
use Rattle.checkpoint_text.specs.Reading.{Reader, both, cell, future, list_of, option_of, output, place, reception, request, running, service}

-- the term, the store, and the active object
abbrev pub state_in : Reader (Tree × (List CellShape × ℕ))
state_in = both running (both (list_of cell) place)

-- behind the queue
abbrev pub work_in : Reader (Option FutureShape × (List ServiceShape × (Tree × (List CellShape × ℕ))))
work_in = both (option_of future) (both (list_of service) state_in)

-- behind the counts
abbrev pub parts_in : Reader (List LineShape × (List ReceptionShape × (List RequestShape
    × (Option FutureShape × (List ServiceShape × (Tree × (List CellShape × ℕ)))))))
parts_in = both (list_of output) (both (list_of reception) (both (list_of request) work_in))
