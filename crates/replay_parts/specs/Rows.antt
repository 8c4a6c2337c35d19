-- The rows of lists and counts.
use Rattle.std.specs.Prelude.{ℕ, List, map}
use Rattle.std.specs.Global.{Vec}
use Rattle.asp_model.specs.declared.outcome.Reception.{Reception}
use Rattle.asp_model.specs.Configuration.{ReceptionShape}
use Rattle.asp_model.specs.Names.{Name}
use Rattle.asp_model.specs.Shapes.{reception_shape}
use Rattle.law_schedules.specs.Divergence.{Row}

abbrev pub list_shape : Name × Vec Reception → Name × List ReceptionShape
list_shape x = (x.0, map reception_shape x.1.items)

-- the row of a list and a count
abbrev pub given_row : Name × Vec Reception → ℕ → Row
given_row x count = record { name = x.0; count = count; senders = map reception_shape x.1.items }
