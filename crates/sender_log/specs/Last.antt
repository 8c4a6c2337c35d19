-- The last entry of a log that is read, and the word that it was read from.
use Rattle.std.specs.Prelude.{◌≡◌, ◌-◌, Bool, List, Option, length}
use Rattle.std.specs.List.{slice_get}
use Rattle.std.specs.Option.{option_map}
use Rattle.asp_model.specs.declared.outcome.Reception.{Reception}
use Rattle.asp_model.specs.Names.{Text}
use Rattle.asp_model.specs.Configuration.{ReceptionShape}
use Rattle.asp_model.specs.ReportLines.{reception_in}
use Rattle.asp_model.specs.Shapes.{reception_shape}

-- the last entry, where there is one
abbrev pub last_read : List Reception → Option ReceptionShape
last_read log = option_map reception_shape (slice_get log (length log - 1))

-- this word is read as the last entry, and as nothing where there is none
abbrev pub IsLast : Bool → List Reception → Text → Type 0
IsLast polls log word = last_read log ≡ reception_in polls word
