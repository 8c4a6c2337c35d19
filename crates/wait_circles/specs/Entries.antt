-- Entries and names that are lent.
use Rattle.std.specs.Prelude.{Option, option_map}
use Rattle.std.specs.Borrow.{Bor}
use Rattle.asp_model.specs.Names.{Name}
use Rattle.asp_model.specs.Configuration.{ReceptionShape}
use Rattle.asp_model.specs.Shapes.{reception_shape}
use Rattle.asp_model.specs.declared.outcome.Reception.{Reception}

-- the entry that is lent
abbrev pub entry_lent : Option (Bor Reception) → Option ReceptionShape
entry_lent o = option_map (λ x. reception_shape x.now) o

-- the name that is lent
abbrev pub name_lent : Option (Bor Name) → Option Name
name_lent o = option_map (λ x. x.now) o
