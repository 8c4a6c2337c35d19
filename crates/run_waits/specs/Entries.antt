-- The logs by the numbers of their activities.
use Rattle.std.specs.Prelude.{List, map}
use Rattle.asp_model.specs.Names.{Name}
use Rattle.asp_model.specs.declared.outcome.Lists.{Lists}

-- the names of logs, in order
abbrev pub names_in : Lists → List Name
names_in lists = map (λ x. x.0) lists.entries.items
