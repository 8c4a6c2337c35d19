use Rattle.std.proofs.Common.{sym}
use Rattle.future_update.specs.Names.{names_in}
use Rattle.future_update.proofs.NameLemmas.{absent_new, found_at}
use Rattle.future_update.proofs.names.Names.find.Goals as goal

pub returns-in-Some : goal.returns-in-Some
returns-in-Some c = record { found = found_at (names_in c.args.self.now) c.args.name.now c.in-Some.number (sym c.in-Some.ensures.index) }

pub returns-in-None : goal.returns-in-None
returns-in-None c = record { found = absent_new (names_in c.args.self.now) c.args.name.now (sym c.in-None.ensures.found) }
