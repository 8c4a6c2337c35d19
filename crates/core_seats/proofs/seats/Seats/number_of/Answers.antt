use Rattle.std.proofs.Common.{sym}
use Rattle.core_seats.specs.Seats.{names_in}
use Rattle.core_seats.proofs.SeatLemmas.{absent_new, found_at}
use Rattle.core_seats.proofs.seats.Seats.number_of.Goals as goal

pub returns-in-Some-clause-found : goal.returns-in-Some-clause-found
returns-in-Some-clause-found g c = found_at (names_in c.args.self.now) c.args.name.now c.in-Some.number (sym c.in-Some.ensures.index)

pub returns-in-None-clause-found : goal.returns-in-None-clause-found
returns-in-None-clause-found g c = absent_new (names_in c.args.self.now) c.args.name.now (sym c.in-None.ensures.found)
