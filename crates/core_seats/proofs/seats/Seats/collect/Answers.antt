use Rattle.std.proofs.Common.{◌+◌, ap}
use Rattle.core_seats.specs.Seats.{Out}
use Rattle.core_seats.proofs.SeatLemmas.{kept_set}
use Rattle.core_seats.proofs.seats.Seats.collect.Goals as goal

pub returns-clause-kept : goal.returns-clause-kept
returns-clause-kept g c = kept_set c.args.self.now c.swap.new.self c.args.number (Out c.in-Out.came.items) (Out c.new.result.items) c.swap.ensures.names c.swap.ensures.seats c.in-Out.ensures.was (ap (λ n. n + 1) c.swap.ensures.away) c.requires.kept
