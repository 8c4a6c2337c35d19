use Rattle.std.proofs.Common.{◌<◌, ◌-◌, ◌^◌, length, arith, refl, rules}
use Rattle.core_seats.specs.declared.seat.Seat.TheVariants as seat
use Rattle.core_seats.specs.declared.seats.Seats.{Seats}
use Rattle.core_seats.specs.Seats.{names_in}
use Rattle.core_seats.proofs.SeatLemmas.{added, kept_more}
use Rattle.core_seats.proofs.seats.Seats.add.Goals as goal

pub returns-clause-names : goal.returns-clause-names
returns-clause-names g c = added (names_in c.args.self.now) c.insert.new.self.keys c.args.name c.requires.new c.in_ok-insert.ensures.keys

pub returns-clause-kept : goal.returns-clause-kept
returns-clause-kept g c =
    let old = c.args.self.now in
    let few : length old.seats.items < 2 ^ 32 - 1 = first_of (
      omega (arith, c.if-number-ge-MOST_ACTIVITIES.false, c.len-number.ensures, old.seats.ok.0),
      grind (arith, c.if-number-ge-MOST_ACTIVITIES.false, c.len-number.ensures, old.seats.ok.0),
      search rules,
    ) in
    let new : Seats g.row.X.Denot g.row.R.Denot = record { alloc = old.alloc; names = c.insert.new.self; seats = c.push.new.self; away = old.away } in
    kept_more old new c.args.name (seat.In c.args.here) refl
    (added (names_in old) c.insert.new.self.keys c.args.name c.requires.new c.in_ok-insert.ensures.keys) c.in_ok-push.ensures.items refl few c.requires.kept
