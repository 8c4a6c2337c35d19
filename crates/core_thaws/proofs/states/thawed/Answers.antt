use Rattle.std.proofs.Common.{◌≡◌, arith, length, refl}
use Rattle.core_thaws.proofs.SeatLemmas.{goes_on, may_seat, none_seated, seated_with}
use Rattle.core_thaws.proofs.states.thawed.Goals as goal

pub seat_all-requires-clause-may : goal.seat_all-requires-clause-may
seat_all-requires-clause-may c = may_seat c.args.futures c.args.budget c.len-most.result c.args.activities.items c.in-Ok.state c.in-Ok.ensures.empty c.requires.may

pub seat_all-requires-clause-none : goal.seat_all-requires-clause-none
seat_all-requires-clause-none c =
    let same : c.len-most.result ≡ length c.args.activities.items = omega (arith, c.args.activities.ok, c.len-most.ensures) in
    none_seated c.args.futures c.args.budget c.len-most.result c.args.activities.items c.in-Ok.state same c.in-Ok.ensures.empty

pub returns-in-Ok-seat_all : goal.returns-in-Ok-seat_all
returns-in-Ok-seat_all c = record {
  core = λ code program x may.
      goes_on code program x c.args.budget (length c.args.activities.items) c.args.activities.items c.args.futures may c.seat_all.new.state
      (seated_with c.args.futures c.args.budget c.len-most.result c.args.activities.items c.in-Ok.state c.seat_all.new.state c.in-Ok.ensures.empty c.in-Ok-seat_all.ensures.seated) refl;
}
