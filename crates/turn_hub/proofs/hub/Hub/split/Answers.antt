use Rattle.std.proofs.Common.{◌≡◌, ◌<◌, length, arith}
use Rattle.turn_hub.proofs.NumberLemmas.{parts_length}
use Rattle.turn_hub.proofs.SplittingLemmas.{splits}
use Rattle.turn_hub.proofs.hub.Hub.split.Goals as goal

pub split_seat-place-requires : goal.split_seat-place-requires
split_seat-place-requires g c =
    let seat = c.args.seat.now in
    let parts : length seat.place.me.0.numbers ≡ seat.parts = parts_length seat.number seat.parts _ seat.some_part seat.numbered in
    let some_part = seat.some_part in
    let more : 1 < seat.parts = let ne = c.if-seat-eq1.false in omega arith in
    let words = c.args.self.now.sized.0 in (
      c.requires.hub.0,
      omega arith,
      splits g.H.Lends.history g.H.Lends.out g.H.Lends.keeps _ _ _ _ c.requires.no_turn (omega arith),
    )
