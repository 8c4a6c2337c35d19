use Rattle.std.proofs.Common.{◌≡◌, ◌∙◌, ap, subst, length, arith, Option, ◌++◌}
use Rattle.atomic_table.specs.Table.{Me}
use Rattle.turn_hub.specs.declared.view.View.{View}
use Rattle.turn_hub.specs.Sharing.{carried, joined_view}
use Rattle.turn_hub.specs.Seats.{Knows}
use Rattle.turn_hub.proofs.NumberLemmas.{parts_length, length_both}
use Rattle.turn_hub.proofs.JoiningLemmas.{joins, tells_split}
use Rattle.turn_hub.proofs.closing.take_in.Goals as goal

pub join_seat-requires : goal.join_seat-requires
join_seat-requires g c =
    let words = c.requires.table.1.0 in
    let seat = c.args.seat in
    let parts : length seat.place.me.0.numbers ≡ seat.parts = parts_length seat.number seat.parts _ seat.some_part seat.numbered in
    let some_part = seat.some_part in
    let idle = c.requires.idle in
    let free = c.requires.seat.1 in (
      c.requires.table.0,
      c.requires.seat.0.0,
      seat.carries ∙ ap carried free.0,
      omega arith,
      joins g.H.Lends.history g.H.Lends.out g.H.Lends.keeps c.args.top.now.key.first.value c.args.top.now.key.seats _ _ _ _ idle.1 free.0 free.1 idle.3 (omega arith),
    )

pub returns-clause-parts : goal.returns-clause-parts
returns-clause-parts g c =
    let seat = c.args.seat in
    let parts : length seat.place.me.0.numbers ≡ seat.parts = parts_length seat.number seat.parts _ seat.some_part seat.numbered in
    let both = length_both c.args.place.now.me.0.numbers seat.place.me.0.numbers in
    let joined : length c.join_seat.new.seat.me.0.numbers ≡ length (c.args.place.now.me.0.numbers ++ seat.place.me.0.numbers) = ap (λ (m : Me (Option g.row.H.Denot) (View g.row.H.Denot)). length m.0.numbers) c.join_seat.ensures.2 in omega arith

pub returns-clause-knows : goal.returns-clause-knows
returns-clause-knows g c = λ h known.
    let history = g.H.Lends.history in
    let out = g.H.Lends.out in
    let V = View g.row.H.Denot in
    let old : V = c.args.place.now.me.0 in
    let other : V = c.args.seat.place.me.0 in
    let both : Knows history out h (joined_view old other) = subst (λ (m : Me (Option g.row.H.Denot) V). Knows history out h m.0) c.join_seat.ensures.2 known in
    let told = tells_split history out h old.told other.seen _ both.1 in ((both.0, told.0), told.1)
