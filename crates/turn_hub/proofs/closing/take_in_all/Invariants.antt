use Rattle.std.proofs.Common.{◌≡◌, ◌+◌, All, sum_by, length}
use Rattle.turn_hub.specs.Seats.{AllKnown, IsAt, IsFree, IsIdle, Knows}
use Rattle.turn_hub.proofs.closing.take_in_all.Given as goal

-- the seats that are left are of this table and free, no part is lost, and what the place knows with them is what all know
abbrev pub invariant-loop-seat : goal.invariant-loop-seat
invariant-loop-seat g l =
    (l.place.table_id ≡ l.top.table_id) × IsIdle l.place.me
    × All (λ s. IsAt l.top.table_id l.top.key s × IsFree s) l.rest.items
    × (length l.place.me.0.numbers + sum_by (λ s. s.parts) l.rest.items ≡ length l.fn.place.me.0.numbers + sum_by (λ s. s.parts) l.fn.seats.items)
    × ((h : g.row.H.Denot) → Knows g.H.Lends.history g.H.Lends.out h l.place.me.0 → AllKnown g.H.Lends.history h l.rest.items
    → Knows g.H.Lends.history g.H.Lends.out h l.fn.place.me.0 × AllKnown g.H.Lends.history h l.fn.seats.items)

abbrev pub decreases-loop-seat : goal.decreases-loop-seat
decreases-loop-seat g l = goal.left-loop-seat g l
