use Rattle.std.proofs.Common.{◌≡◌, ◌++◌, length}
use Rattle.core_thaws.specs.Seating.{AreSeated}
use Rattle.core_thaws.proofs.states.seat_all.Given as goal

abbrev pub invariant-loop-name : goal.invariant-loop-name
invariant-loop-name l =
    AreSeated l.fn.state.futures l.fn.state.left (length l.fn.activities.items) l.yielded l.state
    × (l.yielded ++ l.name-iterator.rest.items ≡ l.fn.activities.items)
