use Rattle.std.proofs.Common.{◌≡◌, ◌-◌, ◌+◌, ℕ, Option, length}
use Rattle.asp_model.specs.Names.{Text}
use Rattle.replay_one.specs.declared.schedule.Schedule.{Schedule}
use Rattle.replay_one.specs.Schedule.{asks_at, sends_at}
use Rattle.replay_one.proofs.schedule.Schedule.reach.Given as goal

abbrev pub invariant-loop-self : goal.invariant-loop-self
invariant-loop-self l =
    let s : Schedule = l.initial.self in
    let t : Schedule = l.self in
    (t ≡ record s { watches = t.watches })
    × ((j : ℕ) (x : Text) → asks_at t.watches.items j x ≡ asks_at s.watches.items j x)
    × ((j : ℕ) (o : Option ℕ) → sends_at t.watches.items j o ≡ sends_at s.watches.items j o)

abbrev pub decreases-loop-self : goal.decreases-loop-self
decreases-loop-self l = l.place + 1 - length l.self.watches.items
