use Rattle.std.proofs.Common.{◌≡◌, ℕ}
use Rattle.race_desks.specs.Desks.{row_at}
use Rattle.race_desks.specs.Turns.{IsTurn}
use Rattle.race_desks.proofs.desk.Desk.deliver_owed.Given as goal

-- it is one turn so far, whoever's, and the rows stay
abbrev pub invariant-loop : goal.invariant-loop
invariant-loop g l = ((n : ℕ) → IsTurn g.P.UpdatePolicy.answer g.P.UpdatePolicy.asked n l.fn.self l.self) × ((n : ℕ) → row_at l.self n ≡ row_at l.fn.self n)
