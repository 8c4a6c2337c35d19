-- What is too large to be drawn.
use Rattle.std.proofs.Common.{◌≤◌, ℕ, arith, inl, inr}
use Rattle.explain.specs.Large.{AreMany}

-- with more lines there are too many the more
pub still_many : (drawn lanes events : ℕ) → drawn ≤ lanes → AreMany drawn events → AreMany lanes events
still_many drawn lanes events h (inl more) = inl (omega (arith, h, more))
still_many drawn lanes events h (inr more) = inr more
