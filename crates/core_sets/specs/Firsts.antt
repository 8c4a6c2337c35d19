-- The first number from a number on that passes a test.
use Rattle.std.specs.Prelude.{◌≡◌, ℕ, ◌<◌, ◌≤◌, Bool, true, false, Option, Some, None}

abbrev pub IsFirstFrom : (ℕ → Bool) → ℕ → Option ℕ → Type 0
IsFirstFrom test start None = (n : ℕ) → start ≤ n → test n ≡ false
IsFirstFrom test start (Some m) = (start ≤ m) × (test m ≡ true) × ((n : ℕ) → start ≤ n → n < m → test n ≡ false)
