-- What a check answers, against a test.
use Rattle.std.specs.Prelude.{◌≡◌, ℕ, Bool, true, false, Option, Some, None, Result, Ok, Err}
use Rattle.proper_terms.specs.declared.refusal.Refusal.{Refusal}
use Rattle.proper_terms.specs.declared.refusal.Refusal.TheVariants.{Unsound, Memory}

-- the check lacks memory
abbrev pub IsMemory : Refusal → Type 0
IsMemory Unsound = ⊥
IsMemory (Memory e) = Unit {0}

-- the test fails, where the refusal says so
abbrev pub Refuses : Bool → Refusal → Type 0
Refuses b e = e ≡ Unsound → b ≡ false

-- it passes where the test does, and says that it fails where that fails
abbrev pub Tests : {X : Type 0} → Bool → Result X Refusal → Type 0
Tests b (Ok x) = b ≡ true
Tests b (Err e) = Refuses b e

-- nothing is left, where the refusal says so
abbrev pub LeavesNone : Option ℕ → Refusal → Type 0
LeavesNone o e = e ≡ Unsound → o ≡ None

-- so many holes are left
abbrev pub Leaves : {X : Type 0} → Option ℕ → ℕ → Result X Refusal → Type 0
Leaves o n (Ok x) = o ≡ Some n
Leaves o n (Err e) = LeavesNone o e
