-- What could be entered in a log next.
use Rattle.std.specs.Prelude.{◌≡◌, ◌⊎◌, ◌<◌, ℕ, List, [], ◌∷◌, ◌++◌, Option, Some, None}
use Rattle.asp_model.specs.declared.outcome.Reception.{Reception}
use Rattle.asp_model.specs.Names.{Name}
use Rattle.asp_model.specs.Configuration.{Configuration, ReceptionShape}
use Rattle.asp_model.specs.Shapes.{reception_shape}
use Rattle.def_journals.specs.Journals.{number_of}
use Rattle.law_families.specs.Complete.{IntendsToLog}

-- it is this entry
abbrev pub IsEntry : ReceptionShape → Option Reception → Type 0
IsEntry entry None = ⊥
IsEntry entry (Some x) = reception_shape x ≡ entry

-- these, and one more if there is one
abbrev pub with_some : List Reception → Option Reception → List Reception
with_some xs None = xs
with_some xs (Some x) = xs ++ x ∷ []

-- it is among these
abbrev pub HasEntry : List Reception → ReceptionShape → Type 0
HasEntry [] entry = ⊥
HasEntry (x ∷ xs) entry = (reception_shape x ≡ entry) ⊎ HasEntry xs entry

-- whatever somebody intends to enter in the log of this activity is among these
abbrev pub HasNext : Configuration → Name → List Reception → Type 0
HasNext c q xs = (n : Name) (entry : ReceptionShape) → IntendsToLog c n q entry → HasEntry xs entry

-- so is whatever one of these first names intends to enter there
abbrev pub HasNextOf : List Name → Configuration → Name → ℕ → List Reception → Type 0
HasNextOf ns c q count xs = (n : Name) (k : ℕ) (entry : ReceptionShape) → number_of n ns ≡ Some k → k < count
    → IntendsToLog c n q entry → HasEntry xs entry
