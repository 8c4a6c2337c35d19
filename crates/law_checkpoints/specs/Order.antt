-- Names of activities in the order of creation.
use Rattle.std.specs.Prelude.{◌≡◌, ℕ, suc, List, [], ◌∷◌, ◌++◌, Some}
use Rattle.asp_model.specs.Names.{Name, main_name, created_name}
use Rattle.asp_model.specs.History.{EntryShape}
use Rattle.asp_model.specs.Step.{name_at}
use Rattle.def_journals.specs.Journals.{RunShape, all_entered}
use Rattle.law_steps.specs.Sound.{IsSound}

-- a name of one that one of these has created
abbrev pub IsCreatedBy : List Name → Name → Type 0
IsCreatedBy names n = (by : Name) × (k i : ℕ) × (name_at names i ≡ Some by) × (n ≡ created_name by (suc k))

-- each stands behind the one that has created it
abbrev pub AreBehind : (before names : List Name) → Type 0
AreBehind before [] = Unit {0}
AreBehind before (n ∷ names) = IsCreatedBy before n × AreBehind (before ++ n ∷ []) names

-- main is first, and each other one stands behind the one that has created it
abbrev pub AreInOrder : List Name → Type 0
AreInOrder [] = ⊥
AreInOrder (n ∷ names) = (n ≡ main_name) × AreBehind (n ∷ []) names

-- entries keep it, from any run on
abbrev pub EntriesKeepOrder : Type 0
EntriesKeepOrder = (entries : List EntryShape) (s t : RunShape) → all_entered entries s ≡ Some t
    → IsSound s.configuration → AreInOrder s.names → AreInOrder t.names
