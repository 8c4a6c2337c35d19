-- A run that goes on from what was frozen.
use Rattle.std.specs.Prelude.{◌≡◌, ℕ, List, Some}
use Rattle.asp_model.specs.Term.{Tree}
use Rattle.asp_model.specs.Configuration.{Configuration}
use Rattle.asp_model.specs.History.{EntryShape, FirstShape}
use Rattle.def_journals.specs.Journals.{RunShape, all_entered, run_from}
use Rattle.law_steps.specs.Reached.{IsReached}
use Rattle.law_journals.specs.Numbered.{IsFirst}
use Rattle.law_paths.specs.Whole.{IsWhole}
use Rattle.law_frozen.specs.Same.{SamePending}
use Rattle.law_frozen.specs.Frozen.{frozen_of, thawed, thawed_first}

-- where a run may begin, it may go on from what is thawed
abbrev pub ThawedAreFirst : Type 0
ThawedAreFirst = (x : FirstShape) → IsFirst x → IsFirst (thawed_first (frozen_of x.names x.configuration))

-- and it is whole, if that was
abbrev pub ThawedAreWhole : Type 0
ThawedAreWhole = (x : FirstShape) → IsFirst x → IsWhole x.configuration
    → IsWhole (thawed (frozen_of x.names x.configuration))

-- where a run went on that was frozen at a configuration of a program, it is led back: the program reaches a
-- configuration that differs from its end in what was served alone
abbrev pub RunsAreLedBack : Type 0
RunsAreLedBack = (program : Tree) (x : FirstShape) (budget : ℕ) (entries : List EntryShape) (t : RunShape)
    → IsReached program x.configuration → IsFirst x
    → all_entered entries (run_from (thawed_first (frozen_of x.names x.configuration)) budget) ≡ Some t
    → (c : Configuration) × IsReached program c × SamePending c t.configuration
