-- What every configuration has that the start of a program which was read leads to. Each move keeps it, so a later
-- run may begin from any configuration that has it.
use Rattle.std.specs.Prelude.{◌≡◌, false, List, [], Some}
use Rattle.asp_model.specs.Names.{Name}
use Rattle.asp_model.specs.Term.{Tree, locations}
use Rattle.asp_model.specs.Store.{cell}
use Rattle.asp_model.specs.Contraction.{is_future}
use Rattle.asp_model.specs.Configuration.{Activity, Configuration, start}
use Rattle.asp_model.specs.History.{EntryShape}
use Rattle.def_journals.specs.Journals.{RunShape, all_entered}
use Rattle.law_steps.specs.Reached.{Move, Makes, IsReached, IsAt}
use Rattle.law_steps.specs.Closed.{IsClosed}
use Rattle.law_steps.specs.Sound.{IsSound}

pub record IsWhole (c : Configuration) : Type 0 where
  pub sound : IsSound c
  pub closed : IsClosed c
  -- the active object is no future
  pub active : (n : Name) (a : Activity) → IsAt c n a → is_future (cell a.store a.active) ≡ false

-- a program that was read has no places
abbrev pub StartIsWhole : Type 0
StartIsWhole = (program : Tree) → locations program ≡ [] → IsWhole (start program)

abbrev pub MovesKeepWhole : Type 0
MovesKeepWhole = (move : Move) (c d : Configuration) → IsWhole c → Makes move c d → IsWhole d

abbrev pub ReachedAreWhole : Type 0
ReachedAreWhole = (program : Tree) (c : Configuration)
    → locations program ≡ [] → IsReached program c → IsWhole c

-- and so each entry of a journal, from any run on
abbrev pub EntriesKeepWhole : Type 0
EntriesKeepWhole = (entries : List EntryShape) (s t : RunShape) → all_entered entries s ≡ Some t
    → IsWhole s.configuration → IsWhole t.configuration
