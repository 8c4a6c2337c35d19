-- What the runs of programs that were read and checked keep, and what they never come to.
use Rattle.std.specs.Prelude.{◌≡◌, ◌≢◌, ℕ, List, []}
use Rattle.asp_model.specs.Names.{Name}
use Rattle.asp_model.specs.Marked.{Marked, plain}
use Rattle.asp_model.specs.Readable.{IsReadable}
use Rattle.asp_model.specs.Split.{Context, Redex, Stands, Splits, split}
use Rattle.asp_model.specs.Store.{Store}
use Rattle.asp_model.specs.Contraction.{Needs, Breaks, contract}
use Rattle.asp_model.specs.Chase.{chase}
use Rattle.asp_model.specs.Configuration.{Activity, Configuration, start}
use Rattle.asp_model.specs.Intent.{Done, Reads, redex_ready}
use Rattle.asp_model.specs.Status.{status_of}
use Rattle.asp_check.specs.Faults.{IsChecked}
use Rattle.law_steps.specs.Reached.{Move, Makes, IsReached, IsAt}
use Rattle.law_steps.specs.Closed.{IsClosed}
use Rattle.law_programs.specs.Proper.{IsProper, IsProperThroughout}

-- it was read, and checked
pub record IsSoundProgram (program : Marked) : Type 0 where
  pub readable : IsReadable (plain program)
  pub checked : IsChecked program

-- such a program is a proper term
abbrev pub ProgramsAreProper : Type 0
ProgramsAreProper = (program : Marked) → IsSoundProgram program → IsProper [] (plain program)

-- closed in every sense: no place lies past the end of its store, and all terms, objects and parcels are proper
pub record IsWhole (c : Configuration) : Type 0 where
  pub places : IsClosed c
  pub terms : IsProperThroughout c

-- The start of such a program is so, and each move keeps it

abbrev pub StartIsWhole : Type 0
StartIsWhole = (program : Marked) → IsSoundProgram program → IsWhole (start (plain program))

abbrev pub MovesKeepWhole : Type 0
MovesKeepWhole = (move : Move) (c d : Configuration) → IsWhole c → Makes move c d → IsWhole d

abbrev pub ReachedAreWhole : Type 0
ReachedAreWhole = (program : Marked) (c : Configuration)
    → IsSoundProgram program → IsReached (plain program) c → IsWhole c

-- What follows from it

-- its term is a location, and no service is suspended
pub record HasEnded (a : Activity) : Type 0 where
  pub place : ℕ
  pub stands : split a.term ≡ Stands place
  pub services : a.services ≡ []

pub record NeverBreaks (c : Configuration) : Type 0 where
  -- no redex is broken, in whatever store
  pub broken : (n : Name) (a : Activity) (contexts : List Context) (redex : Redex) (s : Store)
      → IsAt c n a → split a.term ≡ Splits contexts redex → contract s redex ≢ Breaks
  -- where the strict operands of a redex are unpacked, its contraction asks for none of them
  pub asks : (n : Name) (a : Activity) (contexts : List Context) (redex : Redex) (s : Store) (place : ℕ)
      → IsAt c n a → split a.term ≡ Splits contexts redex
      → redex_ready (chase c.futures) a.store redex ≡ Reads s → contract s redex ≢ Needs place
  -- so who is done has ended
  pub done : (n : Name) (a : Activity) → IsAt c n a → status_of c n ≡ Done → HasEnded a

abbrev pub WholeNeverBreak : Type 0
WholeNeverBreak = (c : Configuration) → IsWhole c → NeverBreaks c

-- what a program that was read and checked reaches never breaks
abbrev pub ReachedNeverBreak : Type 0
ReachedNeverBreak = (program : Marked) (c : Configuration)
    → IsSoundProgram program → IsReached (plain program) c → NeverBreaks c
