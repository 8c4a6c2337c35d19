-- What a listener was told in a round.
use Rattle.std.specs.Prelude.{ℕ, Bool, true, false, List, ◌++◌, Option, Some, None}
use Rattle.asp_model.specs.Configuration.{Configuration}
use Rattle.replay_parts.specs.declared.bounds.Bounds.{Bounds}
use Rattle.replay_one.specs.declared.round.Round.{Round}
use Rattle.replay_one.specs.declared.round.Round.TheVariants as round
use Rattle.replay_parts.specs.Bounds.{count_within, lists_within}
use Rattle.replay_parts.specs.Notes.{NoteShape, notes_from}

-- what so many steps of the run note
abbrev pub notes_by : Bounds → ℕ → Configuration → List NoteShape
notes_by b k c = notes_from k (lists_within b) (count_within b) c

-- of one step, if it was taken
abbrev pub AreToldIf : (List NoteShape → Type 0) → List NoteShape → Bounds → Configuration → Bool → Type 0
AreToldIf tells xs b c true = tells (xs ++ notes_by b 1 c)
AreToldIf tells xs b c false = tells xs

-- of as many as were taken
abbrev pub AreToldInRound : (List NoteShape → Type 0) → List NoteShape → Bounds → Configuration → Round → Type 0
AreToldInRound tells xs b c (round.Steps k) = tells (xs ++ notes_by b k c)
AreToldInRound tells xs b c t = tells xs

abbrev pub AreToldInStep : (List NoteShape → Type 0) → List NoteShape → Bounds → Configuration → Option ℕ → Type 0
AreToldInStep tells xs b c (Some k) = tells (xs ++ notes_by b k c)
AreToldInStep tells xs b c None = tells xs
