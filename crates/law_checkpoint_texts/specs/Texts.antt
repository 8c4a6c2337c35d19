-- What is read of the text of a sound value, whatever its size.
use Rattle.std.specs.Prelude.{◌≡◌, ◌≢◌, []}
use Rattle.asp_model.specs.Names.{Text}
use Rattle.asp_model.specs.Marked.{Marked, plain}
use Rattle.asp_model.specs.History.{FirstShape}
use Rattle.law_steps.specs.Linked.{Each}
use Rattle.law_programs.specs.Programs.{IsSoundProgram}
use Rattle.law_frozen.specs.Frozen.{FrozenShape}
use Rattle.checkpoint_text.specs.Lines.{checkpoint_text}
use Rattle.checkpoint_text.specs.Reading.{Reads, OtherProgram, read_checkpoint}
use Rattle.checkpoint_text.specs.Writable.{IsWritable}
use Rattle.checkpoint_text.specs.Laws.{IsLine}
use Rattle.law_checkpoints.specs.Sound.{IsSoundFrozen}
use Rattle.law_checkpoints.specs.Saved.{IsSavedAt, frozen_at}

-- nothing of what was served is kept
abbrev pub IsBare : FrozenShape → Type 0
IsBare f = Each (λ x. x.activity.served ≡ []) f.activities

-- the text of a value, under the text of a program
pub record IsSure (printed : Text) (f : FrozenShape) : Type 0 where
  -- where it is read at all, it is read as that value
  pub same : (g : FrozenShape) → read_checkpoint printed (checkpoint_text printed f) ≡ Reads g → g ≡ f
  -- and the value can stand in a checkpoint
  pub fits : (g : FrozenShape) → read_checkpoint printed (checkpoint_text printed f) ≡ Reads g → IsWritable f
  -- it is never taken for that of another program
  pub own : read_checkpoint printed (checkpoint_text printed f) ≢ OtherProgram

-- so is the text of each sound value, however large its numbers, its lists and its terms
abbrev pub TextsAreSure : Type 0
TextsAreSure = (printed : Text) (f : FrozenShape) → IsLine printed → IsSoundFrozen f → IsBare f → IsSure printed f

-- and of what is frozen where a program is saved that was read and checked
abbrev pub SavedAreSure : Type 0
SavedAreSure = (printed : Text) (program : Marked) (x : FirstShape)
    → IsLine printed → IsSoundProgram program → IsSavedAt (plain program) x → IsSure printed (frozen_at x)
