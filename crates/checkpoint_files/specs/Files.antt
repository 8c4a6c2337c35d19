-- Whole checkpoints.
use denote.Ref.{Bor}
use Rattle.std.specs.Prelude.{◌≡◌, ℕ, ◌==◌, Bool, false, length, List, [], ◌∷◌, Result, Ok, Err, map}
use Rattle.asp_model.specs.Names.{Text}
use Rattle.law_frozen.specs.Frozen.{FrozenActivity}
use Rattle.checkpoint_text.specs.Reading.{CheckpointReading, Reads, OtherProgram, Malformed}
use Rattle.checkpoint_items.specs.declared.error.ReadError.{ReadError}
use Rattle.checkpoint_items.specs.declared.error.ReadError.TheVariants as errors
use Rattle.checkpoint_parts.specs.declared.parts.ActivityText.{ActivityText}
use Rattle.checkpoint_parts.specs.declared.parts.CheckpointText.{CheckpointText}
use Rattle.checkpoint_parts.specs.Shapes.{activity_shape, checkpoint_shape}

-- the bytes of lines
abbrev pub texts : List (Bor (List ℕ)) → List Text
texts = map (λ l. l.now)

-- the text is none, or one of another program, where the error says so
abbrev pub TellsWhy : CheckpointReading → ReadError → Type 0
TellsWhy r errors.OtherProgram = r ≡ OtherProgram
TellsWhy r errors.Malformed = r ≡ Malformed
TellsWhy r errors.NotText = Unit {0}
TellsWhy r errors.Memory = Unit {0}

-- what a text says, or why it says nothing
abbrev pub Tells : CheckpointReading → Result CheckpointText ReadError → Type 0
Tells r (Ok f) = r ≡ Reads (checkpoint_shape f)
Tells r (Err e) = TellsWhy r e

abbrev pub activity_shapes : List ActivityText → List FrozenActivity
activity_shapes = map activity_shape

-- there is one line, which is empty
abbrev pub ends : List Text → Bool
ends [] = false
ends (l ∷ []) = length l == 0
ends (l ∷ k ∷ ks) = false
