-- Writing a checkpoint, and reading it.
use Rattle.std.specs.Prelude.{◌≡◌, ◌==◌, not, true}
use Rattle.std.specs.List.{list_all}
use Rattle.asp_model.specs.Names.{Text}
use Rattle.law_frozen.specs.Frozen.{FrozenShape}
use Rattle.checkpoint_text.specs.Lines.{checkpoint_text}
use Rattle.checkpoint_text.specs.Reading.{Reads, read_checkpoint}
use Rattle.checkpoint_text.specs.Writable.{IsWritable}

-- it has no line feed
abbrev pub IsLine : Text → Type 0
IsLine t = list_all (λ b. not (b == 10)) t ≡ true

-- what can stand in a checkpoint is read as it was written
abbrev pub CheckpointsAreRead : Type 0
CheckpointsAreRead = (program : Text) (f : FrozenShape) → IsLine program → IsWritable f
    → read_checkpoint program (checkpoint_text program f) ≡ Reads f

-- and what is read was written so: it can stand in a checkpoint, and has no other text
abbrev pub ReadsAreWritten : Type 0
ReadsAreWritten = (program t : Text) (f : FrozenShape) → read_checkpoint program t ≡ Reads f
    → (t ≡ checkpoint_text program f) × IsWritable f
