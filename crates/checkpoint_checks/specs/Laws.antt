-- What the test of a checkpoint says.
use Rattle.std.specs.Prelude.{◌≡◌, true}
use Rattle.law_checkpoints.specs.Sound.{IsSoundFrozen}
use Rattle.checkpoint_parts.specs.declared.parts.CheckpointText.{CheckpointText}
use Rattle.checkpoint_parts.specs.Shapes.{checkpoint_shape}
use Rattle.checkpoint_checks.specs.Whole.{checkpoint_fits}

-- a checkpoint fits exactly where it is sound
abbrev pub FittingIsSound : Type 0
FittingIsSound = (file : CheckpointText)
    → (checkpoint_fits file ≡ true → IsSoundFrozen (checkpoint_shape file))
    × (IsSoundFrozen (checkpoint_shape file) → checkpoint_fits file ≡ true)
