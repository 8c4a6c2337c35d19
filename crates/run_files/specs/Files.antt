-- From which files runs go on, and why from others not.
use Rattle.std.specs.Prelude.{◌≡◌, ◌+◌, ◌≤◌, ◌<◌, ◌⊎◌, ℕ}
use Rattle.asp_model.specs.declared.limits.TheConstants.{MOST_REDUCTIONS}
use Rattle.asp_model.specs.Marked.{Marked}
use Rattle.asp_model.specs.Names.{Text}
use Rattle.law_journals.specs.Budgets.{spent_in}
use Rattle.law_frozen.specs.Frozen.{FrozenShape, thawed}
use Rattle.law_checkpoints.specs.Sound.{IsSoundFrozen}
use Rattle.checkpoint_text.specs.Reading.{Reads, OtherProgram, Malformed, read_checkpoint}
use Rattle.checkpoint_checks.specs.Within.{IsWithin}
use Rattle.law_program_files.specs.Programs.{printed}
use Rattle.run_files.specs.declared.stop.FileStop.{FileStop}
use Rattle.run_files.specs.declared.stop.FileStop.TheVariants as stops

-- a run can go on from it, and it is within the limits of a checkpoint
pub record IsUsable (f : FrozenShape) : Type 0 where
  pub sound : IsSoundFrozen f
  pub limits : IsWithin f

-- with so much more a run stays within the reductions that it may take
abbrev pub HasRoom : FrozenShape → ℕ → Type 0
HasRoom f budget = spent_in (thawed f) + budget ≤ MOST_REDUCTIONS

-- the bytes are a checkpoint of the program which keeps this, and a run can go on from it
pub record IsReadAs (program : Marked) (bytes : Text) (f : FrozenShape) : Type 0 where
  pub reads : read_checkpoint (printed program) bytes ≡ Reads f
  pub usable : IsUsable f

-- the bytes are no checkpoint, or one from which no run can go on
abbrev pub IsMalformedFile : Marked → Text → Type 0
IsMalformedFile program bytes =
    (read_checkpoint (printed program) bytes ≡ Malformed)
    ⊎ ((f : FrozenShape) × (read_checkpoint (printed program) bytes ≡ Reads f) × (IsUsable f → ⊥))

-- a run can go on from them, but not with so much more
abbrev pub IsOverspent : Marked → Text → ℕ → Type 0
IsOverspent program bytes budget =
    (f : FrozenShape) × IsReadAs program bytes f × (MOST_REDUCTIONS < spent_in (thawed f) + budget)

-- why no run goes on from what was read
abbrev pub StopsFrozen : FrozenShape → ℕ → FileStop → Type 0
StopsFrozen f budget stops.OtherProgram = ⊥
StopsFrozen f budget stops.Malformed = IsUsable f → ⊥
StopsFrozen f budget stops.TooMany = IsUsable f × (MOST_REDUCTIONS < spent_in (thawed f) + budget)
StopsFrozen f budget stops.Memory = Unit {0}

-- why no run of the program goes on from the bytes with this budget
abbrev pub StopsFile : Marked → Text → ℕ → FileStop → Type 0
StopsFile program bytes budget stops.OtherProgram = read_checkpoint (printed program) bytes ≡ OtherProgram
StopsFile program bytes budget stops.Malformed = IsMalformedFile program bytes
StopsFile program bytes budget stops.TooMany = IsOverspent program bytes budget
StopsFile program bytes budget stops.Memory = Unit {0}
