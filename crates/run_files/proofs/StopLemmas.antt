-- Why no run goes on from a file.
use Rattle.std.specs.Prelude.{◌≡◌, ℕ}
use Rattle.std.proofs.Common.{inl, inr}
use Rattle.asp_model.specs.Marked.{Marked}
use Rattle.asp_model.specs.Names.{Text}
use Rattle.law_frozen.specs.Frozen.{FrozenShape}
use Rattle.checkpoint_text.specs.Reading.{Reads, read_checkpoint}
use Rattle.checkpoint_items.specs.declared.error.ReadError.{ReadError}
use Rattle.checkpoint_items.specs.declared.error.ReadError.TheVariants as errors
use Rattle.checkpoint_files.specs.Files.{TellsWhy}
use Rattle.law_program_files.specs.Programs.{printed}
use Rattle.run_files.specs.declared.stop.FileStop.{FileStop}
use Rattle.run_files.specs.declared.stop.FileStop.TheVariants as stops
use Rattle.run_files.specs.Stops.{stop_of}
use Rattle.run_files.specs.Files.{StopsFile, StopsFrozen}

-- the bytes are not read
pub unread : (program : Marked) (bytes : Text) (budget : ℕ) (e : ReadError)
    → TellsWhy (read_checkpoint (printed program) bytes) e → StopsFile program bytes budget (stop_of e)
unread program bytes budget errors.OtherProgram is = is
unread program bytes budget errors.Malformed is = inl is
unread program bytes budget errors.NotText is = tt
unread program bytes budget errors.Memory is = tt

-- they are read, and refused
pub refused : (program : Marked) (bytes : Text) (budget : ℕ) (f : FrozenShape) (e : FileStop)
    → read_checkpoint (printed program) bytes ≡ Reads f → StopsFrozen f budget e → StopsFile program bytes budget e
refused program bytes budget f stops.OtherProgram reads is = absurd is
refused program bytes budget f stops.Malformed reads is = inr (f, reads, is)
refused program bytes budget f stops.TooMany reads is = (f, record { reads = reads; usable = is.0 }, is.1)
refused program bytes budget f stops.Memory reads is = tt
