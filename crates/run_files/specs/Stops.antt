-- Errors of what is called, as stops.
use Rattle.checkpoint_items.specs.declared.error.ReadError.{ReadError}
use Rattle.checkpoint_items.specs.declared.error.ReadError.TheVariants as errors
use Rattle.run_files.specs.declared.stop.FileStop.{FileStop}
use Rattle.run_files.specs.declared.stop.FileStop.TheVariants as stops

-- why a text is not read
abbrev pub stop_of : ReadError → FileStop
stop_of errors.OtherProgram = stops.OtherProgram
stop_of errors.Malformed = stops.Malformed
stop_of errors.NotText = stops.Memory
stop_of errors.Memory = stops.Memory
