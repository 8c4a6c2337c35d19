-- What contracts see of the files and streams of the system.
use Rattle.std.specs.Prelude.{ℕ, List, Option, None}
use Rattle.asp_edge.specs.Told.{SourceTells, SinkTells, Asks}
use Rattle.asp_edge.specs.declared.system.FileSource.{FileSource}
use Rattle.asp_edge.specs.declared.system.StdSink.{StdSink}

-- how often the files failed
abbrev pub file_faults : {R F A : Type 0} → FileSource R F A → ℕ
file_faults s = s.faults

-- what was asked of them so far
abbrev pub files_asked : {R F A : Type 0} → FileSource R F A → Asks
files_asked s = s.asked.asks

-- the files tell no content
abbrev pub files_told : {R F A : Type 0} → FileSource R F A → SourceTells
files_told s = record { content = λ name. None; asked = files_asked s; faults = file_faults s }

-- the writer below
abbrev pub stream_of : {W : Type 0} → StdSink W → W
stream_of s = s.stream

-- how often the stream failed
abbrev pub stream_faults : {W : Type 0} → StdSink W → ℕ
stream_faults s = s.faults

-- the bytes that the stream took so far
abbrev pub stream_taken : {W : Type 0} → StdSink W → List ℕ
stream_taken s = s.taken.bytes

-- what a stream tells, where its writer tells these bytes
abbrev pub stream_told : {W : Type 0} → Option (List ℕ) → StdSink W → SinkTells
stream_told bytes s = record { bytes = bytes; taken = stream_taken s; faults = stream_faults s }
