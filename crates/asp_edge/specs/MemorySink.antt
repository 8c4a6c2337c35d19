-- What a sink in memory holds, and what a write appends to it.
use Rattle.std.specs.Prelude.{ℕ, ◌+◌, List, [], length, take, Bool, ◌&&◌, not, if◌then◌else◌, nat_eq, nat_le, Option, Some}
use Rattle.std.specs.List.{list_any}
use Rattle.asp_edge.specs.Told.{SinkTells}
use Rattle.asp_edge.specs.Causes.{next_number}
use Rattle.asp_edge.specs.declared.memory_sink.MemorySink.{MemorySink}

-- the bytes taken so far
abbrev pub sink_bytes : MemorySink → List ℕ
sink_bytes s = s.bytes.items

-- the bytes that it tells: all of them
abbrev pub told_bytes : MemorySink → Option (List ℕ)
told_bytes s = Some (sink_bytes s)

-- how often it failed
abbrev pub sink_faults : MemorySink → ℕ
sink_faults s = s.faults

-- what the sink tells: it has what it took
abbrev pub memory_told : MemorySink → SinkTells
memory_told s = record { bytes = told_bytes s; taken = sink_bytes s; faults = sink_faults s }

-- the numbers of the writes that fail, how many bytes such a write keeps, and the room
abbrev pub sink_intent : MemorySink → List ℕ × ℕ × ℕ
sink_intent s = (s.failing.items, s.keep, s.room)

-- the number of its next write, from 1
abbrev pub next_write : MemorySink → ℕ
next_write s = next_number s.writes

-- its next write fails by its number
abbrev pub write_fails : MemorySink → Bool
write_fails s = list_any (λ n. nat_eq n (next_write s)) s.failing.items

-- the bytes fit in what is left of the room
abbrev pub fits : MemorySink → List ℕ → Bool
fits s bytes = nat_le (length (sink_bytes s) + length bytes) s.room

-- the whole piece is taken
abbrev pub takes_all : MemorySink → List ℕ → Bool
takes_all s piece = not (write_fails s) && fits s piece

-- what the sink appends of these bytes: all or nothing
abbrev pub fitting : MemorySink → List ℕ → List ℕ
fitting s bytes = if fits s bytes then bytes else []

-- what the next write appends
abbrev pub taken_of : MemorySink → List ℕ → List ℕ
taken_of s piece = fitting s (if write_fails s then take s.keep piece else piece)
