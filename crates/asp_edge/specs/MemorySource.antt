-- What a source in memory holds, and which of its reads fail.
use Rattle.std.specs.Prelude.{ℕ, List, [], ◌∷◌, Option, Some, None, Bool, ◌||◌, is_none, if◌then◌else◌, nat_eq}
use Rattle.std.specs.List.{list_any}
use Rattle.std.specs.Cmp.Lexicographic.{pointwise}
use Rattle.std.specs.Global.{Vec}
use Rattle.asp_edge.specs.Told.{SourceTells, Asks}
use Rattle.asp_edge.specs.Causes.{next_number}
use Rattle.asp_edge.specs.declared.memory_source.MemorySource.{MemorySource}

-- the first content under the name
abbrev pub content_of : List (List ℕ × Vec ℕ) → List ℕ → Option (List ℕ)
content_of [] name = None
content_of (file ∷ files) name =
    if pointwise nat_eq file.0 name then Some file.1.items else content_of files name

-- the contents that it tells: all of them
abbrev pub told_content : MemorySource → List ℕ → Option (List ℕ)
told_content s = content_of s.files.items

-- what was asked of it so far
abbrev pub source_asked : MemorySource → Asks
source_asked s = s.asked.asks

-- how often it failed
abbrev pub source_faults : MemorySource → ℕ
source_faults s = s.faults

-- what the source tells
abbrev pub memory_told : MemorySource → SourceTells
memory_told s = record { content = told_content s; asked = source_asked s; faults = source_faults s }

-- the numbers of the reads that fail
abbrev pub failing_reads : MemorySource → List ℕ
failing_reads s = s.failing.items

-- the number of its next read, from 1
abbrev pub next_read : MemorySource → ℕ
next_read s = next_number s.reads

-- its next read fails: by its number, or since there is no such name
abbrev pub read_fails : MemorySource → List ℕ → Bool
read_fails s name =
    list_any (λ n. nat_eq n (next_read s)) (failing_reads s) || is_none (told_content s name)
