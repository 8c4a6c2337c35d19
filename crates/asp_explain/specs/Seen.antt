-- What a call saw of the outside: what its source and its sinks tell, before it and behind it.
use Rattle.std.specs.Prelude.{◌≡◌, ℕ, List, ◌++◌, map, string_bytes}
use Rattle.std.specs.declared.alloc.Global.{Global}
use Rattle.std.specs.declared.string.String.{String}
use Rattle.asp_edge.specs.Told.{Asks, SourceTells, SinkTells}
use Rattle.asp_edge.specs.Causes.{Rose}
use Rattle.explain_writing.specs.Writing.{Lent, Sight, sight}

-- what a source tells, before the call and behind it
pub record Outside : Type 0 where
  pub before : SourceTells
  pub now : SourceTells

-- the words of a call, and what it saw of its source and its two sinks
pub record Call : Type 0 where
  pub words : List (List ℕ)
  pub outside : Outside
  pub out : Sight
  pub err : Sight

abbrev pub outside_between : {S : Type 0} → (S → SourceTells) → S → S → Outside
outside_between told old new = record { before = told old; now = told new }

abbrev pub outside : {S : Type 0} → (S → SourceTells) → Lent S → Outside
outside told source = outside_between told source.entry.now source.exit.now

-- the bytes of each word
abbrev pub bytes_of : List (String Global) → List (List ℕ)
bytes_of = map string_bytes

-- what a call saw, from what its source, its `out` and its `err` tell
abbrev pub saw : {S O E : Type 0} → (S → SourceTells) → (O → SinkTells) → (E → SinkTells)
    → List (String Global) → Lent S → Lent O → Lent E → Call
saw source_told out_told err_told words source out err = record {
  words = bytes_of words;
  outside = outside source_told source;
  out = sight out_told out;
  err = sight err_told err;
}

-- in the call the source was asked for these names, with these answers, and for nothing else
abbrev pub Asked : Outside → Asks → Type 0
Asked o asks = o.now.asked ≡ o.before.asked ++ asks

-- it was asked for nothing
abbrev pub IsUnasked : Outside → Type 0
IsUnasked o = o.now ≡ o.before

-- a read failed
abbrev pub Fails : Outside → Type 0
Fails o = Rose o.before.faults o.now.faults
