-- What a call saw of the outside: what its source and its sinks tell, before it and behind it.
use Rattle.std.specs.Prelude.{◌≡◌, ℕ, ◌<◌, List, ◌∷◌, ◌++◌, length, map, Option, Some, None, Result, Err, string_bytes}
use Rattle.std.specs.Borrow.{MutBor}
use Rattle.std.specs.declared.alloc.Global.{Global}
use Rattle.std.specs.declared.string.String.{String}
use denote.Triple.Both.{Both}
use Rattle.asp_edge.specs.Told.{Asks, SourceTells, SinkTells}
use Rattle.asp_edge.specs.Causes.{Rose, Took, TookFront}
use Rattle.asp_edge.specs.declared.edge.ReadError.{ReadError}
use Rattle.asp_edge.specs.declared.edge.ReadError.TheVariants.{Failed, TooLong}

-- a count of faults, before the call and behind it
pub record Counted : Type 0 where
  pub before : ℕ
  pub now : ℕ

abbrev pub Rises : Counted → Type 0
Rises c = Rose c.before c.now

-- what the source tells under each name, what was asked of it before the call and by its end, and how often it
-- failed
pub record Outside : Type 0 where
  pub content : List ℕ → Option (List ℕ)
  pub asked_before : Asks
  pub asked : Asks
  pub faults : Counted

-- what a sink tells, before the call and behind it
pub record Sight : Type 0 where
  pub before : SinkTells
  pub now : SinkTells

-- the words of a call, and what it saw of its source and its two sinks
pub record Call : Type 0 where
  pub words : List (List ℕ)
  pub outside : Outside
  pub out : Sight
  pub err : Sight

-- From values to what is seen of them

abbrev pub outside_between : {S : Type 0} → (S → SourceTells) → S → S → Outside
outside_between told old new = record {
  content = (told old).content;
  asked_before = (told old).asked;
  asked = (told new).asked;
  faults = record { before = (told old).faults; now = (told new).faults };
}

abbrev pub sight_between : {S : Type 0} → (S → SinkTells) → S → S → Sight
sight_between told old new = record { before = told old; now = told new }

-- a parameter by `&mut`, as a call began and as it ended
abbrev pub Lent : Type 0 → Type 0
Lent S = Both (MutBor S) (MutBor S)

abbrev pub outside : {S : Type 0} → (S → SourceTells) → Lent S → Outside
outside told source = outside_between told source.entry.now source.exit.now

abbrev pub sight : {S : Type 0} → (S → SinkTells) → Lent S → Sight
sight told sink = sight_between told sink.entry.now sink.exit.now

-- the bytes of each word
abbrev pub bytes_of : List (String Global) → List (List ℕ)
bytes_of = map string_bytes

-- what a call saw, from what its source, its `out` and its `err` tell
abbrev pub saw : {S O E : Type 0} → (S → SourceTells) → (O → SinkTells) → (E → SinkTells)
    → List (String Global) → Lent S → Lent O → Lent E → Call
saw source_told out_told err_told words source out err = record {
  words = bytes_of words;
  outside = outside source_told source;
  out = sight out_told out;
  err = sight err_told err;
}

-- What was asked of the source

-- in the call the source was asked for these names, with these answers, and for nothing else
abbrev pub Asked : Outside → Asks → Type 0
Asked o asks = o.asked ≡ o.asked_before ++ asks

-- the name that was asked for at this place, counted from 0, had this answer
pub record Gave (o : Outside) (place : ℕ) (name : List ℕ) (answer : Result (List ℕ) ReadError) : Type 0 where
  pub front : Asks
  pub back : Asks
  pub at : length front ≡ place
  pub asked : Asked o (front ++ (name, answer) ∷ back)

-- the source failed there
pub record ReadFails (o : Outside) (place : ℕ) (name : List ℕ) : Type 0 where
  pub gave : Gave o place name (Err Failed)
  pub rises : Rises o.faults

-- some read of the call failed
abbrev pub SomeReadFails : Outside → Type 0
SomeReadFails o = (place : ℕ) × (name : List ℕ) × ReadFails o place name

-- longer than this, where the content is told
abbrev pub IsLongContent : ℕ → Option (List ℕ) → Type 0
IsLongContent most None = Unit {0}
IsLongContent most (Some bytes) = most < length bytes

-- the source said there that the content is longer than this, and so it is where it is told
pub record IsLong (o : Outside) (place : ℕ) (name : List ℕ) (most : ℕ) : Type 0 where
  pub taken : ℕ
  pub beyond : most < taken
  pub gave : Gave o place name (Err (TooLong taken))
  pub content : IsLongContent most (o.content name)

-- What was taken

abbrev pub IsUntouched : Sight → Type 0
IsUntouched s = s.now ≡ s.before

-- the sink took a text, and no more
abbrev pub Takes : Sight → List ℕ → Type 0
Takes s text = Took s.before s.now text

-- it took a front part of a text
abbrev pub TakesSome : Sight → List ℕ → Type 0
TakesSome s text = TookFront s.before s.now text

-- its count of faults rose
abbrev pub Fails : Sight → Type 0
Fails s = Rose s.before.faults s.now.faults

-- the sink failed, after a front part of a text
abbrev pub TakesFront : Sight → List ℕ → Type 0
TakesFront s text = Fails s × TakesSome s text
