-- What a call saw of a sink, and what it told and wrote, with which status.
use Rattle.std.specs.Prelude.{◌≡◌, ◌⊎◌, ℕ, List, Bool, true, false}
use Rattle.std.specs.Borrow.{MutBor}
use denote.Triple.Both.{Both}
use Rattle.asp_edge.specs.Told.{SinkTells}
use Rattle.asp_edge.specs.Causes.{Rose, Took, TookFront}

-- what a sink tells, before the call and behind it
pub record Sight : Type 0 where
  pub before : SinkTells
  pub now : SinkTells

-- a parameter by `&mut`, as a call began and as it ended
abbrev pub Lent : Type 0 → Type 0
Lent S = Both (MutBor S) (MutBor S)

abbrev pub sight_between : {S : Type 0} → (S → SinkTells) → S → S → Sight
sight_between told old new = record { before = told old; now = told new }

abbrev pub sight : {S : Type 0} → (S → SinkTells) → Lent S → Sight
sight told sink = sight_between told sink.entry.now sink.exit.now

abbrev pub IsUntouched : Sight → Type 0
IsUntouched s = s.now ≡ s.before

-- the sink took a text, and no more
abbrev pub Takes : Sight → List ℕ → Type 0
Takes s text = Took s.before s.now text

-- the sink failed, after a front part of a text
abbrev pub TakesFront : Sight → List ℕ → Type 0
TakesFront s text = Rose s.before.faults s.now.faults × TookFront s.before s.now text

-- a message was told and this status answered, or the sink failed
abbrev pub IsToldBy : Sight → List ℕ → ℕ → ℕ → Type 0
IsToldBy s text status result = ((result ≡ status) × Takes s text) ⊎ ((result ≡ 7) × TakesFront s text)

-- a text was written, or `out` failed and that was told by this message or could not be told
abbrev pub IsWrittenOr : List ℕ → Sight → Sight → List ℕ → ℕ → ℕ → Type 0
IsWrittenOr failure out err text status result =
    ((result ≡ status) × Takes out text × IsUntouched err)
    ⊎ ((result ≡ 7) × TakesFront out text × (Takes err failure ⊎ TakesFront err failure))

-- the status of what is told of a program, by whether it has a fault
abbrev pub status_told : Bool → ℕ
status_told true = 3
status_told false = 0
