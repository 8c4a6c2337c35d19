-- What a call of a source or a sink leaves, and why it fails.
use Rattle.std.specs.Prelude.{◌≡◌, ℕ, ◌+◌, ◌-◌, ◌^◌, ◌<◌, ◌≤◌, min, List, ◌++◌, length, take, Option, Some, None, Result, Ok, Err, Bool, true, false, if◌then◌else◌}
use Rattle.std.specs.Global.{Vec}
use Rattle.asp_edge.specs.Told.{SinkTells}
use Rattle.asp_edge.specs.declared.edge.ReadError.{ReadError}
use Rattle.asp_edge.specs.declared.edge.ReadError.TheVariants.{Failed, TooLong, Memory}

-- the next number, which stays at the last of 64 bits
abbrev pub next_number : ℕ → ℕ
next_number n = min (n + 1) (2 ^ 64 - 1)

-- a count after a call that failed or did not
abbrev pub counted : Bool → ℕ → ℕ
counted failed count = if failed then next_number count else count

-- the count rose in the call, or stands at its end
abbrev pub Rose : ℕ → ℕ → Type 0
Rose before now = next_number before ≤ now

-- an answer, with the bytes that it hands out
abbrev pub answered : Result (Vec ℕ) ReadError → Result (List ℕ) ReadError
answered (Ok bytes) = Ok bytes.items
answered (Err e) = Err e

-- where a source tells its content, the bytes are all of it
abbrev pub IsContent : Option (List ℕ) → List ℕ → Type 0
IsContent None bytes = Unit {0}
IsContent (Some content) bytes = bytes ≡ content

-- too long: more than the most were taken, and the content has these
abbrev pub IsLonger : Option (List ℕ) → ℕ → ReadError → Type 0
IsLonger None most (TooLong taken) = most < taken
IsLonger (Some content) most (TooLong taken) = (most < taken) × (taken ≤ length content)
IsLonger content most Failed = Unit {0}
IsLonger content most Memory = Unit {0}

-- what holds if the error is a failure
abbrev pub FailedOnly : Type 0 → ReadError → Type 0
FailedOnly P Failed = P
FailedOnly P (TooLong taken) = Unit {0}
FailedOnly P Memory = Unit {0}

-- the answer is a failure
abbrev pub is_failed : Result (Vec ℕ) ReadError → Bool
is_failed (Err Failed) = true
is_failed (Err (TooLong taken)) = false
is_failed (Err Memory) = false
is_failed (Ok bytes) = false

-- one byte more than the most was taken
abbrev pub TakesOneMore : ℕ → ReadError → Type 0
TakesOneMore most (TooLong taken) = taken ≡ most + 1
TakesOneMore most Failed = Unit {0}
TakesOneMore most Memory = Unit {0}

-- where a sink tells its bytes, it has all of the piece more
abbrev pub Appends : Option (List ℕ) → Option (List ℕ) → List ℕ → Type 0
Appends None new piece = Unit {0}
Appends (Some old) new piece = new ≡ Some (old ++ piece)

-- the sink took all of the piece
pub record Took (before now : SinkTells) (piece : List ℕ) : Type 0 where
  pub taken : now.taken ≡ before.taken ++ piece
  pub told : Appends before.bytes now.bytes piece

-- it took a front part of the piece
abbrev pub TookFront : SinkTells → SinkTells → List ℕ → Type 0
TookFront before now piece = (n : ℕ) × Took before now (take n piece)
