-- What is ready to be written, and what was told: for private functions alone.
use Rattle.std.specs.Prelude.{◌≡◌, ◌⊎◌, ℕ, List, map, string_bytes}
use Rattle.std.specs.List.{concat}
use Rattle.std.specs.declared.alloc.Global.{Global}
use Rattle.std.specs.declared.string.String.{String}
use Rattle.command_line.specs.Task.{TaskShape}
use Rattle.asp_top.specs.declared.prepare.Prepared.{Prepared}
use Rattle.asp_top.specs.Seen.{Outside, Sight, IsUntouched, Takes, TakesFront, bytes_of}
use Rattle.asp_top.specs.Correct.{Answers}
use Rattle.asp_top.specs.Refusals.{Refusal, NoMemory, status_of_refusal, message_of, write_message}
use Rattle.asp_top.specs.Endings.{Answered}

-- the text of pieces
abbrev pub text_of_all : List (String Global) → List ℕ
text_of_all pieces = concat (map string_bytes pieces)

-- the text that is ready
abbrev pub text_in : Prepared → List ℕ
text_in p = text_of_all p.pieces.items

-- what a task has written is ready
abbrev pub IsReady : Outside → TaskShape → Prepared → Type 0
IsReady o task p = Answers o task (text_in p) p.status

abbrev pub IsReadyFor : List (String Global) → Outside → Prepared → Type 0
IsReadyFor words o p = Answered (bytes_of words) o (text_in p) p.status

-- a message was told and this status answered, or the sink failed
abbrev pub Told : Sight → List ℕ → ℕ → ℕ → Type 0
Told s text status result =
    ((result ≡ status) × Takes s text) ⊎ ((result ≡ 7) × TakesFront s text)

abbrev pub ToldRefusal : Refusal → Sight → ℕ → Type 0
ToldRefusal r s result = Told s (message_of r) (status_of_refusal r) result

-- the refusal was told, or that there is no memory for its message
abbrev pub ToldOf : Refusal → Sight → ℕ → Type 0
ToldOf r s result = ToldRefusal r s result ⊎ ToldRefusal NoMemory s result

-- that the text could not be written was told, or could not be told
abbrev pub ToldFailure : Sight → Type 0
ToldFailure err = Takes err write_message ⊎ TakesFront err write_message

-- a text was written, or `out` failed and that was told
abbrev pub WrittenOf : Sight → Sight → Prepared → ℕ → Type 0
WrittenOf out err p result =
    ((result ≡ p.status) × Takes out (text_in p) × IsUntouched err)
    ⊎ ((result ≡ 7) × TakesFront out (text_in p) × ToldFailure err)
