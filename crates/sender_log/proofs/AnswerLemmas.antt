-- What a call's answer tells, from what it stands on.
use Rattle.std.proofs.Common.{◌≡◌, ℕ, Option, None, Result, Ok, Err, ap, sym, ◌∙◌}
use Rattle.std.specs.Prelude.{IfOk}
use Rattle.asp_model.specs.declared.outcome.Lists.{Lists}
use Rattle.asp_model.specs.declared.outcome.Counts.{Counts}
use Rattle.asp_model.specs.Names.{Text}
use Rattle.asp_model.specs.ReadReport.{Progress, Reading, Reads, BadLine, read_report}
use Rattle.asp_model.specs.Shapes.{lists_shape, counts_shape}
use Rattle.sender_log.specs.declared.error.LogError.{LogError}
use Rattle.sender_log.specs.declared.error.LogError.TheVariants as errors
use Rattle.sender_log.specs.Answers.{TellsOf, IsRefusedAt}
use Rattle.sender_log.proofs.ReadLemmas.{IsLog, read_gives}

pub if_then : {S E : Type 0} (P Q : S → Type 0) (r : Result S E) → ((s : S) → P s → Q s) → IfOk r P → IfOk r Q
if_then P Q (Ok s) f h = f s h
if_then P Q (Err e) f h = tt

-- an error of one line, where the reading stops at it
pub tells_refused : (r : Reading) (number : ℕ) (o : Option Progress) (e : LogError) → (o ≡ None → r ≡ BadLine number) → IsRefusedAt number o e → TellsOf r e
tells_refused r number o (errors.BadLine line) f h = f h.1 ∙ ap BadLine (sym h.0)
tells_refused r number o errors.Memory f h = tt

-- what is read has one list and one count a name
pub log_read : (bytes : Text) (r : Result (Lists × Counts) LogError) → IfOk r (λ x. read_report bytes ≡ Reads (lists_shape x.0) (counts_shape x.1)) → IfOk r (λ x. IsLog (lists_shape x.0) (counts_shape x.1))
log_read bytes r h = if_then (λ (x : Lists × Counts). read_report bytes ≡ Reads (lists_shape x.0) (counts_shape x.1)) (λ (x : Lists × Counts). IsLog (lists_shape x.0) (counts_shape x.1)) r (λ x g. read_gives bytes (lists_shape x.0) (counts_shape x.1) g) h
