-- Messages that were made.
use Rattle.std.proofs.Common.{◌≡◌, ◌⊎◌, ◌∙◌, ℕ, List, Result, Ok, Err, subst, inl, inr}
use Rattle.std.specs.Prelude.{IfOk, IfErr}
use Rattle.asp_explain.specs.Refusals.{NoMemory, Refusal, message_of, status_of_refusal}
use Rattle.explain_writing.specs.Writing.{IsToldBy, Sight}
use Rattle.asp_explain.specs.Written.{IsToldOf}

-- the message that was made is told, or that there is no memory
pub made_told : {S E : Type 0} (text : S → List ℕ) (r : Refusal) (message : Result S E) (s : Sight) (result : ℕ) → IfOk message (λ t. text t ≡ message_of r) → IfOk message (λ t. IsToldBy s (text t) (status_of_refusal r) result) → IfErr message (λ e. IsToldOf NoMemory s result)
    → IsToldOf r s result ⊎ IsToldOf NoMemory s result
made_told text r (Ok t) s result e h g = inl (subst (λ (l : List ℕ). IsToldBy s l (status_of_refusal r) result) e h)
made_told text r (Err x) s result e h g = inr g

pub if_named : {S E : Type 0} (f : S → List ℕ) (r : Result S E) (a b : List ℕ) → a ≡ b → IfOk r (λ s. f s ≡ a) → IfOk r (λ s. f s ≡ b)
if_named f (Ok s) a b e h = h ∙ e
if_named f (Err x) a b e h = tt
