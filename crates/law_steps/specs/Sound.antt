-- What every reached configuration has, as one fact that each move keeps. So a later run may begin from any
-- configuration that has it.
use Rattle.std.specs.Prelude.{◌≡◌, ◌≢◌, ◌⊎◌, ℕ, suc, ◌≤◌, [], Option, Some, None}
use Rattle.std.specs.FinMap.{find}
use Rattle.asp_model.specs.Names.{Name, FutureShape, name_cmp}
use Rattle.asp_model.specs.Term.{Tree, locations}
use Rattle.asp_model.specs.Configuration.{RequestShape, Activity, Configuration, start, requests_of, log_of}
use Rattle.asp_model.specs.Intent.{Effect, Acts, Awaits}
use Rattle.asp_model.specs.Step.{ListsShape, intent_in, step, with_effect}
use Rattle.asp_model.specs.Status.{status_of, IsStuck}
use Rattle.law_steps.specs.Reached.{Move, Makes, IsReached, IsAt, IsThere, IsFilled}
use Rattle.law_steps.specs.Kept.{IsOrdered, IsCreated, sends_of, Stands, IsRightRequest, ServesOnce, answers_at, StandsOnce, IsBegun}
use Rattle.law_steps.specs.Steps.{FillsOne, IsNewTo, IsPoll}
use Rattle.law_steps.specs.Linked.{IsLinked, IsStill}
use Rattle.law_steps.specs.Closed.{IsClosed}

pub record IsSound (c : Configuration) : Type 0 where
  -- maps stand in the order of names
  pub ordered : IsOrdered c
  -- exactly main and the created ones are there
  pub there : (n : Name) → IsThere c n → IsCreated c n
  pub created : (n : Name) → IsCreated c n → IsThere c n
  -- a request is received by one that is there, and its future is one that its sender has begun
  pub requests : (m : Name) (k : ℕ) (r : RequestShape) → Stands c m k r → IsRightRequest c m r
  -- an activity serves requests that it received, each once
  pub served : (m : Name) (a : Activity) → IsAt c m a → ServesOnce c m a
  -- each future that was begun stands once: pending, to be answered, or filled
  pub stand : (n : Name) (i : ℕ) → suc i ≤ sends_of c n → StandsOnce c (record { by = n; index = suc i })
  -- no other is filled, or has to be answered
  pub begun : (f : FutureShape) → IsFilled c f ⊎ ((m : Name) × (1 ≤ answers_at c m f)) → IsBegun c f
  -- all that stands in cells is there, or was begun
  pub linked : IsLinked c
  -- who is not there has an empty log
  pub quiet : (m : Name) → find name_cmp m c.activities ≡ None → log_of c m ≡ []

-- The start has it, and each move keeps it

abbrev pub StartIsSound : Type 0
StartIsSound = (program : Tree) → IsSound (start program)

abbrev pub MovesKeepSound : Type 0
MovesKeepSound = (move : Move) (c d : Configuration) → IsSound c → Makes move c d → IsSound d

abbrev pub ReachedAreSound : Type 0
ReachedAreSound = (program : Tree) (c : Configuration) → IsReached program c → IsSound c

-- so for places, where the program has none of its own
abbrev pub StartIsClosed : Type 0
StartIsClosed = (program : Tree) → locations program ≡ [] → IsClosed (start program)

abbrev pub MovesKeepClosed : Type 0
MovesKeepClosed = (move : Move) (c d : Configuration) → IsClosed c → Makes move c d → IsClosed d

-- What follows from it

-- who is sent to is there, what is awaited was begun, and without lists each intent is a step
pub record HasRightIntents (c : Configuration) : Type 0 where
  pub targets : (n : Name) (e : Effect) (x : Name × RequestShape)
      → intent_in c n ≡ Acts e → e.sent ≡ Some x → IsThere c x.0
  pub awaited : (n : Name) (f : FutureShape) → status_of c n ≡ Awaits f → IsBegun c f
  pub step : (n : Name) (e : Effect)
      → intent_in c n ≡ Acts e → step None c n ≡ Some (with_effect n e c)
  -- what one makes, sends and fills is new
  pub effects : (n : Name) (e : Effect) → intent_in c n ≡ Acts e → IsNewTo c e
  -- stuck means that nobody steps
  pub stuck : IsStuck c → IsStill c
  pub still : IsStill c → IsStuck c

abbrev pub SoundIntents : Type 0
SoundIntents = (c : Configuration) → IsSound c → HasRightIntents c

-- a step of one leaves the others as they are, with what they intend
pub record LeavesOthers (c d : Configuration) (n : Name) : Type 0 where
  pub others : (m : Name) (a : Activity) → m ≢ n → IsAt c m a → IsAt d m a
  pub intents : (m : Name) (e : Effect) → m ≢ n → (IsPoll m e → requests_of d m ≡ requests_of c m)
      → intent_in c m ≡ Acts e → intent_in d m ≡ Acts e
  -- a poll with the answer of its time
  pub polls : (m : Name) (e : Effect) → m ≢ n → IsPoll m e → intent_in c m ≡ Acts e
      → (x : Effect) × (intent_in d m ≡ Acts x) × IsPoll m x
  -- one future at most is filled, which was not
  pub fills : (d.futures ≡ c.futures) ⊎ FillsOne c d

abbrev pub SoundSteps : Type 0
SoundSteps = (lists : Option ListsShape) (c d : Configuration) (n : Name) → IsSound c
    → step lists c n ≡ Some d → LeavesOthers c d n
