-- Steps of two activities in either order.
use Rattle.std.specs.Prelude.{◌≡◌, ◌≢◌, ◌⊎◌, Option, Some, None}
use Rattle.asp_model.specs.Names.{Name}
use Rattle.asp_model.specs.Term.{Tree}
use Rattle.asp_model.specs.Configuration.{Configuration, log_of}
use Rattle.asp_model.specs.Step.{ListsShape, step}
use Rattle.law_steps.specs.Reached.{IsReached}

-- each of two activities steps after the other's step too, and both orders lead to one end
abbrev pub Commute : Option ListsShape → (n m : Name) → (d e : Configuration) → Type 0
Commute lists n m d e = (f : Configuration) × (step lists d m ≡ Some f) × (step lists e n ≡ Some f)

-- steps of two activities with the same lists commute
abbrev pub StepsCommute : Type 0
StepsCommute = (program : Tree) (lists : ListsShape) (c d e : Configuration) (n m : Name)
    → IsReached program c → n ≢ m
    → step (Some lists) c n ≡ Some d → step (Some lists) c m ≡ Some e
    → Commute (Some lists) n m d e

-- no activity's log grows in both steps
abbrev pub GrowApart : (c d e : Configuration) → Type 0
GrowApart c d e = (q : Name) → (log_of d q ≡ log_of c q) ⊎ (log_of e q ≡ log_of c q)

-- without lists they commute where no log grows in both
abbrev pub FreeStepsCommute : Type 0
FreeStepsCommute = (program : Tree) (c d e : Configuration) (n m : Name)
    → IsReached program c → n ≢ m
    → step None c n ≡ Some d → step None c m ≡ Some e → GrowApart c d e
    → Commute None n m d e
