-- What stands in cells is there: activities that were created, and futures that were begun.
use Rattle.std.specs.Prelude.{◌≡◌, ℕ, List, [], ◌∷◌, Some, None}
use Rattle.asp_model.specs.Names.{Name, FutureShape}
use Rattle.asp_model.specs.Term.{Tree}
use Rattle.asp_model.specs.Store.{CellShape, Reference, Future}
use Rattle.asp_model.specs.Parcel.{ParcelShape}
use Rattle.asp_model.specs.Configuration.{RequestShape, Activity, Configuration}
use Rattle.asp_model.specs.Intent.{Effect, Acts, Awaits}
use Rattle.asp_model.specs.Step.{intent_in, step, with_effect}
use Rattle.asp_model.specs.Status.{status_of, IsStuck}
use Rattle.law_steps.specs.Reached.{IsReached, IsAt, IsThere, HasValue}
use Rattle.law_steps.specs.Kept.{Stands, IsBegun}

-- it holds of each
abbrev pub Each : {X : Type 0} → (X → Type 0) → List X → Type 0
Each P [] = Unit {0}
Each P (x ∷ xs) = P x × Each P xs

-- the activity of a reference is there, and a future was begun
abbrev pub IsKnown : Configuration → CellShape → Type 0
IsKnown c (Reference n) = IsThere c n
IsKnown c (Future f) = IsBegun c f
IsKnown c x = Unit {0}

abbrev pub AreKnown : Configuration → List CellShape → Type 0
AreKnown c = Each (IsKnown c)

-- all that stands in cells is known
pub record IsLinked (c : Configuration) : Type 0 where
  pub stores : (n : Name) (a : Activity) → IsAt c n a → AreKnown c a.store
  pub arguments : (m : Name) (k : ℕ) (r : RequestShape)
      → Stands c m k r → AreKnown c r.arguments.cells
  pub values : (f : FutureShape) (p : ParcelShape) → HasValue c f p → AreKnown c p.cells

abbrev pub CellsAreLinked : Type 0
CellsAreLinked = (program : Tree) (c : Configuration) → IsReached program c → IsLinked c

-- who is sent to is there
abbrev pub TargetsAreThere : Type 0
TargetsAreThere = (program : Tree) (c : Configuration) (n : Name) (e : Effect)
    (x : Name × RequestShape)
    → IsReached program c → intent_in c n ≡ Acts e → e.sent ≡ Some x → IsThere c x.0

-- what is awaited was begun
abbrev pub AwaitedAreBegun : Type 0
AwaitedAreBegun = (program : Tree) (c : Configuration) (n : Name) (f : FutureShape)
    → IsReached program c → status_of c n ≡ Awaits f → IsBegun c f

-- without lists, who intends to act steps
abbrev pub IntentsStep : Type 0
IntentsStep = (program : Tree) (c : Configuration) (n : Name) (e : Effect)
    → IsReached program c → intent_in c n ≡ Acts e → step None c n ≡ Some (with_effect n e c)

-- nobody steps without lists
abbrev pub IsStill : Configuration → Type 0
IsStill c = (n : Name) → step None c n ≡ None

-- a configuration is stuck exactly where it is still
abbrev pub StuckIsStill : Type 0
StuckIsStill = (program : Tree) (c : Configuration) → IsReached program c
    → (IsStuck c → IsStill c) × (IsStill c → IsStuck c)
