-- Why activities rest, by numbers.
use Rattle.std.specs.Prelude.{◌≡◌, ℕ, List, [], ◌∷◌, Option, Some, None, map, slice_get}
use Rattle.asp_model.specs.Names.{Name, FutureShape, Text}
use Rattle.asp_model.specs.Contraction.{FaultShape}
use Rattle.asp_model.specs.Configuration.{Configuration}
use Rattle.asp_model.specs.Outcome.{outcome_of}
use Rattle.asp_model.specs.Shapes.{activity_shape}
use Rattle.asp_model.specs.declared.outcome.ActivityReport.{ActivityReport}
use Rattle.law_waits.specs.Waits.{waited, ValueCircle, Ended, AtFault, Unserved, ActivityCircle}
use Rattle.law_waits.specs.Laws.{Holds}
use Rattle.wait_circles.specs.declared.ways.Circle.{Circle}
use Rattle.wait_circles.specs.declared.whys.Why.{Why}
use Rattle.wait_circles.specs.declared.whys.Why.TheVariants as why
use Rattle.wait_circles.specs.Ways.{next_in}

-- their names, by numbers
abbrev pub names_of : List ActivityReport → List Name
names_of rs = map (λ a. a.name) rs

-- they are the activities of a configuration
abbrev pub AreOf : Configuration → List ActivityReport → Type 0
AreOf c rs = map activity_shape rs ≡ (outcome_of c).activities

-- no name stands twice
abbrev pub AreOnce : List Name → Type 0
AreOnce names = (i j : ℕ) (n : Name) → slice_get names i ≡ Some n → slice_get names j ≡ Some n → i ≡ j

-- a number is that of a name, or there is none of either
abbrev pub IsNumbered : List Name → Option ℕ → Option Name → Type 0
IsNumbered names None o = o ≡ None
IsNumbered names (Some j) o = (m : Name) × (o ≡ Some m) × (slice_get names j ≡ Some m)

-- the next of each activity is whom it waits for
abbrev pub AreWaits : Configuration → List (Option ℕ) → List Name → Type 0
AreWaits c ns names = (i : ℕ) (n : Name) → slice_get names i ≡ Some n → IsNumbered names (next_in ns i) (waited c n)

-- these numbers are those of these names
abbrev pub AreNamed : List Name → List ℕ → List Name → Type 0
AreNamed names [] [] = Unit {0}
AreNamed names (k ∷ ks) (n ∷ ns) = (slice_get names k ≡ Some n) × AreNamed names ks ns
AreNamed names ks ns = ⊥

-- what is told of why an activity rests is a cause that holds
abbrev pub IsWhy : Configuration → List Name → List Circle → Name → Why → Type 0
IsWhy c names zs n (why.Round k) =
    (z : Circle) × (slice_get zs k ≡ Some z)
    × ((first : Name) × (others : List Name) × AreNamed names (z.first ∷ z.others.items) (first ∷ others)
    × Holds c n (ActivityCircle first others))
IsWhy c names zs n (why.Ended j) = (m : Name) × (slice_get names j ≡ Some m) × Holds c n (Ended m)
IsWhy c names zs n (why.Faulted j) =
    (m : Name) × (slice_get names j ≡ Some m) × ((fault : FaultShape) × Holds c n (AtFault m fault))
IsWhy c names zs n (why.Unserved j) =
    (m : Name) × (slice_get names j ≡ Some m) × ((labels : List Text) × Holds c n (Unserved m labels))
IsWhy c names zs n (why.Values j) =
    (m : Name) × (slice_get names j ≡ Some m)
    × ((first : FutureShape) × (others : List FutureShape) × Holds c n (ValueCircle m first others))

abbrev pub IsToldWhy : Configuration → List Name → List Circle → Name → Option Why → Type 0
IsToldWhy c names zs n None = ⊥
IsToldWhy c names zs n (Some w) = IsWhy c names zs n w
