-- What a search has found, and when nothing is left.
use Rattle.std.specs.Prelude.{◌≡◌, ◌⊎◌, ◌≤◌, ℕ, List, [], ◌∷◌, ◌++◌, length}
use Rattle.end_search.specs.declared.search.Stop.{Stop}
use Rattle.end_search.specs.declared.search.Stop.TheVariants as stop

-- each of these is so
abbrev pub AreAll : {E : Type 0} → (E → Type 0) → List E → Type 0
AreAll P [] = Unit {0}
AreAll P (e ∷ es) = P e × AreAll P es

-- so many ends at most
pub record AreFound {E : Type 0} (ended : E → Type 0) (most : ℕ) (all : List E) : Type 0 where
  pub ends : AreAll ended all
  pub room : length all ≤ most

-- the run to one of the ends begins as it is offered
abbrev pub IsWithin : {E O : Type 0} → (E → O → Type 0) → List E → O → Type 0
IsWithin begins [] o = ⊥
IsWithin begins (e ∷ es) o = begins e o ⊎ IsWithin begins es o

-- so it is with each of these offers
abbrev pub AreWithin : {E O : Type 0} → (E → O → Type 0) → List E → List O → Type 0
AreWithin begins es = AreAll (IsWithin begins es)

-- something is offered as which the run to the second begins, and not the run to the first
abbrev pub AreApart : {E O : Type 0} → (E → O → Type 0) → (e d : E) → Type 0
AreApart {O} begins e d = (o : O) × begins d o × (begins e o → ⊥)

-- each end is apart from each before it
abbrev pub AreDistinct : {E O : Type 0} → (E → O → Type 0) → List E → Type 0
AreDistinct begins [] = Unit {0}
AreDistinct begins (e ∷ es) = AreAll (AreApart begins e) es × AreDistinct begins es

-- new ends come last, and are apart from those before them
pub record Grows {E O : Type 0} (begins : E → O → Type 0) (old new : List E) : Type 0 where
  pub more : List E
  pub is : old ++ more ≡ new
  pub distinct : AreDistinct begins old → AreDistinct begins new

-- all that the end offers leads to one of the ends
abbrev pub IsClosed : {E O : Type 0} → (E → O → Type 0) → (E → List O → Type 0) → List E → E → Type 0
IsClosed {O} begins offered all e = (os : List O) × offered e os × AreWithin begins all os

-- so it is with each of these ends
abbrev pub AreClosed : {E O : Type 0} → (E → O → Type 0) → (E → List O → Type 0) → (all some : List E) → Type 0
AreClosed begins offered all = AreAll (IsClosed begins offered all)

-- this holds, unless the search stopped before
abbrev pub IfComplete : {H : Type 0} → Type 0 → Stop H → Type 0
IfComplete P stop.Complete = P
IfComplete P stop.Most = Unit {0}
IfComplete P (stop.Halts h) = Unit {0}

-- this holds, if the search stopped for want of room
abbrev pub IfMost : {H : Type 0} → Type 0 → Stop H → Type 0
IfMost P stop.Complete = Unit {0}
IfMost P stop.Most = P
IfMost P (stop.Halts h) = Unit {0}
