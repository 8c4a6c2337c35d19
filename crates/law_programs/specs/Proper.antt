-- Proper terms and what holds them: no variable is free, no term is missing, there is no hole, and no label of an
-- object and no name of a method's head stands twice.
use Rattle.std.specs.Prelude.{◌≡◌, ℕ, ◌&&◌, not, Bool, true, false, List, [], ◌∷◌, ◌++◌, map}
use Rattle.std.specs.List.{list_all}
use Rattle.asp_model.specs.Names.{Name, FutureShape, Text}
use Rattle.asp_model.specs.Term.{MethodHead, Head, Hole, Var, Make, Tree, Trees, node, none, more, loc, binders, child_count, has_text}
use Rattle.asp_model.specs.Readable.{HasArity}
use Rattle.asp_model.specs.Split.{Context, plugged}
use Rattle.asp_model.specs.Store.{MethodShape, CellShape, Object}
use Rattle.asp_model.specs.Parcel.{ParcelShape}
use Rattle.asp_model.specs.Configuration.{RequestShape, Activity, Configuration}
use Rattle.law_steps.specs.Reached.{IsAt, HasValue}
use Rattle.law_steps.specs.Kept.{Stands}
use Rattle.law_steps.specs.Linked.{Each}

abbrev pub are_distinct : List Text → Bool
are_distinct [] = true
are_distinct (x ∷ xs) = not (has_text x xs) && are_distinct xs

-- the names that a method binds in its body
abbrev pub names_bound : MethodHead → List Text
names_bound m = m.slf ∷ m.parameters

-- no double label, and no double parameter
abbrev pub are_single : List Text → List MethodHead → Bool
are_single fields methods = are_distinct (fields ++ map (λ m. m.label) methods) && list_all (λ m. are_distinct (names_bound m)) methods

-- a node where these names are bound
abbrev pub is_proper_node : List Text → Head → Bool
is_proper_node bound Hole = false
is_proper_node bound (Var x) = has_text x bound
is_proper_node bound (Make fields methods) = are_single fields methods
is_proper_node bound h = true

abbrev mutual
  -- a term where these names are bound
  pub IsProper : List Text → Tree → Type 0
  IsProper bound (node h ts) = (is_proper_node bound h ≡ true) × HasArity h (child_count ts) × AreProper bound (binders h) ts

  -- the terms below a node, each also under the names that the node binds in it
  pub AreProper : List Text → List (List Text) → Trees → Type 0
  AreProper bound names none = Unit {0}
  AreProper bound [] (more t ts) = IsProper bound t × AreProper bound [] ts
  AreProper bound (xs ∷ names) (more t ts) = IsProper (xs ++ bound) t × AreProper bound names ts

-- a context, with a location in its hole
abbrev pub IsProperContext : Context → Type 0
IsProperContext x = IsProper [] (plugged x (loc 0))

abbrev pub IsProperMethod : MethodShape → Type 0
IsProperMethod m = IsProper (names_bound m.head) m.body

abbrev pub IsProperCell : CellShape → Type 0
IsProperCell (Object fields methods) = (are_single (map (λ f. f.label) fields) (map (λ m. m.head) methods) ≡ true) × Each IsProperMethod methods
IsProperCell c = Unit {0}

-- a parcel with one root begins with it
abbrev pub BeginsWithRoot : ParcelShape → Type 0
BeginsWithRoot p = (k : ℕ) → p.roots ≡ k ∷ [] → k ≡ 0

pub record IsProperParcel (p : ParcelShape) : Type 0 where
  pub cells : Each IsProperCell p.cells
  pub root : BeginsWithRoot p

pub record IsProperActivity (a : Activity) : Type 0 where
  pub term : IsProper [] a.term
  pub services : Each (λ v. Each IsProperContext v.contexts) a.services
  pub store : Each IsProperCell a.store

-- all that activities run, have suspended and store, and all that passes between them
pub record IsProperThroughout (c : Configuration) : Type 0 where
  pub activities : (n : Name) (a : Activity) → IsAt c n a → IsProperActivity a
  pub arguments : (m : Name) (k : ℕ) (r : RequestShape)
      → Stands c m k r → IsProperParcel r.arguments
  pub values : (f : FutureShape) (p : ParcelShape) → HasValue c f p → IsProperParcel p
