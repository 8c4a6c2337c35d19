-- Terms: trees whose values are locations of a store. The objects are those of the imperative object
-- calculus of Abadi and Cardelli, to which ASP adds active objects, requests and services.
use Rattle.std.specs.Prelude.{ℕ, ℤ, suc, ◌||◌, map, Bool, true, false, List, [], ◌∷◌, ◌++◌, Option, Some, None}
use Rattle.asp_model.specs.Names.{Text, same_text}

-- an operator between two terms
pub data SignShape : Type 0 where
  Add : SignShape
  Subtract : SignShape
  Multiply : SignShape
  Divide : SignShape
  Remainder : SignShape
  Less : SignShape
  Equal : SignShape

-- a method's label, the name of self, and the names of its parameters
pub record MethodHead : Type 0 where
  pub label : Text
  pub slf : Text
  pub parameters : List Text

-- what a node is, apart from the terms below it
pub data Head : Type 0 where
  Loc : (place : ℕ) → Head
  Hole : Head
  Var : (name : Text) → Head
  Number : (n : ℤ) → Head
  -- the fields' terms stand first below it, then the methods' bodies
  Make : (fields : List Text) (methods : List MethodHead) → Head
  Get : (label : Text) → Head
  Put : (label : Text) → Head
  -- the receiver, then the arguments
  Call : (label : Text) → Head
  Clone : Head
  Active : (service : Option Text) → Head
  Serve : (labels : List Text) → Head
  -- the binding, then the body
  Let : (name : Text) → Head
  Steps : Head
  If : Head
  Repeat : Head
  Operate : (sign : SignShape) → Head
  Print : Head
  Echo : (text : Text) → Head
  Group : Head
  Scatter : (label : Text) → Head
  Size : Head
  Member : Head
  WaitAll : Head
  Pending : (labels : List Text) → Head

mutual
  -- a term: a node, and the terms below it
  pub data Tree : Type 0 where
    node : (head : Head) (children : Trees) → Tree

  -- the terms below a node, in order
  pub data Trees : Type 0 where
    none : Trees
    more : (first : Tree) (others : Trees) → Trees

-- these terms
abbrev pub trees : List Tree → Trees
trees [] = none
trees (t ∷ ts) = more t (trees ts)

-- a node with nothing below it
abbrev pub leaf : Head → Tree
leaf h = node h none

-- a node with one term below it
abbrev pub one : Head → Tree → Tree
one h t = node h (more t none)

-- a node with two
abbrev pub two : Head → Tree → Tree → Tree
two h t u = node h (more t (more u none))

-- a location
abbrev pub loc : ℕ → Tree
loc n = leaf (Loc n)

-- these locations, then the other terms
abbrev pub locs_then : List ℕ → Trees → Trees
locs_then [] ts = ts
locs_then (n ∷ ns) ts = more (loc n) (locs_then ns ts)

-- how many terms these are
abbrev pub child_count : Trees → ℕ
child_count none = 0
child_count (more t ts) = suc (child_count ts)

-- the location that a node is
abbrev pub own_locations : Head → List ℕ
own_locations (Loc n) = n ∷ []
own_locations h = []

abbrev mutual
  -- the locations of a term, in text order
  pub locations : Tree → List ℕ
  locations (node h ts) = own_locations h ++ locations_below ts

  -- the locations of these terms
  pub locations_below : Trees → List ℕ
  locations_below none = []
  locations_below (more t ts) = locations t ++ locations_below ts

-- a node with f of its location
abbrev pub moved_head : (ℕ → ℕ) → Head → Head
moved_head f (Loc n) = Loc (f n)
moved_head f h = h

abbrev mutual
  -- the term with f of each location
  pub moved : (ℕ → ℕ) → Tree → Tree
  moved f (node h ts) = node (moved_head f h) (moved_below f ts)

  -- these terms with f of each location
  pub moved_below : (ℕ → ℕ) → Trees → Trees
  moved_below f none = none
  moved_below f (more t ts) = more (moved f t) (moved_below f ts)

-- the term with each location set to 0
abbrev pub blank : Tree → Tree
blank = moved (λ n. 0)

-- a text stands among these
abbrev pub has_text : Text → List Text → Bool
has_text x [] = false
has_text x (y ∷ ys) = same_text x y || has_text x ys

-- what variables stand for
abbrev pub Environment : Type 0
Environment = List (Text × ℕ)

-- what a variable stands for: its first binding
abbrev pub location_of : Text → Environment → Option ℕ
location_of x [] = None
location_of x (b ∷ bs) = elim (same_text x b.0) [ true ↦ Some b.1 | false ↦ location_of x bs ]

-- the bindings of other names than these
abbrev pub without : List Text → Environment → Environment
without xs [] = []
without xs (b ∷ bs) = elim (has_text b.0 xs) [ true ↦ without xs bs | false ↦ b ∷ without xs bs ]

-- the names that a node binds in each term below it, as far as it binds any
abbrev pub binders : Head → List (List Text)
binders (Let x) = [] ∷ (x ∷ []) ∷ []
binders (Make fields methods) = map (λ f. []) fields ++ map (λ m. m.slf ∷ m.parameters) methods
binders h = []

-- a variable, or the location that it stands for
abbrev pub variable_or : Text → Option ℕ → Tree
variable_or x None = leaf (Var x)
variable_or x (Some n) = loc n

-- a node, with a location in place of a variable that is bound
abbrev pub node_in : Environment → Head → Trees → Tree
node_in bs (Var x) ts = variable_or x (location_of x bs)
node_in bs h ts = node h ts

abbrev mutual
  -- substitution: the term with locations in place of the variables that it leaves free
  pub put_in : Environment → Tree → Tree
  put_in bs (node h ts) = node_in bs h (put_below bs (binders h) ts)

  -- each term below, under the names that are bound in it
  pub put_below : Environment → List (List Text) → Trees → Trees
  put_below bs names none = none
  put_below bs [] (more t ts) = more (put_in bs t) (put_below bs [] ts)
  put_below bs (xs ∷ names) (more t ts) = more (put_in (without xs bs) t) (put_below bs names ts)
