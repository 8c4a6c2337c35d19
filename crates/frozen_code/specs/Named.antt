-- Places under names: a term of a store, as a term of a program whose free variables stand for its places.
use Rattle.std.specs.Prelude.{◌≡◌, ℕ, Bool, true, false, List, [], ◌∷◌, Option, Some, None}
use Rattle.asp_model.specs.Names.{Text, same_text}
use Rattle.asp_model.specs.Term.{
  Head,
  Loc,
  Var,
  Tree,
  Trees,
  node,
  none,
  more,
  leaf,
  loc,
  Environment,
  binders,
  location_of,
  put_in,
  without,
}
use Rattle.law_programs.specs.Proper.{IsProper}
use Rattle.code_compiler.specs.Closed.{IsClosed}

-- names with their places
abbrev pub places_named : List Text → List ℕ → Environment
places_named [] ns = []
places_named (x ∷ xs) [] = []
places_named (x ∷ xs) (n ∷ ns) = (x, n) ∷ places_named xs ns

-- this name is none of those
abbrev pub IsApart : Text → List Text → Type 0
IsApart x [] = Unit {0}
IsApart x (y ∷ ys) = (same_text y x ≡ false) × IsApart x ys

-- no name stands twice
abbrev pub AreApart : List Text → Type 0
AreApart [] = Unit {0}
AreApart (x ∷ xs) = IsApart x xs × AreApart xs

abbrev pub named_node : (ℕ → Text) → Head → Trees → Tree
named_node f (Loc n) ts = leaf (Var (f n))
named_node f h ts = node h ts

abbrev mutual
  -- the term with a variable for each location
  pub named : (ℕ → Text) → Tree → Tree
  named f (node h ts) = named_node f h (named_below f ts)

  pub named_below : (ℕ → Text) → Trees → Trees
  named_below f none = none
  named_below f (more t ts) = more (named f t) (named_below f ts)

-- none of these names stands for a place
abbrev pub NonesIn : Environment → List (List Text) → Type 0
NonesIn e [] = Unit {0}
NonesIn e (xs ∷ names) = (without xs e ≡ e) × NonesIn e names

-- a node's own location has its name, its own variable has none of these names, and both are bare
abbrev pub HasNames : (ℕ → Text) → Environment → Head → Trees → Type 0
HasNames f e (Loc n) ts = (location_of (f n) e ≡ Some n) × (ts ≡ none)
HasNames f e (Var x) ts = (location_of x e ≡ None) × (ts ≡ none)
HasNames f e h ts = Unit {0}

abbrev mutual
  -- each location has its name, and whatever the term binds or names has another one
  pub IsNameable : (ℕ → Text) → Environment → Tree → Type 0
  IsNameable f e (node h ts) = HasNames f e h ts × NonesIn e (binders h) × AreNameable f e ts

  pub AreNameable : (ℕ → Text) → Environment → Trees → Type 0
  AreNameable f e none = Unit {0}
  AreNameable f e (more t ts) = IsNameable f e t × AreNameable f e ts

-- Laws

-- with the places put in for their names, a term is what it was
abbrev pub NamesAreTakenBack : Type 0
NamesAreTakenBack = (f : ℕ → Text) (e : Environment) (t : Tree) → IsNameable f e t → put_in e (named f t) ≡ t

-- a proper term whose places have names is one of a program where these names are bound
abbrev pub NamedAreClosed : Type 0
NamedAreClosed = (f : ℕ → Text) (xs : List Text) (ns : List ℕ) (t : Tree) → IsProper [] t
    → IsNameable f (places_named xs ns) t → IsClosed xs (named f t)
