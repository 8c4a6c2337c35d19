-- A term as a redex in its evaluation context: leftmost, innermost, by value.
-- Reduction contexts are those of Felleisen and Hieb.
use Rattle.std.specs.Prelude.{ℕ, zero, suc, List, [], ◌∷◌, ◌++◌, length}
use Rattle.asp_model.specs.Term.{Head, Loc, Make, Get, Put, Call, Clone, Active, Let, Steps, If, Operate, Print, Scatter, Size, Member, WaitAll, Tree, Trees, node, none, more, locs_then, child_count}
use Rattle.asp_model.specs.Term as term

-- a node round a hole: locations before the hole, terms behind it
pub record Context : Type 0 where
  pub head : Head
  pub before : List ℕ
  pub behind : Trees

-- a node whose first terms are reduced to locations, and what stands behind these
pub record Redex : Type 0 where
  pub head : Head
  pub places : List ℕ
  pub behind : Trees

-- a term is a location, or a redex in its contexts
pub data Split : Type 0 where
  -- the term is a location
  Stands : (place : ℕ) → Split
  -- a redex in one-hole contexts, innermost first
  Splits : (contexts : List Context) (redex : Redex) → Split

-- how many of the terms below a node are reduced in place, from the first on
abbrev pub reduced_count : Head → Trees → ℕ
reduced_count (Make fields methods) ts = length fields
reduced_count (Get l) ts = 1
reduced_count (Put l) ts = 2
reduced_count (Call l) ts = child_count ts
reduced_count Clone ts = 1
reduced_count (Active l) ts = 1
reduced_count (Let x) ts = 1
reduced_count Steps ts = 1
reduced_count If ts = 1
reduced_count (Operate s) ts = 2
reduced_count Print ts = 1
reduced_count term.Group ts = child_count ts
reduced_count (Scatter l) ts = 2
reduced_count Size ts = 1
reduced_count Member ts = 2
reduced_count WaitAll ts = 1
reduced_count h ts = 0

abbrev mutual
  -- the location that a term is, or its redex and contexts
  pub split : Tree → Split
  split (node (Loc n) ts) = Stands n
  split (node h ts) = split_below h (reduced_count h ts) [] ts

  -- n more of the terms are reduced in place, behind these locations
  pub split_below : Head → ℕ → List ℕ → Trees → Split
  split_below h n places none = Splits [] (record { head = h; places = places; behind = none })
  split_below h zero places (more t ts) = Splits [] (record { head = h; places = places; behind = more t ts })
  split_below h (suc n) places (more t ts) = elim (split t) [
    | Stands p ↦ split_below h n (places ++ p ∷ []) ts
    | Splits contexts redex ↦ Splits (contexts ++ record { head = h; before = places; behind = ts } ∷ []) redex
  ]

-- a term put into the hole of a context
abbrev pub plugged : Context → Tree → Tree
plugged c t = node c.head (locs_then c.before (more t c.behind))

-- a term put into contexts, innermost first
abbrev pub plug : List Context → Tree → Tree
plug [] t = t
plug (c ∷ cs) t = plug cs (plugged c t)
