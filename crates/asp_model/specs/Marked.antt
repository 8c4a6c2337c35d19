-- Programs as they are read: each node with the mark of where it stood.
use Rattle.std.specs.Prelude.{ℕ, List, [], ◌∷◌}
use Rattle.asp_model.specs.Term.{Head, Tree, Trees, node, none, more}

-- where a node stood: its first token, the parentheses round it and round the left side of its `:=`, and its names
pub record MarkShape : Type 0 where
  pub at : ℕ
  pub parentheses : ℕ
  pub left : ℕ
  pub names : List ℕ

-- the mark of a node that stood in no source text
abbrev pub blank_mark : MarkShape
blank_mark = record { at = 0; parentheses = 0; left = 0; names = [] }

mutual
  -- a term with the marks of its nodes
  pub data Marked : Type 0 where
    marked : (head : Head) (mark : MarkShape) (children : MarkedList) → Marked

  -- the terms below a node
  pub data MarkedList : Type 0 where
    no_marked : MarkedList
    and_marked : (first : Marked) (others : MarkedList) → MarkedList

-- one term
abbrev pub one_marked : Marked → MarkedList
one_marked t = and_marked t no_marked

-- two terms
abbrev pub two_marked : Marked → Marked → MarkedList
two_marked t u = and_marked t (and_marked u no_marked)

-- these terms
abbrev pub all_marked : List Marked → MarkedList
all_marked [] = no_marked
all_marked (t ∷ ts) = and_marked t (all_marked ts)

abbrev mutual
  -- the term without its marks
  pub plain : Marked → Tree
  plain (marked h m ts) = node h (plain_below ts)

  -- the terms below a node without their marks
  pub plain_below : MarkedList → Trees
  plain_below no_marked = none
  plain_below (and_marked t ts) = more (plain t) (plain_below ts)
