-- Terms by those of their terms that are reduced in place.
use Rattle.std.specs.Prelude.{ℕ, zero, suc, ◌&&◌, Bool, true, false, List, [], ◌∷◌}
use Rattle.std.specs.List.{list_all}
use Rattle.asp_model.specs.declared.term.Term.{Term}
use Rattle.asp_model.specs.Shapes.{tree_of}
use Rattle.asp_model.specs.Term.{Loc, Hole, Tree, Trees, node, none, more}
use Rattle.asp_model.specs.Split.{reduced_count}
use Rattle.checkpoint_files.specs.declared.running.Inner.{Inner}
use Rattle.checkpoint_files.specs.declared.running.Inner.TheVariants as inner

-- a term among those before which there are places alone
abbrev pub child_of : Tree → Inner
child_of (node (Loc n) ts) = inner.Place
child_of (node Hole ts) = inner.Context
child_of t = inner.Open

-- the first of two, if it is no place
abbrev pub behind : Inner → Inner → Inner
behind inner.Place rest = rest
behind first rest = first

-- the first that is no place
abbrev pub first_open : List Tree → Inner
first_open [] = inner.Redex
first_open (t ∷ ts) = behind (child_of t) (first_open ts)

-- the same, with what the terms before these are
abbrev pub open_by : {X : Type 0} → (X → Tree) → Inner → List X → Inner
open_by f first [] = behind first inner.Redex
open_by f first (x ∷ xs) = open_by f (behind first (child_of (f x))) xs

-- so many terms from the first on, as far as there are so many
abbrev pub first_of : ℕ → Trees → List Tree
first_of zero ts = []
first_of (suc n) none = []
first_of (suc n) (more t ts) = t ∷ first_of n ts

-- a term alone
abbrev pub inner_of : Tree → Inner
inner_of (node (Loc n) ts) = inner.Place
inner_of (node h ts) = first_open (first_of (reduced_count h ts) ts)

abbrev pub is_context : Inner → Bool
is_context inner.Context = true
is_context i = false

abbrev pub is_context_tree : Tree → Bool
is_context_tree t = is_context (inner_of t)

abbrev pub is_context_term : Term → Bool
is_context_term t = is_context_tree (tree_of t)

abbrev pub are_contexts : List Tree → Bool
are_contexts = list_all is_context_tree

-- by what the first is, and the terms behind it
abbrev pub runs_by : Inner → List Tree → Bool
runs_by inner.Place [] = true
runs_by inner.Redex ts = are_contexts ts
runs_by i ts = false

-- the list of a term that runs
abbrev pub is_running : List Tree → Bool
is_running [] = false
is_running (t ∷ ts) = runs_by (inner_of t) ts

-- the list of one that waits
abbrev pub is_waiting : List Tree → Bool
is_waiting [] = false
is_waiting (t ∷ ts) = is_context (child_of t) && are_contexts ts
