-- Nodes of code that are made for redexes and for contexts. Where a place is given beside the node, or the hole stands,
-- the code has the object `[]`, which no frame enters.
use Rattle.std.specs.Prelude.{◌≡◌, ℕ, zero, suc, ◌+◌, ◌<◌, Bool, true, false, List, [], ◌∷◌, ◌++◌, length}
use Rattle.asp_model.specs.Names.{Text}
use Rattle.asp_model.specs.Term.{Head, Make, Var, Tree, Trees, node, more, leaf}
use Rattle.asp_model.specs.Shapes.{tree_of}
use Rattle.asp_model.specs.Split.{Context, Redex}
use Rattle.code_table.specs.declared.code.Node.{Node}
use Rattle.code_table.specs.Pieces.{tree}
use Rattle.code_table.specs.Fitting.{Fits, Runs, term_in}
use Rattle.code_table.specs.Tables.{piece_at, pieces}
use Rattle.code_laws.specs.Splitting.{redex_node, IsContext, IsRedex}
use Rattle.law_programs.specs.Proper.{IsProper, IsProperContext}
use Rattle.code_compiler.specs.Closed.{IsClosed}
use Rattle.code_compiler.specs.Compiled.{variables}
use Rattle.frozen_code.specs.declared.held.Opened.{Opened}
use Rattle.frozen_code.specs.Named.{AreApart, IsNameable, named, places_named}

abbrev pub filler : Tree
filler = leaf (Make [] [])

-- so many of them, then these terms
abbrev pub filled : ℕ → Trees → Trees
filled zero ts = ts
filled (suc n) ts = more filler (filled n ts)

-- what is compiled of a context, and of a redex
abbrev pub context_left : Context → Tree
context_left c = node c.head (filled (suc (length c.before)) c.behind)

abbrev pub redex_left : Redex → Tree
redex_left r = node r.head (filled (length r.places) r.behind)

-- Before it is compiled

abbrev pub is_variable : Tree → Bool
is_variable (node (Var x) ts) = true
is_variable (node h ts) = false

-- it is this term, with names for its places
pub record IsOpened (x : Opened) (t : Tree) : Type 0 where
  pub name : ℕ → Text
  pub apart : AreApart x.names.items
  pub size : length x.names.items ≡ length x.places.items
  pub nameable : IsNameable name (places_named x.names.items x.places.items) t
  pub term : tree_of x.term ≡ named name t

-- In the code

-- the node of a number stands for this term, where these names were captured
pub record IsCompiled (k : List Node) (number : ℕ) (xs : List Text) (t : Tree) : Type 0 where
  pub below : number < length k
  pub fits : Fits xs [] (length xs + 0) (piece_at (pieces k) number)
  pub term : tree (variables xs) (piece_at (pieces k) number) ≡ t

-- in an environment of these places the node of a number is this one, with these terms behind so many others
pub record IsHeld (k : List Node) (number : ℕ) (ns : List ℕ) (h : Head) (n : ℕ) (behind : Trees) : Type 0 where
  pub names : List Text
  pub below : number < length k
  pub runs : Runs names [] ns (piece_at (pieces k) number)
  pub term : term_in names [] ns (piece_at (pieces k) number) ≡ node h (filled n behind)

-- the code has a node for a context, or for a redex
abbrev pub HoldsContext : List Node → (number : ℕ) (ns done : List ℕ) → Context → Type 0
HoldsContext k number ns done c = (c.before ≡ done) × IsContext c
    × IsHeld k number ns c.head (suc (length done)) c.behind

abbrev pub HoldsRedex : List Node → (number : ℕ) (ns done : List ℕ) → Redex → Type 0
HoldsRedex k number ns done r = (r.places ≡ done) × IsRedex r × IsHeld k number ns r.head (length done) r.behind

-- Laws

-- what is proper may be compiled
abbrev pub ContextsMayCome : Type 0
ContextsMayCome = (x : Opened) (c : Context) → IsProperContext c → IsContext c → IsOpened x (context_left c)
    → IsClosed x.names.items (tree_of x.term) × (is_variable (tree_of x.term) ≡ false)

abbrev pub RedexesMayCome : Type 0
RedexesMayCome = (x : Opened) (r : Redex) → IsProper [] (redex_node r) → IsRedex r
    → IsOpened x (redex_left r) → IsClosed x.names.items (tree_of x.term)
    × (is_variable (tree_of x.term) ≡ false)

-- what was made over a table stands over each table that begins with it

abbrev pub ContextsStay : Type 0
ContextsStay = (k added : List Node) (number : ℕ) (ns done : List ℕ) (c : Context)
    → HoldsContext k number ns done c → HoldsContext (k ++ added) number ns done c

abbrev pub RedexesStay : Type 0
RedexesStay = (k added : List Node) (number : ℕ) (ns done : List ℕ) (r : Redex)
    → HoldsRedex k number ns done r → HoldsRedex (k ++ added) number ns done r
