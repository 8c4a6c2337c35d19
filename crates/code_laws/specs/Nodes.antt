-- A node in an environment: its head, the terms below it that are done, and what stands behind these.
use Rattle.std.specs.Prelude.{ℕ, Bool, true, false, zero, suc, List, [], length, map, take, drop}
use Rattle.asp_model.specs.Names.{Text}
use Rattle.asp_model.specs.Term.{Head, Hole, If, Let, Make, Repeat, Steps, Tree, Trees, none, more, Environment, binders, loc, put_below}
use Rattle.asp_model.specs.Split.{Context, Redex, reduced_count}
pub use Rattle.code_table.specs.Operands.{operand_count}
use Rattle.code_table.specs.Pieces.{Piece, variable, piece, object, Pieces, nothing, also, Bodies, no_method, method, count, heads_of, tree, below, bodies}
use Rattle.code_table.specs.Fitting.{placed}
use Rattle.code_laws.specs.Places.{captured_places}

-- Nodes

-- a node is no variable
abbrev pub IsTerm : Piece → Type 0
IsTerm (variable l) = ⊥
IsTerm (piece h ps) = Unit {0}
IsTerm (object ls fs ms) = Unit {0}

abbrev pub head_in : Piece → Head
head_in (variable l) = Hole
head_in (piece h ps) = h
head_in (object ls fs ms) = Make ls (heads_of ms)

-- the pieces below a node, apart from methods
abbrev pub parts : Piece → Pieces
parts (variable l) = nothing
parts (piece h ps) = ps
parts (object ls fs ms) = fs

-- the terms below a node
abbrev pub terms_below : List Tree → Piece → Trees
terms_below ts (variable l) = none
terms_below ts (piece h ps) = below ts ps none
terms_below ts (object ls fs ms) = below ts fs (bodies ts ms)

abbrev pub nth : ℕ → Pieces → Piece
nth n nothing = piece Hole nothing
nth zero (also p ps) = p
nth (suc n) (also p ps) = nth n ps

-- the pieces behind the first n
abbrev pub after : ℕ → Pieces → Pieces
after zero ps = ps
after (suc n) nothing = nothing
after (suc n) (also p ps) = after n ps

-- how many terms below a node are reduced in place, from the first on
abbrev pub in_place : Piece → ℕ
in_place (variable l) = 0
in_place (piece h ps) = reduced_count h (below [] ps none)
in_place (object ls fs ms) = count fs

-- all terms below it are reduced in place
abbrev pub is_strict : Head → Bool
is_strict (Let x) = false
is_strict Steps = false
is_strict If = false
is_strict Repeat = false
is_strict h = true

-- What stands behind the first terms of a node

abbrev pub rest : ℕ → Trees → Trees
rest zero ts = ts
rest (suc n) none = none
rest (suc n) (more t ts) = rest n ts

-- behind the first n terms below a node
abbrev pub behind_in : List Text → Environment → List ℕ → Piece → ℕ → Trees
behind_in xs scope ns p n = put_below (placed ns scope) (drop n (binders (head_in p))) (rest n (terms_below (map loc (take (length xs) ns)) p))

-- a node whose first terms are done
abbrev pub redex_in : List Text → Environment → List ℕ → Piece → List ℕ → Redex
redex_in xs scope ns p done = record { head = head_in p; places = done; behind = behind_in xs scope ns p (length done) }

-- the same, round the next of its terms
abbrev pub context_in : List Text → Environment → List ℕ → Piece → List ℕ → Context
context_in xs scope ns p done = record { head = head_in p; before = done; behind = behind_in xs scope ns p (suc (length done)) }

-- the bodies of methods over what they capture in an environment
abbrev pub bodies_in : List ℕ → Bodies → Trees
bodies_in ns no_method = none
bodies_in ns (method m cs b ms) = more (tree (map loc (captured_places ns cs)) b) (bodies_in ns ms)

-- What the rows of the language's own forms lead to

-- the other terms of a sequence, once its first one is done
abbrev pub sequel : Pieces → Piece
sequel nothing = piece Steps nothing
sequel (also p nothing) = p
sequel (also p (also q ps)) = piece Steps (also p (also q ps))

-- a repetition's term, then the repetition again
abbrev pub unrolled : Pieces → Piece
unrolled ps = piece Steps (also (nth 0 ps) (also (piece Repeat ps) nothing))

-- what a node is once so many of its terms are gone: a sequence loses them, and a repetition becomes a sequence
abbrev pub later : ℕ → Piece → Piece
later zero p = p
later (suc k) (piece Steps ps) = piece Steps (after (suc k) ps)
later (suc k) (piece Repeat ps) = unrolled ps
later (suc k) p = p
