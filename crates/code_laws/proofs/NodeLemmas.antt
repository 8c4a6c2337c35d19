-- Nodes of code: their pieces, and the terms below them by number.
use Rattle.std.proofs.Common.{◌≡◌, ℕ, zero, suc, ◌+◌, ◌<◌, ◌==◌, Bool, true, false, List, [], ◌∷◌, length, get_or, refl, sym, ap, ◌∙◌, arith}
use Rattle.std.proofs.lemmas.Bool.{false≢true}
use Rattle.asp_model.specs.Names.{Text}
use Rattle.asp_model.specs.Term.{Head, Make, Call, Group, Let, Steps, If, Repeat, none, child_count, Environment}
use Rattle.asp_model.specs.Readable.{HasArity}
use Rattle.code_table.specs.declared.code.Child.{Child}
use Rattle.code_table.specs.declared.code.Kind.{Kind}
use Rattle.code_table.specs.declared.code.Kind.TheVariants as kind
use Rattle.code_table.specs.declared.code.Node.{Node}
use Rattle.code_table.specs.Pieces.{Piece, piece, Pieces, count, below}
use Rattle.code_table.specs.Fitting.{IsNode, Runs}
use Rattle.code_table.specs.Tables.{this_or, piece_at, piece_of, pieces_of, kind_piece, node_piece, forest, pieces}
use Rattle.code_laws.specs.Nodes.{IsTerm, parts, nth, in_place, operand_count, is_strict, behind_in}
use Rattle.code_laws.proofs.OpenLemmas.{count_below}
use Rattle.code_laws.proofs.TurnLemmas.{none_behind}

-- No node is a variable

kind_term : (ps : List Piece) (k : Kind) (us : Pieces) → IsTerm (kind_piece ps k us)
kind_term ps (kind.Make k) us = tt
kind_term ps k us = tt

abbrev Terms : List Piece → Type 0
Terms [] = Unit {0}
Terms (p ∷ ps) = IsTerm p × Terms ps

forest_terms : (ps : List Piece) (ns : List Node) → Terms ps → Terms (forest ps ns)
forest_terms ps [] h = h
forest_terms ps (n ∷ ns) h = forest_terms (node_piece ps n ∷ ps) ns (kind_term ps n.kind (pieces_of ps n.children.items), h)

this_term : (b : Bool) (p q : Piece) → IsTerm p → IsTerm q → IsTerm (this_or b p q)
this_term true p q h g = h
this_term false p q h g = g

term_at : (ps : List Piece) (i : ℕ) → Terms ps → IsTerm (piece_at ps i)
term_at [] i h = tt
term_at (p ∷ ps) i h = this_term (i == length ps) p (piece_at ps i) h.0 (term_at ps i h.1)

pub is_term : (ns : List Node) (i : ℕ) → IsTerm (piece_at (pieces ns) i)
is_term ns i = term_at (pieces ns) i (forest_terms [] ns tt)

-- The terms below a node

pub part_at : (ps : List Piece) (cs : List Child) (n : ℕ) (d : Child) → n < length cs → nth n (pieces_of ps cs) ≡ piece_of ps (get_or cs n d)
part_at ps [] n d h = absurd (omega (arith, h))
part_at ps (c ∷ cs) zero d h = refl
part_at ps (c ∷ cs) (suc n) d h = let less : n < length cs = omega (arith, h) in part_at ps cs n d less

pub part_count : (ps : List Piece) (cs : List Child) → count (pieces_of ps cs) ≡ length cs
part_count ps [] = refl
part_count ps (c ∷ cs) = ap suc (part_count ps cs)

pub parts_are : (ps : List Piece) (k : Kind) (us : Pieces) → parts (kind_piece ps k us) ≡ us
parts_are ps (kind.Make k) us = refl
parts_are ps k us = refl

-- a child of a node, by its number
pub part_of : (ps : List Piece) (n : Node) (i : ℕ) (c : Child) → i < length n.children.items → c ≡ get_or n.children.items i c → nth i (parts (node_piece ps n)) ≡ piece_of ps c
part_of ps n i c lt is = ap (nth i) (parts_are ps n.kind (pieces_of ps n.children.items)) ∙ part_at ps n.children.items i c lt ∙ ap (piece_of ps) (sym is)

all_below : (us : Pieces) → child_count (below [] us none) ≡ count us
all_below us = let whole : count us + 0 ≡ count us = omega arith in count_below [] us none ∙ whole

-- how many of them are reduced in place
pub in_place_is : (ps : List Piece) (k : Kind) (us : Pieces) → in_place (kind_piece ps k us) ≡ operand_count k (count us)
in_place_is ps (kind.Make k) us = refl
in_place_is ps (kind.Call l) us = all_below us
in_place_is ps kind.Group us = all_below us
in_place_is ps k us = refl

pub node_in_place : (ps : List Piece) (n : Node) → in_place (node_piece ps n) ≡ operand_count n.kind (length n.children.items)
node_in_place ps n = in_place_is ps n.kind (pieces_of ps n.children.items) ∙ ap (operand_count n.kind) (part_count ps n.children.items)

-- Nodes of which all terms are reduced in place

pub strict_in_place : (h : Head) (ps : Pieces) → is_strict h ≡ true → IsNode h → HasArity h (count ps) → in_place (piece h ps) ≡ count ps
strict_in_place (Let x) ps s i a = absurd (false≢true s)
strict_in_place Steps ps s i a = absurd (false≢true s)
strict_in_place If ps s i a = absurd (false≢true s)
strict_in_place Repeat ps s i a = absurd (false≢true s)
strict_in_place (Make fields methods) ps s i a = absurd i
strict_in_place (Call l) ps s i a = all_below ps
strict_in_place Group ps s i a = all_below ps
strict_in_place h ps s i a = sym a

-- behind them stands nothing
pub none_left : (xs : List Text) (scope : Environment) (ns : List ℕ) (h : Head) (ps : Pieces) (n : ℕ) → is_strict h ≡ true → Runs xs scope ns (piece h ps) → n ≡ in_place (piece h ps) → behind_in xs scope ns (piece h ps) n ≡ none
none_left xs scope ns h ps n s r e = none_behind xs scope ns h ps n (e ∙ strict_in_place h ps s r.fits.0 r.fits.1)
