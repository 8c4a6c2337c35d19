-- The terms below a node whose first terms are gone.
use Rattle.std.proofs.Common.{◌≡◌, ℕ, zero, suc, ◌<◌, List, [], ◌∷◌, length, get_or, refl, sym, ap, ◌∙◌, arith}
use Rattle.asp_model.specs.Term.{Steps}
use Rattle.code_table.specs.declared.code.Child.{Child}
use Rattle.code_table.specs.declared.code.Kind.{Kind}
use Rattle.code_table.specs.declared.code.Kind.TheVariants as kind
use Rattle.code_table.specs.declared.code.Node.{Node}
use Rattle.code_table.specs.Sound.{AllBelow, IsBelow}
use Rattle.code_table.specs.Pieces.{Piece, piece, Pieces, count}
use Rattle.code_table.specs.Tables.{piece_of, pieces_of, kind_piece, node_piece}
use Rattle.code_laws.specs.Nodes.{parts, nth, after, in_place, operand_count}
use Rattle.code_laws.proofs.BranchLemmas.{nth_after}
use Rattle.code_laws.proofs.NodeLemmas.{in_place_is, part_at, part_count}
use Rattle.step_machine.specs.Sequences.{later, child_number}

sequence_parts : (from : ℕ) (us : Pieces) → parts (later from (piece Steps us)) ≡ after from us
sequence_parts zero us = refl
sequence_parts (suc k) us = refl

-- the next term has the number of the next child
pub next_part : (from done : ℕ) (ps : List Piece) (k : Kind) (us : Pieces) → done < in_place (later from (kind_piece ps k us)) → nth done (parts (later from (kind_piece ps k us))) ≡ nth (child_number k from done) us
next_part from done ps kind.Steps us lt = ap (nth done) (sequence_parts from us) ∙ nth_after from done us
next_part (suc n) zero ps kind.Repeat us lt = refl
next_part (suc n) (suc done) ps kind.Repeat us lt = absurd (omega (arith, lt))
next_part zero done ps k us lt = refl
next_part (suc n) done ps k us lt = refl

pub next_part_of : (from done : ℕ) (ps : List Piece) (n : Node) (i : ℕ) (c : Child) → done < in_place (later from (node_piece ps n)) → i ≡ child_number n.kind from done → i < length n.children.items → c ≡ get_or n.children.items i c
    → nth done (parts (later from (node_piece ps n))) ≡ piece_of ps c
next_part_of from done ps n i c less e lt is =
    next_part from done ps n.kind (pieces_of ps n.children.items) less ∙ ap (λ (j : ℕ). nth j (pieces_of ps n.children.items)) (sym e) ∙ part_at ps n.children.items i c lt ∙ ap (piece_of ps) (sym is)

-- how many are reduced in place, where the first ones are gone
kept_count : (from : ℕ) (ps : List Piece) (k : Kind) (us : Pieces) → (k ≡ kind.Repeat → ⊥) → in_place (later from (kind_piece ps k us)) ≡ operand_count k (count us)
kept_count zero ps k us other = in_place_is ps k us
kept_count (suc n) ps kind.Steps us other = refl
kept_count (suc n) ps kind.Repeat us other = absurd (other refl)
kept_count (suc n) ps k us other = in_place_is ps k us

pub operands_left : (from : ℕ) (ps : List Piece) (n : Node) → (n.kind ≡ kind.Repeat → ⊥) → n.operands ≡ in_place (later from (node_piece ps n))
operands_left from ps n other = n.counted ∙ sym (kept_count from ps n.kind (pieces_of ps n.children.items) other ∙ ap (operand_count n.kind) (part_count ps n.children.items))

-- all of them
pub operands_all : (from : ℕ) (ps : List Piece) (n : Node) → from ≡ 0 → n.operands ≡ in_place (later from (node_piece ps n))
operands_all from ps n none =
    n.counted ∙ sym (in_place_is ps n.kind (pieces_of ps n.children.items) ∙ ap (operand_count n.kind) (part_count ps n.children.items))
    ∙ ap (λ (i : ℕ). in_place (later i (node_piece ps n))) (sym none)

-- a repetition that became a sequence
rolled : (from : ℕ) (ps : List Piece) (k : Kind) (us : Pieces) → (from ≡ 0 → ⊥) → k ≡ kind.Repeat → 1 ≡ in_place (later from (kind_piece ps k us))
rolled zero ps k us some is = absurd (some refl)
rolled (suc n) ps k us some is = ap (λ (x : Kind). in_place (later (suc n) (kind_piece ps x us))) (sym is)

pub rolled_count : (from : ℕ) (ps : List Piece) (n : Node) → (from ≡ 0 → ⊥) → n.kind ≡ kind.Repeat → 1 ≡ in_place (later from (node_piece ps n))
rolled_count from ps n some is = rolled from ps n.kind (pieces_of ps n.children.items) some is

-- the next child, where none is gone
pub first_child : (k : Kind) (from done : ℕ) → from ≡ 0 → done ≡ child_number k from done
first_child kind.Steps from done none = omega (arith, none)
first_child k from done none = refl

-- each of the children stands before the node
pub one_below : (m : ℕ) (cs : List Child) (i : ℕ) (d : Child) → i < length cs → AllBelow m cs → IsBelow m (get_or cs i d)
one_below m [] i d lt all = absurd (omega (arith, lt))
one_below m (c ∷ cs) zero d lt all = all.0
one_below m (c ∷ cs) (suc i) d lt all = let less : i < length cs = omega (arith, lt) in one_below m cs i d less all.1
