-- Contractions of the term alone, where a machine stands at a node.
use Rattle.std.proofs.Common.{◌≡◌, true, ℕ, ℤ, zero, suc, ◌+◌, List, [], ◌∷◌, length, sym, ap, subst, ◌∙◌, arith}
use Rattle.asp_model.specs.Names.{Text}
use Rattle.asp_model.specs.Term.{Tree}
use Rattle.asp_model.specs.Store.{Store, Number, cell}
use Rattle.asp_model.specs.Configuration.{ServiceShape}
use Rattle.code_table.specs.declared.code.Child.{Child}
use Rattle.code_table.specs.declared.code.Kind.{Kind}
use Rattle.code_table.specs.declared.code.Kind.TheVariants as kind
use Rattle.code_table.specs.declared.code.Node.{Node}
use Rattle.code_table.specs.Pieces.{Piece}
use Rattle.code_table.specs.Tables.{kind_head, kind_piece, node_piece, pieces, pieces_of, piece_at, piece_of}
use Rattle.code_laws.specs.Nodes.{nth, in_place, operand_count}
use Rattle.step_rows.specs.Decisions.{value_redex}
use Rattle.step_machine.specs.declared.frames.Focus.TheVariants as focus
use Rattle.step_machine.specs.Sequences.{later}
use Rattle.code_laws.proofs.NodeLemmas.{part_count, node_in_place}
use Rattle.step_machine.specs.Rows.{AtNode, IsAtIf, IsAtRedex, Contracts, chosen, bound_view, child_view, node_view, is_simple}
use Rattle.step_machine.specs.Stacks.{last}
use Rattle.step_machine.specs.Standing.{View, Standing}
use Rattle.step_machine.proofs.RowLemmas.{let_row, if_at, if_row_here, steps_last, steps_more, repeat_row, again_row, simple_from, value_row}
use Rattle.step_machine.proofs.StackLemmas.{last_none}

pub node_is : (k : List Node) (v : View) (number from n : ℕ) (x : Node) (q : Kind) → AtNode k v number from n x → x.kind ≡ q → piece_at (pieces k) number ≡ kind_piece (pieces k) q (pieces_of (pieces k) x.children.items)
node_is k v number from n x q at is = at.node ∙ ap (λ (q : Kind). kind_piece (pieces k) q (pieces_of (pieces k) x.children.items)) is

pub let_contracts : (k : List Node) (v : View) (number from n place : ℕ) (x : Node) (name : Text) (body : Child) (t : Tree) (vs : List ServiceShape) (s : Store) → Standing k v t vs → AtNode k v number from n x → x.kind ≡ kind.Let name
    → last n v.operands ≡ place ∷ [] → nth 1 (pieces_of (pieces k) x.children.items) ≡ piece_of (pieces k) body → Contracts k t vs s s [] (bound_view n place body v)
let_contracts k v number from n place x name body t vs s h at is operands_are body_is =
    let_row k v number from n place name (pieces_of (pieces k) x.children.items) body t vs s h at.focus at.full (node_is k v number from n x (kind.Let name) at is) operands_are body_is

pub last_contracts : (k : List Node) (v : View) (number from n place : ℕ) (x : Node) (c : Child) (t : Tree) (vs : List ServiceShape) (s : Store) → Standing k v t vs → AtNode k v number from n x → x.kind ≡ kind.Steps
    → last n v.operands ≡ place ∷ [] → from + 2 ≡ length x.children.items → nth (from + 1) (pieces_of (pieces k) x.children.items) ≡ piece_of (pieces k) c → Contracts k t vs s s [] (child_view n c v)
last_contracts k v number from n place x c t vs s h at is operands_are size c_is =
    steps_last k v number from n place (pieces_of (pieces k) x.children.items) c t vs s h at.focus at.full (node_is k v number from n x kind.Steps at is) operands_are (size ∙ sym (part_count (pieces k) x.children.items)) c_is

pub next_contracts : (k : List Node) (v : View) (number from n place : ℕ) (x : Node) (t : Tree) (vs : List ServiceShape) (s : Store) → Standing k v t vs → AtNode k v number from n x → x.kind ≡ kind.Steps
    → last n v.operands ≡ place ∷ [] → (from + 2 ≡ length x.children.items → ⊥) → Contracts k t vs s s [] (node_view n number (from + 1) v)
next_contracts k v number from n place x t vs s h at is operands_are differs =
    steps_more k v number from n place (pieces_of (pieces k) x.children.items) t vs s h at.focus at.full (node_is k v number from n x kind.Steps at is) operands_are (λ e. differs (e ∙ part_count (pieces k) x.children.items))

pub repeat_contracts : (k : List Node) (v : View) (number from n : ℕ) (x : Node) (t : Tree) (vs : List ServiceShape) (s : Store) → Standing k v t vs → AtNode k v number from n x → x.kind ≡ kind.Repeat → from ≡ 0
    → Contracts k t vs s s [] (node_view n number 1 v)
repeat_contracts k v number zero n x t vs s h at is e = repeat_row k v number n (pieces_of (pieces k) x.children.items) t vs s h at.focus at.full (node_is k v number 0 n x kind.Repeat at is)
repeat_contracts k v number (suc m) n x t vs s h at is e = absurd (omega (arith, e))

pub again_contracts : (k : List Node) (v : View) (number from n place : ℕ) (x : Node) (t : Tree) (vs : List ServiceShape) (s : Store) → Standing k v t vs → AtNode k v number from n x → x.kind ≡ kind.Repeat → last n v.operands ≡ place ∷ []
    → Contracts k t vs s s [] (node_view n number 0 v)
again_contracts k v number from n place x t vs s h at is operands_are = again_row k v number from n place (pieces_of (pieces k) x.children.items) t vs s h at.focus at.full (node_is k v number from n x kind.Repeat at is) operands_are

pub choice_contracts : (k : List Node) (v : View) (number from n place : ℕ) (x : Node) (z : ℤ) (c : Child) (t : Tree) (vs : List ServiceShape) (s : Store) → Standing k v t vs → AtNode k v number from n x → x.kind ≡ kind.If
    → last n v.operands ≡ place ∷ [] → cell s place ≡ Number z → nth (chosen z) (pieces_of (pieces k) x.children.items) ≡ piece_of (pieces k) c → Contracts k t vs s s [] (child_view n c v)
choice_contracts k v number from n place x z c t vs s h at is operands_are cell_is c_is =
    if_row_here k v number from n place z (pieces_of (pieces k) x.children.items) c t vs s h at.focus at.full (node_is k v number from n x kind.If at is) operands_are cell_is c_is

pub choice_at : (k : List Node) (v : View) (number from n : ℕ) (x : Node) (t : Tree) (vs : List ServiceShape) → Standing k v t vs → AtNode k v number from n x → x.kind ≡ kind.If → IsAtIf k v t vs n
choice_at k v number from n x t vs h at is = if_at k v number from n (pieces_of (pieces k) x.children.items) t vs h at.focus at.full (node_is k v number from n x kind.If at is)

-- a simple node stands with all its terms done
pub simple_size : (k : List Node) (v : View) (number from n : ℕ) (x : Node) → AtNode k v number from n x → is_simple x.kind ≡ true → n ≡ operand_count x.kind (length x.children.items)
simple_size k v number from n x at simple =
    at.full ∙ ap (λ (p : Piece). in_place (later from p)) at.node ∙ ap in_place (simple_from from (pieces k) x.kind (pieces_of (pieces k) x.children.items) simple) ∙ sym (ap in_place (simple_from 0 (pieces k) x.kind (pieces_of (pieces k) x.children.items) simple)) ∙ node_in_place (pieces k) x

-- a redex of a kind that has no operands
pub bare_row : (k : List Node) (v : View) (t : Tree) (vs : List ServiceShape) (n size : ℕ) (p q : Kind) → p ≡ q → operand_count q size ≡ 0 → n ≡ operand_count p size → IsAtRedex k v t vs n (value_redex (kind_head p) (last n v.operands))
    → IsAtRedex k v t vs n (value_redex (kind_head q) [])
bare_row k v t vs n size p q is none whole at =
    let no_operand : n ≡ 0 = whole ∙ ap (λ (x : Kind). operand_count x size) is ∙ none in
    let empty : last n v.operands ≡ [] = ap (λ (m : ℕ). last m v.operands) no_operand ∙ last_none v.operands in
    subst (λ (ops : List ℕ). IsAtRedex k v t vs n (value_redex (kind_head q) ops)) empty (subst (λ (x : Kind). IsAtRedex k v t vs n (value_redex (kind_head x) (last n v.operands))) is at)

-- the same at a node of such a kind
pub bare_at : (k : List Node) (v : View) (number from n : ℕ) (x : Node) (q : Kind) (t : Tree) (vs : List ServiceShape) → Standing k v t vs → AtNode k v number from n x → x.kind ≡ q → is_simple q ≡ true → operand_count q (length x.children.items) ≡ 0
    → IsAtRedex k v t vs n (value_redex (kind_head q) [])
bare_at k v number from n x q t vs h at is simple none =
    let known : is_simple x.kind ≡ true = ap is_simple is ∙ simple in
    bare_row k v t vs n (length x.children.items) x.kind q is none (simple_size k v number from n x at known) (value_row k v number from n x t vs h at.focus at.full at.node known)

-- all terms of a node are done that are reduced in place
pub at_node : (k : List Node) (v : View) (number from n : ℕ) (x : Node) → v.focus ≡ focus.Node number from n → n ≡ in_place (later from (node_piece (pieces k) x)) → piece_at (pieces k) number ≡ node_piece (pieces k) x → AtNode k v number from n x
at_node k v number from n x at full is = record { focus = at; full = full ∙ ap (λ (p : Piece). in_place (later from p)) (sym is); node = is }
