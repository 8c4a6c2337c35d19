-- What decoded terms show.
use Rattle.std.proofs.Common.{◌≡◌, ℕ, zero, suc, List, [], ◌∷◌, map, refl, sym, ap, subst, ◌∙◌}
use Rattle.asp_model.specs.Term.{Steps, Repeat, Tree, none, more, trees, loc, locs_then}
use Rattle.asp_model.specs.Split.{Context}
use Rattle.code_table.specs.declared.code.Node.{Node}
use Rattle.code_table.specs.Pieces.{Piece, variable, piece, object}
use Rattle.code_table.specs.Tables.{pieces, piece_at}
use Rattle.code_laws.specs.Nodes as nodes
use Rattle.code_reading.specs.Decoded.{IsContextIn, IsRedexIn}
use Rattle.step_machine.specs.Sequences as sequences
use Rattle.step_machine.specs.Stacks.{IsWaiting}
use Rattle.step_machine.specs.Standing.{IsBegun}
use Rattle.code_reading.specs.Shown.{hole_tree}

same_later : (from : ℕ) (p : Piece) → nodes.later from p ≡ sequences.later from p
same_later zero p = refl
same_later (suc n) (variable l) = refl
same_later (suc n) (piece Steps ps) = refl
same_later (suc n) (piece Repeat ps) = refl
same_later (suc n) (piece hd ps) = refl
same_later (suc n) (object ls fs ms) = refl

pub context_is : (k : List Node) (ns done : List ℕ) (number from : ℕ) (t : Tree) (c : Context) → IsContextIn ns done (nodes.later from (piece_at (pieces k) number)) t → IsWaiting k ns done number from c → t ≡ hole_tree c
context_is k ns done number from t c h w =
    let here : IsContextIn ns done (sequences.later from (piece_at (pieces k) number)) t = subst (λ (p : Piece). IsContextIn ns done p t) (same_later from (piece_at (pieces k) number)) h in
    here w.names w.scope w.runs w.unfinished ∙ sym (ap hole_tree w.is)

pub redex_is : (k : List Node) (ns own : List ℕ) (number from : ℕ) (t u : Tree) → IsRedexIn ns own (nodes.later from (piece_at (pieces k) number)) t → IsBegun k ns own number from u → t ≡ u
redex_is k ns own number from t u h b =
    let here : IsRedexIn ns own (sequences.later from (piece_at (pieces k) number)) t = subst (λ (p : Piece). IsRedexIn ns own p t) (same_later from (piece_at (pieces k) number)) h in
    here b.names b.scope b.runs b.most ∙ sym b.is

pub locs_alone : (ns : List ℕ) → trees (map loc ns) ≡ locs_then ns none
locs_alone [] = refl
locs_alone (n ∷ ns) = ap (more (loc n)) (locs_alone ns)
