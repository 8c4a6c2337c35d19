-- Tables of whole programs.
use Rattle.std.proofs.Common.{◌≡◌, ℕ, ◌+◌, ◌<◌, List, [], ◌∷◌, ◌++◌, length, refl, sym, ap, subst, ◌∙◌, arith}
use Rattle.asp_model.specs.Names.{Text}
use Rattle.asp_model.specs.Term.{Tree, Environment}
use Rattle.asp_model.specs.Marked.{Marked, one_marked}
use Rattle.code_table.specs.declared.code.Child.{Child}
use Rattle.code_table.specs.declared.code.Child.TheVariants as child
use Rattle.code_table.specs.declared.code.Leaf.{Leaf}
use Rattle.code_table.specs.declared.code.Leaf.TheVariants as leaves
use Rattle.code_table.specs.declared.code.Node.{Node}
use Rattle.code_table.specs.Pieces.{Piece, tree}
use Rattle.code_table.specs.Fitting.{LeafFits, Fits}
use Rattle.code_table.specs.Tables.{piece_at, piece_of, pieces}
use Rattle.code_table.specs.Marks.{HasMarks}
use Rattle.code_table.specs.Sound.{IsSound, root_of}
use Rattle.code_table.proofs.GrowthLemmas.{number_kept}
use Rattle.code_compiler.specs.Compiled.{Body, variables, Grows, IsTable, IsPrelude, IsRoot, Adds, AddsMarks, EndsTable}
use Rattle.code_compiler.proofs.AddLemmas.{OnePiece, one_piece}
use Rattle.code_compiler.proofs.MarkLemmas.{only_marks}

-- The program

no_leaf : (l : Leaf) → LeafFits [] [] l → ⊥
no_leaf (leaves.Own k x) h = cc
no_leaf (leaves.Kept k) h = let below : k < 0 = h.0 in omega (arith, below)

rooted : (ms : List Node) (t : Tree) (c : Child) → tree [] (piece_of (pieces ms) c) ≡ t → Fits [] [] 0 (piece_of (pieces ms) c) → EndsTable (length ms) (c ∷ []) → IsRoot ms t
rooted ms t (child.Leaf l) is f e = absurd (no_leaf l f)
rooted ms t (child.Node i) is f e =
    let at : i ≡ root_of ms = omega (arith, e) in
    record { fits = subst (λ (k : ℕ). Fits [] [] 0 (piece_at (pieces ms) k)) at f; term = ap (λ (k : ℕ). tree [] (piece_at (pieces ms) k)) (sym at) ∙ is }

pub root_added : (us vs : List ℕ) (ns ms : List Node) (cs ds : List Child) (t : Tree) (ys : List Text) (bs : Environment) → ys ≡ [] → bs ≡ [] → cs ≡ []
    → (let a : Body = record { captured = ys; bound = bs; uses = us } in let b : Body = record { captured = ys; bound = bs; uses = vs } in Adds a b ns ms cs ds (t ∷ [])) → EndsTable (length ms) ds → IsRoot ms t
root_added us vs ns ms cs ds t ys bs y e none x ends =
    let a : Body = record { captured = ys; bound = bs; uses = us } in
    let p : OnePiece a (pieces ms) x.new t = one_piece a (pieces ms) x.new t x.stand in
    let only : ds ≡ p.child ∷ [] = x.children ∙ (λ i. none i ++ p.is i) in
    let q : Piece = piece_of (pieces ms) p.child in
    let here : 0 + 0 ≡ 0 = refl in
    rooted ms t p.child (ap (λ (zs : List Text). tree (variables zs) q) (sym y) ∙ p.term)
    (subst (λ (zs : List Text). Fits zs [] (length zs + 0) q) y (subst (λ (d : Environment). Fits ys d (length ys + length d) q) e p.fits)) (subst (EndsTable (length ms)) only ends)

rooted_marks : (ms : List Node) (u : Marked) (c : Child) → HasMarks ms c u → Fits [] [] 0 (piece_of (pieces ms) c) → EndsTable (length ms) (c ∷ []) → HasMarks ms (child.Node (root_of ms)) u
rooted_marks ms u (child.Leaf l) h f e = absurd (no_leaf l f)
rooted_marks ms u (child.Node i) h f e = let at : i ≡ root_of ms = omega (arith, e) in subst (λ (k : ℕ). HasMarks ms (child.Node k) u) at h

pub root_marks : (us vs : List ℕ) (ns ms : List Node) (cs ds : List Child) (t : Tree) (u : Marked) (ys : List Text) (bs : Environment) → ys ≡ [] → bs ≡ [] → cs ≡ []
    → (let a : Body = record { captured = ys; bound = bs; uses = us } in let b : Body = record { captured = ys; bound = bs; uses = vs } in Adds a b ns ms cs ds (t ∷ []))
    → AddsMarks ms cs ds (one_marked u) → EndsTable (length ms) ds → HasMarks ms (child.Node (root_of ms)) u
root_marks us vs ns ms cs ds t u ys bs y e none x m ends =
    let a : Body = record { captured = ys; bound = bs; uses = us } in
    let p : OnePiece a (pieces ms) x.new t = one_piece a (pieces ms) x.new t x.stand in
    let only : ds ≡ p.child ∷ [] = x.children ∙ (λ i. none i ++ p.is i) in
    let q : Piece = piece_of (pieces ms) p.child in
    rooted_marks ms u p.child (only_marks ms cs ds p.child u none only m)
    (subst (λ (zs : List Text). Fits zs [] (length zs + 0) q) y (subst (λ (d : Environment). Fits ys d (length ys + length d) q) e p.fits)) (subst (EndsTable (length ms)) only ends)

pub sound_program : (ns ms : List Node) (t : Tree) → IsPrelude ns → Grows ns ms → IsRoot ms t → IsSound ms
sound_program ns ms t p g r =
    let all : IsTable ms = g.table p.table in
    let zeroth : 0 < length ns = omega (arith, p.three) in
    let first : 1 < length ns = omega (arith, p.three) in
    let second : 2 < length ns = omega (arith, p.three) in
    record {
      ordered = all.ordered;
      classes = all.classes;
      serve = ap (λ (l : List Node). piece_at (pieces l) 0) g.grown ∙ number_kept ns g.added 0 zeroth ∙ p.serve;
      service = ap (λ (l : List Node). piece_at (pieces l) 1) g.grown ∙ number_kept ns g.added 1 first ∙ p.service;
      empty = ap (λ (l : List Node). piece_at (pieces l) 2) g.grown ∙ number_kept ns g.added 2 second ∙ p.empty;
      root = r.fits;
    }
