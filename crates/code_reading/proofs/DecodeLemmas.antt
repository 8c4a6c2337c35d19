-- Walks down a table, and the terms that they give.
use Rattle.std.proofs.Common.{◌≡◌, ℕ, zero, suc, ◌+◌, ◌*◌, ◌<◌, ◌≤◌, List, [], ◌∷◌, length, map, get_or, refl, sym, ap, subst, ◌∙◌, arith}
use Rattle.asp_model.specs.Term.{Make, MethodHead, Tree, Trees, node, none, more, trees}
use Rattle.code_table.specs.declared.code.Child.{Child}
use Rattle.code_table.specs.declared.code.Child.TheVariants as child
use Rattle.code_table.specs.declared.code.Kind.{Kind}
use Rattle.code_table.specs.declared.code.Kind.TheVariants as kind
use Rattle.code_table.specs.declared.code.MethodCode.{MethodCode}
use Rattle.code_table.specs.declared.code.Node.{Node}
use Rattle.code_table.specs.Pieces.{Piece, heads_of}
use Rattle.code_table.specs.Tables.{head_of, kind_head, labels_of, piece_at, pieces, pieces_of, bodies_of, kind_piece, node_piece}
use Rattle.code_table.specs.Sound.{IsBelow, AllBelow, MethodsBelow, KindBelow, IsSound}
use Rattle.code_table.proofs.TableLemmas.{node_here, below_at}
use Rattle.code_table.proofs.GrowthLemmas.{below_more}
use Rattle.code_laws.specs.Shown.{shown, shown_below, shown_bodies}
use Rattle.code_reading.specs.Decoded.{trees_then, shown_child, shown_body, rank, finished_tree}

-- Ranks

pub rank_below : (m : ℕ) (c : Child) → IsBelow m c → rank c ≤ m
rank_below m (child.Leaf l) h = omega arith
rank_below m (child.Node i) h = omega (arith, h)

pub child_below : (m : ℕ) (cs : List Child) (k : ℕ) (c : Child) → k < length cs → c ≡ get_or cs k c → AllBelow m cs → IsBelow m c
child_below m [] k c lt e a = absurd (omega (arith, lt))
child_below m (d ∷ cs) zero c lt e a = subst (IsBelow m) (sym e) a.0
child_below m (d ∷ cs) (suc k) c lt e a = let less : k < length cs = omega (arith, lt) in child_below m cs k c less e a.1

pub body_below : (m : ℕ) (ms : List MethodCode) (k : ℕ) (x : MethodCode) → k < length ms → x ≡ get_or ms k x → MethodsBelow m ms → IsBelow m x.body
body_below m [] k x lt e a = absurd (omega (arith, lt))
body_below m (d ∷ ms) zero x lt e a = subst (λ (y : MethodCode). IsBelow m y.body) (sym e) a.0
body_below m (d ∷ ms) (suc k) x lt e a = let less : k < length ms = omega (arith, lt) in body_below m ms k x less e a.1

-- a child that stands below a number, in a table with more nodes, and with a measure below the number's
pub walks_down : (m n : ℕ) (c : Child) → m ≤ n → IsBelow m c → (6 * rank c < 6 * m + 4) × IsBelow n c
walks_down m n c le h = let low : rank c ≤ m = rank_below m c h in (omega (arith, low), below_more m n c le h)

pub walks_in : (m n : ℕ) (c : Child) → m ≤ n → IsBelow m c → (6 * rank c + 2 < 6 * m + 3) × IsBelow n c
walks_in m n c le h = let low : rank c ≤ m = rank_below m c h in (omega (arith, low), below_more m n c le h)

pub node_below : (ns : List Node) (i : ℕ) (n : Node) → i < length ns → n ≡ get_or ns i n → IsSound ns → AllBelow i n.children.items × KindBelow i n.kind
node_below ns i n lt e s = subst (λ (m : Node). AllBelow i m.children.items × KindBelow i m.kind) (sym e) (below_at ns i n lt s)

-- Trees

pub shown_children : (ts : List Tree) (ps : List Piece) (cs : List Child) (us : Trees) → shown_below ts (pieces_of ps cs) us ≡ trees_then (map (shown_child ts ps) cs) us
shown_children ts ps [] us = refl
shown_children ts ps (c ∷ cs) us = ap (more (shown_child ts ps c)) (shown_children ts ps cs us)

then_none : (us : List Tree) → trees_then us none ≡ trees us
then_none [] = refl
then_none (u ∷ us) = ap (more u) (then_none us)

pub shown_methods : (ts : List Tree) (ps : List Piece) (ms : List MethodCode) → shown_bodies ts (bodies_of ps ms) ≡ trees (map (shown_body ts ps) ms)
shown_methods ts ps [] = refl
shown_methods ts ps (m ∷ ms) = ap (more (shown_body ts ps m)) (shown_methods ts ps ms)

pub heads_seen : (ps : List Piece) (ms : List MethodCode) → heads_of (bodies_of ps ms) ≡ map head_of ms
heads_seen ps [] = refl
heads_seen ps (m ∷ ms) = ap (λ (hs : List MethodHead). head_of m ∷ hs) (heads_seen ps ms)

pub kind_shown : (ts : List Tree) (ps : List Piece) (k : Kind) (cs : List Child) → finished_tree ts ps k (map (shown_child ts ps) cs) ≡ shown ts (kind_piece ps k (pieces_of ps cs))
kind_shown ts ps (kind.Make k) cs =
    let ms : List MethodCode = k.value.methods.items in
    sym (λ i. node (Make (labels_of k.value) (heads_seen ps ms i)) (trees_then (map (shown_child ts ps) cs) (shown_methods ts ps ms i)))
    ∙ sym (ap (node (Make (labels_of k.value) (heads_of (bodies_of ps ms)))) (shown_children ts ps cs (shown_bodies ts (bodies_of ps ms))))
kind_shown ts ps k cs = sym (ap (node (kind_head k)) (shown_children ts ps cs none ∙ then_none (map (shown_child ts ps) cs)))

-- a node over its children's terms is the number's piece
pub node_shown : (ts : List Tree) (ns : List Node) (i : ℕ) (n : Node) → i < length ns → n ≡ get_or ns i n → IsSound ns
    → finished_tree ts (pieces ns) n.kind (map (shown_child ts (pieces ns)) n.children.items) ≡ shown ts (piece_at (pieces ns) i)
node_shown ts ns i n lt e s =
    kind_shown ts (pieces ns) n.kind n.children.items ∙ ap (shown ts) (ap (node_piece (pieces ns)) e ∙ sym (node_here ns i n lt s))
