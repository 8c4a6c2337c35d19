-- What stands at a number of a table.
use Rattle.std.proofs.Common.{◌≡◌, ℕ, zero, suc, ◌+◌, ◌<◌, ◌≤◌, ◌==◌, Bool, true, false, List, [], ◌∷◌, Option, Some, None, length, get_or, refl, sym, ap, subst, ◌∙◌, arith, Bor, IfSome}
use Rattle.code_table.specs.declared.code.Child.{Child}
use Rattle.code_table.specs.declared.code.Child.TheVariants as child
use Rattle.code_table.specs.declared.class.Class.{Class}
use Rattle.code_table.specs.declared.code.Kind.{Kind}
use Rattle.code_table.specs.declared.code.Kind.TheVariants as kind
use Rattle.code_table.specs.declared.code.MethodCode.{MethodCode}
use Rattle.code_table.specs.declared.code.Node.{Node}
use Rattle.code_table.specs.Pieces.{Piece, Pieces, object, also, method}
use Rattle.code_table.specs.Tables.{this_or, piece_at, piece_of, pieces_of, labels_of, head_of, bodies_of, kind_piece, node_piece, forest, pieces}
use Rattle.code_table.specs.Sound.{IsBelow, AllBelow, MethodsBelow, KindBelow, IsOrdered, KindSound, ClassesSound, IsSound, MethodsSound, StartFrom}
use Rattle.code_table.specs.Classes.{class_of, class_at, seen_class}

passed : (i n : ℕ) → i < n → (i == n) ≡ false
passed i n h = grind arith

pub same : (n : ℕ) → (n == n) ≡ true
same n = grind arith

keeps_one : (p : Piece) (ps : List Piece) (i : ℕ) → i < length ps → piece_at (p ∷ ps) i ≡ piece_at ps i
keeps_one p ps i h = ap (λ (b : Bool). this_or b p (piece_at ps i)) (passed i (length ps) h)

-- What stands in a table stays, whatever nodes stand behind it

pub forest_keeps : (ps : List Piece) (ns : List Node) (i : ℕ) → i < length ps → piece_at (forest ps ns) i ≡ piece_at ps i
forest_keeps ps [] i h = refl
forest_keeps ps (n ∷ ns) i h = let more : i < suc (length ps) = omega arith in forest_keeps (node_piece ps n ∷ ps) ns i more ∙ keeps_one (node_piece ps n) ps i h

pub child_keeps : (ps : List Piece) (ns : List Node) (c : Child) → IsBelow (length ps) c → piece_of (forest ps ns) c ≡ piece_of ps c
child_keeps ps ns (child.Leaf l) h = refl
child_keeps ps ns (child.Node i) h = forest_keeps ps ns i h

pub pieces_keep : (ps : List Piece) (ns : List Node) (cs : List Child) → AllBelow (length ps) cs → pieces_of (forest ps ns) cs ≡ pieces_of ps cs
pieces_keep ps ns [] h = refl
pieces_keep ps ns (c ∷ cs) h = λ i. also (child_keeps ps ns c h.0 i) (pieces_keep ps ns cs h.1 i)

pub bodies_keep : (ps : List Piece) (ns : List Node) (ms : List MethodCode) → MethodsBelow (length ps) ms → bodies_of (forest ps ns) ms ≡ bodies_of ps ms
bodies_keep ps ns [] h = refl
bodies_keep ps ns (m ∷ ms) h = λ i. method (head_of m) m.captured.items (child_keeps ps ns m.body h.0 i) (bodies_keep ps ns ms h.1 i)

pub kind_keeps : (ps : List Piece) (ns : List Node) (k : Kind) (us : Pieces) → KindBelow (length ps) k → kind_piece (forest ps ns) k us ≡ kind_piece ps k us
kind_keeps ps ns (kind.Make k) us h = ap (object (labels_of k.value) us) (bodies_keep ps ns k.value.methods.items h)
kind_keeps ps ns _ us h = refl

-- a node's piece is its kind over the pieces of its children
node_at : (ps : List Piece) (ns : List Node) (i : ℕ) (d : Node) → i < length ns → IsOrdered (length ps) ns → piece_at (forest ps ns) (length ps + i) ≡ node_piece (forest ps ns) (get_or ns i d)
node_at ps [] i d h o = absurd (omega (arith, h))
node_at ps (n ∷ ns) zero d h o =
    let here : length ps < suc (length ps) = omega arith in
    let at : length ps ≡ length ps + 0 = omega arith in
    subst (λ (k : ℕ). piece_at (forest (node_piece ps n ∷ ps) ns) k ≡ node_piece (forest (node_piece ps n ∷ ps) ns) n) at
    (forest_keeps (node_piece ps n ∷ ps) ns (length ps) here ∙ ap (λ (b : Bool). this_or b (node_piece ps n) (piece_at ps (length ps))) (same (length ps))
    ∙ sym (kind_keeps ps (n ∷ ns) n.kind (pieces_of (forest ps (n ∷ ns)) n.children.items) o.1 ∙ ap (kind_piece ps n.kind) (pieces_keep ps (n ∷ ns) n.children.items o.0)))
node_at ps (n ∷ ns) (suc i) d h o =
    let less : i < length ns = omega (arith, h) in
    let at : suc (length ps) + i ≡ length ps + suc i = omega arith in
    subst (λ (k : ℕ). piece_at (forest ps (n ∷ ns)) k ≡ node_piece (forest ps (n ∷ ns)) (get_or ns i d)) at (node_at (node_piece ps n ∷ ps) ns i d less o.2)

pub node_here : (ns : List Node) (i : ℕ) (d : Node) → i < length ns → IsSound ns → piece_at (pieces ns) i ≡ node_piece (pieces ns) (get_or ns i d)
node_here ns i d h s =
    let at : 0 + i ≡ i = omega arith in
    subst (λ (j : ℕ). piece_at (forest [] ns) j ≡ node_piece (forest [] ns) (get_or ns i d)) at (node_at [] ns i d h s.ordered)

-- What holds of each node of a table

children_at : (m : ℕ) (ns : List Node) (i : ℕ) (d : Node) → i < length ns → IsOrdered m ns → AllBelow (m + i) (get_or ns i d).children.items × KindBelow (m + i) (get_or ns i d).kind
children_at m [] i d h o = absurd (omega (arith, h))
children_at m (n ∷ ns) zero d h o = let at : m ≡ m + 0 = omega arith in subst (λ (k : ℕ). AllBelow k n.children.items × KindBelow k n.kind) at (o.0, o.1)
children_at m (n ∷ ns) (suc i) d h o =
    let less : i < length ns = omega (arith, h) in
    let at : suc m + i ≡ m + suc i = omega arith in
    subst (λ (k : ℕ). AllBelow k (get_or ns i d).children.items × KindBelow k (get_or ns i d).kind) at (children_at (suc m) ns i d less o.2)

-- the terms below a node, and the bodies of its methods, stand before it
pub below_at : (ns : List Node) (i : ℕ) (d : Node) → i < length ns → IsSound ns → AllBelow i (get_or ns i d).children.items × KindBelow i (get_or ns i d).kind
below_at ns i d h s =
    let at : 0 + i ≡ i = omega arith in
    subst (λ (k : ℕ). AllBelow k (get_or ns i d).children.items × KindBelow k (get_or ns i d).kind) at (children_at 0 ns i d h s.ordered)

kind_at : (ps : List Piece) (ns : List Node) (i : ℕ) (d : Node) → i < length ns → ClassesSound ps ns → KindSound ps (get_or ns i d).kind
kind_at ps [] i d h s = absurd (omega (arith, h))
kind_at ps (n ∷ ns) zero d h s = s.0
kind_at ps (n ∷ ns) (suc i) d h s = let less : i < length ns = omega (arith, h) in kind_at ps ns i d less s.1

pub sound_kind_at : (ns : List Node) (i : ℕ) (d : Node) → i < length ns → IsSound ns → KindSound (pieces ns) (get_or ns i d).kind
sound_kind_at ns i d h s = kind_at (pieces ns) ns i d h s.classes

pub class_seen : (ns : List Node) (i : ℕ) (d : Node) → i < length ns → class_at ns i ≡ class_of (get_or ns i d).kind
class_seen [] i d h = absurd (omega (arith, h))
class_seen (n ∷ ns) zero d h = refl
class_seen (n ∷ ns) (suc i) d h = let less : i < length ns = omega (arith, h) in class_seen ns i d less

pub class_past : (ns : List Node) (i : ℕ) → length ns ≤ i → class_at ns i ≡ None
class_past [] i h = refl
class_past (n ∷ ns) zero h = absurd (omega (arith, h))
class_past (n ∷ ns) (suc i) h = class_past ns i (omega (arith, h))

-- What holds of a class that a look-up lends

lent : (o : Option (Bor Class)) (q : Option Class) (P : Class → Type 0) → seen_class o ≡ q → IfSome q P → IfSome o (λ (k : Bor Class). P k.now)
lent None q P e h = tt
lent (Some k) q P e h = subst (λ (r : Option Class). IfSome r P) (sym e) h

kind_class : (ps : List Piece) (k : Kind) → KindSound ps k → IfSome (class_of k) (λ (c : Class). MethodsSound ps c.methods.items × StartFrom (length c.fields.items) c.methods.items)
kind_class ps (kind.Make k) h = (h.0, h.1)
kind_class ps _ h = tt

kind_class_below : (m : ℕ) (k : Kind) → KindBelow m k → IfSome (class_of k) (λ (c : Class). MethodsBelow m c.methods.items)
kind_class_below m (kind.Make k) h = h
kind_class_below m _ h = tt

first : (A B : Class → Type 0) (q : Option Class) → IfSome q (λ (c : Class). A c × B c) → IfSome q A
first A B None h = tt
first A B (Some k) h = h.0

second : (A B : Class → Type 0) (q : Option Class) → IfSome q (λ (c : Class). A c × B c) → IfSome q B
second A B None h = tt
second A B (Some k) h = h.1

pub lent_sound : (ns : List Node) (i : ℕ) (n : Node) (o : Option (Bor Class)) → IsSound ns → i < length ns → n ≡ get_or ns i n → seen_class o ≡ class_of n.kind
    → IfSome o (λ (k : Bor Class). MethodsSound (pieces ns) k.now.methods.items)
lent_sound ns i n o s lt at e =
    let here : KindSound (pieces ns) n.kind = subst (λ (m : Node). KindSound (pieces ns) m.kind) (sym at) (sound_kind_at ns i n lt s) in
    lent o (class_of n.kind) (λ (k : Class). MethodsSound (pieces ns) k.methods.items) e
    (first (λ (k : Class). MethodsSound (pieces ns) k.methods.items) (λ (k : Class). StartFrom (length k.fields.items) k.methods.items) (class_of n.kind) (kind_class (pieces ns) n.kind here))

pub lent_starts : (ns : List Node) (i : ℕ) (n : Node) (o : Option (Bor Class)) → IsSound ns → i < length ns → n ≡ get_or ns i n → seen_class o ≡ class_of n.kind
    → IfSome o (λ (k : Bor Class). StartFrom (length k.now.fields.items) k.now.methods.items)
lent_starts ns i n o s lt at e =
    let here : KindSound (pieces ns) n.kind = subst (λ (m : Node). KindSound (pieces ns) m.kind) (sym at) (sound_kind_at ns i n lt s) in
    lent o (class_of n.kind) (λ (k : Class). StartFrom (length k.fields.items) k.methods.items) e
    (second (λ (k : Class). MethodsSound (pieces ns) k.methods.items) (λ (k : Class). StartFrom (length k.fields.items) k.methods.items) (class_of n.kind) (kind_class (pieces ns) n.kind here))

pub lent_below : (ns : List Node) (i : ℕ) (n : Node) (o : Option (Bor Class)) → IsSound ns → i < length ns → n ≡ get_or ns i n → seen_class o ≡ class_of n.kind
    → IfSome o (λ (k : Bor Class). MethodsBelow i k.now.methods.items)
lent_below ns i n o s lt at e =
    let here : KindBelow i n.kind = subst (λ (m : Node). KindBelow i m.kind) (sym at) (below_at ns i n lt s).1 in
    lent o (class_of n.kind) (λ (k : Class). MethodsBelow i k.methods.items) e (kind_class_below i n.kind here)

pub lent_class : (ns : List Node) (i : ℕ) (n : Node) (o : Option (Bor Class)) → i < length ns → n ≡ get_or ns i n → seen_class o ≡ class_of n.kind → seen_class o ≡ class_at ns i
lent_class ns i n o lt at e = e ∙ ap (λ (m : Node). class_of m.kind) at ∙ sym (class_seen ns i n lt)
