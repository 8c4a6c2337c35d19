-- An object that was read is the object of the class that was compiled for it.
use Rattle.std.proofs.Common.{◌≡◌, All, Bool, ℕ, zero, suc, ◌+◌, ◌<◌, ◌≤◌, List, [], ◌∷◌, ◌++◌, Option, Some, None, get_or, length, map, take, refl, sym, ap, subst, ◌∙◌, arith}
use Rattle.std.proofs.lemmas.List.Elements.{All-cons, All-nil}
use Rattle.asp_model.specs.Names.{Text}
use Rattle.asp_model.specs.Term.{Head, Make, MethodHead, Tree, Trees, node}
use Rattle.asp_model.specs.Store.{CellShape, Number, Object, Store}
use Rattle.asp_model.specs.Contraction.{Contraction, Becomes, allots, fields_at, methods_with, row}
use Rattle.code_table.specs.declared.class.Class.{Class}
use Rattle.code_table.specs.declared.code.Capture.{Capture}
use Rattle.code_table.specs.declared.code.Kind.{Kind}
use Rattle.code_table.specs.declared.code.Kind.TheVariants as kind
use Rattle.code_table.specs.declared.code.Leaf.{Leaf}
use Rattle.code_table.specs.declared.code.Leaf.TheVariants as leaves
use Rattle.code_table.specs.declared.code.MethodCode.{MethodCode}
use Rattle.code_table.specs.declared.code.Node.{Node}
use Rattle.code_table.specs.Classes.{class_at, class_of}
use Rattle.code_table.specs.Pieces.{Piece, object, Pieces, count, heads_of}
use Rattle.code_table.specs.Fitting.{BodiesFit, CapturesFit, Fits, LeafFits, Runs, term_in}
use Rattle.code_table.specs.Sound.{IsOrdered, IsSound}
use Rattle.code_table.specs.Tables.{bodies_of, forest, kind_piece, labels_of, node_piece, object_of, piece_at, pieces, pieces_of, this_or}
use Rattle.code_table.proofs.TableLemmas.{class_seen, forest_keeps, kind_keeps, pieces_keep, same}
use Rattle.code_laws.specs.Places.{kept_places, slot}
use Rattle.code_laws.specs.Nodes.{behind_in, head_in}
use Rattle.code_laws.specs.Laws.{ObjectsAreMade}
use Rattle.code_laws.proofs.MakeLemmas.{makes}
use Rattle.code_laws.proofs.NodeLemmas.{is_term}
use Rattle.frozen_code.specs.Held.{filled, IsHeld}
use Rattle.frozen_code.specs.Objects.{AreKept, AreWithin, ObjectsAreKept, ObjectsAreRestored, restored_places}
use Rattle.frozen_code.proofs.HeldLemmas.{IsOpenedAt, behind_is, opened}

-- the cell that a contraction puts into an empty store
abbrev first_cell : Contraction → CellShape
first_cell (Becomes t (c ∷ cs) lines) = c
first_cell x = Object [] []

same_labels : (ls ks : List Text) (ms hs : List MethodHead) → Make ls ms ≡ Make ks hs → ls ≡ ks
same_labels ls ks ms hs e = cc

same_heads : (ls ks : List Text) (ms hs : List MethodHead) → Make ls ms ≡ Make ks hs → ms ≡ hs
same_heads ls ks ms hs e = cc

object_again : (k : List Node) (kl : Class) (fs : Pieces) (xs : List Text) (ns places : List ℕ) (labels : List Text) (heads : List MethodHead) (bodies : Trees)
    → Runs xs [] ns (object (labels_of kl) fs (bodies_of (pieces k) kl.methods.items)) → length places ≡ length labels
    → term_in xs [] ns (object (labels_of kl) fs (bodies_of (pieces k) kl.methods.items)) ≡ node (Make labels heads) (filled (length places) bodies)
    → object_of (pieces k) kl (places ++ kept_places ns kl.methods.items) ≡ Object (fields_at labels places) (methods_with heads bodies)
object_again k kl fs xs ns places labels heads bodies runs size is =
    let p : Piece = object (labels_of kl) fs (bodies_of (pieces k) kl.methods.items) in
    let own : List MethodHead = heads_of (bodies_of (pieces k) kl.methods.items) in
    let o : IsOpenedAt xs ns p (Make labels heads) (length places) bodies = opened xs ns p (Make labels heads) (length places) bodies tt runs is in
    let behind : behind_in xs [] ns p (length places) ≡ bodies = behind_is xs ns p (Make labels heads) (length places) bodies o in
    let labels_are : labels_of kl ≡ labels = same_labels (labels_of kl) labels own heads o.head in
    let heads_are : own ≡ heads = same_heads (labels_of kl) labels own heads o.head in
    let counted : length places ≡ count fs = size ∙ ap length (sym labels_are) ∙ runs.fits.0 in
    sym (ap first_cell (makes kl fs (pieces k) xs [] ns places [] runs counted))
    ∙ ap (λ (ts : Trees). Object (fields_at (labels_of kl) places) (methods_with own ts)) behind
    ∙ (λ i. Object (fields_at (labels_are i) places) (methods_with (heads_are i) bodies))

-- The class of a number

some_same : {A : Type 0} (x y : A) → Some x ≡ Some y → x ≡ y
some_same x y e = cc

made_piece : (ps : List Piece) (q : Kind) (us : Pieces) (c : Class) → class_of q ≡ Some c → kind_piece ps q us ≡ object (labels_of c) us (bodies_of ps c.methods.items)
made_piece ps (kind.Make b) us c e = ap (λ (d : Class). object (labels_of d) us (bodies_of ps d.methods.items)) (some_same b.value c e)
made_piece ps _ us c e = cc

-- a node's piece is its kind over the pieces of its children
node_at : (ps : List Piece) (ns : List Node) (i : ℕ) (d : Node) → i < length ns → IsOrdered (length ps) ns → piece_at (forest ps ns) (length ps + i) ≡ node_piece (forest ps ns) (get_or ns i d)
node_at ps [] i d h o = absurd (omega (arith, h))
node_at ps (n ∷ ns) zero d h o =
    let here : length ps < suc (length ps) = omega arith in
    let at : length ps ≡ length ps + 0 = omega arith in
    subst (λ (k : ℕ). piece_at (forest (node_piece ps n ∷ ps) ns) k ≡ node_piece (forest (node_piece ps n ∷ ps) ns) n) at
    (forest_keeps (node_piece ps n ∷ ps) ns (length ps) here ∙ ap (λ (b : Bool). this_or b (node_piece ps n) (piece_at ps (length ps))) (same (length ps))
    ∙ sym (kind_keeps ps (n ∷ ns) n.kind (pieces_of (forest ps (n ∷ ns)) n.children.items) o.1 ∙ ap (kind_piece ps n.kind) (pieces_keep ps (n ∷ ns) n.children.items o.0)))
node_at ps (n ∷ ns) (suc i) d h o =
    let less : i < length ns = omega (arith, h) in
    let at : suc (length ps) + i ≡ length ps + suc i = omega arith in
    subst (λ (k : ℕ). piece_at (forest ps (n ∷ ns)) k ≡ node_piece (forest ps (n ∷ ns)) (get_or ns i d)) at (node_at (node_piece ps n ∷ ps) ns i d less o.2)

node_in : (ns : List Node) (i : ℕ) (d : Node) → i < length ns → IsOrdered 0 ns → piece_at (pieces ns) i ≡ node_piece (pieces ns) (get_or ns i d)
node_in ns i d h o =
    let at : 0 + i ≡ i = omega arith in
    subst (λ (j : ℕ). piece_at (forest [] ns) j ≡ node_piece (forest [] ns) (get_or ns i d)) at (node_at [] ns i d h o)

class_piece : (k : List Node) (number : ℕ) (c : Class) → number < length k → IsOrdered 0 k → class_at k number ≡ Some c
    → (fs : Pieces) × (piece_at (pieces k) number ≡ object (labels_of c) fs (bodies_of (pieces k) c.methods.items))
class_piece [] number c h s e = absurd (omega (arith, h))
class_piece (d ∷ ds) number c h s e =
    let k : List Node = d ∷ ds in
    let n : Node = get_or k number d in
    let us : Pieces = pieces_of (pieces k) n.children.items in
    let class : class_of n.kind ≡ Some c = sym (class_seen k number d h) ∙ e in
    (us, node_in k number d h s ∙ made_piece (pieces k) n.kind us c class)

-- a node that holds an object makes objects of a class

makes_class : (ps : List Piece) (q : Kind) (us : Pieces) (labels : List Text) (heads : List MethodHead) → head_in (kind_piece ps q us) ≡ Make labels heads → (c : Class) × (class_of q ≡ Some c)
makes_class ps (kind.Make b) us labels heads e = (b.value, refl)
makes_class ps _ us labels heads e = cc

pub held_class : (k : List Node) (number : ℕ) (ns : List ℕ) (labels : List Text) (heads : List MethodHead) (n : ℕ) (bodies : Trees) → IsOrdered 0 k
    → IsHeld k number ns (Make labels heads) n bodies → (c : Class) × (class_at k number ≡ Some c)
held_class [] number ns labels heads n bodies o held = let none_is : number < 0 = held.below in absurd (omega (arith, none_is))
held_class (d ∷ ds) number ns labels heads n bodies o held =
    let k : List Node = d ∷ ds in
    let x : Node = get_or k number d in
    let p : Piece = piece_at (pieces k) number in
    let there : IsOpenedAt held.names ns p (Make labels heads) n bodies = opened held.names ns p (Make labels heads) n bodies (is_term k number) held.runs held.term in
    let made = makes_class (pieces k) x.kind (pieces_of (pieces k) x.children.items) labels heads (ap head_in (sym (node_in k number d held.below o)) ∙ there.head) in
    (made.0, class_seen k number d held.below ∙ made.1)

pub objects_are_restored : ObjectsAreRestored
objects_are_restored k number class fields ns labels heads bodies sound at size held =
    let x : (fs : Pieces) × (piece_at (pieces k) number ≡ object (labels_of class) fs (bodies_of (pieces k) class.methods.items)) = class_piece k number class held.below sound.ordered at in
    object_again k class x.0 held.names ns fields labels heads bodies
    (subst (Runs held.names [] ns) x.1 held.runs) size
    (sym (ap (term_in held.names [] ns) x.1) ∙ held.term)

-- What its methods capture

leaf_within : (xs : List Text) (n : ℕ) (l : Leaf) → length xs ≤ n → LeafFits xs [] l → slot l < n
leaf_within xs n (leaves.Own k x) low h = cc
leaf_within xs n (leaves.Kept k) low h = let less : k < length xs = h.0 in omega (arith, less, low)

captures_within : (xs : List Text) (n : ℕ) (cs : List Capture) → length xs ≤ n → CapturesFit xs [] cs → AreWithin n cs
captures_within xs n [] low h = All-nil (λ (c : Capture). slot c.leaf < n)
captures_within xs n (c ∷ cs) low h = All-cons (λ (d : Capture). slot d.leaf < n) c cs (leaf_within xs n c.leaf low h.0) (captures_within xs n cs low h.2)

bodies_within : (ps : List Piece) (xs : List Text) (n : ℕ) (ms : List MethodCode) → length xs ≤ n → BodiesFit xs [] (bodies_of ps ms) → AreKept n ms
bodies_within ps xs n [] low h = All-nil (λ (m : MethodCode). AreWithin n m.captured.items)
bodies_within ps xs n (m ∷ ms) low h = All-cons (λ (x : MethodCode). AreWithin n x.captured.items) m ms (captures_within xs n m.captured.items low h.0) (bodies_within ps xs n ms low h.2)

pub captures_kept : (k : List Node) (number : ℕ) (class : Class) (n : ℕ) (ns : List ℕ) (labels : List Text) (heads : List MethodHead) (bodies : Trees) → IsOrdered 0 k
    → class_at k number ≡ Some class → IsHeld k number ns (Make labels heads) n bodies → AreKept (length ns) class.methods.items
captures_kept k number class n ns labels heads bodies ordered at held =
    let x : (fs : Pieces) × (piece_at (pieces k) number ≡ object (labels_of class) fs (bodies_of (pieces k) class.methods.items)) = class_piece k number class held.below ordered at in
    let runs : Runs held.names [] ns (object (labels_of class) x.0 (bodies_of (pieces k) class.methods.items)) = subst (Runs held.names [] ns) x.1 held.runs in
    bodies_within (pieces k) held.names (length ns) class.methods.items runs.low runs.fits.2

pub objects_are_kept : ObjectsAreKept
objects_are_kept k number class n ns labels heads bodies sound at held = captures_kept k number class n ns labels heads bodies sound.ordered at held
