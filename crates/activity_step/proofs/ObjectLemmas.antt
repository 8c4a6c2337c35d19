-- Objects and groups that are made.
use Rattle.std.proofs.Common.{◌≡◌, ℕ, zero, suc, ◌<◌, ◌≤◌, List, [], ◌∷◌, ◌++◌, Option, Some, None, length, get_or, ◌⊎◌, inl, inr, refl, sym, ap, subst, ◌∙◌, arith, map}
use Rattle.std.proofs.lemmas.List.{map-append}
use Rattle.asp_model.specs.Shapes.{line_shape}
use Rattle.asp_model.specs.declared.outcome.Line.{Line}
use Rattle.asp_model.specs.declared.outcome.Line.TheVariants as line
use Rattle.std.proofs.Math.Seq.{drop-nil}
use Rattle.asp_model.specs.Names.{Text}
use Rattle.asp_model.specs.Term.{Tree, loc}
use Rattle.asp_model.specs.Store as store
use Rattle.asp_model.specs.Store.{CellShape, Field, MethodShape, Store}
use Rattle.asp_model.specs.Configuration.{ServiceShape}
use Rattle.asp_model.specs.Contraction.{Becomes, LineShape, TextLine, allots, fields_at}
use Rattle.code_table.specs.declared.class.Class.{Class}
use Rattle.code_table.specs.declared.code.Kind.{Kind}
use Rattle.code_table.specs.declared.code.Kind.TheVariants as kind
use Rattle.code_table.specs.declared.code.MethodCode.{MethodCode}
use Rattle.code_table.specs.declared.code.Node.{Node}
use Rattle.code_table.specs.Classes.{class_at, class_of}
use Rattle.code_table.specs.Pieces.{Piece, Pieces, Bodies, no_method, method, object, piece}
use Rattle.code_table.specs.Sound.{IsSound, empty_number}
use Rattle.code_table.specs.Tables.{bodies_of, kind_piece, labels_of, pieces, pieces_of, piece_at, seen_methods}
use Rattle.code_table.proofs.TableLemmas.{node_here, class_seen, class_past}
use Rattle.code_table.specs.Cells.{CodedCell, CodedStore}
use Rattle.code_table.specs.Shapes.{cell_of, class_object, store_of}
use Rattle.code_table.proofs.CodedLemmas.{length-store_of, store_of-append}
use Rattle.step_machine.specs.Rows.{AtNode}
use Rattle.step_machine.specs.Standing.{View, Standing}
use Rattle.step_machine.proofs.RowLemmas.{IsAtObject, object_row}

-- a cell that is added
pub allotted : (k : List Node) (old new : CodedStore) (c : CodedCell) (p : ℕ) (lines : List LineShape) → p ≡ length old → new ≡ old ++ c ∷ [] → allots (store_of k old) (cell_of k c) lines ≡ Becomes (loc p) (store_of k new) lines
allotted k old new c p lines place cells =
    λ i. Becomes (loc ((length-store_of k old ∙ sym place) i)) ((sym (ap (store_of k) cells ∙ store_of-append k old (c ∷ []))) i) lines

class_piece : (ps : List Piece) (q : Kind) (us : Pieces) (c : Class) → class_of q ≡ Some c → kind_piece ps q us ≡ object (labels_of c) us (bodies_of ps c.methods.items)
class_piece ps (kind.Make b) us c e = let same : b.value ≡ c = cc in ap (λ (x : Class). object (labels_of x) us (bodies_of ps x.methods.items)) same
class_piece ps q us c e = cc

-- a node of a class makes objects of it
pub made_at : (k : List Node) (v : View) (number from n : ℕ) (x : Node) (c : Class) (t : Tree) (vs : List ServiceShape) → Standing k v t vs → AtNode k v number from n x → class_of x.kind ≡ Some c → IsAtObject k v t vs n c
made_at k v number from n x c t vs h at is =
    object_row k v number from n x c t vs h at.focus at.full (at.node ∙ class_piece (pieces k) x.kind (pieces_of (pieces k) x.children.items) c is)

-- The object `[]`

no_fields : (ls : List Text) → (let none : List Field = [] in fields_at ls [] ≡ none)
no_fields [] = refl
no_fields (l ∷ ls) = refl

abbrev bodies_in : Piece → Bodies
bodies_in (object ls fs ms) = ms
bodies_in p = no_method

no_methods : (ps : List Piece) (ms : List MethodCode) → bodies_of ps ms ≡ no_method → (let none : List MethodCode = [] in ms ≡ none)
no_methods ps [] e = refl
no_methods ps (m ∷ ms) e = cc

empty_seen : (k : List Node) (o : Option Class) (x : Node) → o ≡ class_of x.kind → piece_at (pieces k) empty_number ≡ kind_piece (pieces k) x.kind (pieces_of (pieces k) x.children.items) → IsSound k
    → class_object k [] o ≡ store.Object [] []
empty_seen k None x e at s = refl
empty_seen k (Some c) x e at s =
    let ps : List Piece = pieces k in
    let us : Pieces = pieces_of ps x.children.items in
    let same : object (labels_of c) us (bodies_of ps c.methods.items) ≡ object [] Rattle.code_table.specs.Pieces.nothing no_method = sym (class_piece ps x.kind us c (sym e)) ∙ sym at ∙ s.empty in
    let none : c.methods.items ≡ [] = no_methods ps c.methods.items (ap bodies_in same) in
    λ i. store.Object (no_fields (labels_of c) i) (seen_methods ps (none i) (drop-nil (length c.fields.items) i))

at_empty : (k ms : List Node) (s : IsSound k) → (let ns = ms in length ns ≤ empty_number ⊎ (empty_number < length ns)) → k ≡ ms → class_object k [] (class_at k empty_number) ≡ store.Object [] []
at_empty k ms s (inl le) e = ap (class_object k []) (class_past k empty_number (subst (λ (ns : List Node). length ns ≤ empty_number) (sym e) le))
at_empty k [] s (inr lt) e = absurd (omega (arith, lt))
at_empty k (d ∷ ms) s (inr lt) e =
    let within : empty_number < length k = subst (λ (ns : List Node). empty_number < length ns) (sym e) lt in
    let x : Node = get_or k empty_number d in
    empty_seen k (class_at k empty_number) x (class_seen k empty_number d within) (node_here k empty_number d within s) s

two_or_more : (n : ℕ) → (n ≤ empty_number) ⊎ (empty_number < n)
two_or_more zero = inl (omega arith)
two_or_more (suc zero) = inl (omega arith)
two_or_more (suc (suc zero)) = inl (omega arith)
two_or_more (suc (suc (suc n))) = inr (omega arith)

-- an object of the empty class has neither fields nor methods
pub empty_object : (k : List Node) → IsSound k → class_object k [] (class_at k empty_number) ≡ store.Object [] []
empty_object k s = at_empty k k s (two_or_more (length k)) refl

-- a line of text
pub text_printed : (old new : List Line) (x w : Text) → new ≡ old ++ line.Text x ∷ [] → x ≡ w → map line_shape new ≡ map line_shape old ++ TextLine w ∷ []
text_printed old new x w e g = ap (map line_shape) e ∙ map-append line_shape old (line.Text x ∷ []) ∙ ap (λ (y : Text). map line_shape old ++ TextLine y ∷ []) g
