-- The fields and the methods of objects, one after another.
use Rattle.std.proofs.Common.{◌≡◌, ℕ, zero, suc, ◌+◌, ◌<◌, ◌≤◌, List, [], ◌∷◌, ◌++◌, Some, length, map, get_or, take, drop, refl, sym, ap, ◌∙◌, arith, append_assoc}
use Rattle.std.proofs.lemmas.List.{append-nil, length-map, at_drop_all, at_drop_more}
use Rattle.std.specs.List.{flat_map}
use Rattle.asp_model.specs.declared.word.Label.{Label}
use Rattle.asp_model.specs.Term.{Tree, loc}
use Rattle.asp_model.specs.Store.{Field, MethodShape}
use Rattle.asp_model.specs.Contraction.{fields_at}
use Rattle.code_table.specs.declared.code.MethodCode.{MethodCode}
use Rattle.code_table.specs.Pieces.{Piece, tree}
use Rattle.code_table.specs.Fitting.{captured_names, head_names, body_scope, body_height}
use Rattle.code_table.specs.Sound.{IsSoundMethod}
use Rattle.code_table.specs.Tables.{head_of, piece_of, seen_methods, text_of, with_places}
use Rattle.code_laws.specs.Shown.{shown}
use Rattle.code_laws.proofs.ShownLemmas.{over_from, shown_over}
use Rattle.code_table.specs.declared.class.Class.{Class}
use Rattle.code_table.specs.declared.code.Node.{Node}
use Rattle.code_table.specs.Classes.{class_at}
use Rattle.code_table.specs.Cells.{CodedCell, CodedStore, cell_at}
use Rattle.code_table.specs.Shapes.{cell_of}
use Rattle.code_table.proofs.CodedLemmas.{drop_cell}
use Rattle.checkpoint_text.specs.Items.{Items, cell_items, list_items, number_items}
use Rattle.checkpoint_text.specs.Writing.{words}
use Rattle.checkpoint_text.proofs.WritingLemmas.{onward, words_both}
use Rattle.frozen_runs.specs.Pieces.{method_shape_items}

-- Fields

abbrev pub fields_in : List Label → List ℕ → List Field
fields_in ls ns = fields_at (map text_of ls) ns

pub fewer_fields : (ls : List Label) (ns : List ℕ) → length ls ≤ length ns → length (fields_in ls ns) ≡ length ls
fewer_fields [] ns le = refl
fewer_fields (l ∷ ls) [] le = absurd (omega (arith, le))
fewer_fields (l ∷ ls) (n ∷ ns) le = let less : length ls ≤ length ns = omega (arith, le) in ap suc (fewer_fields ls ns less)

pub fewer_places : (ls : List Label) (ns : List ℕ) → length ns ≤ length ls → length (fields_in ls ns) ≡ length ns
fewer_places [] [] le = refl
fewer_places [] (n ∷ ns) le = absurd (omega (arith, le))
fewer_places (l ∷ ls) [] le = refl
fewer_places (l ∷ ls) (n ∷ ns) le = let less : length ns ≤ length ls = omega (arith, le) in ap suc (fewer_places ls ns less)

pub field_within : (ls : List Label) (ns : List ℕ) (k : ℕ) → k < length (fields_in ls ns) → (k < length ls) × (k < length ns)
field_within [] ns k lt = absurd (omega (arith, lt))
field_within (l ∷ ls) [] k lt = absurd (omega (arith, lt))
field_within (l ∷ ls) (n ∷ ns) zero lt = (omega arith, omega arith)
field_within (l ∷ ls) (n ∷ ns) (suc k) lt =
    let less : k < length (fields_in ls ns) = omega (arith, lt) in
    let h = field_within ls ns k less in
    (omega (arith, h.0), omega (arith, h.1))

pub field_is : (ls : List Label) (ns : List ℕ) (k : ℕ) (l : Label) (e : ℕ) (d : Field) → k < length (fields_in ls ns) → l ≡ get_or ls k l
    → record { label = l.text; place = get_or ns k e } ≡ get_or (fields_in ls ns) k d
field_is [] ns k l e d lt is = absurd (omega (arith, lt))
field_is (m ∷ ls) [] k l e d lt is = absurd (omega (arith, lt))
field_is (m ∷ ls) (n ∷ ns) zero l e d lt is = λ i. record { label = (is i).text; place = n }
field_is (m ∷ ls) (n ∷ ns) (suc k) l e d lt is = let less : k < length (fields_in ls ns) = omega (arith, lt) in field_is ls ns k l e d less is

-- Methods

pub seen_count : (ps : List Piece) (ms : List MethodCode) (ns : List ℕ) → length (seen_methods ps ms ns) ≡ length ms
seen_count ps [] ns = refl
seen_count ps (m ∷ ms) ns = ap suc (seen_count ps ms (drop (length m.captured.items) ns))

-- the methods from a number on begin with that one
pub from_here : (ms : List MethodCode) (i : ℕ) (m : MethodCode) → i < length ms → m ≡ get_or ms i m → drop i ms ≡ m ∷ drop (i + 1) ms
from_here ms i m h e = at_drop_more (λ (ys : List MethodCode). ys) ms i m h ∙ ap (λ (y : MethodCode). y ∷ drop (i + 1) ms) (sym e)

-- one method more
pub method_more : (ps : List Piece) (ms : List MethodCode) (i : ℕ) (m : MethodCode) (left : List ℕ) (s0 s1 : List ℕ) → i < length ms → m ≡ get_or ms i m
    → s1 ≡ s0 ++ words (method_shape_items (with_places ps m (take (length m.captured.items) left)))
    → s1 ++ words (flat_map method_shape_items (seen_methods ps (drop (i + 1) ms) (drop (length m.captured.items) left))) ≡ s0 ++ words (flat_map method_shape_items (seen_methods ps (drop i ms) left))
method_more ps ms i m left s0 s1 h e put =
    let behind : List MethodShape = seen_methods ps (drop (i + 1) ms) (drop (length m.captured.items) left) in
    let own : MethodShape = with_places ps m (take (length m.captured.items) left) in
    ap (λ (y : List ℕ). y ++ words (flat_map method_shape_items behind)) put
    ∙ append_assoc s0 (words (method_shape_items own)) (words (flat_map method_shape_items behind))
    ∙ ap (λ (y : List ℕ). s0 ++ y) (words_both (method_shape_items own) (flat_map method_shape_items behind))
    ∙ ap (λ (ys : List MethodCode). s0 ++ words (flat_map method_shape_items (seen_methods ps ys left))) (sym (from_here ms i m h e))

-- none is left
pub methods_over : (ps : List Piece) (ms : List MethodCode) (i : ℕ) (ns left : List ℕ) (x s1 s2 : List ℕ) → length ms ≤ i → s1 ≡ x ++ words (number_items (length ms))
    → s2 ++ words (flat_map method_shape_items (seen_methods ps (drop i ms) left)) ≡ s1 ++ words (flat_map method_shape_items (seen_methods ps ms ns))
    → s2 ≡ x ++ words (list_items method_shape_items (seen_methods ps ms ns))
methods_over ps ms i ns left x s1 s2 h first e =
    let all : List MethodShape = seen_methods ps ms ns in
    let whole : s2 ≡ s1 ++ words (flat_map method_shape_items all) =
    sym (append-nil s2) ∙ sym (at_drop_all (λ (ys : List MethodCode). s2 ++ words (flat_map method_shape_items (seen_methods ps ys left))) ms i h) ∙ e in
    onward x (number_items (length all)) (flat_map method_shape_items all) (first ∙ ap (λ (n : ℕ). x ++ words (number_items n)) (sym (seen_count ps ms ns))) whole

-- a method's body, over what it captured
pub body_shown : (ps : List Piece) (m : MethodCode) (ns : List ℕ) → IsSoundMethod ps m → length ns ≤ length m.captured.items
    → shown (map loc ns) (piece_of ps m.body) ≡ tree (map loc ns) (piece_of ps m.body)
body_shown ps m ns s few =
    let us : List Tree = map loc ns in
    let size : length us ≡ length ns = length-map ns loc in
    let low : length us ≤ length m.captured.items = omega (arith, size, few) in
    let high : length us ≤ body_height m.captured.items (head_of m) = omega (arith, low) in
    shown_over (piece_of ps m.body) (captured_names m.captured.items) (body_scope m.captured.items (head_of m)) (body_height m.captured.items (head_of m)) us high
    (over_from (length m.captured.items) (length us) (head_names (head_of m)) low) s.fits

-- Cells

-- a class that was found is that of a number
pub class_within : (ns : List Node) (i : ℕ) (k : Class) → class_at ns i ≡ Some k → i < length ns
class_within [] i k e = cc
class_within (n ∷ ns) zero k e = omega arith
class_within (n ∷ ns) (suc i) k e = let less : i < length ns = class_within ns i k e in omega (arith, less)

-- one cell more
pub cell_more : (k : List Node) (s : CodedStore) (p : ℕ) (c : CodedCell) (s0 s1 : List ℕ) → p < length s → c ≡ cell_at s p → s1 ≡ s0 ++ words (cell_items (cell_of k c))
    → s1 ++ words (flat_map (λ (d : CodedCell). cell_items (cell_of k d)) (drop (p + 1) s)) ≡ s0 ++ words (flat_map (λ (d : CodedCell). cell_items (cell_of k d)) (drop p s))
cell_more k s p c s0 s1 lt is put =
    let f : CodedCell → Items = λ d. cell_items (cell_of k d) in
    let behind : CodedStore = drop (p + 1) s in
    ap (λ (y : List ℕ). y ++ words (flat_map f behind)) put ∙ append_assoc s0 (words (f c)) (words (flat_map f behind))
    ∙ ap (λ (y : List ℕ). s0 ++ y) (words_both (f c) (flat_map f behind))
    ∙ ap (λ (d : CodedCell). s0 ++ words (flat_map f (d ∷ behind))) is ∙ ap (λ (q : CodedStore). s0 ++ words (flat_map f q)) (sym (drop_cell s p lt))
