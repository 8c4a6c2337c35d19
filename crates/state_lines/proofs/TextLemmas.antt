-- Texts made piece by piece.
use Rattle.std.proofs.Common.{◌≡◌, ℕ, List, [], ◌∷◌, ◌++◌, map, length, take, drop, get_or, ◌-◌, ◌≤◌, arith, Option, Some, None, Result, Ok, Err, refl, sym, ap, ◌∙◌, append_assoc}
use Rattle.std.proofs.lemmas.List.{take_all, append-nil}
use Rattle.std.specs.Prelude.{OnOk, codes}
use Rattle.std.specs.Fmt.{decimal}
use Rattle.std.specs.List.{flat_map, join_with_byte}
use Rattle.asp_model.specs.declared.word.Label.{Label}
use Rattle.asp_model.specs.Names.{FutureShape}
use Rattle.asp_model.specs.Contraction.{fields_at}
use Rattle.asp_model.specs.Report.{name_text}
use Rattle.asp_model.specs.Store.{Field, MethodShape}
use Rattle.asp_model.specs.Term.{moved}
use Rattle.code_table.specs.declared.class.Class.{Class}
use Rattle.code_table.specs.declared.code.MethodCode.{MethodCode}
use Rattle.code_table.specs.declared.code.Node.{Node}
use Rattle.code_table.specs.Pieces.{Piece}
use Rattle.code_table.specs.Tables.{pieces, text_of, seen_methods}
use Rattle.code_table.specs.Shapes.{class_object}
use Rattle.def_paths.specs.Places.{told}
use Rattle.def_paths.specs.StateLines.{what_text}
use Rattle.state_lines.specs.Texts.{dotted, labels_text, method_labels, text_by_class}

-- pieces with a byte between
joined_is : {X : Type 0} (c : ℕ) (f : X → List ℕ) (x : X) (xs : List X) → join_with_byte c (map f (x ∷ xs)) ≡ f x ++ flat_map (λ y. c ∷ f y) xs
joined_is c f x [] = sym (append-nil (f x))
joined_is c f x (y ∷ xs) = ap (λ (l : List ℕ). f x ++ (c ∷ l)) (joined_is c f y xs)

-- a text that is followed by the first number of a name and then by the further ones
pub name_is : (name path old first whole : List ℕ) → path ≡ name → 1 ≤ length path → first ≡ old ++ decimal (get_or path 0 0) → whole ≡ first ++ flat_map dotted (take (length path - 1) (drop 1 path)) → whole ≡ old ++ name_text name
name_is name [] old first whole e h f w = absurd (omega arith)
name_is name (x ∷ xs) old first whole e h f w =
    w
    ∙ ap (λ (l : List ℕ). first ++ flat_map dotted l) (take_all (length (x ∷ xs) - 1) xs (omega arith))
    ∙ ap (λ (l : List ℕ). l ++ flat_map dotted xs) f ∙ append_assoc old (decimal x) (flat_map dotted xs)
    ∙ ap (λ (l : List ℕ). old ++ l) (sym (joined_is 46 decimal x xs) ∙ ap name_text e)

pub on_ok : {T E P Q : Type 0} (r : Result T E) → (P → Q) → OnOk r P → OnOk r Q
on_ok (Ok x) f p = f p
on_ok (Err x) f p = tt

pub always_ok : {T E P : Type 0} (r : Result T E) → P → OnOk r P
always_ok (Ok x) p = p
always_ok (Err x) p = tt

-- Objects

abbrev pub blank_field : Field → Field
blank_field x = record { label = x.label; place = 0 }

abbrev pub blank_method : MethodShape → MethodShape
blank_method m = record { head = m.head; body = moved (λ n. 0) m.body }

fields_text : (xs : List Label) (ns : List ℕ) → flat_map (λ (x : Field). codes " " ++ x.label) (map blank_field (fields_at (map text_of xs) ns)) ≡ labels_text (map text_of (take (length ns) xs))
fields_text [] [] = refl
fields_text [] (n ∷ ns) = refl
fields_text (x ∷ xs) [] = refl
fields_text (x ∷ xs) (n ∷ ns) = ap (λ (l : List ℕ). (codes " " ++ x.text) ++ l) (fields_text xs ns)

methods_text : (ps : List Piece) (ms : List MethodCode) (ns : List ℕ) → flat_map (λ (m : MethodShape). codes " " ++ m.head.label) (map blank_method (seen_methods ps ms ns)) ≡ labels_text (method_labels ms)
methods_text ps [] ns = refl
methods_text ps (m ∷ ms) ns = ap (λ (l : List ℕ). (codes " " ++ m.label.text) ++ l) (methods_text ps ms (drop (length m.captured.items) ns))

-- what is told of an object
pub object_told : (awaited : FutureShape → FutureShape) (code : List Node) (ns : List ℕ) (k : Option Class) → text_by_class k (length ns) ≡ what_text (told awaited (class_object code ns k))
object_told awaited code ns None = refl
object_told awaited code ns (Some k) =
    λ i. codes "object" ++ sym (fields_text k.fields.items ns) i ++ codes " ;" ++ sym (methods_text (pieces code) k.methods.items (drop (length k.fields.items) ns)) i
