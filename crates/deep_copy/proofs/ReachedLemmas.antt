-- What an object reaches by its class is what it reaches.
use Rattle.std.proofs.Common.{◌≡◌, ℕ, zero, suc, List, [], ◌∷◌, ◌++◌, length, map, take, drop, refl, sym, ap, ◌∙◌, slice_get}
use Rattle.std.specs.List.{flat_map}
use Rattle.std.specs.Option.{option_to_list}
use Rattle.std.proofs.lemmas.List.{length-map}
use Rattle.asp_model.specs.Names.{Text}
use Rattle.asp_model.specs.Term.{loc, locations}
use Rattle.asp_model.specs.Store.{Field, MethodShape, reached}
use Rattle.asp_model.specs.Contraction.{fields_at}
use Rattle.code_table.specs.declared.class.Class.{Class}
use Rattle.code_table.specs.declared.code.MethodCode.{MethodCode}
use Rattle.code_table.specs.declared.code.Node.{Node}
use Rattle.code_table.specs.Pieces.{Piece, tree}
use Rattle.code_table.specs.Fitting.{captured_names, body_scope, body_height}
use Rattle.code_table.specs.Tables.{pieces, piece_of, labels_of, text_of, head_of, seen_methods, object_of}
use Rattle.code_table.specs.Sound.{IsSoundMethod, MethodsSound}
use Rattle.code_table.proofs.UsesLemmas.{inside, found_in}
use Rattle.deep_copy.specs.Reached.{used_places, captured_places, class_places}

slot_places : (ns : List ℕ) (k : ℕ) → inside (map loc ns) k ≡ option_to_list (slice_get ns k)
slot_places [] k = refl
slot_places (n ∷ ns) zero = refl
slot_places (n ∷ ns) (suc k) = slot_places ns k

used_inside : (ns slots : List ℕ) → flat_map (inside (map loc ns)) slots ≡ used_places ns slots
used_inside ns [] = refl
used_inside ns (k ∷ ks) = λ i. slot_places ns k i ++ used_inside ns ks i

fields_reached : (ls : List Text) (ns : List ℕ) → map (λ (x : Field). x.place) (fields_at ls ns) ≡ take (length ls) ns
fields_reached [] ns = refl
fields_reached (l ∷ ls) [] = refl
fields_reached (l ∷ ls) (n ∷ ns) = ap (λ (ks : List ℕ). n ∷ ks) (fields_reached ls ns)

body_reached : (ps : List Piece) (m : MethodCode) (ns : List ℕ) → IsSoundMethod ps m → locations (tree (map loc ns) (piece_of ps m.body)) ≡ used_places ns m.uses.items
body_reached ps m ns s =
    found_in (piece_of ps m.body) (map loc ns) (captured_names m.captured.items) (body_scope m.captured.items (head_of m)) (body_height m.captured.items (head_of m)) s.fits
    ∙ used_inside ns _ ∙ ap (used_places ns) (sym s.uses)

methods_reached : (ps : List Piece) (ms : List MethodCode) (ns : List ℕ) → MethodsSound ps ms → flat_map (λ (m : MethodShape). locations m.body) (seen_methods ps ms ns) ≡ captured_places ms ns
methods_reached ps [] ns s = refl
methods_reached ps (m ∷ ms) ns s =
    let size : ℕ = length m.captured.items in
    λ i. body_reached ps m (take size ns) s.0 i ++ methods_reached ps ms (drop size ns) s.1 i

-- Where no places are held

none_taken : (n : ℕ) (ns : List ℕ) → ns ≡ [] → take n ns ≡ []
none_taken zero ns e = refl
none_taken (suc n) ns e = ap (take (suc n)) e

none_left : (n : ℕ) → drop n (let ns : List ℕ = [] in ns) ≡ []
none_left zero = refl
none_left (suc n) = refl

none_used : (slots : List ℕ) → used_places [] slots ≡ []
none_used [] = refl
none_used (k ∷ ks) = none_used ks

none_captured : (ms : List MethodCode) → captured_places ms [] ≡ []
none_captured [] = refl
none_captured (m ∷ ms) =
    let size : ℕ = length m.captured.items in
    λ i. (ap (λ (ns : List ℕ). used_places ns m.uses.items) (none_taken size [] refl) ∙ none_used m.uses.items) i ++ (ap (captured_places ms) (none_left size) ∙ none_captured ms) i

pub none_reached : (k : Class) → class_places k [] ≡ []
none_reached k =
    let size : ℕ = length k.fields.items in
    λ i. none_taken size [] refl i ++ (ap (captured_places k.methods.items) (none_left size) ∙ none_captured k.methods.items) i

pub object_reached : (code : List Node) (k : Class) (ns : List ℕ) → MethodsSound (pieces code) k.methods.items → class_places k ns ≡ reached (object_of (pieces code) k ns)
object_reached code k ns s =
    let size : ℕ = length k.fields.items in
    let fields = fields_reached (labels_of k) ns ∙ ap (λ n. take n ns) (length-map k.fields.items text_of) in
    λ i. sym fields i ++ sym (methods_reached (pieces code) k.methods.items (drop size ns) s) i
