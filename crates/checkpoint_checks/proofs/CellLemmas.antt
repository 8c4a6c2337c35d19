-- Objects and stores as they were read.
use Rattle.std.specs.Prelude.{◌≡◌, ℕ, zero, suc, ◌<◌, ◌≤◌, ◌&&◌, nat_lt, false, List, [], ◌∷◌, length, map}
use Rattle.std.specs.List.{list_all}
use Rattle.std.proofs.Common.{refl, sym, ap, ◌∙◌, arith, get_or}
use Rattle.std.proofs.lemmas.Bool.{and_left, le-ltb, lt-ltb}
use Rattle.asp_model.specs.declared.term.Method.{Method}
use Rattle.asp_model.specs.declared.word.Label.{Label}
use Rattle.asp_model.specs.Names.{Text}
use Rattle.asp_model.specs.Store.{Field, MethodShape, cell}
use Rattle.asp_model.specs.Term.{MethodHead}
use Rattle.code_table.specs.Parts.{method_head}
use Rattle.checkpoint_reading.specs.declared.parts.CellText.{CellText}
use Rattle.checkpoint_reading.specs.Cells.{cell_shape, method_shape, place_field}
use Rattle.proper_terms.specs.Fits.{is_single, method_fits, place_label}
use Rattle.checkpoint_checks.specs.Cells.{are_below, object_fits}
use Rattle.checkpoint_checks.specs.Activities.{has_object, is_object}

labels_are : (fs : List (Label × ℕ)) → map place_label fs ≡ map (λ (f : Field). f.label) (map place_field fs)
labels_are [] = refl
labels_are (f ∷ fs) = ap (λ (ls : List Text). f.0.text ∷ ls) (labels_are fs)

heads_are : (ms : List Method) → map method_head ms ≡ map (λ (m : MethodShape). m.head) (map method_shape ms)
heads_are [] = refl
heads_are (m ∷ ms) = ap (λ (hs : List MethodHead). method_head m ∷ hs) (heads_are ms)

pub object_is : (k : ℕ) (fs : List (Label × ℕ)) (ms : List Method) → object_fits k fs ms
    ≡ (is_single (map (λ (f : Field). f.label) (map place_field fs)) (map (λ (m : MethodShape). m.head) (map method_shape ms))
    && (are_below k (map (λ (f : Field). f.place) (map place_field fs)) && list_all (method_fits k) (map method_shape ms)))
object_is k fs ms = λ i. is_single (labels_are fs i) (heads_are ms i) && (are_below k (map (λ (f : Field). f.place) (map place_field fs)) && list_all (method_fits k) (map method_shape ms))

-- the cell at a place
pub cell_at : (cs : List CellText) (n : ℕ) (d : CellText) → n < length cs → cell (map cell_shape cs) n ≡ cell_shape (get_or cs n d)
cell_at [] n d h = absurd (omega arith)
cell_at (c ∷ cs) zero d h = refl
cell_at (c ∷ cs) (suc n) d h = cell_at cs n d (omega arith)

pub length_mapped : (cs : List CellText) → length (map cell_shape cs) ≡ length cs
length_mapped [] = refl
length_mapped (c ∷ cs) = ap (λ n. suc n) (length_mapped cs)

-- the place of an object
pub outside : (cs : List CellText) (n : ℕ) → length cs ≤ n → has_object (map cell_shape cs) n ≡ false
outside cs n h = and_left (nat_lt n (length (map cell_shape cs))) (is_object (cell (map cell_shape cs) n)) (le-ltb n (length (map cell_shape cs)) (omega (arith, length_mapped cs, h)))

pub inside : (cs : List CellText) (n : ℕ) (c : CellText) → n < length cs → c ≡ get_or cs n c → has_object (map cell_shape cs) n ≡ is_object (cell_shape c)
inside cs n c h e =
    ap (λ b. b && is_object (cell (map cell_shape cs) n)) (lt-ltb n (length (map cell_shape cs)) (omega (arith, length_mapped cs, h)))
    ∙ ap is_object (cell_at cs n c h ∙ ap cell_shape (sym e))

pub ruleset object_laws = (object_is)
