-- The items of terms below a node, as they are written.
use Rattle.std.proofs.Common.{◌≡◌, suc, List, [], ◌∷◌, ◌++◌, length, map, take, drop, refl, ap, ◌∙◌}
use Rattle.std.specs.List.{flat_map}
use Rattle.std.specs.Fmt.{decimal}
use Rattle.asp_model.specs.declared.word.Label.{Label}
use Rattle.asp_model.specs.declared.term.Term.{Term}
use Rattle.asp_model.specs.declared.term.Method.{Method}
use Rattle.asp_model.specs.Shapes.{tree_of}
use Rattle.asp_model.specs.Term.{Tree, trees}
use Rattle.code_table.specs.Parts.{body_tree, field_label, field_tree, method_head}
use Rattle.checkpoint_text.specs.Items.{Items, field_items, items_below, list_items, methods_items, term_items, terms_items}
use Rattle.checkpoint_text.specs.Writing.{below_items, field_piece, method_piece, object_items, tree_items}
use Rattle.checkpoint_text.proofs.WritingLemmas.{list_mapped}

-- Terms

below_trees : (us : List Tree) → items_below (trees us) ≡ map term_items us
below_trees [] = refl
below_trees (u ∷ us) = ap (λ ts. term_items u ∷ ts) (below_trees us)

mapped : (ts : List Term) → map term_items (map tree_of ts) ≡ map tree_items ts
mapped [] = refl
mapped (t ∷ ts) = ap (λ us. tree_items t ∷ us) (mapped ts)

pub terms_laid : (ts : List Term) → terms_items (below_items ts) ≡ list_items tree_items ts
terms_laid ts = ap terms_items (below_trees (map tree_of ts) ∙ mapped ts) ∙ list_mapped (λ (t : Items). t) tree_items ts

-- Objects

counted : (fs : List (Label × Term)) → length (map field_label fs) ≡ length fs
counted [] = refl
counted (f ∷ fs) = ap suc (counted fs)

counted_methods : (ms : List Method) → length (map method_head ms) ≡ length ms
counted_methods [] = refl
counted_methods (m ∷ ms) = ap suc (counted_methods ms)

fields_laid : (fs : List (Label × Term)) (us : List Tree) → field_items (map field_label fs) (take (length (map field_label fs)) (map term_items (map field_tree fs ++ us))) ≡ flat_map field_piece fs
fields_laid [] us = refl
fields_laid (f ∷ fs) us = ap (λ (ts : Items). field_piece f ++ ts) (fields_laid fs us)

fields_gone : (fs : List (Label × Term)) (us : List Tree) → drop (length (map field_label fs)) (map term_items (map field_tree fs ++ us)) ≡ map term_items us
fields_gone [] us = refl
fields_gone (f ∷ fs) us = fields_gone fs us

methods_laid : (ms : List Method) → methods_items (map method_head ms) (map term_items (map body_tree ms)) ≡ flat_map method_piece ms
methods_laid [] = refl
methods_laid (m ∷ ms) = ap (λ (ts : Items). method_piece m ++ ts) (methods_laid ms)

pub object_laid : (fs : List (Label × Term)) (ms : List Method) → object_items fs ms ≡ decimal 4 ∷ (list_items field_piece fs ++ list_items method_piece ms)
object_laid fs ms =
    let us : List Tree = map body_tree ms in
    ap (λ (ts : List Items). decimal 4 ∷ (decimal (length (map field_label fs)) ∷ (field_items (map field_label fs) (take (length (map field_label fs)) ts) ++ decimal (length (map method_head ms)) ∷ methods_items (map method_head ms) (drop (length (map field_label fs)) ts)))) (below_trees (map field_tree fs ++ us))
    ∙ (λ i. decimal 4 ∷ (decimal (counted fs i) ∷ (fields_laid fs us i ++ decimal (counted_methods ms i) ∷ (ap (methods_items (map method_head ms)) (fields_gone fs us) ∙ methods_laid ms) i)))
