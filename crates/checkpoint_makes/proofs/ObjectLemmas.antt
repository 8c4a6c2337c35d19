-- An object that was compiled is the object that was read.
use Rattle.std.proofs.Common.{◌≡◌, ℕ, zero, suc, ◌+◌, List, [], ◌∷◌, ◌++◌, Some, None, length, map, refl, sym, ap, subst, inl, ◌∙◌, arith}
use Rattle.std.specs.Global.{Vec}
use Rattle.std.proofs.lemmas.List.{append-nil}
use Rattle.asp_model.specs.declared.word.Label.{Label}
use Rattle.asp_model.specs.declared.term.Mark.{Mark}
use Rattle.asp_model.specs.declared.term.Method.{Method}
use Rattle.asp_model.specs.declared.term.Term.{Term}
use Rattle.asp_model.specs.declared.term.Term.TheVariants as term
use Rattle.asp_model.specs.Contraction.{fields_at, methods_with}
use Rattle.asp_model.specs.Names.{Text}
use Rattle.asp_model.specs.Shapes.{tree_of}
use Rattle.asp_model.specs.Store.{Field, MethodShape, Object}
use Rattle.asp_model.specs.Term.{Make, MethodHead, Tree, node, more, trees, loc, locs_then, child_count}
use Rattle.law_steps.specs.Linked.{Each}
use Rattle.law_programs.specs.Proper.{IsProper, AreProper, IsProperCell, IsProperMethod, are_single, names_bound}
use Rattle.code_compiler.specs.Compiled.{Grows, IsTable}
use Rattle.code_laws.specs.Splitting.{redex_node}
use Rattle.code_table.specs.Cells as coded
use Rattle.code_table.specs.Cells.{CodedStore}
use Rattle.code_table.specs.Classes.{class_at}
use Rattle.code_table.specs.declared.class.Class.{Class}
use Rattle.code_table.specs.declared.code.Node.{Node}
use Rattle.code_table.specs.Parts.{body_tree, field_label, field_tree, method_head}
use Rattle.code_table.specs.Shapes.{cell_of, class_object, store_of}
use Rattle.code_table.specs.Sound.{IsSound}
use Rattle.code_table.specs.Tables.{object_of, pieces}
use Rattle.code_table.proofs.TermTrees.{make_is}
use Rattle.frozen_code.specs.Held.{HoldsRedex}
use Rattle.frozen_code.specs.Objects.{AreKept, restored_places}
use Rattle.frozen_code.specs.declared.held.Held.{Held}
use Rattle.frozen_code.proofs.HeldLemmas.{redexes_stay}
use Rattle.frozen_code.proofs.ObjectLemmas.{captures_kept, held_class, objects_are_restored}
use Rattle.term_opening.specs.Holding.{IsRedexTerm}
use Rattle.checkpoint_reading.specs.Cells.{method_shape, place_field}
use Rattle.checkpoint_makes.specs.Later.{IsPushed}
use Rattle.checkpoint_makes.specs.Objects.{HoldsObject, label_at, object_redex, place_at, place_tree}
use Rattle.checkpoint_makes.proofs.MadeLemmas.{map_more}

-- The term of an object

fields_then : (fs : List (Label × ℕ)) (us : List Tree) → trees (map place_tree fs ++ us) ≡ locs_then (map place_at fs) (trees us)
fields_then [] us = refl
fields_then (f ∷ fs) us = ap (more (loc f.1)) (fields_then fs us)

pub object_is : (fields : List (Label × ℕ)) (terms : Vec (Label × Term)) (methods : Vec Method) (m : Mark) → map field_label terms.items ≡ map label_at fields → map field_tree terms.items ≡ map place_tree fields
    → tree_of (term.Make terms methods m) ≡ redex_node (object_redex fields methods.items)
object_is fields terms methods m labels places =
    make_is terms methods m
    ∙ (λ i. node (Make (labels i) (map method_head methods.items)) (trees (places i ++ map body_tree methods.items)))
    ∙ ap (node (Make (map label_at fields) (map method_head methods.items))) (fields_then fields (map body_tree methods.items))

-- It is a proper redex

labels_read : (fs : List (Label × ℕ)) → map (λ (f : Field). f.label) (map place_field fs) ≡ map label_at fs
labels_read [] = refl
labels_read (f ∷ fs) = ap (λ ls. label_at f ∷ ls) (labels_read fs)

heads_read : (ms : List Method) → map (λ (m : MethodShape). m.head) (map method_shape ms) ≡ map method_head ms
heads_read [] = refl
heads_read (m ∷ ms) = ap (λ hs. method_head m ∷ hs) (heads_read ms)

same_length : (fs : List (Label × ℕ)) → length (map label_at fs) ≡ length (map place_at fs)
same_length [] = refl
same_length (f ∷ fs) = ap suc (same_length fs)

bodies_counted : (ms : List Method) → child_count (trees (map body_tree ms)) ≡ length (map method_head ms)
bodies_counted [] = refl
bodies_counted (m ∷ ms) = ap suc (bodies_counted ms)

counted : (fs : List (Label × ℕ)) (ms : List Method) → child_count (locs_then (map place_at fs) (trees (map body_tree ms))) ≡ length (map label_at fs) + length (map method_head ms)
counted [] ms = let none_more : length (map method_head ms) ≡ 0 + length (map method_head ms) = omega arith in bodies_counted ms ∙ none_more
counted (f ∷ fs) ms =
    let one_more : suc (length (map label_at fs) + length (map method_head ms)) ≡ suc (length (map label_at fs)) + length (map method_head ms) = omega arith in
    ap suc (counted fs ms) ∙ one_more

bodies_proper : (ms : List Method) → Each IsProperMethod (map method_shape ms) → AreProper [] (map (λ (m : MethodHead). m.slf ∷ m.parameters) (map method_head ms)) (trees (map body_tree ms))
bodies_proper [] h = tt
bodies_proper (m ∷ ms) h = (subst (λ xs. IsProper xs (body_tree m)) (sym (append-nil (names_bound (method_head m)))) h.0, bodies_proper ms h.1)

all_proper : (fs : List (Label × ℕ)) (ms : List Method) → Each IsProperMethod (map method_shape ms)
    → AreProper [] (map (λ (l : Text). let no_name : List Text = [] in no_name) (map label_at fs) ++ map (λ (m : MethodHead). m.slf ∷ m.parameters) (map method_head ms)) (locs_then (map place_at fs) (trees (map body_tree ms)))
all_proper [] ms h = bodies_proper ms h
all_proper (f ∷ fs) ms h = ((refl, refl, tt), all_proper fs ms h)

pub object_redexes : (fs : List (Label × ℕ)) (ms : List Method) (t : Tree) → IsProperCell (Object (map place_field fs) (map method_shape ms)) → t ≡ redex_node (object_redex fs ms) → IsRedexTerm (object_redex fs ms) t
object_redexes fs ms t h is = record {
  proper = ((λ i. are_single (sym (labels_read fs) i) (sym (heads_read ms) i)) ∙ h.0, counted fs ms, all_proper fs ms h.1);
  redex = (refl, inl (same_length fs));
  term = sym is;
}

-- The object of its class

class_stays : (ns added : List Node) (i : ℕ) (c : Class) → class_at ns i ≡ Some c → class_at (ns ++ added) i ≡ Some c
class_stays [] added i c e = none_is e
  where
    none_is : {A : Type 0} → None ≡ Some c → A
    none_is e = cc
class_stays (n ∷ ns) added zero c e = e
class_stays (n ∷ ns) added (suc i) c e = class_stays ns added i c e

fields_read : (fs : List (Label × ℕ)) → fields_at (map label_at fs) (map place_at fs) ≡ map place_field fs
fields_read [] = refl
fields_read (f ∷ fs) = ap (λ gs. place_field f ∷ gs) (fields_read fs)

methods_read : (ms : List Method) → methods_with (map method_head ms) (trees (map body_tree ms)) ≡ map method_shape ms
methods_read [] = refl
methods_read (m ∷ ms) = ap (λ ns. method_shape m ∷ ns) (methods_read ms)

-- a held object has its class
pub object_held : (ms : List Node) (x : Held) (fs : List (Label × ℕ)) (methods : List Method) → IsTable ms → HoldsRedex ms x.node x.places.items x.done.items (object_redex fs methods) → HoldsObject ms x
object_held ms x fs methods table h = record {
  ordered = table.ordered;
  labels = map label_at fs;
  heads = map method_head methods;
  count = length x.done.items;
  bodies = trees (map body_tree methods);
  held = h.2;
}

pub class_held : (ns : List Node) (x : Held) → HoldsObject ns x → (c : Class) × (class_at ns x.node ≡ Some c)
class_held ns x h = held_class ns x.node x.places.items h.labels h.heads h.count h.bodies h.ordered h.held

pub class_kept : (ns : List Node) (x : Held) (c : Class) → HoldsObject ns x → class_at ns x.node ≡ Some c → AreKept (length x.places.items) c.methods.items
class_kept ns x c h at = captures_kept ns x.node c h.count x.places.items h.labels h.heads h.bodies h.ordered at h.held

object_here : (k : List Node) (x : Held) (fs : List (Label × ℕ)) (methods : List Method) (c : Class) (ps : List ℕ) → IsSound k → class_at k x.node ≡ Some c → HoldsRedex k x.node x.places.items x.done.items (object_redex fs methods)
    → ps ≡ restored_places c x.done.items x.places.items → cell_of k (coded.Object x.node ps) ≡ Object (map place_field fs) (map method_shape methods)
object_here k x fs methods c ps sound at h is =
    let done : map place_at fs ≡ x.done.items = h.0 in
    let size : length x.done.items ≡ length (map label_at fs) = ap length (sym done) ∙ sym (same_length fs) in
    ap (class_object k ps) at
    ∙ ap (object_of (pieces k) c) is
    ∙ objects_are_restored k x.node c x.done.items x.places.items (map label_at fs) (map method_head methods) (trees (map body_tree methods)) sound at size h.2
    ∙ ap (λ ns. Object (fields_at (map label_at fs) ns) (methods_with (map method_head methods) (trees (map body_tree methods)))) (sym done)
    ∙ (λ i. Object (fields_read fs i) (methods_read methods i))

pub object_pushed : (ns ms : List Node) (x : Held) (fs : List (Label × ℕ)) (methods : List Method) (ps qs : List ℕ) (old new : CodedStore) → IsTable ns → Grows ns ms
    → HoldsRedex ms x.node x.places.items x.done.items (object_redex fs methods)
    → ((c : Class) → class_at ms x.node ≡ Some c → ps ≡ restored_places c x.done.items x.places.items)
    → qs ≡ ps → new ≡ old ++ coded.Object x.node qs ∷ [] → IsPushed ns ms old new (Object (map place_field fs) (map method_shape methods))
object_pushed ns ms x fs methods ps qs old new table g h places same e =
    let class : (c : Class) × (class_at ms x.node ≡ Some c) = class_held ms x (object_held ms x fs methods (g.table table) h) in
    record {
      grows = g;
      made = λ added sound.
          let k : List Node = ms ++ added in
          let here : cell_of k (coded.Object x.node qs) ≡ Object (map place_field fs) (map method_shape methods) =
          object_here k x fs methods class.0 qs sound (class_stays ms added x.node class.0 class.1) (redexes_stay ms added x.node x.places.items x.done.items (object_redex fs methods) h) (same ∙ places class.0 class.1) in
          ap (store_of k) e ∙ map_more (cell_of k) old (coded.Object x.node qs) ∙ ap (λ d. store_of k old ++ d ∷ []) here;
    }
