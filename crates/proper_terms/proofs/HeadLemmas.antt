-- Names that are new, list by list.
use Rattle.std.specs.Prelude.{◌≡◌, ◌&&◌, not, Bool, true, false, List, [], ◌∷◌, ◌++◌, map}
use Rattle.std.proofs.Common.{refl, sym, ap, ◌∙◌}
use Rattle.asp_model.specs.declared.term.Method.{Method}
use Rattle.asp_model.specs.Names.{Text}
use Rattle.asp_model.specs.Term.{MethodHead}
use Rattle.asp_check.specs.NameFaults.{NameSet, with_name, with_names}
use Rattle.code_table.specs.Parts.{method_head}
use Rattle.proper_terms.specs.Fits.{are_new, method_label}

and_assoc : (a b c : Bool) → ((a && b) && c) ≡ (a && (b && c))
and_assoc true b c = refl
and_assoc false b c = refl

pub new_both : (xs ys : List Text) (set : NameSet) → are_new set (xs ++ ys) ≡ (are_new set xs && are_new (with_names xs set) ys)
new_both [] ys set = refl
new_both (x ∷ xs) ys set = ap (λ b. not (set x) && b) (new_both xs ys (with_name x set))
    ∙ sym (and_assoc (not (set x)) (are_new (with_name x set) xs) (are_new (with_names xs (with_name x set)) ys))

pub labels_are : (ms : List Method) → map (λ (m : MethodHead). m.label) (map method_head ms) ≡ map method_label ms
labels_are [] = refl
labels_are (m ∷ ms) = ap (λ ls. m.label.text ∷ ls) (labels_are ms)

pub ruleset head_laws = (new_both, labels_are)
