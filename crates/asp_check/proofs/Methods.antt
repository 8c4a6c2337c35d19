-- The parts of a method as contracts see it.
use Rattle.std.proofs.Common.{◌≡◌, ℕ, ◌+◌, ◌<◌, List, ◌∷◌, Option, ap, sym, ◌∙◌, map, drop, get_or, length}
use Rattle.std.proofs.lemmas.List.{at_drop_more}
use Rattle.asp_model.specs.declared.term.Method.{Method}
use Rattle.asp_model.specs.declared.term.Term.TheFolds.{fold_out-Method}
use Rattle.asp_model.specs.Marked.{Marked}
use Rattle.asp_model.specs.Shapes.{method_of, marked_of, MarkedMethod, term_step, method_step}
use Rattle.asp_check.specs.declared.fault.CheckFault.{CheckFault}
use Rattle.asp_check.specs.declared.fault.CheckKind.TheVariants.{DoubleLabel, DoubleParameter}
use Rattle.asp_check.specs.Least.{least_of}
use Rattle.asp_check.specs.Placed.{placed, place_or, later, behind}
use Rattle.asp_check.specs.NameFaults.{NameSet, no_names, with_name, repeats, method_faults, fault_at, when}
use Rattle.asp_check.specs.Walk.{head_of, names_of}
use Rattle.asp_check.proofs.Joined.{least_of_joined}

pub method_head : (m : Method) → (method_of m).head ≡ head_of m
method_head m = ap (λ (x : MarkedMethod). x.head) (fold_out-Method Marked MarkedMethod term_step method_step m)

pub method_body : (m : Method) → (method_of m).body ≡ marked_of m.body
method_body m = ap (λ (x : MarkedMethod). x.body) (fold_out-Method Marked MarkedMethod term_step method_step m)

-- one method, and then the others
pub methods_more : (at : ℕ) (ms : List Method) (i : ℕ) (m : Method) (o : Option CheckFault) (labels : NameSet) (ps : List ℕ) → i < length ms → m ≡ get_or ms i m
    → least_of o (method_faults at labels (map head_of (drop i ms)) ps)
    ≡ least_of (least_of (least_of o (when (labels m.label.text) (fault_at (place_or at ps) DoubleLabel))) (repeats DoubleParameter no_names (placed at (names_of m) (later ps))))
    (method_faults at (with_name m.label.text labels) (map head_of (drop (i + 1) ms)) (behind (names_of m) (later ps)))
methods_more at ms i m o labels ps h e =
    at_drop_more (λ ys. least_of o (method_faults at labels (map head_of ys) ps)) ms i m h
    ∙ ap (λ y. least_of o (method_faults at labels (map head_of (y ∷ drop (i + 1) ms)) ps)) (sym e)
    ∙ least_of_joined o (when (labels m.label.text) (fault_at (place_or at ps) DoubleLabel)) _
    ∙ least_of_joined (least_of o (when (labels m.label.text) (fault_at (place_or at ps) DoubleLabel))) (repeats DoubleParameter no_names (placed at (names_of m) (later ps))) _
