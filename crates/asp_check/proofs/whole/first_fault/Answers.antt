use Rattle.std.proofs.Common.{◌++◌, None, map, ap, sym, ◌∙◌}
use Rattle.asp_model.specs.Shapes.{marked_of}
use Rattle.asp_check.specs.Least.{least_of}
use Rattle.asp_check.specs.NameFaults.{no_names, name_faults}
use Rattle.asp_check.specs.ArityFaults.{arities_in, arity_faults}
use Rattle.asp_check.specs.Walk.{arity_of}
use Rattle.asp_check.proofs.Joined.{least_of_joined}
use Rattle.asp_check.proofs.whole.first_fault.Goals as goal

pub returns : goal.returns
returns c =
    let t = marked_of c.args.program.now.root in
    let all = ap (map arity_of) c.deref-2.ensures.value ∙ c.in_ok-visit.ensures.arities ∙ ap (λ xs. map arity_of xs ++ arities_in t) c.new-walk.ensures.arities in
    let least = c.in_ok-visit.ensures.least ∙ (λ i. least_of (c.new-walk.ensures.least i) (name_faults (c.new-walk.ensures.bound i) t)) in
    c.note_arities.ensures ∙ (λ i. least_of (least i) (arity_faults (all i) (all i))) ∙ sym (least_of_joined None (name_faults no_names t) (arity_faults (arities_in t) (arities_in t)))
