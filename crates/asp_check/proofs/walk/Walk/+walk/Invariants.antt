use Rattle.std.proofs.Common.{◌≡◌, [], ◌++◌, map, drop}
use Rattle.asp_model.specs.Marked.{all_marked}
use Rattle.asp_model.specs.Shapes.{marked_of}
use Rattle.asp_check.specs.Least.{least_of}
use Rattle.asp_check.specs.NameFaults.{name_faults_below}
use Rattle.asp_check.specs.ArityFaults.{arities_among, method_arities}
use Rattle.asp_check.specs.Sets.{names_in}
use Rattle.asp_check.specs.Walk.{arity_of, field_term, head_of, body_of, names_of}
use Rattle.asp_check.proofs.walk.Walk.+walk.Given as goal

pub record Kept (Bound : Type 0) (Arities : Type 0) (Least : Type 0) : Type 0 where
  pub bound : Bound
  pub arities : Arities
  pub least : Least

abbrev pub invariant-visit_all-loop-term : goal.invariant-visit_all-loop-term
invariant-visit_all-loop-term l = Kept
    (names_in l.self.bound ≡ names_in l.initial.self.bound)
    (map arity_of l.self.arities.items ++ arities_among [] (all_marked (map marked_of (drop l.term-index l.terms))) ≡ map arity_of l.initial.self.arities.items ++ arities_among [] (all_marked (map marked_of l.terms)))
    (least_of l.self.least (name_faults_below (names_in l.initial.self.bound) [] (all_marked (map marked_of (drop l.term-index l.terms)))) ≡ least_of l.initial.self.least (name_faults_below (names_in l.initial.self.bound) [] (all_marked (map marked_of l.terms))))

abbrev pub invariant-visit_fields-loop-term : goal.invariant-visit_fields-loop-term
invariant-visit_fields-loop-term l = Kept
    (names_in l.self.bound ≡ names_in l.initial.self.bound)
    (map arity_of l.self.arities.items ++ arities_among [] (all_marked (map field_term (drop l.term-index l.fields))) ≡ map arity_of l.initial.self.arities.items ++ arities_among [] (all_marked (map field_term l.fields)))
    (least_of l.self.least (name_faults_below (names_in l.initial.self.bound) [] (all_marked (map field_term (drop l.term-index l.fields)))) ≡ least_of l.initial.self.least (name_faults_below (names_in l.initial.self.bound) [] (all_marked (map field_term l.fields))))

abbrev pub invariant-visit_methods-loop-method : goal.invariant-visit_methods-loop-method
invariant-visit_methods-loop-method l = Kept
    (names_in l.self.bound ≡ names_in l.initial.self.bound)
    (map arity_of l.self.arities.items ++ arities_among (method_arities l.places.node (map head_of (drop l.method-index l.methods)) l.places.left.now) (all_marked (map body_of (drop l.method-index l.methods))) ≡ map arity_of l.initial.self.arities.items ++ arities_among (method_arities l.initial.places.node (map head_of l.methods) l.initial.places.left.now) (all_marked (map body_of l.methods)))
    (least_of l.self.least (name_faults_below (names_in l.initial.self.bound) (map names_of (drop l.method-index l.methods)) (all_marked (map body_of (drop l.method-index l.methods)))) ≡ least_of l.initial.self.least (name_faults_below (names_in l.initial.self.bound) (map names_of l.methods) (all_marked (map body_of l.methods))))
