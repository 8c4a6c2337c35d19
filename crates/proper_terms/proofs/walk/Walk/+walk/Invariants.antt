use Rattle.std.proofs.Common.{◌≡◌, [], map, drop}
use Rattle.asp_check.specs.Sets.{names_in}
use Rattle.asp_check.specs.Walk.{names_of}
use Rattle.proper_terms.specs.Fits.{bodies_below, fields_below, left_below, terms_below}
use Rattle.proper_terms.proofs.walk.Walk.+walk.Given as goal

pub record Kept (Bound : Type 0) (Size : Type 0) (Left : Type 0) : Type 0 where
  pub bound : Bound
  pub size : Size
  pub left : Left

abbrev pub invariant-visit_all-loop-term : goal.invariant-visit_all-loop-term
invariant-visit_all-loop-term l = Kept
    (names_in l.self.bound ≡ names_in l.initial.self.bound)
    (l.self.size ≡ l.initial.self.size)
    (left_below l.initial.self.size (names_in l.initial.self.bound) [] (terms_below (drop l.term-index l.terms)) l.self.holes
    ≡ left_below l.initial.self.size (names_in l.initial.self.bound) [] (terms_below l.terms) l.initial.self.holes)

abbrev pub invariant-visit_fields-loop-term : goal.invariant-visit_fields-loop-term
invariant-visit_fields-loop-term l = Kept
    (names_in l.self.bound ≡ names_in l.initial.self.bound)
    (l.self.size ≡ l.initial.self.size)
    (left_below l.initial.self.size (names_in l.initial.self.bound) [] (fields_below (drop l.term-index l.fields)) l.self.holes
    ≡ left_below l.initial.self.size (names_in l.initial.self.bound) [] (fields_below l.fields) l.initial.self.holes)

abbrev pub invariant-visit_methods-loop-method : goal.invariant-visit_methods-loop-method
invariant-visit_methods-loop-method l = Kept
    (names_in l.self.bound ≡ names_in l.initial.self.bound)
    (l.self.size ≡ l.initial.self.size)
    (left_below l.initial.self.size (names_in l.initial.self.bound) (map names_of (drop l.method-index l.methods)) (bodies_below (drop l.method-index l.methods)) l.self.holes
    ≡ left_below l.initial.self.size (names_in l.initial.self.bound) (map names_of l.methods) (bodies_below l.methods) l.initial.self.holes)
