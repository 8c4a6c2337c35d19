use Rattle.std.proofs.Common.{◌≡◌, ◌+◌, List, [], ◌∷◌, ◌++◌, length, map, drop, ap, ◌∙◌, arith, rules}
use Rattle.asp_model.specs.Marked.{all_marked}
use Rattle.asp_model.specs.Shapes.{marked_of}
use Rattle.asp_check.specs.Least.{least_of}
use Rattle.asp_check.specs.declared.fault.CheckKind.TheVariants.{Arity}
use Rattle.asp_check.specs.Placed.{behind}
use Rattle.asp_check.specs.NameFaults.{NameSet, with_names, name_faults, name_faults_below}
use Rattle.asp_check.specs.ArityFaults.{LabelArity, label_arity, arities_in, arities_among, method_arities}
use Rattle.asp_check.specs.Sets.{names_in}
use Rattle.asp_check.specs.Walk.{arity_of, head_of, names_of, body_of, field_term}
use Rattle.asp_check.proofs.Laws.{arities_more, name_faults_more, method_arities_more, body_faults_more}
use Rattle.asp_check.proofs.walk.Walk.+walk.Goals as goal

pub visit_all-loop-term-preserved : goal.visit_all-loop-term-preserved
visit_all-loop-term-preserved t c =
    let ts = c.args.terms.now in
    let i = c.loop-term.term-index in
    let x = c.term-item.result in
    let rest = all_marked (map marked_of (drop (i + 1) ts)) in
    record {
      bound = c.in_ok-visit.ensures.bound ∙ c.loop-term.invariant.bound;
      arities = ap (λ (xs : List LabelArity). xs ++ arities_among [] rest) c.in_ok-visit.ensures.arities
          ∙ arities_more marked_of ts i x (omega arith) c.term-item.is (map arity_of c.loop-term.self.arities.items)
          ∙ c.loop-term.invariant.arities;
      least = ap (λ o. least_of o (name_faults_below (names_in c.args.self.now.bound) [] rest)) (c.in_ok-visit.ensures.least ∙ ap (λ (b : NameSet). least_of c.loop-term.self.least (name_faults b (marked_of x))) c.loop-term.invariant.bound)
          ∙ name_faults_more marked_of ts i x (omega arith) c.term-item.is (names_in c.args.self.now.bound) c.loop-term.self.least
          ∙ c.loop-term.invariant.least;
    }

pub visit_fields-loop-term-preserved : goal.visit_fields-loop-term-preserved
visit_fields-loop-term-preserved t c =
    let ts = c.args.fields.now in
    let i = c.loop-term.term-index in
    let x = c.loop-term-item.result in
    let rest = all_marked (map field_term (drop (i + 1) ts)) in
    record {
      bound = c.in_ok-visit.ensures.bound ∙ c.loop-term.invariant.bound;
      arities = ap (λ (xs : List LabelArity). xs ++ arities_among [] rest) c.in_ok-visit.ensures.arities
          ∙ arities_more field_term ts i x (omega arith) c.loop-term-item.is (map arity_of c.loop-term.self.arities.items)
          ∙ c.loop-term.invariant.arities;
      least = ap (λ o. least_of o (name_faults_below (names_in c.args.self.now.bound) [] rest)) (c.in_ok-visit.ensures.least ∙ ap (λ (b : NameSet). least_of c.loop-term.self.least (name_faults b (field_term x))) c.loop-term.invariant.bound)
          ∙ name_faults_more field_term ts i x (omega arith) c.loop-term-item.is (names_in c.args.self.now.bound) c.loop-term.self.least
          ∙ c.loop-term.invariant.least;
    }

pub visit_methods-loop-method-preserved : goal.visit_methods-loop-method-preserved
visit_methods-loop-method-preserved t c =
    let ms = c.args.methods.now in
    let i = c.loop-method.method-index in
    let m = c.method-item.result in
    let rest = all_marked (map body_of (drop (i + 1) ms)) in
    let node = c.skip_head.ensures.node ∙ c.next-at.ensures.node in
    let left = c.skip_head.ensures.left ∙ ap (behind (names_of m)) c.next-at.ensures.left in
    let count : c.len.result ≡ length m.parameters.items = search rules in
    let bound = c.in_ok-add_arity.ensures.bound ∙ c.loop-method.invariant.bound in
    let arities = c.in_ok-visit_method.ensures.arities ∙ ap (λ (xs : List LabelArity). xs ++ arities_in (body_of m)) (c.in_ok-add_arity.ensures.arities ∙ (λ k. map arity_of c.loop-method.self.arities.items ++ label_arity Arity m.label.text (count k) (c.next-at.ensures.place k) ∷ [])) in
    let least = c.in_ok-visit_method.ensures.least ∙ (λ k. least_of (c.in_ok-add_arity.ensures.least k) (name_faults (with_names (names_of m) (bound k)) (body_of m))) in
    record {
      bound = c.in_ok-visit_method.ensures.bound ∙ bound;
      arities = (λ k. arities k ++ arities_among (method_arities (node k) (map head_of (drop (i + 1) ms)) (left k)) rest)
          ∙ method_arities_more ms i m (omega arith) c.method-item.is (map arity_of c.loop-method.self.arities.items) c.loop-method.places.node c.loop-method.places.left.now
          ∙ c.loop-method.invariant.arities;
      least = ap (λ o. least_of o (name_faults_below (names_in c.args.self.now.bound) (map names_of (drop (i + 1) ms)) rest)) least
          ∙ body_faults_more ms i m (omega arith) c.method-item.is (names_in c.args.self.now.bound) c.loop-method.self.least
          ∙ c.loop-method.invariant.least;
    }
