use Rattle.std.proofs.Common.{◌≡◌, ◌∙◌, ◌∷◌, List, map, sym, ap, subst}
use Rattle.std.specs.Map.{keys_of}
use Rattle.asp_model.specs.declared.word.Label.{Label}
use Rattle.asp_model.specs.Term.{has_text}
use Rattle.serve_rules.specs.Labels.{class_labels, label_text}
use Rattle.request_queue.proofs.OldestLemmas.{SoFar, is_pending, looked, none_looked, passed}
use Rattle.request_queue.proofs.notes.Notes.method_pending.Goals as goal

pub loop-label-init : goal.loop-label-init
loop-label-init c =
    let es = c.args.self.now.numbers.entries in
    let rest = c.into_iter-label-iterator.result in
    let keys : rest ≡ keys_of es = c.into_iter-label-iterator.ensures.into_iter_gives ∙ c.keys-label-items.ensures.rest in
    none_looked (class_labels c.args.class.now) c.args.self.now rest (λ l k a. ap (λ (ls : List Label). has_text l.text (map label_text ls)) keys ∙ is_pending l k es a.1)

pub loop-label-preserved-then-has : goal.loop-label-preserved-then-has
loop-label-preserved-then-has c =
    let asked = (class_labels c.args.class.now) in
    let w = c.args.self.now in
    let x = c.in-Some.label.now in
    let rest = c.next.new.self in
    let best = c.loop-label.best in
    let steps : c.loop-label.label-iterator ≡ x ∷ rest = c.in-Some.ensures.steps in
    let far = subst (λ (ls : List Label). SoFar asked w ls best) steps c.loop-label.invariant in
    subst (SoFar asked w rest) (sym c.earlier-best.ensures) (looked asked w x rest best far c.oldest_with.result (sym c.has.ensures.member ∙ c.if-has.true) c.oldest_with.ensures.oldest)

pub loop-label-preserved : goal.loop-label-preserved
loop-label-preserved c =
    let asked = (class_labels c.args.class.now) in
    let w = c.args.self.now in
    let x = c.in-Some.label.now in
    let rest = c.next.new.self in
    let best = c.loop-label.best in
    let steps : c.loop-label.label-iterator ≡ x ∷ rest = c.in-Some.ensures.steps in
    passed asked w x rest best (subst (λ (ls : List Label). SoFar asked w ls best) steps c.loop-label.invariant) (sym c.has.ensures.member ∙ c.if-has.false)
