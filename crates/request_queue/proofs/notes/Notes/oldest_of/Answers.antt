use Rattle.std.proofs.Common.{rules, ◌≡◌, ◌<◌, ◌∷◌, ◌∙◌, ◌+◌, ℕ, List, [], drop, get_or, length, map, sym, ap, subst, arith}
use Rattle.std.proofs.lemmas.List.{drop_all, drop_more}
use Rattle.asp_model.specs.declared.word.Label.{Label}
use Rattle.asp_model.specs.Names.{Text}
use Rattle.serve_rules.specs.Labels.{label_text}
use Rattle.serve_rules.proofs.LabelLemmas.{has_item}
use Rattle.request_queue.proofs.OldestLemmas.{SoFar, all_looked, looked, none_looked}
use Rattle.request_queue.proofs.notes.Notes.oldest_of.Goals as goal

pub loop-label-init : goal.loop-label-init
loop-label-init c = none_looked (map label_text c.args.labels.now) c.args.self.now c.args.labels.now (λ l k a. a.0)

pub loop-label-preserved : goal.loop-label-preserved
loop-label-preserved c =
    let ls : List Label = c.args.labels.now in
    let asked : List Text = map label_text ls in
    let w = c.args.self.now in
    let i : ℕ = c.loop-label.label-index in
    let x : Label = c.label-item.result in
    let best = c.loop-label.best in
    let lt : i < length ls = c.loop-label-test.true in
    let at : x ≡ get_or ls i x = search rules in
    let rest : drop i ls ≡ x ∷ drop (i + 1) ls = drop_more ls i x lt ∙ ap (λ (y : Label). y ∷ drop (i + 1) ls) (sym at) in
    let far : SoFar asked w (x ∷ drop (i + 1) ls) best = subst (λ (ks : List Label). SoFar asked w ks best) rest c.loop-label.invariant in
    subst (SoFar asked w (drop (i + 1) ls)) (sym c.earlier-best.ensures) (looked asked w x (drop (i + 1) ls) best far c.oldest_with.result (has_item label_text ls i x lt at) c.oldest_with.ensures.oldest)

pub returns : goal.returns
returns c =
    let ls : List Label = c.args.labels.now in
    let none : drop c.loop-label.label-index ls ≡ [] = drop_all c.loop-label.label-index ls (omega arith) in
    record { oldest = all_looked (map label_text ls) c.args.self.now c.loop-label.best (subst (λ (ks : List Label). SoFar (map label_text ls) c.args.self.now ks c.loop-label.best) none c.loop-label.invariant) }
