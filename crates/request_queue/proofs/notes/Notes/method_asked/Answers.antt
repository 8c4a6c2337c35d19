use Rattle.std.proofs.Common.{rules, ◌≡◌, ◌<◌, ◌≤◌, ◌∷◌, ◌∙◌, ◌+◌, ℕ, List, [], drop, get_or, length, map, sym, ap, subst}
use Rattle.std.proofs.lemmas.List.{drop_all, drop_more}
use Rattle.asp_model.specs.declared.word.Label.{Label}
use Rattle.asp_model.specs.Names.{Text}
use Rattle.asp_model.specs.Term.{has_text}
use Rattle.code_table.specs.declared.code.MethodCode.{MethodCode}
use Rattle.serve_rules.specs.Labels.{class_labels, method_text}
use Rattle.serve_rules.proofs.LabelLemmas.{has_item}
use Rattle.request_queue.proofs.OldestLemmas.{SoFar, all_looked, looked, method_label, method_texts, none_looked}
use Rattle.request_queue.proofs.notes.Notes.method_asked.Goals as goal

pub loop-method-init : goal.loop-method-init
loop-method-init c =
    let ms : List MethodCode = c.args.class.now.methods.items in
    none_looked (class_labels c.args.class.now) c.args.self.now (map method_label ms) (λ l k a. ap (has_text l.text) (method_texts ms) ∙ a.0)

pub loop-method-preserved : goal.loop-method-preserved
loop-method-preserved c =
    let ms : List MethodCode = c.args.class.now.methods.items in
    let asked : List Text = class_labels c.args.class.now in
    let w = c.args.self.now in
    let i : ℕ = c.loop-method.method-index in
    let m : MethodCode = c.method-item.result in
    let best = c.loop-method.best in
    let lt : i < length ms = subst (λ (xs : List MethodCode). i < length xs) c.deref-method-items.ensures.value c.loop-method-test.true in
    let at : m ≡ get_or ms i m = search rules in
    let left : List Label = map method_label (drop (i + 1) ms) in
    let rest : map method_label (drop i ms) ≡ m.label ∷ left = ap (map method_label) (drop_more ms i m lt) ∙ ap (λ (y : MethodCode). y.label ∷ left) (sym at) in
    let far : SoFar asked w (m.label ∷ left) best = subst (λ (ks : List Label). SoFar asked w ks best) rest c.loop-method.invariant in
    subst (SoFar asked w left) (sym c.earlier-best.ensures) (looked asked w m.label left best far c.oldest_with.result (has_item method_text ms i m lt at) c.oldest_with.ensures.oldest)

pub returns : goal.returns
returns c =
    let ms : List MethodCode = c.args.class.now.methods.items in
    let w = c.args.self.now in
    let asked : List Text = class_labels c.args.class.now in
    let i : ℕ = c.loop-method.method-index in
    let none : drop i ms ≡ [] = drop_all i ms (subst (λ (xs : List MethodCode). length xs ≤ i) c.deref-method-items.ensures.value c.loop-method-test.false) in
    record { oldest = all_looked asked w c.loop-method.best (subst (λ (xs : List MethodCode). SoFar asked w (map method_label xs) c.loop-method.best) none c.loop-method.invariant) }
