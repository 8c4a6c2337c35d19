use Rattle.std.proofs.Common.{rules, ◌≡◌, ◌<◌, ◌||◌, ◌∷◌, ◌∙◌, ◌+◌, ℕ, List, [], drop, get_or, length, map, sym, ap, arith}
use Rattle.std.proofs.lemmas.List.{drop_all, drop_more}
use Rattle.asp_model.specs.declared.word.Label.{Label}
use Rattle.asp_model.specs.Names.{Text}
use Rattle.asp_model.specs.Term.{has_text}
use Rattle.serve_rules.specs.Labels.{label_text}
use Rattle.serve_rules.proofs.LabelLemmas.{has_item, one_text}
use Rattle.serve_rules.proofs.wanted.is_one_of.Goals as goal

pub returns-then-eq : goal.returns-then-eq
returns-then-eq c =
    let ls : List Label = c.args.labels.now in
    let i : ℕ = c.loop-other.other-index in
    let x : Label = c.other-item.result in
    let lt : i < length ls = c.loop-other-test.true in
    let at : x ≡ get_or ls i x = search rules in
    record { member = sym (ap (λ (t : Text). has_text t (map label_text ls)) (one_text c.args.label.now.text x.text (sym c.eq.ensures ∙ c.if-eq.true)) ∙ has_item label_text ls i x lt at) }

pub loop-other-preserved : goal.loop-other-preserved
loop-other-preserved c =
    let ls : List Label = c.args.labels.now in
    let l : Label = c.args.label.now in
    let i : ℕ = c.loop-other.other-index in
    let x : Label = c.other-item.result in
    let lt : i < length ls = c.loop-other-test.true in
    let at : x ≡ get_or ls i x = search rules in
    let left : List Label = drop (i + 1) ls in
    let rest : drop i ls ≡ x ∷ left = drop_more ls i x lt ∙ ap (λ (y : Label). y ∷ left) (sym at) in
    c.loop-other.invariant ∙ ap (λ (ks : List Label). has_text l.text (map label_text ks)) rest ∙ ap (λ b. b || has_text l.text (map label_text left)) (sym c.eq.ensures ∙ c.if-eq.false)

pub returns : goal.returns
returns c =
    let ls : List Label = c.args.labels.now in
    let none : drop c.loop-other.other-index ls ≡ [] = drop_all c.loop-other.other-index ls (omega arith) in
    record { member = sym (c.loop-other.invariant ∙ ap (λ (ks : List Label). has_text c.args.label.now.text (map label_text ks)) none) }
