use Rattle.std.proofs.Common.{rules, ◌≡◌, ◌<◌, ℕ, List, true, get_or, length, arith}
use Rattle.asp_model.specs.Names.{same_text}
use Rattle.asp_model.specs.declared.word.Label.{Label}
use Rattle.code_table.specs.declared.code.MethodCode.{MethodCode}
use Rattle.serve_rules.specs.Labels.{label_text, method_text}
use Rattle.serve_rules.proofs.LabelLemmas.{alike_more}
use Rattle.serve_rules.proofs.wanted.are_methods.Goals as goal

pub loop-place-preserved : goal.loop-place-preserved
loop-place-preserved c =
    let xs : List MethodCode = c.args.methods.now in
    let ys : List Label = c.args.labels.now in
    let i : ℕ = c.loop-place.place in
    let x : MethodCode = c.index-methods-place.result in
    let y : Label = c.index-labels-place.result in
    let equal : same_text x.label.text y.text ≡ true = search rules in
    let one : i < length xs = search rules in
    let other : i < length ys = search rules in
    let at : x ≡ get_or xs i x = search rules in
    let there : y ≡ get_or ys i y = search rules in
    alike_more method_text label_text xs ys i x y one at other there equal c.loop-place.invariant
