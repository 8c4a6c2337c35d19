use Rattle.std.proofs.Common.{◌<◌, ◌≤◌, ◌∙◌, length, map, refl, arith}
use Rattle.code_table.specs.Parts.{field_label, field_tree}
use Rattle.term_opening.specs.Opening.{emptied_all}
use Rattle.term_opening.proofs.WalkLemmas.{all_walked, done_more, emptied_more, part_kept}
use Rattle.term_opening.proofs.opening.empty_fields.Goals as goal

pub loop-field-preserved : goal.loop-field-preserved
loop-field-preserved c =
    let xs = c.loop-field.fields in
    let i = c.loop-field.field-index in
    let d = c.field-item.result in
    let lt : i < length xs = omega (arith, c.loop-field-test.true, c.loop-field.auto.field-index-end, c.loop-field.auto.fields) in (
      emptied_more field_tree xs i d _ c.loop-field.open _ lt c.in_ok-open.ensures.emptied c.in_ok-open.ensures.on ∙ c.loop-field.invariant.0,
      done_more field_tree xs i d _ c.loop-field.open _ c.loop-field.done.items _ lt c.in_ok-open.ensures.done c.in_ok-open.ensures.on ∙ c.loop-field.invariant.1,
      part_kept field_label xs i d _ lt c.in_ok-open.ensures.label ∙ c.loop-field.invariant.2,
    )

pub returns-clause-emptied : goal.returns-clause-emptied
returns-clause-emptied c =
    let xs = c.loop-field.fields in
    let end : length xs ≤ c.loop-field.field-index = omega (arith, c.loop-field-test.false, c.loop-field.auto.field-index-end, c.loop-field.auto.fields) in
    all_walked field_tree (λ ys. emptied_all c.loop-field.open (map field_tree ys)) xs c.loop-field.field-index _ end refl c.loop-field.invariant.0
