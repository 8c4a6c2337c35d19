use Rattle.std.proofs.Common.{◌≡◌, ◌<◌, ◌-◌, ◌∙◌, ℕ, suc, None, Some, length, drop, get_or, sym, ap, arith}
use Rattle.std.specs.FinMap.{put}
use Rattle.std.proofs.lemmas.List.{get_or_read}
use Rattle.asp_model.specs.Shapes.{future_shape}
use Rattle.future_table.specs.Values.{by_name, filled_of, lent_entries}
use Rattle.future_table.proofs.EntryLemmas.{inserted, none_at, some_at}
use Rattle.future_table.proofs.walks.entries.Goals as goal

pub loop-left-preserved-in_ok-insert : goal.loop-left-preserved-in_ok-insert
loop-left-preserved-in_ok-insert c =
    let w = c.args.walks.now in
    let n : ℕ = c.loop-left.left - 1 in
    let within : n < length w.values.items = omega (arith, c.loop-left-test.true, c.loop-left.invariant.0) in
    let up : c.loop-left.left ≡ suc n = omega (arith, c.loop-left-test.true) in
    let some : get_or w.values.items n None ≡ Some c.in-Some.value = sym (get_or_read w.values.items n c.index.result.now within c.index.ensures None) ∙ c.in-Some.is in (
      omega (arith, within),
      ap lent_entries c.in_ok-insert.ensures.entries ∙ inserted c.loop-left.entries.entries c.in_ok-name.name _
          ∙ ap (put by_name c.in_ok-name.name c.in-Some.value) (c.loop-left.invariant.1 ∙ (λ i. filled_of (drop (up i) w.numbers) (drop (up i) w.values.items)))
          ∙ sym (some_at w.numbers w.values.items n c.in_ok-name.name c.in-Some.value within c.requires.whole.room (ap future_shape c.in_ok-name.ensures.name ∙ c.name.ensures.name) some),
    )

pub loop-left-preserved : goal.loop-left-preserved
loop-left-preserved c =
    let w = c.args.walks.now in
    let n : ℕ = c.loop-left.left - 1 in
    let within : n < length w.values.items = omega (arith, c.loop-left-test.true, c.loop-left.invariant.0) in
    let up : c.loop-left.left ≡ suc n = omega (arith, c.loop-left-test.true) in
    let none : get_or w.values.items n None ≡ None = sym (get_or_read w.values.items n c.index.result.now within c.index.ensures None) ∙ c.in_default.is in
    (omega (arith, within), c.loop-left.invariant.1 ∙ (λ i. filled_of (drop (up i) w.numbers) (drop (up i) w.values.items)) ∙ sym (none_at w.numbers w.values.items n within c.requires.whole.room none))
