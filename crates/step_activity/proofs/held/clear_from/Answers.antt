use Rattle.std.proofs.Common.{◌≡◌, ◌<◌, ◌≤◌, ℕ, List, get_or, length, subst, sym, take, arith}
use Rattle.asp_model.specs.Store.{Store}
use Rattle.law_steps.specs.Linked.{Each}
use Rattle.code_table.specs.Shapes.{store_of}
use Rattle.step_activity.specs.Clear.{IsClear}
use Rattle.step_activity.proofs.ClearLemmas.{each_all, each_on}
use Rattle.code_table.specs.Places.{placed}
use Rattle.step_activity.proofs.held.clear_from.Goals as goal

pub loop-at-preserved : goal.loop-at-preserved
loop-at-preserved c = λ k h.
    let S : Store = store_of k c.args.store.now.cells in
    let ns : List ℕ = placed c.args.places.now in
    let i : ℕ = c.loop-at.at in
    let lt : i < length ns = omega (arith, c.len-at-end.ensures) in
    let is : c.at.result ≡ get_or ns i 0 = c.at.ensures.place 0 in
    each_on (IsClear S) ns i 0 lt (c.loop-at.invariant k h) (subst (IsClear S) is (c.is_clear.ensures.clear k c.if-not-is_clear.false))

pub returns : goal.returns
returns c = record {
  clear = λ k h.
      let S : Store = store_of k c.args.store.now.cells in
      let ns : List ℕ = placed c.args.places.now in
      let le : length ns ≤ c.loop-at.at = omega (arith, c.len-at-end.ensures) in
      subst (λ (n : ℕ). Each (IsClear S) (take n ns)) (sym c.len.ensures) (each_all (IsClear S) ns c.loop-at.at le (c.loop-at.invariant k h));
  within = omega (arith, c.len.ensures);
}
