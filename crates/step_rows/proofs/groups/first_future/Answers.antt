use Rattle.std.proofs.Common.{◌≡◌, ◌<◌, ℕ, List, Some, [], true, false, drop, suc, get_or, length, add-one, sym, ap, ◌∙◌, arith}
use Rattle.std.proofs.Math.Seq.{drop-cons}
use Rattle.std.proofs.lemmas.List.{drop_all}
use Rattle.asp_model.specs.Contraction.{first_future, is_future}
use Rattle.asp_model.specs.Store.{Store, cell}
use Rattle.code_table.specs.Places.{placed}
use Rattle.code_table.specs.Shapes.{store_of}
use Rattle.step_rows.proofs.GroupLemmas.{future_here, future_later}
use Rattle.step_rows.proofs.groups.first_future.Goals as goal

pub returns-then-is_future_at : goal.returns-then-is_future_at
returns-then-is_future_at c = record {
  first = λ k.
      let S : Store = store_of k c.args.store.now.cells in
      let ns : List ℕ = placed c.args.places.now in
      let i : ℕ = c.loop-at.at in
      let n : ℕ = get_or ns i 0 in
      let lt : i < length ns = omega (arith, c.loop-at-test.true, c.len-at-end.ensures) in
      let is : c.at-place.result ≡ n = c.at-place.ensures.place 0 in
      let here : is_future (cell S n) ≡ true = ap (λ (m : ℕ). is_future (cell S m)) (sym is) ∙ sym (c.is_future_at.ensures.future k) ∙ c.if-is_future_at.true in
      ap (λ (m : ℕ). Some m) is
      ∙ sym (c.loop-at.invariant k ∙ ap (first_future S) (drop-cons ns i 0 lt) ∙ future_here S n (drop (suc i) ns) here);
}

pub loop-at-preserved : goal.loop-at-preserved
loop-at-preserved c = λ k.
    let S : Store = store_of k c.args.store.now.cells in
    let ns : List ℕ = placed c.args.places.now in
    let i : ℕ = c.loop-at.at in
    let n : ℕ = get_or ns i 0 in
    let lt : i < length ns = omega (arith, c.loop-at-test.true, c.len-at-end.ensures) in
    let is : c.at-place.result ≡ n = c.at-place.ensures.place 0 in
    let here : is_future (cell S n) ≡ false = ap (λ (m : ℕ). is_future (cell S m)) (sym is) ∙ sym (c.is_future_at.ensures.future k) ∙ c.if-is_future_at.false in
    c.loop-at.invariant k ∙ ap (first_future S) (drop-cons ns i 0 lt) ∙ future_later S n (drop (suc i) ns) here
    ∙ ap (λ (j : ℕ). first_future S (drop j ns)) (sym (add-one i))

pub returns : goal.returns
returns c = record {
  first = λ k.
      let S : Store = store_of k c.args.store.now.cells in
      let ns : List ℕ = placed c.args.places.now in
      let all : drop c.loop-at.at ns ≡ [] = drop_all c.loop-at.at ns (omega (arith, c.loop-at-test.false, c.len-at-end.ensures)) in
      sym (c.loop-at.invariant k ∙ ap (first_future S) all);
}
