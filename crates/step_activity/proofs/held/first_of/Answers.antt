use Rattle.std.proofs.Common.{◌≡◌, ◌<◌, ◌∷◌, ℕ, List, [], None, Some, drop, suc, get_or, subst, length, add-one, sym, ap, ◌∙◌, arith}
use Rattle.std.proofs.Math.Seq.{drop-cons}
use Rattle.std.proofs.lemmas.List.{drop_all}
use Rattle.asp_model.specs.Contraction.{first_future}
use Rattle.step_activity.specs.Stances.{IsHeld}
use Rattle.asp_model.specs.Store.{Store}
use Rattle.code_table.specs.Shapes.{store_of}
use Rattle.step_activity.proofs.ClearLemmas.{first_after}
use Rattle.step_activity.proofs.HeldLemmas.{first_behind, first_more}
use Rattle.code_table.specs.Places.{placed}
use Rattle.step_activity.proofs.held.first_of.Goals as goal

pub loop-at-init : goal.loop-at-init
loop-at-init c = λ k none. first_after (store_of k c.args.store.now.cells) (placed c.args.places.now) c.args.from none

pub returns-in-Some : goal.returns-in-Some
returns-in-Some c = record {
  held = λ k none.
      let S : Store = store_of k c.args.store.now.cells in
      let ns : List ℕ = placed c.args.places.now in
      let i : ℕ = c.loop-at.at in
      let n : ℕ = get_or ns i 0 in
      let lt : i < length ns = omega (arith, c.len-at-end.ensures) in
      let is : c.at.result ≡ n = c.at.ensures.place 0 in
      let here = subst (λ (m : ℕ). IsHeld S (m ∷ []) (Some c.in-Some.held)) is (c.in-Some.ensures.held k) in
      (c.loop-at.invariant k none ∙ ap (first_future S) (drop-cons ns i 0 lt) ∙ first_more S (n ∷ []) (drop (suc i) ns) c.in-Some.held.place here.0, here.1);
}

pub loop-at-preserved : goal.loop-at-preserved
loop-at-preserved c = λ k none.
    let S : Store = store_of k c.args.store.now.cells in
    let ns : List ℕ = placed c.args.places.now in
    let i : ℕ = c.loop-at.at in
    let n : ℕ = get_or ns i 0 in
    let lt : i < length ns = omega (arith, c.len-at-end.ensures) in
    let is : c.at.result ≡ n = c.at.ensures.place 0 in
    c.loop-at.invariant k none ∙ ap (first_future S) (drop-cons ns i 0 lt) ∙ first_behind S (n ∷ []) (drop (suc i) ns) (subst (λ (m : ℕ). first_future S (m ∷ []) ≡ None) is (c.in_default.ensures.held k))
    ∙ ap (λ (j : ℕ). first_future S (drop j ns)) (sym (add-one i))

pub returns : goal.returns
returns c = record {
  held = λ k none.
      let S : Store = store_of k c.args.store.now.cells in
      let ns : List ℕ = placed c.args.places.now in
      let all : drop c.loop-at.at ns ≡ [] = drop_all c.loop-at.at ns (omega (arith, c.len-at-end.ensures)) in
      c.loop-at.invariant k none ∙ ap (first_future S) all;
}
