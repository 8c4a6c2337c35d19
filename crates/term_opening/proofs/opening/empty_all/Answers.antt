use Rattle.std.proofs.Common.{◌<◌, ◌≤◌, ◌∙◌, length, map, refl, arith}
use Rattle.asp_model.specs.Shapes.{tree_of}
use Rattle.term_opening.specs.Opening.{emptied_all}
use Rattle.term_opening.proofs.WalkLemmas.{all_walked, done_more, emptied_more}
use Rattle.term_opening.proofs.opening.empty_all.Goals as goal

pub loop-term-preserved : goal.loop-term-preserved
loop-term-preserved c =
    let xs = c.loop-term.terms in
    let i = c.loop-term.term-index in
    let d = c.term-item.result in
    let lt : i < length xs = omega (arith, c.loop-term-test.true, c.loop-term.auto.term-index-end, c.loop-term.auto.terms) in (
      emptied_more tree_of xs i d _ c.loop-term.open _ lt c.in_ok-open.ensures.emptied c.in_ok-open.ensures.on ∙ c.loop-term.invariant.0,
      done_more tree_of xs i d _ c.loop-term.open _ c.loop-term.done.items _ lt c.in_ok-open.ensures.done c.in_ok-open.ensures.on ∙ c.loop-term.invariant.1,
    )

pub returns-clause-emptied : goal.returns-clause-emptied
returns-clause-emptied c =
    let xs = c.loop-term.terms in
    let end : length xs ≤ c.loop-term.term-index = omega (arith, c.loop-term-test.false, c.loop-term.auto.term-index-end, c.loop-term.auto.terms) in
    all_walked tree_of (λ ys. emptied_all c.loop-term.open (map tree_of ys)) xs c.loop-term.term-index _ end refl c.loop-term.invariant.0
