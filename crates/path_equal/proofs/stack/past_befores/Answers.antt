use Rattle.std.proofs.Common.{◌≡◌, List, ℕ, drop, get_or, refl, subst, sym, take, arith}
use Rattle.step_machine.specs.declared.frames.Frame.{Frame}
use Rattle.step_machine.specs.Items.{Item, contexts_of}
use Rattle.step_machine.specs.Stacks.{IsItem}
use Rattle.path_equal.specs.Contexts.{places_before}
use Rattle.path_equal.specs.Searches.{searched}
use Rattle.path_equal.proofs.StackLemmas.{before_more, end, go_on, no_frame}
use Rattle.path_equal.proofs.stack.past_befores.Goals as goal

pub loop-frame-preserved : goal.loop-frame-preserved
loop-frame-preserved c = λ env.
    let k = c.args.code.now in
    let frames : List Frame = c.args.frames.now in
    let f : Frame = get_or frames c.loop-frame.frame-index no_frame in
    go_on k frames env c.args.operands.now c.loop-frame.frame-index c.loop-frame.rest.now c.behind-rest.result.now f no_frame
    (λ (xs : List Item). c.loop-frame.search ≡ searched (places_before (contexts_of xs)) c.args.start) (λ (xs : List Item). c.past_next-search.result ≡ searched (places_before (contexts_of xs)) c.args.start)
    c.loop-frame-test.true refl c.behind-rest.ensures.places (c.loop-frame.invariant env)
    (λ x xs item stack before.
    let ns : List ℕ = drop f.base (take f.height env) in
    let here : IsItem k ns c.up_to.result.now f.form f.node f.from x = subst (λ (l : List ℕ). IsItem k ns l f.form f.node f.from x) (sym c.up_to.ensures.places) item in
    before_more x xs c.args.start c.loop-frame.search c.past_next-search.result before (c.past_next-search.ensures.searched ns x here))

pub returns : goal.returns
returns c = record {
  searched = λ env items stack.
      end c.args.code.now c.args.frames.now env c.args.operands.now c.loop-frame.frame-index c.loop-frame.rest.now (λ (xs : List Item). c.loop-frame.search ≡ searched (places_before (contexts_of xs)) c.args.start) items (omega (arith, c.loop-frame-test.false)) (c.loop-frame.invariant env) stack;
}
