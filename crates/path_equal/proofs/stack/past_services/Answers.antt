use Rattle.std.proofs.Common.{◌≡◌, ◌-◌, List, ℕ, drop, get_or, length, refl, reverse, subst, sym, take, arith}
use Rattle.step_machine.specs.declared.frames.Frame.{Frame}
use Rattle.step_machine.specs.Items.{Item}
use Rattle.step_machine.specs.Stacks.{IsStack}
use Rattle.path_equal.specs.Searches.{searched}
use Rattle.path_equal.proofs.StackLemmas.{end, go_on, no_frame, service_more, services_places}
use Rattle.path_equal.proofs.stack.past_services.Goals as goal

pub loop-i-preserved : goal.loop-i-preserved
loop-i-preserved c =
    let k = c.args.code.now in
    let frames : List Frame = c.args.all.frames.now in
    let env = c.args.all.env.now in
    let operands = c.args.all.operands.now in
    let rest = c.loop-i.rest.now in
    let i = c.loop-i.i in
    let f : Frame = get_or frames i no_frame in
    go_on k frames env operands i rest c.behind-rest.result.now f no_frame
    (λ (xs : List Item). c.loop-i.search ≡ searched (services_places xs) c.args.start) (λ (xs : List Item). c.past_service-search.result ≡ searched (services_places xs) c.args.start)
    c.loop-i-test.true refl c.behind-rest.ensures.places c.loop-i.invariant
    (λ x xs item stack before.
    let low : IsStack k (reverse (take i frames)) c.up_to.result.now (take (length operands - length rest) operands) xs = subst (λ (l : List ℕ). IsStack k (reverse (take i frames)) l (take (length operands - length rest) operands) xs) (sym c.up_to.ensures.places) stack in
    let here : IsStack k (reverse (take i frames)) c.up_to.result.now c.all_but.result.now xs = subst (λ (l : List ℕ). IsStack k (reverse (take i frames)) c.up_to.result.now l xs) (sym c.all_but.ensures.places) low in
    service_more x xs c.args.start c.loop-i.search c.past_service-search.result before (c.past_service-search.ensures.searched (drop f.base (take f.height env)) (take f.done rest) f.node f.from x xs item here))

pub returns : goal.returns
returns c = record {
  searched = λ items stack.
      end c.args.code.now c.args.all.frames.now c.args.all.env.now c.args.all.operands.now c.loop-i.i c.loop-i.rest.now (λ (xs : List Item). c.loop-i.search ≡ searched (services_places xs) c.args.start) items (omega (arith, c.loop-i-test.false)) c.loop-i.invariant stack;
}
