use Rattle.std.proofs.Common.{◌≡◌, ◌<◌, ◌+◌, ◌∙◌, List, [], ◌∷◌, Bool, true, false, length, sym, ap, subst, arith}
use Rattle.std.proofs.Common.{length-append}
use Rattle.asp_model.specs.Step.{intent_in}
use Rattle.replay_population.proofs.EndLemmas.{reached_closed}
use Rattle.replay_parts.proofs.RosterLemmas.{number_within}
use Rattle.replay_offers.proofs.EntryLemmas.{known_at}
use Rattle.replay_classes.specs.Looks.{AreSendersTo}
use Rattle.replay_classes.proofs.ProbeLemmas.{rests_if, senders_more, sends_if}
use Rattle.replay_classes.proofs.probes.senders.Goals as goal
use Rattle.replay_classes.proofs.probes.senders.Goals.{in-Sends+in_ok-push-in-Sends, in-Rests+in_ok-push-in-Rests}

pub look_at-requires-clause-closed : goal.look_at-requires-clause-closed
look_at-requires-clause-closed c = let r = c.requires.reached in (r.1, reached_closed c.args.population.now r.0 r.1 r.2)

pub look_at-requires-clause-known : goal.look_at-requires-clause-known
look_at-requires-clause-known c =
    let within : c.loop-number.number < length c.args.population.now.roster = omega (arith, c.loop-number-test.true, c.len-number-end.ensures.len) in
    known_at c.args.population.now.roster c.loop-number.number c.requires.reached.2.population.roster within

pub loop-number-preserved : goal.loop-number-preserved
loop-number-preserved c =
    let ns = c.args.population.now.roster in
    let k = c.loop-number.number in
    let bs : List Bool = c.loop-number.sends.items in
    let long = c.loop-number.invariant.0 in
    elim c.match-branch-2.branch [
      | in-Sends+in_ok-push-in-Sends w ↦
          let items = ap (λ v. v.items) w.sends-is ∙ w.in_ok-push-in-Sends.ensures.items in (
            ap length items ∙ length-append bs (true ∷ []) ∙ ap (λ n. n + 1) long,
            λ program f h. subst (AreSendersTo ns f (k + 1)) (sym items)
                (senders_more ns f k bs true long (c.loop-number.invariant.1 program f h) (λ n is. sends_if n (intent_in f n) c.in_ok-look_at.field-0 (c.in_ok-look_at.ensures.look f n h.population is) w.in-Sends.is)),
          )
      | in-Rests+in_ok-push-in-Rests w ↦
          let items = ap (λ v. v.items) w.sends-is ∙ w.in_ok-push-in-Rests.ensures.items in (
            ap length items ∙ length-append bs (false ∷ []) ∙ ap (λ n. n + 1) long,
            λ program f h. subst (AreSendersTo ns f (k + 1)) (sym items)
                (senders_more ns f k bs false long (c.loop-number.invariant.1 program f h) (λ n is. rests_if n (intent_in f n) c.in_ok-look_at.field-0 (c.in_ok-look_at.ensures.look f n h.population is) w.in-Rests.is)),
          )
    ]

pub returns : goal.returns
returns c = record {
  senders = λ program f h n k is.
      let ns = c.args.population.now.roster in
      c.loop-number.invariant.1 program f h n k is (omega (arith, number_within ns n k is, c.loop-number-test.false, c.len-number-end.ensures.len));
}
