use Rattle.std.proofs.Common.{◌<◌, ◌≤◌, ◌+◌, List, length, sym, subst, arith}
use Rattle.asp_model.specs.declared.outcome.Reception.{Reception}
use Rattle.replay_population.proofs.EndLemmas.{reached_closed}
use Rattle.replay_offers.specs.Entries.{HasNextOf}
use Rattle.replay_offers.proofs.EntryLemmas.{all_numbered, count_more, known_at}
use Rattle.replay_offers.proofs.entries.entries_at.Goals as goal

pub next_of-requires-clause-closed : goal.next_of-requires-clause-closed
next_of-requires-clause-closed c =
    let r = c.requires.reached in
    (r.1, reached_closed c.args.population.now r.0 r.1 r.2)

pub next_of-requires-clause-known : goal.next_of-requires-clause-known
next_of-requires-clause-known c =
    let r = c.requires.reached in
    let within : c.loop-number.number < length c.args.population.now.roster = omega (arith, c.loop-number-test.true, c.len-number-end.ensures.len) in
    known_at c.args.population.now.roster c.loop-number.number r.2.population.roster within

pub loop-number-preserved : goal.loop-number-preserved
loop-number-preserved c = λ program k h.
    subst (λ (xs : List Reception). HasNextOf c.args.population.now.roster k c.args.to.now (c.loop-number.number + 1) xs) (sym c.in_ok-push_some.ensures)
    (count_more c.args.population.now.roster k c.args.to.now c.loop-number.number c.loop-number.entries.items c.in_ok-entry.entry (c.loop-number.invariant program k h)
    (λ n e is intends. c.in_ok-entry.ensures.next k n e h.population is intends))

pub returns : goal.returns
returns c = record {
  next = λ program k h.
      let past : length c.args.population.now.roster ≤ c.loop-number.number = omega (arith, c.loop-number-test.false, c.len-number-end.ensures.len) in
      all_numbered c.args.population.now program k c.args.to.now c.loop-number.number c.loop-number.entries.items h past (c.loop-number.invariant program k h);
}
