use Rattle.std.proofs.Common.{ℕ, ◌≡◌, ◌<◌, ◌∙◌, true, None, Some, List, length, sym, ap, subst, ⊎_elim, arith}
use Rattle.std.proofs.lemmas.Bool.{cases_lt}
use Rattle.asp_model.specs.Names.{Name}
use Rattle.def_journals.specs.Journals.{number_of}
use Rattle.replay_population.specs.declared.population.Population.{Population}
use Rattle.replay_parts.proofs.RosterLemmas.{number_within}
use Rattle.replay_one.specs.declared.schedule.Schedule.{Schedule}
use Rattle.replay_one.specs.Schedule.{IsMoreReady, ready_in, seen}
use Rattle.replay_parts.specs.Ready.{Ascend}
use Rattle.replay_one.proofs.RunLemmas.{roused}
use Rattle.replay_one.proofs.round.Machine.rouse.Goals as goal

pub loop-number-preserved : goal.loop-number-preserved
loop-number-preserved c =
    let p : Population = c.args.self.now.population in
    let q : Population = c.loop-number.self.population in
    let i = c.loop-number.number in
    let was = c.loop-number.invariant in
    let names : q.roster ≡ p.roster = ap (λ (r : Population). r.roster) was.0 in
    let old : Schedule = c.loop-number.self.schedule in
    let new : Schedule = c.wake.new.self in
    let more : IsMoreReady (seen p.roster old) None (seen p.roster new) = subst (λ (ns : List Name). IsMoreReady (seen ns old) None (seen ns new)) names c.in_ok-wake.ensures.more in (
      was.0,
      was.1,
      (λ n k has lt. ⊎_elim
          (λ less. more.ready n (was.2 n k has less))
          (λ here.
          let same : k ≡ i = omega (arith, lt, here) in
          subst (λ (ns : List Name). ready_in (seen ns new) n ≡ true) names (c.in_ok-wake.ensures.ready n (ap (number_of n) names ∙ has ∙ ap Some same)))
          (cases_lt k i)),
      c.in_ok-wake.ensures.ordered ∙ was.3,
    )

pub returns : goal.returns
returns c = record {
  runs = λ b program k h numbered.
      let p : Population = c.args.self.now.population in
      let q : Population = c.loop-number.self.population in
      let s : Schedule = c.loop-number.self.schedule in
      let was = c.loop-number.invariant in
      let names : q.roster ≡ p.roster = ap (λ (r : Population). r.roster) was.0 in
      roused b program k p q (seen q.roster s) h numbered was.0 was.1
      (λ n j has.
      let lt : j < length p.roster = number_within p.roster n j has in
      subst (λ (ns : List Name). ready_in (seen ns s) n ≡ true) (sym names) (was.2 n j has (omega (arith, lt, c.loop-number-test.false, c.len-number-end.ensures.len))));
  order = λ h.
      let p : Population = c.args.self.now.population in
      let q : Population = c.loop-number.self.population in
      let was = c.loop-number.invariant in
      let names : q.roster ≡ p.roster = ap (λ (r : Population). r.roster) was.0 in
      subst (λ (o : ℕ). Ascend o q.roster) (sym was.3) (subst (λ (ns : List Name). Ascend c.args.self.now.schedule.ready.ordered ns) (sym names) h);
}
