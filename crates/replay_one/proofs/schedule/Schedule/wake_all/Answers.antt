use Rattle.std.proofs.Common.{◌∙◌, Some, List, ap, inl, inr, ⊎_elim, arith}
use Rattle.asp_model.specs.Names.{Name}
use Rattle.replay_one.specs.Schedule.{seen}
use Rattle.replay_parts.proofs.RosterLemmas.{number_within}
use Rattle.replay_one.proofs.ScheduleLemmas.{more_twice, still_numbered}
use Rattle.replay_one.proofs.schedule.Schedule.wake_all.Goals as goal

pub loop-number-preserved-in-Continue-1 : goal.loop-number-preserved-in-Continue-1
loop-number-preserved-in-Continue-1 c =
    let ns : List Name = c.args.roster.now in
    let was = c.loop-number.invariant in
    let more = c.in_ok-wake.ensures.more in (
      more_twice (seen ns c.args.self.now) (seen ns c.loop-number.self) (seen ns c.wake.new.self) was.0 more,
      (λ m k has h. ⊎_elim
          (λ here. ⊎_elim
          (λ left. inl left)
          (λ same. inr (c.in_ok-wake.ensures.ready m (has ∙ ap Some same)))
          (still_numbered k c.in-Some.number c.loop-number.numbers.items c.pop.new.self.items c.in-Some.ensures.items here))
          (λ ready. inr (more.ready m ready))
          (was.1 m k has h)),
      c.in_ok-wake.ensures.ordered ∙ was.2,
    )

pub loop-number-preserved : goal.loop-number-preserved
loop-number-preserved c =
    let ns : List Name = c.args.roster.now in
    let was = c.loop-number.invariant in (
      was.0,
      (λ m k has h. ⊎_elim
          (λ here. ⊎_elim
          (λ left. inl left)
          (λ same.
          let lt = number_within ns m k has in
          absurd (omega (arith, lt, same, c.if-number-len.false, c.len.ensures.len)))
          (still_numbered k c.in-Some.number c.loop-number.numbers.items c.pop.new.self.items c.in-Some.ensures.items here))
          (λ ready. inr ready)
          (was.1 m k has h)),
      was.2,
    )
