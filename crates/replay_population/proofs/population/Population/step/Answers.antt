use Rattle.replay_population.proofs.population.Population.step.Goals as goal

pub act-requires-clause-closed : goal.act-requires-clause-closed
act-requires-clause-closed c = let r = c.requires.steps in (r.2, r.4)

pub act-requires-clause-known : goal.act-requires-clause-known
act-requires-clause-known c = let r = c.requires.steps in (r.0, r.1)

pub give-requires : goal.give-requires
give-requires c =
    let r = c.requires.steps in
    let acts = c.in_ok-given.ensures.acts r.2 r.3 r.0 r.4.population r.1 r.5 in
    record { giving = (r.0, r.2, r.3, record { free = r.6; given = acts.0; here = acts.1 }) }

pub returns-clause-steps : goal.returns-clause-steps
returns-clause-steps c = λ k e n h has intends free.
    let acts = c.in_ok-given.ensures.acts k e n h has intends in
    c.give.ensures.given k e n (record { free = free; given = acts.0; here = acts.1 })
