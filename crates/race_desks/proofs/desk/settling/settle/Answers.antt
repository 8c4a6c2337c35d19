use Rattle.std.proofs.Common.{◌∙◌, ap, sym}
use Rattle.core_state.specs.declared.lease.Lease.{Lease}
use Rattle.asp_core.specs.Cores.{code_of, history_of}
use Rattle.race_desks.proofs.SettleLemmas.{beyond_then, not_beyond, settled, settling_begins, settling_ends, settling_less, settling_on, still_reserved, unspent}
use Rattle.race_desks.proofs.desk.settling.settle.Goals as goal

pub loop-core-init : goal.loop-core-init
loop-core-init g c = settling_begins g.P.UpdatePolicy.answer g.P.UpdatePolicy.asked c.args.core.now c.args.long c.requires.kept c.requires.lease

pub renew-requires-clause-kept : goal.renew-requires-clause-kept
renew-requires-clause-kept g c = c.loop-core.invariant.kept

pub renew-requires-clause-lease : goal.renew-requires-clause-lease
renew-requires-clause-lease g c = c.loop-core.invariant.lease.0

pub renew-requires-clause-beyond : goal.renew-requires-clause-beyond
renew-requires-clause-beyond g c = beyond_then c.loop-core.long.lease.grant c.loop-core.long.lease.taken (sym c.goes_beyond.ensures.beyond ∙ c.loop-core-test.true)

pub renew-requires-clause-reserved : goal.renew-requires-clause-reserved
renew-requires-clause-reserved g c = still_reserved g.P.UpdatePolicy.answer g.P.UpdatePolicy.asked c.args.core.now c.args.long c.loop-core.core c.loop-core.long c.loop-core.invariant c.requires.reserved

pub returns-in-Err-clause-settled : goal.returns-in-Err-clause-settled
returns-in-Err-clause-settled g c =
    let e = c.in-Err.ensures in
    settling_ends g.P.UpdatePolicy.answer g.P.UpdatePolicy.asked c.args.core.now c.args.long c.loop-core.core c.loop-core.long c.loop-core.invariant c.requires.reserved c.renew.new.self e.gives_up e.kept e.begins e.err e.code

pub loop-core-preserved : goal.loop-core-preserved
loop-core-preserved g c =
    let e = c.in-Ok.ensures in
    settling_on g.P.UpdatePolicy.answer g.P.UpdatePolicy.asked c.args.core.now c.args.long c.loop-core.core c.loop-core.long c.loop-core.invariant c.requires.reserved
    c.renew.new.self c.renew.new.long
    (beyond_then c.loop-core.long.lease.grant c.loop-core.long.lease.taken (sym c.goes_beyond.ensures.beyond ∙ c.loop-core-test.true))
    (unspent c.loop-core.core.spent _ _ e.spent) e.fresh e.by_plan e.chosen e.stopped e.kept e.begins e.code e.renewed

pub loop-core-smaller : goal.loop-core-smaller
loop-core-smaller g c =
    let e = c.in-Ok.ensures in
    settling_less g.P.UpdatePolicy.answer g.P.UpdatePolicy.asked c.args.core.now c.args.long c.loop-core.core c.loop-core.long c.loop-core.invariant c.requires.reserved
    c.renew.new.self c.renew.new.long
    (beyond_then c.loop-core.long.lease.grant c.loop-core.long.lease.taken (sym c.goes_beyond.ensures.beyond ∙ c.loop-core-test.true))
    (unspent c.loop-core.core.spent _ _ e.spent) e.fresh e.by_plan e.chosen e.stopped e.kept e.begins e.code e.renewed

pub into_lease-requires : goal.into_lease-requires
into_lease-requires g c = record { within = not_beyond c.loop-core.long.lease.grant c.loop-core.long.lease.taken (sym c.goes_beyond.ensures.beyond ∙ c.loop-core-test.false) }

pub returns-clause-settled : goal.returns-clause-settled
returns-clause-settled g c = settled g.P.UpdatePolicy.answer g.P.UpdatePolicy.asked c.args.core.now c.args.long c.loop-core.core c.loop-core.long c.loop-core.invariant c.requires.reserved

pub returns-clause-lease : goal.returns-clause-lease
returns-clause-lease g c =
    let h = history_of c.loop-core.core in
    let code = code_of c.loop-core.core in
    let x = c.loop-core.invariant.lease in
    (c.into_lease.ensures.lease h code x.0, λ fresh. c.into_lease.ensures.stopped h code (x.1 (ap (λ (l : Lease). l.spent) (sym c.into_lease.ensures.same) ∙ fresh)))

pub returns-clause-number : goal.returns-clause-number
returns-clause-number g c = ap (λ (l : Lease). l.number) c.into_lease.ensures.same ∙ c.loop-core.invariant.number
