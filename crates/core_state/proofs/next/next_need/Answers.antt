use Rattle.std.proofs.Common.{◌∙◌, ap}
use Rattle.core_state.specs.Next.{need_told}
use Rattle.core_state.proofs.NextLemmas.{known, looked_closed, next_found, none_needed, owed, owed_found, received, somebody_there, stood, told_need, values_closed}
use Rattle.core_state.proofs.next.next_need.Goals as goal

pub returns-in_default-clause-next : goal.returns-in_default-clause-next
returns-in_default-clause-next c = λ h code s core. none_needed h code c.args.state.now s core c.in_default.ensures.first

pub get-requires : goal.get-requires
get-requires c =
    let r = c.requires.core in
    record { known = known r.0 r.1 c.args.state.now r.2 r.3 c.in-Some.number c.in-Some.ensures.first.0 }

pub unreachable-requires : goal.unreachable-requires
unreachable-requires c =
    let r = c.requires.core in
    somebody_there r.0 r.1 c.args.state.now r.2 r.3 c.in-Some.number c.in-Some.ensures.first.0 c.in_default-get.ensures.here

pub stance-requires-clause-closed : goal.stance-requires-clause-closed
stance-requires-clause-closed c =
    let r = c.requires.core in
    looked_closed r.0 r.1 c.args.state.now r.2 r.3 c.in-Some.number c.in-Some.ensures.first.0 c.in-Some-get.actor.now c.in-Some-get.ensures.here

pub stance-requires-clause-values : goal.stance-requires-clause-values
stance-requires-clause-values c =
    let r = c.requires.core in
    values_closed r.0 r.1 c.args.state.now r.2 r.3 c.in-Some.number c.in-Some.ensures.first.0

pub returns-clause-next : goal.returns-clause-next
returns-clause-next c = λ h code s core.
    let x = c.args.state.now in
    let k = c.in-Some.number in
    let needy = c.in-Some.ensures.first.0 in
    let owing = owed h code x s core k needy in
    let stands = stood h code x s core k needy c.in-Some-get.actor.now c.in-Some-get.ensures.here in
    next_found h code x s core k needy c.needed_at.result _
    (ap need_told (c.in_ok-stance.ensures.stance owing.activity (received h code x s core k needy) owing.name stands) ∙ told_need h code x s core k needy)
    c.needed_at.ensures.needed c.needed_at.ensures.number c.in-Some.ensures.first.1

pub returns-clause-owed : goal.returns-clause-owed
returns-clause-owed c =
    let r = c.requires.core in
    let h = r.0 in
    let code = r.1 in
    let s = r.2 in
    let core = r.3 in
    let x = c.args.state.now in
    let k = c.in-Some.number in
    let needy = c.in-Some.ensures.first.0 in
    let owing = owed h code x s core k needy in
    let stands = stood h code x s core k needy c.in-Some-get.actor.now c.in-Some-get.ensures.here in
    owed_found h code x s core k needy c.needed_at.result _
    (ap need_told (c.in_ok-stance.ensures.stance owing.activity (received h code x s core k needy) owing.name stands) ∙ told_need h code x s core k needy)
    c.needed_at.ensures.needed c.needed_at.ensures.number
