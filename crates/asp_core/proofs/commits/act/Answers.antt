use Rattle.std.proofs.Common.{sym, ◌∙◌, [], ap, subst}
use Rattle.std.proofs.lemmas.Result.{on_err_weaker, on_ok_weaker}
use Rattle.step_activity.specs.Effects.{IsGiven}
use Rattle.core_seats.specs.Seats.{Out, seats_in}
use Rattle.core_state.specs.Journal.{entries_in}
use Rattle.law_core.specs.Commits.{with_activity}
use Rattle.core_state.proofs.ListLemmas.{got_within}
use Rattle.core_state.specs.Commits.{IsActCommitted}
use Rattle.asp_core.specs.Bringing.{AreTold}
use Rattle.asp_core.proofs.DeliverLemmas.{on_ok_is}
use Rattle.asp_core.proofs.LeaseLemmas.{acting_name}
use Rattle.asp_core.proofs.NewsLemmas.{is_new_given, is_new_to}
use Rattle.asp_core.proofs.commits.act.Goals as goal

pub name-requires-clause-known : goal.name-requires-clause-known
name-requires-clause-known g c = got_within (seats_in c.args.state.now.seats) c.args.number (Out []) c.requires.acting.7.returning.away

pub bring_in-requires : goal.bring_in-requires
bring_in-requires g c =
    let r = c.requires.acting in
    record { coming = (r.0, r.1, r.2, r.3, c.args.grant, r.7.taken, r.7.returning) }

pub tell-requires : goal.tell-requires
tell-requires g c =
    let r = c.requires.acting in
    let k = c.args.number in
    let same = c.in_ok-name.ensures.name ∙ acting_name r.0 r.1 r.2 c.args.state.now k r.3 c.args.grant c.args.reductions c.args.actor.value r.4 r.7 c.name.result.now c.name.ensures.name in
    let given = c.in_ok-bring_in.ensures.giving r.0 r.1 r.2 r.3 c.args.grant c.args.reductions r.4 same r.7 in
    let new = is_new_given r.0 r.1 r.2 r.5 c.args.edges.now.holders r.6 c.bring_in.new.state k r.3 c.args.grant c.args.reductions r.4 c.bring_in.new.given given.0 in
    record { fresh = new.0; unmet = new.1 }

pub come_in-requires : goal.come_in-requires
come_in-requires g c =
    let r = c.requires.acting in
    let same = c.in_ok-name.ensures.name ∙ acting_name r.0 r.1 r.2 c.args.state.now c.args.number r.3 c.args.grant c.args.reductions c.args.actor.value r.4 r.7 c.name.result.now c.name.ensures.name in
    record { giving = (r.0, r.1, r.2, r.3, r.4, (c.in_ok-bring_in.ensures.giving r.0 r.1 r.2 r.3 c.args.grant c.args.reductions r.4 same r.7).0) }

pub returns-clause-acted : goal.returns-clause-acted
returns-clause-acted g c = λ h code s n e r.
    let z = c.args.state.now in
    let k = c.args.number in
    let m = c.args.grant in
    let q = c.args.reductions in
    let a = c.args.actor.value in
    let v = c.args.edges.now in
    let u = c.tell.new.edges in
    let end = r.returning.end in
    let same = c.in_ok-name.ensures.name ∙ acting_name h code s z k n m q a e r c.name.result.now c.name.ensures.name in
    let given = c.in_ok-bring_in.ensures.giving h code s n m q e same r in
    let told = c.in_ok-tell.ensures.told e (subst (λ b. IsGiven b e c.bring_in.new.given) (sym same) given.0.hand.given) in
    on_ok_weaker c.come_in.result
    (λ core. record {
      core = subst (λ b. IsActCommitted h code s k n m q b e c.come_in.new.state) given.1 core;
      told = subst (λ b. AreTold b e v.holders u.holders) same told;
      labels = λ homes labels. c.in_ok-tell.ensures.labels homes (with_activity n end s.configuration) n e (is_new_to h code s z k n m q a e r) given.0.hand.given labels;
    })
    (c.come_in.ensures.committed h code s n e given.0)

pub returns-clause-entries : goal.returns-clause-entries
returns-clause-entries g c = on_err_weaker c.come_in.result (λ same. same ∙ ap entries_in c.bring_in.ensures.journal) c.come_in.ensures.entries

pub returns-clause-answers : goal.returns-clause-answers
returns-clause-answers g c = on_ok_is c.come_in.result c.in_ok-tell.ensures.answers

pub returns-clause-keeps : goal.returns-clause-keeps
returns-clause-keeps g c = on_ok_is c.come_in.result c.in_ok-tell.ensures.keeps
