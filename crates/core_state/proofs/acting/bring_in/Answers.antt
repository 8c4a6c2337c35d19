use Rattle.std.proofs.Common.{◌≡◌, ◌∙◌, ◌+◌, ◌-◌, [], ap, refl, subst, suc, sym}
use Rattle.asp_model.specs.Configuration.{or_none, requests_of}
use Rattle.asp_model.specs.History.{Committed, with_entry}
use Rattle.asp_model.specs.Intent.{Acts, intent}
use Rattle.asp_model.specs.Chase.{chase}
use Rattle.asp_model.specs.Names.{name_cmp}
use Rattle.asp_model.specs.Step.{with_last}
use Rattle.std.specs.FinMap.{find}
use Rattle.core_state.proofs.LogLemmas.{asked_elsewhere, asked_here}
use Rattle.law_steps.proofs.FactLemmas.{acts_facts}
use Rattle.future_table.specs.Values.{AreOfCode, values_of}
use Rattle.core_seats.specs.Seats.{Out, seats_in}
use Rattle.step_activity.specs.Actors.{IsClosedFor, Stands, code_of, log_in}
use Rattle.step_activity.specs.Effects.{IsDoneBy, IsGiven, IsGivenOf}
use Rattle.core_state.specs.declared.state.CoreState.{CoreState}
use Rattle.law_core.specs.Commits.{with_activity}
use Rattle.core_state.proofs.ListLemmas.{got_within}
use Rattle.core_state.proofs.ComeBackLemmas.{back_closed, back_values}
use Rattle.core_state.proofs.PopulateLemmas.{comes_back}
use Rattle.core_state.specs.Handing.{IsToHand, asked_log, came_in, with_own}
use Rattle.core_state.proofs.CommitLemmas.{to_hand}
use Rattle.core_state.proofs.ActLemmas.{filled_new, intended, made_new, own_numbered, sent_there}
use Rattle.core_state.proofs.acting.bring_in.Goals as goal

pub act-requires-clause-closed : goal.act-requires-clause-closed
act-requires-clause-closed c = let r = c.requires.coming in subst IsClosedFor (sym c.as_mut-here.ensures.value) (back_closed r.0 r.1 c.args.state.now r.2 c.args.number r.3 r.4 r.5 c.args.actor.value r.6)

pub act-requires-clause-values : goal.act-requires-clause-values
act-requires-clause-values c = let r = c.requires.coming in back_values r.0 r.1 c.args.state.now r.2 c.args.number r.3 r.4 r.5 c.args.actor.value r.6

pub act-requires-clause-code : goal.act-requires-clause-code
act-requires-clause-code c = let r = c.requires.coming in subst (λ k. AreOfCode k c.args.state.now.futures) (sym (ap code_of c.as_mut-here.ensures.value ∙ r.6.coded)) r.6.populated.values

pub put-came-requires-clause-known : goal.put-came-requires-clause-known
put-came-requires-clause-known c = got_within (seats_in c.args.state.now.seats) c.args.number (Out []) c.requires.coming.6.away

pub returns-clause-giving : goal.returns-clause-giving
returns-clause-giving c = λ h code s n grant reductions e same acting.
    let x = c.args.state.now in
    let k = c.args.number in
    let r = acting.returning in
    let taken = acting.taken in
    let left = s.left + (grant - reductions) in
    let g = c.in_ok-given.field-0 in
    let y : CoreState = record { alloc = x.alloc; seats = c.put-came.new.self; ranks = x.ranks; futures = x.futures; journal = x.journal; left = x.left; bursts = x.bursts } in
    let rs = requests_of s.configuration n in
    let coded = ap code_of c.as_mut-here.ensures.value ∙ r.coded in
    let acts : intent (chase (values_of x.futures)) rs c.args.name.now r.end ≡ Acts e = (λ i. intent (chase (r.populated.futures i)) rs (same i) r.end) ∙ intended h code x s k n grant taken c.args.actor.value r e acting.intends in
    let done : Stands c.act.new.self e.own rs × IsGiven n e g = subst (λ m. Stands c.act.new.self e.own rs × IsGiven m e g) same
    (subst (λ p. IsDoneBy c.args.name.now p rs c.act.new.self g) acts (c.in_ok-given.ensures.acts r.end rs (subst (λ a. Stands a r.end rs) (sym c.as_mut-here.ensures.value) r.stands))) in
    let logs = with_last (asked_log e.sent e.logged) s.configuration.logs in
    let facts = (acts_facts (with_activity n r.end s.configuration) n e acting.intends).1 in
    -- what it received lies in its log before what it asks
    let logged : log_in c.settle.new.self ≡ or_none (find name_cmp n logs) =
    c.settle.ensures.log ∙ asked_here n e _ (log_in c.act.new.self) g s.configuration.logs done.1 c.in_ok-given.ensures.log (ap log_in c.as_mut-here.ensures.value ∙ r.logged) in
    let hand : IsToHand (with_entry h (Committed k (suc taken))) code y (came_in s k left (with_own n e s.configuration)) n e g = record {
      populated =
          comes_back h code x y s k r.populated r.numbered n r.has_run.named c.settle.new.self e.own logs (λ m apart. asked_elsewhere n m e.sent e.logged s.configuration.logs facts.logged apart) (suc taken) left
          (got_within (seats_in x.seats) k (Out []) r.away) c.put-came.ensures.seats c.put-came.ensures.names c.put-came.ensures.kept refl
          (c.in_ok-settle.ensures.stands e.own rs done.0) (c.settle.ensures.code ∙ c.act.ensures.code ∙ coded) logged;
      numbered = own_numbered h code x s k n grant taken c.args.actor.value r e acting.intends left;
      given = done.1;
      coded = subst (λ k. IsGivenOf k g) coded c.in_ok-given.ensures.given;
      made = made_new h code x s k n grant taken c.args.actor.value r e acting.intends left;
      sent = sent_there h code x s k n grant taken c.args.actor.value r e acting.intends left;
      filled = filled_new h code x s k n grant taken c.args.actor.value r e acting.intends left;
    } in (
      record {
        before = x;
        actor = c.args.actor.value;
        acting = acting;
        hand = to_hand x k grant reductions c.args.actor.value (h, code, s, n, e, acting) y g hand;
        journal = refl;
        ranks = refl;
        left = refl;
        bursts = refl;
      },
      refl,
    )
