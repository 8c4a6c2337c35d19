use Rattle.std.proofs.Common.{◌≡◌, ◌∙◌, ◌++◌, ap, arith, map, refl, sym, subst}
use Rattle.std.specs.Arc.{arc_value}
use Rattle.std.specs.List.{AllByRecursion}
use Rattle.core_seats.specs.Seats.{IsOut, is_in}
use Rattle.step_activity.specs.Actors.{Stands, code_of, log_in}
use Rattle.asp_model.specs.Configuration.{requests_of}
use Rattle.law_journals.specs.Leases.{receptions_of}
use Rattle.request_queue.specs.declared.request.Request.{Request}
use Rattle.request_queue.specs.Requests.{request_shape}
use Rattle.core_state.specs.declared.state.CoreState.{CoreState}
use Rattle.core_state.proofs.ComeBackLemmas.{lease_known, taken_back}
use Rattle.core_state.proofs.ReturnLemmas.{box}
use Rattle.core_state.proofs.state.CoreState.take_back.Goals as goal

pub collect-came-requires-clause-known : goal.collect-came-requires-clause-known
collect-came-requires-clause-known c = let r = c.requires.lease in lease_known r.0 r.1 c.args.self.now r.2 r.3 c.args.lease r.4

pub collect-came-requires-clause-out : goal.collect-came-requires-clause-out
collect-came-requires-clause-out c = let r = c.requires.lease in ap is_in (box r.0 r.1 c.args.self.now r.2 r.3 c.args.lease r.4).1

pub receive_all-requires : goal.receive_all-requires
receive_all-requires c =
    let r = c.requires.lease in
    let b = box r.0 r.1 c.args.self.now r.2 r.3 c.args.lease r.4 in
    let came : c.collect-came.result.items ≡ b.0 = subst (λ seat. IsOut seat c.collect-came.result.items) b.1 c.collect-came.ensures.came in
    record {
      code =
          subst (λ code. AllByRecursion (λ (r : Request). arc_value r.arguments.code ≡ code) c.collect-came.result.items) (sym (ap code_of c.as_mut-here.ensures.value ∙ (r.4.done c.if-lease.false).coded))
          (subst (AllByRecursion (λ (q : Request). arc_value q.arguments.code ≡ r.1)) (sym came) b.2.coded);
    }

pub returns-clause-returning : goal.returns-clause-returning
returns-clause-returning c = λ h code s core l.
    let x = c.args.self.now in
    let y : CoreState = record { alloc = x.alloc; seats = c.collect-came.new.self; ranks = x.ranks; futures = x.futures; journal = c.reserve.new.self; left = x.left; bursts = x.bursts } in
    let b = box h code x s core c.args.lease l in
    let came : c.collect-came.result.items ≡ b.0 = subst (λ seat. IsOut seat c.collect-came.result.items) b.1 c.collect-came.ensures.came in
    let done = l.done c.if-lease.false in
    let rs = requests_of l.run.configuration l.name in
    let here = subst (λ a. Stands a done.end rs) (sym c.as_mut-here.ensures.value) done.stands in
    taken_back h code x s core c.args.lease l c.if-lease.false y (record {
      seats = c.collect-came.ensures.seats;
      names = c.collect-came.ensures.names;
      kept = c.collect-came.ensures.kept;
      ranks = refl;
      futures = refl;
      entries = c.reserve.ensures.entries;
      room = omega (arith, c.in_ok-reserve.ensures.room, c.len.ensures.len);
      left = refl;
      bursts = refl;
    }) c.receive_all.new.actor
    (subst (λ qs. Stands c.receive_all.new.actor done.end (rs ++ map request_shape qs)) came (c.in_ok-receive_all.ensures.stands done.end rs here))
    (c.receive_all.ensures.code ∙ ap code_of c.as_mut-here.ensures.value ∙ done.coded)
    (c.in_ok-receive_all.ensures.log ∙ (λ i. (ap log_in c.as_mut-here.ensures.value ∙ done.logged) i ++ receptions_of (map request_shape (came i))))
