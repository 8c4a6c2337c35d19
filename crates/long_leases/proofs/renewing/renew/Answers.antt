use Rattle.std.proofs.Common.{◌≡◌, ◌∙◌, ◌++◌, ◌∷◌, [], ap, arith, map, sym, subst}
use Rattle.std.specs.Arc.{arc_value}
use Rattle.std.specs.List.{AllByRecursion}
use Rattle.asp_model.specs.History.{Committed, Lent}
use Rattle.law_journals.specs.Leases.{receptions_of}
use Rattle.request_queue.specs.declared.request.Request.{Request}
use Rattle.request_queue.specs.Requests.{request_shape}
use Rattle.core_seats.specs.Seats.{AreSeats, IsOut, is_in, names_in, seats_in}
use Rattle.core_state.specs.Journal.{entries_in, room}
use Rattle.step_activity.specs.Actors.{Stands, code_of, log_in}
use Rattle.core_state.proofs.ReturnLemmas.{box}
use Rattle.core_state.specs.declared.state.CoreState.{CoreState}
use Rattle.long_leases.specs.declared.long_lease.LongLease.{LongLease}
use Rattle.long_leases.proofs.RenewLemmas.{bare, few_bursts, grant_left, is_bare, known, renewed_by, rounds_left}
use Rattle.long_leases.proofs.renewing.renew.Goals as goal

pub collect-came-requires-clause-known : goal.collect-came-requires-clause-known
collect-came-requires-clause-known c = let r = c.requires.lease in known r.0 r.1 c.args.state.now r.2 r.3 c.args.long.now r.4

pub collect-came-requires-clause-out : goal.collect-came-requires-clause-out
collect-came-requires-clause-out c =
    let r = c.requires.lease in
    ap is_in (box r.0 r.1 c.args.state.now r.2 r.3 (bare r.0 r.1 c.args.state.now r.2 r.3 c.args.long.now r.4) (is_bare r.0 r.1 c.args.state.now r.2 r.3 c.args.long.now r.4)).1

pub receive_all-requires : goal.receive_all-requires
receive_all-requires c =
    let r = c.requires.lease in
    let b = box r.0 r.1 c.args.state.now r.2 r.3 (bare r.0 r.1 c.args.state.now r.2 r.3 c.args.long.now r.4) (is_bare r.0 r.1 c.args.state.now r.2 r.3 c.args.long.now r.4) in
    let came : c.collect-came.result.items ≡ b.0 = subst (λ seat. IsOut seat c.collect-came.result.items) b.1 c.collect-came.ensures.came in
    record {
      code =
          subst (λ code. AllByRecursion (λ (q : Request). arc_value q.arguments.code ≡ code) c.collect-came.result.items) (sym (ap code_of c.as_mut-here.ensures.value ∙ (r.4.done c.if-long.false).coded))
          (subst (AllByRecursion (λ (q : Request). arc_value q.arguments.code ≡ r.1)) (sym came) b.2.coded);
    }

pub take_grant-requires-clause-left : goal.take_grant-requires-clause-left
take_grant-requires-clause-left c = let r = c.requires.lease in grant_left r.0 r.1 c.args.long.now c.args.state.now.left r.4 c.requires.beyond c.requires.left

pub take_grant-requires-clause-few : goal.take_grant-requires-clause-few
take_grant-requires-clause-few c =
    let r = c.requires.lease in
    few_bursts r.0 r.1 c.args.state.now r.2 r.3 _ c.len-entries.result c.args.long.now.lease.number c.args.long.now.lease.grant
    (c.note_both.ensures.entries ∙ ap (λ es. (es ++ Committed c.args.long.now.lease.number c.args.long.now.lease.grant ∷ []) ++ Lent c.args.long.now.lease.number ∷ []) c.reserve.ensures.entries) c.len-entries.ensures.len c.len-entries.type_inv

pub begin_grant-requires-clause-rounds : goal.begin_grant-requires-clause-rounds
begin_grant-requires-clause-rounds c = let r = c.requires.lease in rounds_left r.0 r.1 c.args.long.now r.4 c.requires.beyond

pub returns-clause-renewed : goal.returns-clause-renewed
returns-clause-renewed c = λ h code s core l.
    let x = c.args.state.now in
    let old = c.args.long.now in
    let y : CoreState = c.take_grant.new.state in
    let is = c.take_grant.ensures.state in
    let new : LongLease = c.begin_grant.new.long in
    renewed_by h code x s core old c.requires.beyond c.requires.left new
    (record {
      came = c.collect-came.result.items;
      was = c.collect-came.ensures.came;
      stands = λ a rs stands.
          subst (λ z. Stands z a (rs ++ map request_shape c.collect-came.result.items)) (sym (ap (λ b. b.value) c.begin_grant.ensures.actor))
          (c.in_ok-receive_all.ensures.stands a rs (subst (λ z. Stands z a rs) (sym c.as_mut-here.ensures.value) stands));
      coded = ap (λ b. code_of b.value) c.begin_grant.ensures.actor ∙ c.receive_all.ensures.code ∙ ap code_of c.as_mut-here.ensures.value;
      logged = ap (λ b. log_in b.value) c.begin_grant.ensures.actor ∙ c.in_ok-receive_all.ensures.log ∙ ap (λ z. log_in z ++ receptions_of (map request_shape c.collect-came.result.items)) c.as_mut-here.ensures.value;
      number = c.begin_grant.ensures.number;
      burst = c.begin_grant.ensures.burst ∙ ap (λ (z : CoreState). z.bursts) is;
      grant = c.begin_grant.ensures.grant;
      taken = c.begin_grant.ensures.taken;
      rounds = c.begin_grant.ensures.rounds;
      fresh = c.begin_grant.ensures.fresh;
    })
    l c.if-long.false y (record {
      seats = ap (λ (z : CoreState). seats_in z.seats) is ∙ c.collect-came.ensures.seats;
      names = ap (λ (z : CoreState). names_in z.seats) is ∙ c.collect-came.ensures.names;
      kept = subst (λ (z : CoreState). AreSeats z.seats) (sym is) c.collect-came.ensures.kept;
      ranks = ap (λ (z : CoreState). z.ranks) is;
      futures = ap (λ (z : CoreState). z.futures) is;
      entries = ap (λ (z : CoreState). entries_in z.journal) is ∙ c.note_both.ensures.entries ∙ ap (λ es. (es ++ Committed old.lease.number old.lease.grant ∷ []) ++ Lent old.lease.number ∷ []) c.reserve.ensures.entries;
      room = omega (arith, c.in_ok-reserve.ensures.room, c.len.ensures.len, c.note_both.ensures.room, ap (λ (z : CoreState). room z.journal) is);
      left = ap (λ (z : CoreState). z.left) is;
      bursts = ap (λ (z : CoreState). z.bursts) is;
    })
