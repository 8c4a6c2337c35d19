use Rattle.std.proofs.Common.{◌≡◌, ◌∙◌, true, false, refl, sym, ap, ◌-◌, ◌+◌, arith}
use Rattle.std.specs.Option.{option_map}
use Rattle.law_core.specs.Runs.{is_ready}
use Rattle.law_chases.proofs.FutureLemmas.{no_some, some_is}
use Rattle.core_state.specs.declared.lease.Lease.{Lease}
use Rattle.core_state.specs.declared.state.CoreState.{CoreState}
use Rattle.core_state.proofs.LendLemmas.{few_bursts, has_room, is_lease, lends, ready_going, taken_here}
use Rattle.core_state.proofs.state.CoreState.lend.Goals as goal

pub returns-then-not-is_lent : goal.returns-then-not-is_lent
returns-then-not-is_lent c = record { lent = λ h code s core. (ready_going h code c.args.self.now s core c.args.number ∙ sym c.is_lent.ensures.lent ∙ c.if-not-is_lent.true, refl) }

pub returns-in_default : goal.returns-in_default
returns-in_default c = record {
  lent = λ h code s core.
      let ready : is_ready s c.args.number ≡ true = ready_going h code c.args.self.now s core c.args.number ∙ sym c.is_lent.ensures.lent ∙ c.if-not-is_lent.false in
      no_some (ap (option_map (λ b. b.value)) (sym c.in_default.is) ∙ taken_here h code c.args.self.now s core c.args.number ready _ c.take.ensures.taken);
}

pub note-requires : goal.note-requires
note-requires c =
    let r = c.requires.core in
    record { room = has_room r.0 r.1 c.args.self.now r.2 r.3 c.args.number (ready_going r.0 r.1 c.args.self.now r.2 r.3 c.args.number ∙ sym c.is_lent.ensures.lent ∙ c.if-not-is_lent.false) }

pub overflow_add-self : goal.overflow_add-self
overflow_add-self c =
    let r = c.requires.core in
    omega (arith, few_bursts r.0 r.1 c.args.self.now r.2 r.3 _ c.len-entries.result c.args.number c.note.ensures.entries c.len-entries.ensures.len c.len-entries.type_inv)

pub returns : goal.returns
returns c = record {
  lent = λ h code s core.
      let x = c.args.self.now in
      let k = c.args.number in
      let ready : is_ready s k ≡ true = ready_going h code x s core k ∙ sym c.is_lent.ensures.lent ∙ c.if-not-is_lent.false in
      let y : CoreState = record { alloc = x.alloc; seats = c.take.new.self; ranks = c.leave.new.self; futures = x.futures; journal = c.note.new.self; left = x.left - c.min-grant.result; bursts = x.bursts + 1 } in
      let l : Lease = record { alloc = x.alloc; number = k; burst = x.bursts + 1; grant = c.min-grant.result; taken = 0; spent = false; actor = c.in-Some.actor } in
      let actor = some_is (ap (option_map (λ b. b.value)) (sym c.in-Some.is) ∙ taken_here h code x s core k ready _ c.take.ensures.taken) in (
        ready,
        lends h code x y s core k ready (record {
          seats = c.in-Some.ensures.left;
          names = c.take.ensures.names;
          kept = c.take.ensures.kept;
          here = c.leave.ensures.here;
          others = c.leave.ensures.others;
          futures = refl;
          entries = c.note.ensures.entries;
          room = c.note.ensures.room;
          left = ap (λ g. x.left - g) c.min-grant.ensures;
          bursts = refl;
        }),
        is_lease h code x x s core k ready l refl refl c.min-grant.ensures refl refl actor,
      );
}
