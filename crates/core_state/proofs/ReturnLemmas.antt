-- A lease that comes back: which commit it is.
use Rattle.std.proofs.Common.{◌≡◌, ◌-◌, ◌≤◌, ◌++◌, [], suc, false, List, Option, Some, None, map, refl, sym, ap, ◌∙◌}
use Rattle.asp_model.specs.Configuration.{Configuration, log_of, requests_of}
use Rattle.asp_model.specs.History.{HistoryShape, Committed, with_entry}
use Rattle.asp_model.specs.Intent.{Acts, Effect}
use Rattle.asp_model.specs.Step.{intent_in, with_effect}
use Rattle.def_journals.specs.Journals.{RunShape, grant_of, run_of}
use Rattle.law_steps.specs.Reached.{IsAt}
use Rattle.law_chases.proofs.FutureLemmas.{no_some}
use Rattle.law_journals.specs.Leases.{IsOutSince, receptions_of}
use Rattle.law_journals.proofs.BurstLemmas.{leases_are_one}
use Rattle.law_journals.proofs.GrowingLemmas.{entries_go_on}
use Rattle.law_journals.proofs.LeaseLemmas.{leases_stay}
use Rattle.law_core.specs.Commits.{HasRun, made_by, returned, with_activity}
use Rattle.law_core.proofs.CommitLemmas.{acts_are_commits, runs_are_commits}
use Rattle.code_table.specs.declared.code.Node.{Node}
use Rattle.request_queue.specs.declared.request.Request.{Request}
use Rattle.request_queue.specs.Requests.{request_shape}
use Rattle.core_seats.specs.Seats.{In, Out, SeatShape, seat_at}
use Rattle.step_activity.specs.declared.actor.Actor.{Actor}
use Rattle.core_state.specs.declared.lease.Lease.{Lease}
use Rattle.core_state.specs.declared.state.CoreState.{CoreState}
use Rattle.core_state.specs.Leases.{IsLease}
use Rattle.core_state.specs.Cores.{IsAway, IsCore, IsSeated}

module _ (h : HistoryShape) (code : List Node) (x : CoreState) (s : RunShape) (core : IsCore h code x s) where
  module _ (l : Lease) (lease : IsLease h code l) where
    pub out : IsOutSince lease.run s l.number lease.name
    out = leases_stay h l.number l.burst lease.name lease.run s core.first lease.lent lease.named core.run

    -- the activity is as it was lent
    pub there : IsAt s.configuration lease.name lease.activity
    there = out.there ∙ lease.there

    pub grants : grant_of l.number s.out ≡ Some l.grant
    grants = out.out ∙ ap Some (sym lease.grant)

    box_by : (o : Option (SeatShape Actor Request)) → seat_at x.seats l.number ≡ o → IsSeated h code s l.number lease.name o
        → (came : List Request) × (seat_at x.seats l.number ≡ Some (Out came)) × IsAway h code s l.number lease.name came
    box_by (Some (In a)) is seated = absurd (no_some (sym seated.free ∙ grants))
    box_by (Some (Out came)) is seated = (came, is, seated)
    box_by None is seated = absurd seated

    -- what came since lies in its box
    pub box : (came : List Request) × (seat_at x.seats l.number ≡ Some (Out came)) × IsAway h code s l.number lease.name came
    box = box_by (seat_at x.seats l.number) refl (core.populated.seats l.number lease.name out.named)

    pub requests : requests_of s.configuration lease.name ≡ requests_of lease.run.configuration lease.name ++ map request_shape box.0
    requests =
        let same = leases_are_one h l.number box.2.burst l.burst box.2.run lease.run box.2.lent lease.lent in
        box.2.requests ∙ ap (λ (t : RunShape). requests_of t.configuration lease.name ++ map request_shape box.0) same.2

    -- and was logged
    pub logged : log_of s.configuration lease.name ≡ log_of lease.run.configuration lease.name ++ receptions_of (map request_shape box.0)
    logged =
        let same = leases_are_one h l.number box.2.burst l.burst box.2.run lease.run box.2.lent lease.lent in
        box.2.logged ∙ ap (λ (t : RunShape). log_of t.configuration lease.name ++ receptions_of (map request_shape box.0)) same.2

    module _ (fresh : l.spent ≡ false) where
      pub has_run : HasRun s l.number l.grant lease.name l.taken (lease.done fresh).end
      has_run = record {
        sound = core.whole.sound;
        named = out.named;
        out = grants;
        activity = lease.activity;
        there = there;
        run = (lease.done fresh).run;
      }

      abbrev pub ended : Configuration
      ended = with_activity lease.name (lease.done fresh).end s.configuration

      -- its contractions alone
      pub run_returns : run_of (with_entry h (Committed l.number l.taken)) ≡ Some (returned s l.number (l.grant - l.taken) ended [])
      run_returns =
          entries_go_on h (Committed l.number l.taken) s core.run
          ∙ runs_are_commits s l.number l.grant lease.name l.taken (lease.done fresh).end has_run lease.within

      -- and one reduction more
      pub act_returns : (e : Effect) → suc l.taken ≤ l.grant → intent_in ended lease.name ≡ Acts e
          → run_of (with_entry h (Committed l.number (suc l.taken))) ≡ Some (returned s l.number (l.grant - suc l.taken) (with_effect lease.name e ended) (made_by e.made))
      act_returns e within intends =
          entries_go_on h (Committed l.number (suc l.taken)) s core.run
          ∙ acts_are_commits s l.number l.grant lease.name l.taken (lease.done fresh).end e has_run within intends
