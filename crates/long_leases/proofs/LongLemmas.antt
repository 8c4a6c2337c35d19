-- A lease with further grants that runs on, and as a lease.
use Rattle.std.proofs.Common.{◌≡◌, ◌<◌, ◌-◌, ◌+◌, ◌*◌, ◌≤◌, ◌^◌, ℕ, false, min, List, sym, ap, subst, ◌∙◌, arith}
use Rattle.asp_model.specs.Configuration.{Activity, RequestShape, requests_of}
use Rattle.asp_model.specs.History.{HistoryShape}
use Rattle.asp_model.specs.Step.{name_at}
use Rattle.asp_model.specs.declared.limits.TheConstants.{MOST_GRANTED}
use Rattle.law_journals.specs.Leases.{IsLentAt}
use Rattle.code_table.specs.declared.code.Node.{Node}
use Rattle.activity_step.specs.declared.advance.Advance.{Advance}
use Rattle.activity_step.specs.declared.advance.Advance.TheVariants as advance
use Rattle.activity_step.specs.Activities.{IsUsed}
use Rattle.activity_step.specs.Local.{LocalRun}
use Rattle.step_activity.specs.Actors.{Stands, code_of, log_in}
use Rattle.step_activity.specs.Running.{IsRunBy}
use Rattle.core_state.specs.Leases.{HasStopped, IsLease}
use Rattle.core_state.proofs.LeaseLemmas.{run_then, used_on}
use Rattle.long_leases.specs.declared.long_lease.LongLease.{LongLease}
use Rattle.long_leases.specs.LongLeases.{HasEnded, IsLongLease, most_of}

module _ (h : HistoryShape) (code : List Node) (x y : LongLease) (l : IsLongLease h code x) (fresh : x.lease.spent ≡ false) (m further : ℕ) where
  pub long_runs_on : further ≡ x.rounds * MOST_GRANTED → further < 2 ^ 38 → y.lease.number ≡ x.lease.number → y.lease.burst ≡ x.lease.burst → y.lease.grant ≡ x.lease.grant → y.rounds ≡ x.rounds
      → y.lease.taken ≡ min (x.lease.taken + m) (2 ^ 64 - 1)
      → ((a : Activity) (rs : List RequestShape) → Stands x.lease.actor.value a rs → IsRunBy y.lease.actor.value a rs (min (x.lease.grant + further) (2 ^ 64 - 1) - x.lease.taken) m)
      → code_of y.lease.actor.value ≡ code_of x.lease.actor.value → log_in y.lease.actor.value ≡ log_in x.lease.actor.value
      → y.lease.spent ≡ false → HasEnded h code y
  long_runs_on all small number burst grant rounds taken runs coded logs still =
      let few : x.lease.grant ≤ 64 = omega (arith, l.grant) in
      let most : min (x.lease.grant + further) (2 ^ 64 - 1) ≡ most_of x = omega (arith, few, small, all) in
      let done = l.done fresh in
      let r = subst (λ j. IsRunBy y.lease.actor.value done.end (requests_of l.run.configuration l.name) (j - x.lease.taken) m) most (runs done.end (requests_of l.run.configuration l.name) done.stands) in
      let sum : y.lease.taken ≡ x.lease.taken + m = omega (arith, taken, r.within, l.within, few, small, all) in
      let same : most_of x ≡ most_of y = λ i. sym grant i + sym rounds i * MOST_GRANTED in
      record {
        lease = record {
          run = l.run;
          lent = subst (λ k. IsLentAt h k y.lease.burst l.run) (sym number) (subst (λ b. IsLentAt h x.lease.number b l.run) (sym burst) l.lent);
          name = l.name;
          named = ap (name_at l.run.names) number ∙ l.named;
          activity = l.activity;
          there = l.there;
          grant = grant ∙ l.grant;
          within = subst (λ j. y.lease.taken ≤ j) same (omega (arith, sum, r.within, l.within));
          done = λ spent. record {
            end = r.end;
            run = subst (λ k. LocalRun k l.activity r.end) (sym sum) (run_then x.lease.taken m l.activity done.end r.end done.run r.run);
            stands = r.stands;
            coded = coded ∙ done.coded;
            logged = logs ∙ done.logged;
          };
        };
        fresh = still;
        advance = r.advance;
        stop = r.stop;
        used = subst (λ j. IsUsed y.lease.taken j r.advance) same (used_on y.lease.taken x.lease.taken m (most_of x) r.advance r.used l.within sum);
      }

-- As a lease

pub is_long : (h : HistoryShape) (code : List Node) (l : LongLease) → IsLease h code l.lease → IsLongLease h code l
is_long h code l x = record {
  run = x.run;
  lent = x.lent;
  name = x.name;
  named = x.named;
  activity = x.activity;
  there = x.there;
  grant = x.grant;
  within = omega (arith, x.within);
  done = x.done;
}

module _ (h : HistoryShape) (code : List Node) (l : LongLease) (within : l.lease.taken ≤ l.lease.grant) where
  pub is_lease : IsLongLease h code l → IsLease h code l.lease
  is_lease x = record {
    run = x.run;
    lent = x.lent;
    name = x.name;
    named = x.named;
    activity = x.activity;
    there = x.there;
    grant = x.grant;
    within = within;
    done = x.done;
  }

  -- where a contraction could follow all that it may take is taken
  used_within : (r : Advance) → IsUsed l.lease.taken (most_of l) r → IsUsed l.lease.taken l.lease.grant r
  used_within advance.Reduces used = omega (arith, used, within)
  used_within (advance.Rests p) used = tt
  used_within (advance.Faults f) used = tt
  used_within (advance.Needs p) used = tt
  used_within (advance.Creates p) used = tt
  used_within advance.Sends used = tt
  used_within advance.Serves used = tt
  used_within advance.Polls used = tt

  pub has_stopped : HasEnded h code l → HasStopped h code l.lease
  unfolding is_lease
  has_stopped e = record {
    lease = is_lease e.lease;
    fresh = e.fresh;
    advance = e.advance;
    stop = e.stop;
    used = used_within e.advance e.used;
  }
