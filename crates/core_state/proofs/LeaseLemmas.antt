-- A lease that runs on.
use Rattle.std.proofs.Common.{◌≡◌, ◌-◌, ◌+◌, ◌≤◌, ◌^◌, ℕ, zero, suc, false, min, List, sym, ap, subst, ◌∙◌, arith}
use Rattle.asp_model.specs.Configuration.{Activity, RequestShape, requests_of}
use Rattle.asp_model.specs.History.{HistoryShape}
use Rattle.asp_model.specs.Step.{name_at}
use Rattle.law_journals.specs.Leases.{IsLentAt}
use Rattle.code_table.specs.declared.code.Node.{Node}
use Rattle.activity_step.specs.declared.advance.Advance.{Advance}
use Rattle.activity_step.specs.declared.advance.Advance.TheVariants as advance
use Rattle.activity_step.specs.Activities.{IsUsed}
use Rattle.activity_step.specs.Local.{LocalRun}
use Rattle.step_activity.specs.Actors.{Stands, code_of, log_in}
use Rattle.step_activity.specs.Running.{IsRunBy}
use Rattle.core_state.specs.declared.lease.Lease.{Lease}
use Rattle.core_state.specs.Leases.{HasStopped, IsLease}

-- contractions behind others
pub run_then : (n m : ℕ) (a b c : Activity) → LocalRun n a b → LocalRun m b c → LocalRun (n + m) a c
run_then zero m a b c first then =
    let same : m ≡ 0 + m = omega arith in
    subst (λ k. LocalRun k a c) same (subst (λ z. LocalRun m z c) (sym first) then)
run_then (suc n) m a b c first then =
    let same : suc (n + m) ≡ suc n + m = omega arith in
    subst (λ k. LocalRun k a c) same (first.0, first.1, run_then n m first.0 b c first.2 then)

-- the grant is used still
pub used_on : (n t m g : ℕ) (r : Advance) → IsUsed m (g - t) r → t ≤ g → n ≡ t + m → IsUsed n g r
used_on n t m g advance.Reduces used within sum = omega (arith, used, within, sum)
used_on n t m g (advance.Rests p) used within sum = tt
used_on n t m g (advance.Faults f) used within sum = tt
used_on n t m g (advance.Needs p) used within sum = tt
used_on n t m g (advance.Creates p) used within sum = tt
used_on n t m g advance.Sends used within sum = tt
used_on n t m g advance.Serves used within sum = tt
used_on n t m g advance.Polls used within sum = tt

module _ (h : HistoryShape) (code : List Node) (x y : Lease) (l : IsLease h code x) (fresh : x.spent ≡ false) (m : ℕ) where
  pub runs_on : y.number ≡ x.number → y.burst ≡ x.burst → y.grant ≡ x.grant → y.taken ≡ min (x.taken + m) (2 ^ 64 - 1)
      → ((a : Activity) (rs : List RequestShape) → Stands x.actor.value a rs → IsRunBy y.actor.value a rs (x.grant - x.taken) m) → code_of y.actor.value ≡ code_of x.actor.value → log_in y.actor.value ≡ log_in x.actor.value
      → y.spent ≡ false → HasStopped h code y
  runs_on number burst grant taken runs coded logs still =
      let done = l.done fresh in
      let r = runs done.end (requests_of l.run.configuration l.name) done.stands in
      let few : x.grant ≤ 64 = omega (arith, l.grant) in
      let sum : y.taken ≡ x.taken + m = omega (arith, taken, r.within, l.within, few) in
      record {
        lease = record {
          run = l.run;
          lent = subst (λ k. IsLentAt h k y.burst l.run) (sym number) (subst (λ b. IsLentAt h x.number b l.run) (sym burst) l.lent);
          name = l.name;
          named = ap (name_at l.run.names) number ∙ l.named;
          activity = l.activity;
          there = l.there;
          grant = grant ∙ l.grant;
          within = omega (arith, sum, r.within, l.within, grant);
          done = λ spent. record {
            end = r.end;
            run = subst (λ k. LocalRun k l.activity r.end) (sym sum) (run_then x.taken m l.activity done.end r.end done.run r.run);
            stands = r.stands;
            coded = coded ∙ done.coded;
            logged = logs ∙ done.logged;
          };
        };
        fresh = still;
        advance = r.advance;
        stop = r.stop;
        used = subst (λ g. IsUsed y.taken g r.advance) (sym grant) (used_on y.taken x.taken m x.grant r.advance r.used l.within sum);
      }
