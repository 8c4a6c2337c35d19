-- A core whose journal has a renewal more.
use Rattle.std.proofs.Common.{◌≡◌, ◌∙◌, ◌-◌, ◌==◌, ◌<◌, ◌++◌, ◌∷◌, [], ℕ, zero, suc, Bool, true, false, List, Option, Some, None, is_some, refl, sym, ap, subst, arith}
use Rattle.std.proofs.lemmas.Bool.{eqb-true}
use Rattle.std.proofs.lemmas.List.{append_assoc}
use Rattle.std.specs.Arc.{arc_value}
use Rattle.asp_model.specs.Chase.{chase}
use Rattle.asp_model.specs.Configuration.{Activity, requests_of}
use Rattle.asp_model.specs.Intent.{Effect}
use Rattle.asp_model.specs.History.{BeginsWith, ChoiceShape, Committed, EntryShape, HistoryShape, Lent, with_entry}
use Rattle.asp_model.specs.Names.{Name}
use Rattle.asp_model.specs.Term.{locations}
use Rattle.def_journals.specs.Edges.{HoldersShape, after_events}
use Rattle.def_journals.specs.Journals.{RunShape, entered, first_run, grant_of, granted, out_but, run_of}
use Rattle.def_journals.specs.Passing.{entry_events, holders_of}
use Rattle.law_journals.proofs.GrowingLemmas.{entries_go_on, holders_go_on}
use Rattle.law_journals.proofs.LeaseLemmas.{grant_but}
use Rattle.law_steps.proofs.EachLemmas.{each_both}
use Rattle.activity_step.specs.Local.{IsLocalStep, LocalRun}
use Rattle.activity_step.specs.declared.advance.Advance.TheVariants as advance
use Rattle.law_core.specs.Commits.{HasRun}
use Rattle.law_core.proofs.EventLemmas.{runs_are_silent}
use Rattle.law_renewals.specs.Renewals.{IsRenewed, renewed, used_up}
use Rattle.code_table.specs.declared.code.Node.{Node}
use Rattle.future_update.specs.Holders.{HoldersView}
use Rattle.core_state.specs.Arrivals.{act_at}
use Rattle.core_state.specs.Commits.{act_of, act_within}
use Rattle.core_state.specs.Cores.{IsCore, program_of}
use Rattle.core_state.specs.declared.state.CoreState.{CoreState}
use Rattle.long_leases.specs.declared.long_lease.LongLease.{LongLease}
use Rattle.long_leases.specs.LongLeases.{HasEnded, IsLongLease}
use Rattle.long_leases.specs.Renewing.{IsRenewedBy, with_renewal}
use Rattle.core_edges.specs.Labels.{AreByLabels}
use Rattle.core_thaws.specs.Holders.{SameHolders}
use Rattle.asp_core.specs.declared.cores.Core.{Core}
use Rattle.asp_core.specs.Chosen.{AreChosen, IsChosenEntry, StaysChosen}
use Rattle.asp_core.specs.Cores.{IsRun, code_of, entries_of, first_homes, history_of}
use Rattle.asp_core.specs.Renewals.{IsRenewedIn}
use Rattle.asp_core.specs.Runs.{Stand, counted}
use Rattle.asp_core.specs.Stopping.{AllStopped, HasRunOut, StaysStopped}
use Rattle.asp_core.proofs.CoreLemmas.{homes_same}
use Rattle.asp_core.proofs.StopLemmas.{stopped_on}

number_itself : (k : ℕ) → (k == k) ≡ true
number_itself k = grind arith

-- who takes a contraction can
goes_first : (r : ℕ) (a b : Activity) → 0 < r → LocalRun r a b → (m : Activity) × IsLocalStep a m
goes_first zero a b some run = absurd (not_less some)
  where
    not_less : 0 < 0 → ⊥
    not_less h = omega (arith, h)
goes_first (suc r) a b some run = (run.0, run.1)

-- Behind a renewal

module _ (s : RunShape) (k grant : ℕ) (n : Name) (r : ℕ) (a b : Activity) (ran : HasRun s k grant n r b) (beyond : grant < r) (same : ran.activity ≡ a) (x : IsRenewed s k grant n r a b) where
  whole_grant : HasRun s k grant n grant x.here
  whole_grant = record { sound = ran.sound; named = ran.named; out = ran.out; activity = ran.activity; there = ran.there; run = subst (λ c. LocalRun grant c x.here) (sym same) x.used }

  -- the commit has no events
  pub silent : entry_events (Committed k grant) s ≡ []
  silent = runs_are_silent s k grant n grant x.here whole_grant

  -- it had stopped, since its grant was used
  pub ran_out : HasRunOut s k grant
  ran_out =
      let goes = goes_first (r - grant) x.here b (omega (arith, beyond)) (subst (λ c. LocalRun (r - grant) c b) x.from x.goes_on.run) in
      let none : grant - grant ≡ 0 = omega arith in
      record {
        name = n;
        grant = grant;
        taken = grant;
        end = x.here;
        has_run = whole_grant;
        stops = record { advance = advance.Reduces; stop = goes; used = refl };
        count = sym (ap (counted grant) (used_grant none));
      }
    where
      used_grant : grant - grant ≡ 0 → act_at s n grant grant x.here ≡ None
      used_grant none = ap (λ rest. act_within rest (act_given s n x.here)) none
        where
          act_given : (s : RunShape) (n : Name) (a : Activity) → Option Effect
          act_given s n a = act_of (chase s.configuration.futures) (requests_of s.configuration n) n a

  -- who is out is the same
  pub same_out : (j : ℕ) → is_some (grant_of j (renewed s k n x.here).out) ≡ is_some (grant_of j s.out)
  same_out j = by (j == k) refl
    where
      by : (c : Bool) → (j == k) ≡ c → is_some (grant_of j (renewed s k n x.here).out) ≡ is_some (grant_of j s.out)
      by true is =
          ap (λ c. is_some (elim c [ true ↦ Some (granted s) | false ↦ grant_of j (out_but k s.out) ])) is
          ∙ sym (ap is_some (ap (λ i. grant_of i s.out) (eqb-true j k is) ∙ ran.out))
      by false is =
          ap (λ c. is_some (elim c [ true ↦ Some (granted s) | false ↦ grant_of j (out_but k s.out) ])) is
          ∙ ap is_some (grant_but j k s.out is)

-- activities and edges stand for the run of the longer history
module _ (h : HistoryShape) (code : List Node) (s : RunShape) (x y : CoreState) (v : HoldersView) (st : Stand h code s x v) (k grant : ℕ) (n : Name) (r : ℕ) (a b : Activity) (ran : HasRun s k grant n r b) (beyond : grant < r) (same : ran.activity ≡ a) (new : IsRenewed s k grant n r a b) where
  pub stands_then : IsCore (with_renewal h k grant) code y (renewed s k n new.here) → Stand (with_renewal h k grant) code (renewed s k n new.here) y v
  stands_then core =
      let h1 = with_entry h (Committed k grant) in
      let t = used_up s k n new.here in
      let run1 : run_of h1 ≡ Some t = entries_go_on h (Committed k grant) s st.core.run ∙ new.committed in
      let first : holders_of h1 ≡ holders_of h = holders_go_on h (Committed k grant) s st.core.run ∙ ap (λ es. after_events es (holders_of h)) (silent s k grant n r a b ran beyond same new) in
      record {
        core = core;
        edges = record {
          holders = subst (SameHolders v.holders) (sym first ∙ sym (holders_go_on h1 (Lent k) t run1)) st.edges.holders;
          answers = st.edges.answers;
          names = st.edges.names;
          out = λ j m named. st.edges.out j m named ∙ sym (same_out s k grant n r a b ran beyond same new j);
        };
      }

-- deliveries stay those that policies chose, since there is no other
two_chosen : (h : HoldersShape) (answers : List ChoiceShape) (k grant : ℕ) (xs : List EntryShape) → AreChosen xs h answers → AreChosen ((xs ++ Committed k grant ∷ []) ++ Lent k ∷ []) h answers
two_chosen h answers k grant xs are =
    each_both (IsChosenEntry h answers) (xs ++ Committed k grant ∷ []) (Lent k ∷ []) (each_both (IsChosenEntry h answers) xs (Committed k grant ∷ []) are (tt, tt)) (tt, tt)

module _ {P : Type 0} (old new : Core P) (s : RunShape) (run : IsRun old s) (l : LongLease) (lease : IsLongLease (history_of old) (code_of old) l) (beyond : l.lease.grant < l.lease.taken) (now : LongLease)
    (x : IsRenewedBy (history_of old) (code_of old) s l lease new.state now) (code : new.code ≡ old.code) (first : new.first.shape ≡ old.first.shape) (budget : new.budget ≡ old.budget) (fresh : new.spent ≡ false) (edges : new.edges ≡ old.edges) where
  abbrev k : ℕ
  k = l.lease.number

  abbrev grant : ℕ
  grant = l.lease.grant

  abbrev t : RunShape
  t = renewed s k lease.name x.renewal.here

  pub two_entered : history_of new ≡ with_renewal (history_of old) k grant
  two_entered = λ i. record { program = program_of (arc_value (code i)); first = first i; budget = budget i; entries = x.core.entries i }

  stands : Stand (with_renewal (history_of old) k grant) (code_of old) t new.state old.edges.holders
  stands = stands_then (history_of old) (code_of old) s old.state new.state old.edges.holders run.stand k grant lease.name l.lease.taken lease.activity x.end x.has_run beyond x.from x.renewal x.core

  pub renewed_run : IsRun new t
  renewed_run = record {
    fresh = fresh;
    bare = ap (λ c. locations (program_of (arc_value c))) code ∙ run.bare;
    stand =
        subst (λ e. Stand (history_of new) (code_of new) t new.state e.holders) (sym edges)
        (subst (λ h. Stand h (code_of new) t new.state old.edges.holders) (sym two_entered)
        (subst (λ c. Stand (with_renewal (history_of old) k grant) c t new.state old.edges.holders) (ap arc_value (sym code)) stands));
    labels = subst (AreByLabels (first_homes new) t.configuration) (sym edges) (subst (λ hs. AreByLabels hs t.configuration old.edges) (sym (homes_same old new code first)) run.labels);
  }

  pub renewed_in : IsRenewedIn old s l lease new now
  renewed_in = record {
    by = x;
    entered = two_entered;
    run = renewed_run;
    still = subst (λ h. IsLongLease h (code_of new) now) (sym two_entered) (subst (λ c. IsLongLease (with_renewal (history_of old) k grant) c now) (ap arc_value (sym code)) x.lease);
    ended = λ e. subst (λ h. HasEnded h (code_of new) now) (sym two_entered) (subst (λ c. HasEnded (with_renewal (history_of old) k grant) c now) (ap arc_value (sym code)) (x.ended e));
  }

  pub renewed_chosen : StaysChosen old new
  renewed_chosen are =
      subst (λ e. AreChosen (entries_of new) e.holders.holders e.holders.answers) (sym edges)
      (subst (λ es. AreChosen es old.edges.holders.holders old.edges.holders.answers) (sym x.core.entries) (two_chosen old.edges.holders.holders old.edges.holders.answers k grant (entries_of old) are))

  pub renewed_stopped : StaysStopped (history_of old) (history_of new)
  renewed_stopped are =
      let h = history_of old in
      let h1 = with_entry h (Committed k grant) in
      let u = used_up s k lease.name x.renewal.here in
      let run1 : run_of h1 ≡ Some u = entries_go_on h (Committed k grant) s run.stand.core.run ∙ x.renewal.committed in
      let one : AllStopped h1 = stopped_on h.entries (first_run h) s (Committed k grant) run.stand.core.run (ran_out s k grant lease.name l.lease.taken lease.activity x.end x.has_run beyond x.from x.renewal) are in
      subst AllStopped (sym two_entered) (stopped_on h1.entries (first_run h) u (Lent k) run1 tt one)

  pub renewed_begins : BeginsWith (history_of new) (history_of old)
  renewed_begins = record {
    program = ap (λ h. h.program) two_entered;
    first = ap (λ h. h.first) two_entered;
    budget = ap (λ h. h.budget) two_entered;
    rest = Committed k grant ∷ Lent k ∷ [];
    entries = ap (λ h. h.entries) two_entered ∙ append_assoc (entries_of old) (Committed k grant ∷ []) (Lent k ∷ []);
  }
