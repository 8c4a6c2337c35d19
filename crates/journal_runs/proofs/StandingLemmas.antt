-- Where a run stands.
use Rattle.std.proofs.Common.{◌≡◌, ◌<◌, ◌≤◌, ◌&&◌, ◌++◌, [], ℕ, zero, suc, Bool, true, false, List, Option, Some, None, is_some, nat_lt, refl, sym, ap, subst, ◌∙◌, arith}
use Rattle.std.proofs.lemmas.Bool.{le-leb}
use Rattle.std.specs.FinMap.{find}
use Rattle.std.specs.List.{list_any}
use Rattle.asp_model.specs.Names.{Name, name_cmp}
use Rattle.asp_model.specs.Term.{Tree}
use Rattle.asp_model.specs.Configuration.{Configuration}
use Rattle.asp_model.specs.History.{EntryShape}
use Rattle.asp_model.specs.Intent.{Acts, Awaits, Done, Effect, Faulted, Intent, Rests, Running, Serving, StatusShape}
use Rattle.asp_model.specs.Status.{is_running, statuses_of, status_of, status_of_intent, verdict_of}
use Rattle.asp_model.specs.Step.{intent_in, may_log, step, with_effect}
use Rattle.def_journals.specs.Journals.{RunShape, number_of}
use Rattle.law_chases.proofs.FutureLemmas.{no_some, none_true, true_false}
use Rattle.law_steps.specs.Reached.{IsThere}
use Rattle.law_steps.specs.Sound.{IsSound}
use Rattle.law_steps.proofs.LinkedLemmas.{acting}
use Rattle.law_steps.proofs.WakeLemmas.{none_rests_running}
use Rattle.law_steps.proofs.WholeLemmas.{sound_intents}
use Rattle.law_traces.specs.Standings as standings
use Rattle.law_traces.specs.Standings.{least_out, standing_by, standing_of}
use Rattle.journal_runs.specs.declared.runs.JournalRun.{JournalRun}
use Rattle.journal_runs.specs.declared.standing.Standing.{Standing}
use Rattle.journal_runs.specs.declared.standing.Standing.TheVariants as standing
use Rattle.journal_runs.specs.Grants.{IsLeastOut}
use Rattle.journal_runs.specs.Runs.{IsRunOf, IsStanding, grant_at}
use Rattle.journal_runs.proofs.GrantLemmas.{least_none, least_some}
use Rattle.journal_runs.proofs.RunFacts.{run_sound, there_number}

-- Who can step

module _ (c : Configuration) (sound : IsSound c) where
  steps_not : (n : Name) (p : Intent) → intent_in c n ≡ p → is_running (status_of_intent p) ≡ true → step None c n ≡ None → ⊥
  steps_not n (Acts e) is runs none = no_some (sym none ∙ (sound_intents c sound).step n e is)
  steps_not n (Rests Running) is runs none = none_rests_running c n is
  steps_not n (Rests Done) is runs none = none_true runs
  steps_not n (Rests Serving) is runs none = none_true runs
  steps_not n (Rests (Awaits f)) is runs none = none_true runs
  steps_not n (Rests (Faulted x)) is runs none = none_true runs

  pub some_runs : (n : Name) → is_running (status_of c n) ≡ true → list_any is_running (statuses_of c) ≡ true
  some_runs n runs = by (list_any is_running (statuses_of c)) refl
    where
      by : (b : Bool) → list_any is_running (statuses_of c) ≡ b → b ≡ true
      by true is = refl
      by false is = absurd (steps_not n (intent_in c n) refl runs ((sound_intents c sound).stuck is n))

  -- where nobody who is there can step
  pub none_runs : ((n : Name) → IsThere c n → is_running (status_of c n) ≡ false) → list_any is_running (statuses_of c) ≡ false
  none_runs rests = (sound_intents c sound).still (λ n. by n (intent_in c n) refl)
    where
      by : (n : Name) (p : Intent) → intent_in c n ≡ p → step None c n ≡ None
      by n (Acts e) is = none_true (sym (rests n (ap is_some (acting c n e is).1)) ∙ ap (λ q. is_running (status_of_intent q)) is)
      by n (Rests status) is = ap (λ q. elim q [ Rests t ↦ None | Acts e ↦ elim (may_log None c e.logged) [ true ↦ Some (with_effect n e c) | false ↦ None ] ]) is

-- Standings

module _ (x : JournalRun) (program : Tree) (budget : ℕ) (entries : List EntryShape) (s : RunShape) (r : IsRunOf x program budget entries s) where
  pub runs_none : ((n : Name) (k : ℕ) → number_of n x.population.roster ≡ Some k → is_running (status_of s.configuration n) ≡ false) → list_any is_running (statuses_of s.configuration) ≡ false
  runs_none rests = none_runs s.configuration (run_sound program budget entries s r.lawful) (λ n there. let k = there_number x program budget entries s r n there in rests n k.0 k.1)

  pub stands_out : (k : ℕ) → IsLeastOut x.grants.items (Some k) → IsStanding (standing_of s) (standing.Out k)
  stands_out k h =
      let least : least_out s.out ≡ Some k = least_some k s.out (ap is_some (sym (r.grants k)) ∙ h.0) (λ j lt. sym (r.grants j) ∙ h.1 j lt) in
      subst (λ o. IsStanding (standing_by o s) (standing.Out k)) (sym least) refl

  module _ (home : IsLeastOut x.grants.items None) where
    all_in : least_out s.out ≡ None
    all_in = least_none s.out (λ j. sym (r.grants j) ∙ home j)

    abbrev stands_if : Bool → standings.StandingShape
    stands_if b = elim b [ true ↦ standings.Unfinished | false ↦ standings.Ended (verdict_of s.configuration) ]

    pub stands_unfinished : 0 < x.left → list_any is_running (statuses_of s.configuration) ≡ true → IsStanding (standing_of s) standing.Unfinished
    stands_unfinished some runs =
        let left : nat_lt 0 s.left ≡ true = le-leb 1 s.left (subst (λ l. 0 < l) r.left some) in
        subst (λ o. IsStanding o standing.Unfinished) (sym (ap (λ o. standing_by o s) all_in ∙ ap stands_if (λ i. left i && runs i))) tt

    stands_ended : (nat_lt 0 s.left && list_any is_running (statuses_of s.configuration)) ≡ false → IsStanding (standing_of s) standing.Ended
    stands_ended e = subst (λ o. IsStanding o standing.Ended) (sym (ap (λ o. standing_by o s) all_in ∙ ap stands_if e)) tt

    and_none : (a b : Bool) → b ≡ false → (a && b) ≡ false
    and_none true b e = e
    and_none false b e = refl

    zero_left : (left : ℕ) → left ≡ 0 → nat_lt 0 left ≡ false
    zero_left zero e = refl
    zero_left (suc left) e = absurd (omega (arith, e))

    pub stands_still : list_any is_running (statuses_of s.configuration) ≡ false → IsStanding (standing_of s) standing.Ended
    stands_still rests = stands_ended (and_none (nat_lt 0 s.left) (list_any is_running (statuses_of s.configuration)) rests)

    pub stands_spent : x.left ≡ 0 → IsStanding (standing_of s) standing.Ended
    stands_spent none = stands_ended (ap (λ b. b && list_any is_running (statuses_of s.configuration)) (zero_left s.left (sym r.left ∙ none)))
