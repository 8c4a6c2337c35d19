-- Verdicts by who is out, what is owed, and who is ready.
use Rattle.std.proofs.Common.{◌≡◌, ◌⊎◌, ◌&&◌, inl, inr, ℕ, Bool, true, false, T, List, Option, Some, None, is_none, is_some, nat_lt, refl, sym, ap, subst, ◌∙◌}
use Rattle.std.specs.Prelude.{◌||◌}
use Rattle.std.specs.List.{list_any}
use Rattle.std.specs.FinMap.{find}
use Rattle.asp_model.specs.Names.{Name, name_cmp}
use Rattle.asp_model.specs.Configuration.{Activity, Configuration, requests_of}
use Rattle.asp_model.specs.Intent.{Acts, Awaits, Done, Effect, Faulted, Intent, Rests, Running, Serving, intent}
use Rattle.asp_model.specs.Status.{is_running, status_of, status_of_intent, statuses_of, verdict_of}
use Rattle.asp_model.specs.Step.{intent_in, name_at, step}
use Rattle.asp_model.specs.History.{ChoiceShape}
use Rattle.def_journals.specs.Edges.{HoldersShape}
use Rattle.def_journals.specs.Journals.{RunShape, grant_of, is_in, may_lend}
use Rattle.def_journals.specs.Owed.{goes_on, is_any, need_to, next_owed}
use Rattle.asp_model.specs.Chase.{chase}
use Rattle.law_steps.proofs.WakeLemmas.{none_rests_running}
use Rattle.law_steps.specs.Reached.{IsThere}
use Rattle.law_steps.specs.Sound.{IsSound}
use Rattle.law_chases.proofs.FutureLemmas.{no_some, none_true, true_false}
use Rattle.law_steps.proofs.StepLemmas.{step_by, step_is}
use Rattle.law_steps.proofs.WholeLemmas.{sound_intents}
use Rattle.law_journals.specs.Numbered.{AreNumbered}
use Rattle.law_core.specs.Runs.{is_ready, may_go}
use Rattle.law_core.proofs.OwedLemmas.{in_named, no_first, nothing_owed}
use Rattle.law_core.specs.Verdicts.{IsOver, VerdictsAreHeld, VerdictsAreTold}

abbrev acting : Intent → Bool
acting (Acts e) = true
acting (Rests status) = false

-- An activity that intends to act is ready, where nobody is out and nothing is owed
module _ (s : RunShape) (sound : IsSound s.configuration) (numbered : AreNumbered s) (h : HoldersShape) (answers : List ChoiceShape) (over : IsOver s h answers) (some : nat_lt 0 s.left ≡ true) where
  abbrev c : Configuration
  c = s.configuration

  there : (n : Name) (e : Effect) → intent_in c n ≡ Acts e → IsThere c n
  there n e acts = by (find name_cmp n c.activities) refl
    where
      by : (o : Option Activity) → find name_cmp n c.activities ≡ o → is_some (find name_cmp n c.activities) ≡ true
      by (Some a) is = ap is_some is
      by None is = absurd (subst T (ap acting (sym acts ∙ ap (λ o. elim o [ None ↦ Rests Done | Some a ↦ intent (chase c.futures) (requests_of c n) n a ]) is)) tt)

  free : (k : ℕ) → grant_of k s.out ≡ None
  free k = ap (grant_of k) over.back

  waits : (n : Name) (e : Effect) → intent_in c n ≡ Acts e → ⊥
  waits n e acts =
      let k = numbered.numbered n (there n e acts) in
      let runs : is_running (status_of c n) ≡ true = ap (λ p. is_running (status_of_intent p)) acts in
      let free_in : is_in s n ≡ true = in_named s numbered k.0 n k.1 ∙ ap is_none (free k.0) in
      let none : need_to c n ≡ None = no_first s s.names (nothing_owed s h answers over.owed) k.0 n k.1 free_in in
      let ready : is_ready s k.0 ≡ true = ap (may_go s k.0) k.1 ∙ (λ i. (is_none (free k.0 i) && runs i && some i) && is_none (none i)) in
      true_false (is_ready s k.0) ready (over.ready k.0)

  still : (n : Name) → step None c n ≡ None
  still n = step_is None c n ∙ by (intent_in c n) refl
    where
      by : (p : Intent) → intent_in c n ≡ p → step_by None c n p ≡ None
      by (Rests status) is = refl
      by (Acts e) is = absurd (waits n e is)

pub verdicts_are_told : VerdictsAreTold
verdicts_are_told s h answers sound numbered over =
    ap (λ b. elim b [ true ↦ None | false ↦ Some (verdict_of s.configuration) ]) (λ i. is_any (over.back i) || (is_some (over.owed i) || quiet (nat_lt 0 s.left) refl i))
  where
    quiet : (b : Bool) → nat_lt 0 s.left ≡ b → goes_on s ≡ false
    quiet false is = ap (λ b. b && list_any is_running (statuses_of s.configuration)) is
    quiet true is = ap (λ b. b && list_any is_running (statuses_of s.configuration)) is ∙ (sound_intents s.configuration sound).still (still s sound numbered h answers over is)

-- And else

both_true : (a b : Bool) → (a && b) ≡ true → (a ≡ true) × (b ≡ true)
both_true true b h = (refl, h)
both_true false b h = none_true h

any_true : (a b : Bool) → b ≡ true → (a || b) ≡ true
any_true true b h = refl
any_true false b h = h

named_ready : (s : RunShape) (k : ℕ) (o : Option Name) → may_go s k o ≡ true → (n : Name) × (may_lend s k n ≡ true)
named_ready s k None h = none_true h
named_ready s k (Some n) h = (n, (both_true (may_lend s k n) (is_none (need_to s.configuration n)) h).0)

ready_runs : (s : RunShape) (k : ℕ) → is_ready s k ≡ true → (n : Name) × (is_running (status_of s.configuration n) ≡ true) × (nat_lt 0 s.left ≡ true)
ready_runs s k h =
    let n = named_ready s k (name_at s.names k) h in
    let first = both_true (is_none (grant_of k s.out) && is_running (status_of s.configuration n.0)) (nat_lt 0 s.left) n.1 in
    (n.0, (both_true (is_none (grant_of k s.out)) (is_running (status_of s.configuration n.0)) first.0).1, first.1)

not_still : (c : Configuration) → IsSound c → (n : Name) (p : Intent) → intent_in c n ≡ p → is_running (status_of_intent p) ≡ true → step None c n ≡ None → ⊥
not_still c sound n (Acts e) is runs none = no_some (sym none ∙ (sound_intents c sound).step n e is)
not_still c sound n (Rests Running) is runs none = none_rests_running c n is
not_still c sound n (Rests Done) is runs none = none_true runs
not_still c sound n (Rests Serving) is runs none = none_true runs
not_still c sound n (Rests (Awaits f)) is runs none = none_true runs
not_still c sound n (Rests (Faulted x)) is runs none = none_true runs

some_runs : (c : Configuration) → IsSound c → (n : Name) → is_running (status_of c n) ≡ true → list_any is_running (statuses_of c) ≡ true
some_runs c sound n runs = by (list_any is_running (statuses_of c)) refl
  where
    by : (b : Bool) → list_any is_running (statuses_of c) ≡ b → b ≡ true
    by true is = refl
    by false is = absurd (not_still c sound n (intent_in c n) refl runs ((sound_intents c sound).stuck is n))

pub verdicts_are_held : VerdictsAreHeld
verdicts_are_held s h answers sound why = ap (λ b. elim b [ true ↦ None | false ↦ Some (verdict_of s.configuration) ]) (held why)
  where
    held : (is_any s.out ≡ true) ⊎ ((is_some (next_owed s h answers) ≡ true) ⊎ ((k : ℕ) × (is_ready s k ≡ true))) → (is_any s.out || (is_some (next_owed s h answers) || goes_on s)) ≡ true
    held (inl out) = ap (λ b. b || (is_some (next_owed s h answers) || goes_on s)) out
    held (inr (inl owed)) = any_true (is_any s.out) (is_some (next_owed s h answers) || goes_on s) (ap (λ b. b || goes_on s) owed)
    held (inr (inr ready)) =
        let x = ready_runs s ready.0 ready.1 in
        any_true (is_any s.out) (is_some (next_owed s h answers) || goes_on s) (any_true (is_some (next_owed s h answers)) (goes_on s) (λ i. x.2 i && some_runs s.configuration sound x.0 x.1 i))
