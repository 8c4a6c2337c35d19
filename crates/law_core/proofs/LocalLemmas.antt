-- Contractions that need no other activity are steps without lists, and no communications.
use Rattle.std.proofs.Common.{◌≡◌, ◌+◌, ◌++◌, ℕ, zero, suc, Bool, true, false, cond, T, List, Option, Some, None, refl, sym, ap, subst, ◌∙◌, ⊎_elim, is_some, arith}
use Rattle.std.specs.FinMap.{find, is_sorted, put}
use Rattle.std.specs.FinMap.Entries.{find-put, is_sorted-put, same_entries}
use Rattle.std.specs.Ordering.{eq_by_cmp}
use Rattle.asp_model.specs.Names.{Name, FutureShape, name_cmp}
use Rattle.asp_model.specs.Split.{Splits, Stands}
use Rattle.asp_model.specs.Contraction.{contract, first_future, strict_members, strict_operands}
use Rattle.asp_model.specs.Chase.{Chase, chase}
use Rattle.asp_model.specs.Configuration.{Activity, Configuration, RequestShape, requests_of}
use Rattle.asp_model.specs.Intent.{Acts, Awaits, Done, Effect, Reads, Rests, Lacks, alone, contracts, ends_service, intent, newest, redex_ready}
use Rattle.asp_model.specs.Step.{intent_in, step}
use Rattle.def_journals.specs.Communications.{communicates_next, is_asking, is_communication}
use Rattle.def_journals.specs.Journals.{reduced}
use Rattle.law_steps.specs.Reached.{IsAt, Steps}
use Rattle.law_steps.specs.Sound.{IsSound}
use Rattle.law_chases.proofs.MapLemmas.{find_same, find_other}
use Rattle.law_steps.proofs.NameLemmas.{name_total, name_same, name_case}
use Rattle.law_steps.proofs.OperandLemmas.{no_future, redex_reads}
use Rattle.law_steps.proofs.StepLemmas.{takes_step}
use Rattle.law_steps.proofs.WholeLemmas.{moves_keep_sound}
use Rattle.activity_step.specs.Local.{IsLocalStep, LocalRun}
use Rattle.law_core.specs.Commits.{with_activity}

-- One contraction

-- no strict operand of it is a future
pub no_future_read : (a b : Activity) (x : IsLocalStep a b) → first_future a.store (strict_operands x.redex.head x.redex.places ++ strict_members a.store x.redex.head x.redex.places) ≡ None
no_future_read a b x = no_future a.store x.redex (first_future a.store (strict_operands x.redex.head x.redex.places ++ strict_members a.store x.redex.head x.redex.places)) x.becomes x.store x.added x.is

module _ (chases : FutureShape → Chase) (a b : Activity) (x : IsLocalStep a b) where
  reads_store : redex_ready chases a.store x.redex ≡ Reads a.store
  reads_store = redex_reads chases a.store x.redex (no_future_read a b x)

  -- it acts alone
  local_intends : (rs : List RequestShape) (n : Name) → intent chases rs n a ≡ alone b
  local_intends rs n =
      ap (λ q. elim q [ Stands place ↦ ends_service a place (newest a.services) | Splits contexts redex ↦ elim (redex_ready chases a.store redex) [ Lacks f ↦ Rests (Awaits f) | Reads s ↦ contracts rs n a contexts s (contract s redex) ] ]) x.splits
      ∙ ap (λ q. elim q [ Lacks f ↦ Rests (Awaits f) | Reads s ↦ contracts rs n a x.contexts s (contract s x.redex) ]) reads_store
      ∙ ap (contracts rs n a x.contexts a.store) x.is
      ∙ ap alone (sym x.after)

  -- and is no communication
  local_quiet : is_communication chases a ≡ false
  local_quiet =
      ap (λ q. elim q [ Stands place ↦ is_some (newest a.services) | Splits contexts redex ↦ elim (redex_ready chases a.store redex) [ Lacks f ↦ false | Reads s ↦ is_asking (contract s redex) ] ]) x.splits
      ∙ ap (λ q. elim q [ Lacks f ↦ false | Reads s ↦ is_asking (contract s x.redex) ]) reads_store
      ∙ ap is_asking x.is

abbrev pub own_effect : Activity → Effect
own_effect b = record { own = b; sent = None; logged = None; made = None; filled = None }

module _ (c : Configuration) (n : Name) (a b : Activity) (is : IsAt c n a) (x : IsLocalStep a b) where
  pub local_in : intent_in c n ≡ Acts (own_effect b)
  local_in =
      ap (λ (q : Option Activity). elim q [ None ↦ Rests Done | Some a ↦ intent (chase c.futures) (requests_of c n) n a ]) is
      ∙ local_intends (chase c.futures) a b x (requests_of c n) n

  pub local_step : step None c n ≡ Some (with_activity n b c)
  local_step = takes_step None c n (own_effect b) (record { intends = local_in; may = refl })

  pub quiet_in : communicates_next c n ≡ false
  quiet_in = ap (λ (q : Option Activity). elim q [ None ↦ false | Some a ↦ is_communication (chase c.futures) a ]) is ∙ local_quiet (chase c.futures) a b x

-- Activities written over another

cond_twice : {X : Type 0} (b : Bool) (x y z : X) → cond b x (cond b y z) ≡ cond b x z
cond_twice true x y z = refl
cond_twice false x y z = refl

module _ (c : Configuration) (n : Name) (sorted : T (is_sorted name_cmp c.activities)) where
  pub written_over : (a b : Activity) → with_activity n b (with_activity n a c) ≡ with_activity n b c
  written_over a b =
      let es = c.activities in
      let R = name_cmp in
      let o = name_total in
      ap (λ es. record c { activities = es }) (same_entries R o name_same (put R n b (put R n a es)) (put R n b es) (is_sorted-put R o n b _ (is_sorted-put R o n a es sorted)) (is_sorted-put R o n b es sorted)
      (λ q. find-put R o q n b (put R n a es) ∙ ap (cond (eq_by_cmp R q n) (Some b)) (find-put R o q n a es) ∙ cond_twice (eq_by_cmp R q n) (Some b) (Some a) (find R q es) ∙ sym (find-put R o q n b es)))

  pub written_itself : (a : Activity) → IsAt c n a → with_activity n a c ≡ c
  written_itself a is =
      let es = c.activities in
      let R = name_cmp in
      let o = name_total in
      ap (λ es. record c { activities = es }) (same_entries R o name_same (put R n a es) es (is_sorted-put R o n a es sorted) sorted
      (λ q. ⊎_elim
      (λ p. ap (λ k. find R k (put R n a es)) p ∙ find_same R o name_same n a es ∙ sym is ∙ ap (λ k. find R k es) (sym p))
      (λ apart. find_other R o name_same q n a es apart)
      (name_case q n)))

-- Runs

reduced_on : (c d : Configuration) (n : Name) → communicates_next c n ≡ false → step None c n ≡ Some d → (r : ℕ) → reduced (suc r) n c ≡ reduced r n d
reduced_on c d n quiet steps zero = steps
reduced_on c d n quiet steps (suc r) =
    ap (λ b. elim b [ true ↦ None | false ↦ elim (step None c n) [ None ↦ None | Some x ↦ reduced (suc r) n x ] ]) quiet
    ∙ ap (λ (o : Option Configuration). elim o [ None ↦ None | Some x ↦ reduced (suc r) n x ]) steps

module _ (n : Name) where
  pub run_sound : (r : ℕ) (c : Configuration) (a b : Activity) → IsSound c → IsAt c n a → LocalRun r a b → IsSound (with_activity n b c)
  run_sound zero c a b sound is run = subst IsSound (sym (written_itself c n sound.ordered.activities b (is ∙ ap Some run))) sound
  run_sound (suc r) c a b sound is run =
      let d : Configuration = with_activity n run.0 c in
      let kept = moves_keep_sound (Steps None n) c d sound (local_step c n a run.0 is run.1) in
      subst IsSound (written_over c n sound.ordered.activities run.0 b) (run_sound r d run.0 b kept (find_same name_cmp name_total name_same n run.0 c.activities) run.2)

  -- the reductions behind a run are those of the activity that it leads to
  pub run_reduced : (r k : ℕ) (c : Configuration) (a b : Activity) → IsSound c → IsAt c n a → LocalRun r a b → reduced (r + k) n c ≡ reduced k n (with_activity n b c)
  run_reduced zero k c a b sound is run =
      let none : 0 + k ≡ k = omega arith in
      ap (λ j. reduced j n c) none ∙ ap (reduced k n) (sym (written_itself c n sound.ordered.activities b (is ∙ ap Some run)))
  run_reduced (suc r) k c a b sound is run =
      let d : Configuration = with_activity n run.0 c in
      let steps = local_step c n a run.0 is run.1 in
      let kept = moves_keep_sound (Steps None n) c d sound steps in
      let one : suc r + k ≡ suc (r + k) = omega arith in
      ap (λ j. reduced j n c) one
      ∙ reduced_on c d n (quiet_in c n a run.0 is run.1) steps (r + k)
      ∙ run_reduced r k d run.0 b kept (find_same name_cmp name_total name_same n run.0 c.activities) run.2
      ∙ ap (reduced k n) (written_over c n sound.ordered.activities run.0 b)
