-- Contractions that need no other activity are steps of the run, where the least-named that is ready takes them.
use Rattle.std.proofs.Common.{◌≡◌, ◌+◌, ◌-◌, ◌≤◌, ◌<◌, ◌++◌, [], ℕ, zero, suc, Bool, true, false, cond, T, List, Option, Some, None, refl, sym, ap, subst, ◌∙◌, ⊎_elim, arith}
use Rattle.std.specs.FinMap.{find, is_sorted, put}
use Rattle.std.specs.FinMap.Entries.{find-put, is_sorted-put, same_entries}
use Rattle.std.specs.Ordering.{eq_by_cmp, is_lt}
use Rattle.asp_model.specs.Names.{Name, FutureShape, name_cmp}
use Rattle.asp_model.specs.Term.{Tree}
use Rattle.asp_model.specs.Split.{Splits, Stands}
use Rattle.asp_model.specs.Contraction.{contract, first_future, strict_members, strict_operands}
use Rattle.asp_model.specs.Chase.{Chase, chase}
use Rattle.asp_model.specs.Configuration.{Activity, Configuration, RequestShape, requests_of}
use Rattle.asp_model.specs.Intent.{Acts, Awaits, Done, Effect, Reads, Rests, Lacks, alone, contracts, ends_service, intent, newest, redex_ready}
use Rattle.asp_model.specs.Step.{ListsShape, intent_in, step}
use Rattle.asp_model.specs.Replay.{least_step, steps_from}
use Rattle.law_steps.specs.Reached.{IsReached, IsAt, Steps}
use Rattle.law_chases.proofs.MapLemmas.{find_same, find_other}
use Rattle.law_steps.proofs.NameLemmas.{name_total, name_same, name_case}
use Rattle.law_chases.proofs.FutureLemmas.{no_some}
use Rattle.law_steps.proofs.NamesLaws.{entries_ascend}
use Rattle.law_steps.proofs.ReachedLemmas.{moves_go_on}
use Rattle.law_steps.proofs.OperandLemmas.{no_future, redex_reads}
use Rattle.law_steps.proofs.StepLemmas.{takes_step}
use Rattle.law_schedules.specs.Schedules.{IsScheduled}
use Rattle.law_schedules.proofs.LeastLemmas.{least_steps}
use Rattle.law_schedules.specs.Watches.{IsWatched, Watches}
use Rattle.law_schedules.proofs.WokenLemmas.{called_are_scheduled}
use Rattle.activity_step.specs.Local.{IsLocalStep, LocalRun}
use Rattle.replay_population.specs.Population.{with_activity}
use Rattle.replay_parts.specs.Notes.{least_notes, notes_from, notes_of}
use Rattle.replay_one.proofs.NoteLemmas.{first_noted, least_noted, lines_both, local_noted}
use Rattle.replay_parts.proofs.NoteLemmas.{AreLines}

-- One contraction

-- it acts alone
pub local_intends : (chases : FutureShape → Chase) (rs : List RequestShape) (n : Name) (a b : Activity) → IsLocalStep a b → intent chases rs n a ≡ alone b
local_intends chases rs n a b x =
    ap (λ q. elim q [ Stands place ↦ ends_service a place (newest a.services) | Splits contexts redex ↦ elim (redex_ready chases a.store redex) [ Lacks f ↦ Rests (Awaits f) | Reads s ↦ contracts rs n a contexts s (contract s redex) ] ]) x.splits
    ∙ ap (λ q. elim q [ Lacks f ↦ Rests (Awaits f) | Reads s ↦ contracts rs n a x.contexts s (contract s x.redex) ]) (redex_reads chases a.store x.redex (no_future a.store x.redex (first_future a.store (strict_operands x.redex.head x.redex.places ++ strict_members a.store x.redex.head x.redex.places)) x.becomes x.store x.added x.is))
    ∙ ap (contracts rs n a x.contexts a.store) x.is
    ∙ ap alone (sym x.after)

-- what is left of it when it acts alone
abbrev own_effect : Activity → Effect
own_effect b = record { own = b; sent = None; logged = None; made = None; filled = None }

local_in : (c : Configuration) (n : Name) (a b : Activity) → IsAt c n a → IsLocalStep a b → intent_in c n ≡ alone b
local_in c n a b is x =
    ap (λ (q : Option Activity). elim q [ None ↦ Rests Done | Some a ↦ intent (chase c.futures) (requests_of c n) n a ]) is
    ∙ local_intends (chase c.futures) (requests_of c n) n a b x

-- Activities written over another

cond_twice : {X : Type 0} (b : Bool) (x y z : X) → cond b x (cond b y z) ≡ cond b x z
cond_twice true x y z = refl
cond_twice false x y z = refl

module _ (program : Tree) (c : Configuration) (n : Name) (reached : IsReached program c) where
  ascend : T (is_sorted name_cmp c.activities)
  ascend = (entries_ascend program c reached).activities

  written_over : (a b : Activity) → with_activity n b (with_activity n a c) ≡ with_activity n b c
  written_over a b =
      let es = c.activities in
      let R = name_cmp in
      let o = name_total in
      ap (λ es. record c { activities = es }) (same_entries R o name_same (put R n b (put R n a es)) (put R n b es) (is_sorted-put R o n b _ (is_sorted-put R o n a es ascend)) (is_sorted-put R o n b es ascend)
      (λ q. find-put R o q n b (put R n a es) ∙ ap (cond (eq_by_cmp R q n) (Some b)) (find-put R o q n a es) ∙ cond_twice (eq_by_cmp R q n) (Some b) (Some a) (find R q es) ∙ sym (find-put R o q n b es)))

  written_itself : (a : Activity) → IsAt c n a → with_activity n a c ≡ c
  written_itself a is =
      let es = c.activities in
      let R = name_cmp in
      let o = name_total in
      ap (λ es. record c { activities = es }) (same_entries R o name_same (put R n a es) es (is_sorted-put R o n a es ascend) ascend
      (λ q. ⊎_elim
      (λ p. ap (λ k. find R k (put R n a es)) p ∙ find_same R o name_same n a es ∙ sym is ∙ ap (λ k. find R k es) (sym p))
      (λ apart. find_other R o name_same q n a es apart)
      (name_case q n)))

-- Steps of the run

-- so many steps lead to the other configuration, which is reached, and the same are ready and noted
pub record Goes (program : Tree) (lists : Option ListsShape) (count : Name → ℕ) (ready : Name → Bool) (noted : FutureShape → Name → Bool) (w : Watches) (k : ℕ) (c d : Configuration) : Type 0 where
  pub reached : IsReached program d
  pub steps : (m : ℕ) → steps_from (k + m) lists count c ≡ steps_from m lists count d
  pub scheduled : IsScheduled lists count d ready noted
  pub watched : IsWatched w count d ready
  pub lines : AreLines (notes_from k lists count c)

module _ (program : Tree) (lists : Option ListsShape) (count : Name → ℕ) (ready : Name → Bool) (noted : FutureShape → Name → Bool) (w : Watches) (n : Name) (here : ready n ≡ true) (least : (m : Name) → ready m ≡ true → is_lt (name_cmp m n) ≡ false) where
  abbrev Ahead : ℕ → Configuration → Configuration → Type 0
  Ahead = Goes program lists count ready noted w

  -- where the run stands
  record Here (c : Configuration) : Type 0 where
    reached : IsReached program c
    scheduled : IsScheduled lists count c ready noted
    watched : IsWatched w count c ready

  stays : (c : Configuration) → Here c → Ahead 0 c c
  stays c h = record {
    reached = h.reached;
    steps = λ m. let same : 0 + m ≡ m = omega arith in ap (λ k. steps_from k lists count c) same;
    scheduled = h.scheduled;
    watched = h.watched;
    lines = tt;
  }

  takes_one : (c : Configuration) (a b : Activity) → Here c → IsAt c n a → IsLocalStep a b → a.reductions < count n → (least_step lists count c c.activities ≡ Some (with_activity n b c)) × Here (with_activity n b c) × AreLines (least_notes lists count c c.activities)
  takes_one c a b h is x below =
      let e : Effect = own_effect b in
      let d : Configuration = with_activity n b c in
      let intends : intent_in c n ≡ Acts e = local_in c n a b is x in
      let steps : step lists c n ≡ Some d = takes_step lists c n e (record { intends = intends; may = refl }) in
      let after = called_are_scheduled program lists count c n e noted w ready ready h.reached intends steps h.scheduled h.watched (λ m r. r) (record {
        stepper = here;
        made = λ m q r. no_some r;
        target = λ m r sent. no_some sent;
        next = λ m q r i. no_some r.1;
        filled = λ f q r i. no_some r.1;
      }) in (
        least_steps program lists count c d n a ready noted h.reached h.scheduled least is below steps,
        record { reached = moves_go_on program c d (Steps lists n) h.reached steps; scheduled = after.0; watched = after.1 },
        subst AreLines (sym (least_noted program lists count c d n a ready noted h.reached h.scheduled least is below steps ∙ ap (notes_of n a) intends)) (local_noted n a b x),
      )

  goes_on : (c d : Configuration) (k m : ℕ) → least_step lists count c c.activities ≡ Some d → steps_from (suc k + m) lists count c ≡ steps_from (k + m) lists count d
  goes_on c d k m h =
      let same : suc k + m ≡ suc (k + m) = omega arith in
      ap (λ j. steps_from j lists count c) same ∙ ap (λ (o : Option Configuration). elim o [ None ↦ c | Some d ↦ steps_from (k + m) lists count d ]) h

  run_ahead : (k : ℕ) (c : Configuration) (a b : Activity) → Here c → IsAt c n a → LocalRun k a b → k ≤ count n - a.reductions → Ahead k c (with_activity n b c)
  run_ahead zero c a b h is run within = subst (Ahead 0 c) (sym (written_itself program c n h.reached b (is ∙ ap Some run))) (stays c h)
  run_ahead (suc k) c a b h is run within =
      let x = run.0 in
      let d : Configuration = with_activity n x c in
      let one = takes_one c a x h is run.1 (omega (arith, within)) in
      let more : x.reductions ≡ suc a.reductions = ap (λ y. y.reductions) run.1.after in
      let rest : Ahead k d (with_activity n b d) = run_ahead k d x b one.1 (find_same name_cmp name_total name_same n x c.activities) run.2 (omega (arith, within, more)) in
      let all : Ahead (suc k) c (with_activity n b d) = record { reached = rest.reached; steps = λ m. goes_on c d k m one.0 ∙ rest.steps m; scheduled = rest.scheduled; watched = rest.watched; lines = subst AreLines (sym (first_noted lists count k c d one.0)) (lines_both (least_notes lists count c c.activities) (notes_from k lists count d) one.2 rest.lines) } in
      subst (Ahead (suc k) c) (written_over program c n h.reached x b) all

-- so many contractions of the least-named that is ready, within its count, are as many steps of the run
pub local_runs_go_on : (program : Tree) (lists : Option ListsShape) (count : Name → ℕ) (ready : Name → Bool) (noted : FutureShape → Name → Bool) (w : Watches) (c : Configuration) (n : Name) (k : ℕ) (a b : Activity)
    → IsReached program c → IsScheduled lists count c ready noted → IsWatched w count c ready → ready n ≡ true → ((m : Name) → ready m ≡ true → is_lt (name_cmp m n) ≡ false)
    → IsAt c n a → LocalRun k a b → k ≤ count n - a.reductions → Goes program lists count ready noted w k c (with_activity n b c)
local_runs_go_on program lists count ready noted w c n k a b reached scheduled watched here least is run within =
    run_ahead program lists count ready noted w n here least k c a b (record { reached = reached; scheduled = scheduled; watched = watched }) is run within
