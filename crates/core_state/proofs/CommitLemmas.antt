-- A core in which an activity has come in with a communication.
use Rattle.std.proofs.Common.{◌≡◌, ◌-◌, ◌+◌, ◌<◌, ◌≤◌, ◌^◌, ◌++◌, ◌∷◌, [], ℕ, zero, suc, Bool, true, false, List, Option, Some, None, is_some, length, refl, sym, ap, subst, ◌∙◌, arith}
use Rattle.asp_model.specs.Chase.{Chase, Values, chase}
use Rattle.asp_model.specs.Configuration.{Activity, Configuration, ReceptionShape, RequestShape, requests_of}
use Rattle.asp_model.specs.History.{Committed, HistoryShape, with_entry}
use Rattle.asp_model.specs.Intent as intents
use Rattle.asp_model.specs.Intent.{Acts, Done, Effect, Intent, intent}
use Rattle.asp_model.specs.Names.{Name, FutureShape, name_cmp, future_cmp}
use Rattle.asp_model.specs.Step.{intent_in, put_some, with_last}
use Rattle.law_journals.specs.Budgets.{granted_in, most_in, spent_in}
use Rattle.core_state.proofs.LogLemmas.{logs_join}
use Rattle.core_state.proofs.KeptLemmas.{numbered_then, whole_then}
use Rattle.law_steps.proofs.FrameLemmas.{sender_of}
use Rattle.law_steps.proofs.SoundLemmas.{at_name}
use Rattle.law_steps.proofs.FactLemmas.{acts_facts, face_of}
use Rattle.def_journals.specs.Communications.{is_communication}
use Rattle.def_journals.specs.Journals.{RunShape, entered, out_but, run_of}
use Rattle.def_journals.specs.Owed.{need_of}
use Rattle.law_journals.proofs.BudgetLemmas.{budgets_are_kept}
use Rattle.law_chases.proofs.MapLemmas as Maps
use Rattle.law_steps.proofs.NameLemmas.{is_there, name_total, name_same}
use Rattle.law_chases.proofs.FutureLemmas.{no_some, none_true}
use Rattle.law_journals.proofs.BurstLemmas.{bursts_are_counted}
use Rattle.law_journals.proofs.GrowingLemmas.{entries_go_on}
use Rattle.law_journals.proofs.NameListLemmas.{number_stays}
use Rattle.law_core.specs.Commits.{made_by, with_activity}
use Rattle.law_core.proofs.CommitLemmas.{acts_are_commits}
use Rattle.law_core.proofs.LocalLemmas.{written_over}
use Rattle.code_table.specs.declared.code.Node.{Node}
use Rattle.future_table.specs.Values.{values_of}
use Rattle.core_ranks.specs.Ranks.{IsRanked}
use Rattle.core_seats.specs.Seats.{names_in, seats_in}
use Rattle.core_state.specs.Journal.{entries_in, room}
use Rattle.step_activity.specs.declared.act.Given.{Given}
use Rattle.step_activity.specs.declared.actor.Actor.{Actor}
use Rattle.step_activity.specs.Stances as stances
use Rattle.law_core.specs.Runs.{rank_named, rank_of_number, rank_unless_out}
use Rattle.core_state.specs.declared.state.CoreState.{CoreState}
use Rattle.core_state.specs.Returning.{IsReturning, IsSomeReturning}
use Rattle.core_state.specs.Cores.{IsPopulated}
use Rattle.core_state.proofs.ComeBackLemmas.{count_few}
use Rattle.core_state.specs.declared.change.Change.{Change}
use Rattle.core_state.specs.Changes.{IsChange, IsChanged, IsStanding, acted}
use Rattle.core_state.specs.Commits.{IsActCommitted, IsActing, act_by, act_of, act_within, communicates}
use Rattle.core_state.specs.Handing.{IsToHand, asked_log, came_in, handed, received_log, with_own}
use Rattle.core_state.proofs.ActLemmas.{whole_ended}

-- Where one acts

acts_so : (o : Option (FutureShape × ℕ)) (b : Bool) (p : Intent)
    → communicates (elim o [ Some x ↦ stances.Needs x.0 x.1 | None ↦ stances.stance_by b p ]) ≡ is_some (elim o [ Some x ↦ None | None ↦ act_by b p ])
acts_so (Some x) b p = refl
acts_so None true (Acts e) = refl
acts_so None true (intents.Rests status) = refl
acts_so None false (Acts e) = refl
acts_so None false (intents.Rests status) = refl

-- a communication that may be done is one at which the activity stands so
pub acts_then : (chases : FutureShape → Chase) (rs : List RequestShape) (n : Name) (a : Activity) → communicates (stances.stance_of chases rs n a) ≡ is_some (act_of chases rs n a)
acts_then chases rs n a = acts_so (need_of chases a) (is_communication chases a) (intent chases rs n a)

intends_by : (o : Option (FutureShape × ℕ)) (b : Bool) (p : Intent) (e : Effect) → elim o [ Some x ↦ None | None ↦ act_by b p ] ≡ Some e → p ≡ Acts e
intends_by (Some x) b p e is = no_some is
intends_by None true (Acts f) e is = ap act_or is
  where
    act_or : Option Effect → Intent
    act_or (Some x) = Acts x
    act_or None = intents.Rests Done
intends_by None true (intents.Rests status) e is = no_some is
intends_by None false (Acts f) e is = no_some is
intends_by None false (intents.Rests status) e is = no_some is

some_within : (rest : ℕ) (o : Option Effect) (e : Effect) → act_within rest o ≡ Some e → (1 ≤ rest) × (o ≡ Some e)
some_within zero o e is = no_some is
some_within (suc rest) o e is = (omega arith, is)

-- by what is left of the grant
pub none_left : (grant taken : ℕ) (o : Option Effect) → grant ≤ taken → false ≡ is_some (act_within (grant - taken) o)
none_left grant taken o full =
    let none : grant - taken ≡ 0 = omega (arith, full) in
    ap (λ q. is_some (act_within q o)) (sym none)

pub some_left : (grant taken : ℕ) (o : Option Effect) → taken < grant → is_some o ≡ is_some (act_within (grant - taken) o)
some_left grant taken o few =
    let more : grant - taken ≡ suc (grant - suc taken) = omega (arith, few) in
    ap (λ q. is_some (act_within q o)) (sym more)

made_few : (ns : List Name) (o : Option (Name × Activity)) → length (ns ++ made_by o) ≤ length ns + 1
made_few [] None = omega arith
made_few [] (Some x) = omega arith
made_few (n ∷ ns) o = omega (arith, made_few ns o)

none_of : (o : Option Effect) → is_some o ≡ false → o ≡ None
none_of None h = refl
none_of (Some e) h = none_true (sym h)

-- With the reduction

abbrev pub IsSomeActing : CoreState → ℕ → ℕ → ℕ → Actor → Type 0
IsSomeActing x k grant reductions a = (h : HistoryShape) × (code : List Node) × (s : RunShape) × (n : Name) × (e : Effect) × IsActing h code x s k n grant reductions a e

module _ (x : CoreState) (k grant reductions : ℕ) (a : Actor) (z : IsSomeActing x k grant reductions a) where
  abbrev h : HistoryShape
  h = z.0

  abbrev code : List Node
  code = z.1

  abbrev s : RunShape
  s = z.2

  abbrev n : Name
  n = z.3

  abbrev e : Effect
  e = z.4

  abbrev r : IsActing h code x s k n grant reductions a e
  r = z.5

  abbrev pub now : HistoryShape
  now = with_entry h (Committed k reductions)

  abbrev pub left : ℕ
  left = s.left + (grant - reductions)

  -- the run before others have what the reduction gives, and after that
  abbrev pub came : RunShape
  came = came_in s k left (with_own n e s.configuration)

  abbrev pub t : RunShape
  t = acted s k n r.returning.end e left

  goes : entered (Committed k reductions) s ≡ Some t
  goes =
      subst (λ q. entered (Committed k q) s ≡ Some (acted s k n r.returning.end e (s.left + (grant - q)))) (sym r.more)
      (acts_are_commits s k grant n r.taken r.returning.end e r.returning.has_run r.within r.intends)

  pub runs : run_of now ≡ Some t
  runs = entries_go_on h (Committed k reductions) s r.returning.run ∙ goes

  pub to_hand : (y : CoreState) (g : Given) → IsToHand (with_entry h (Committed k (suc r.taken))) code y came n e g → IsToHand now code y came n e g
  to_hand y g = subst (λ q. IsToHand (with_entry h (Committed k q)) code y came n e g) (sym r.more)

  -- the activity was written twice
  abbrev over : List (Name × List ReceptionShape) → Configuration → RunShape
  over logs d = record {
    configuration = record {
      activities = put_some name_cmp e.made d.activities;
      received = with_last e.sent d.received;
      logs = logs;
      futures = put_some future_cmp e.filled d.futures;
    };
    names = s.names ++ made_by e.made;
    left = left;
    out = out_but k s.out;
  }

  -- and its log, and that of who receives, were written one after the other
  abbrev handed_logs : List (Name × List ReceptionShape)
  handed_logs = with_last (received_log e.sent) (with_last (asked_log e.sent e.logged) s.configuration.logs)

  abbrev c : Configuration
  c = with_activity n r.returning.end s.configuration

  same_logs : handed_logs ≡ with_last e.logged s.configuration.logs
  same_logs =
      let facts = (acts_facts c n e r.intends).1 in
      logs_join n e.sent e.logged s.configuration.logs (sender_of n (at_name c n) (face_of e.own) e.sent facts.sent) facts.logged

  same_run : handed came e ≡ t
  same_run = sym (ap (over handed_logs) (written_over s.configuration n r.returning.has_run.sound.ordered.activities r.returning.end e.own)) ∙ ap (λ logs. over logs (with_activity n e.own c)) same_logs

  pub to_rank : (y : CoreState) (g : Change) → y.ranks ≡ x.ranks → IsPopulated now code y (handed came e) → IsChange s.names e g
      → IsChanged now code y s k n r.returning.end e left g
  to_rank y g ranks populated change = record {
    first = r.returning.first;
    numbered = r.returning.numbered;
    named = r.returning.has_run.named;
    out = ap (rank_named s k) r.returning.has_run.named ∙ ap (rank_unless_out s n) r.returning.has_run.out;
    ranks = λ j. subst (λ q. IsRanked q j (rank_of_number s j)) (sym ranks) (r.returning.ranks j);
    sound = (whole_ended h code x s k n grant r.taken a r.returning).sound;
    intends = r.intends;
    whole = whole_then (Committed k reductions) s t goes r.returning.whole;
    run = runs;
    populated = subst (IsPopulated now code y) same_run populated;
    change = change;
  }

  pub to_look : (y : CoreState) → IsPopulated now code y t → IsStanding now code y t k
  to_look y populated = record {
    first = r.returning.first;
    whole = whole_then (Committed k reductions) s t goes r.returning.whole;
    run = runs;
    populated = populated;
    name = n;
    named = number_stays s.names (made_by e.made) k n r.returning.has_run.named;
  }

  still_small : s.left + (grant - reductions) < 2 ^ 64
  still_small =
      let kept : spent_in t.configuration + (t.left + granted_in t.out) ≡ most_in h = budgets_are_kept now t r.returning.first.sound runs in
      omega (arith, kept, r.returning.small)

  pub has_room : 0 < room x.journal
  has_room = omega (arith, r.returning.room)

  pub acts_back : (y : CoreState) → IsPopulated now code y t → ((j : ℕ) → IsRanked y.ranks j (rank_of_number t j))
      → entries_in y.journal ≡ entries_in x.journal ++ Committed k reductions ∷ [] → room x.journal ≤ room y.journal + 1
      → (x.left + (grant - reductions) < 2 ^ 64 → y.left ≡ x.left + (grant - reductions)) → y.bursts ≡ x.bursts
      → IsActCommitted h code s k n grant reductions r.returning.end e y
  acts_back y populated ranks entries more budget bursts =
      let long : length (names_in y.seats) ≡ length (s.names ++ made_by e.made) = ap length populated.names in
      let was : length (names_in x.seats) ≡ length s.names = ap length r.returning.populated.names in
      record {
        first = r.returning.first;
        whole = whole_then (Committed k reductions) s t goes r.returning.whole;
        numbered = numbered_then (Committed k reductions) s t goes r.returning.whole.sound r.returning.numbered;
        small = r.returning.small;
        run = runs;
        entries = entries ∙ ap (λ es. es ++ Committed k reductions ∷ []) r.returning.entries;
        populated = populated;
        ranks = ranks;
        left = budget (subst (λ l. l + (grant - reductions) < 2 ^ 64) (sym r.returning.left) still_small) ∙ ap (λ l. l + (grant - reductions)) r.returning.left;
        bursts = omega (arith, bursts, r.returning.bursts, (bursts_are_counted h.entries).0 (Committed k reductions));
        room = omega (arith, count_few (seats_in y.seats), populated.kept.same, long, made_few s.names e.made, was, r.returning.populated.kept.same, r.returning.room, more);
      }

-- With it or without

module _ (x : CoreState) (k grant taken : ℕ) (a : Actor) (z : IsSomeReturning x k grant taken a) where
  abbrev u : RunShape
  u = z.2

  abbrev m : Name
  m = z.3

  abbrev back : IsReturning z.0 z.1 x u k m grant taken a
  back = z.4

  abbrev qs : List RequestShape
  qs = requests_of u.configuration m

  -- the communication that is done
  abbrev pub act_in : Values → Option Effect
  act_in values = act_within (grant - taken) (act_of (chase values) qs m back.end)

  pub acts_now : (b : Bool) → b ≡ is_some (act_in (values_of x.futures)) → b ≡ true → (e : Effect) × (act_in u.configuration.futures ≡ Some e)
  acts_now b is so = is_there (act_in u.configuration.futures) (sym (is ∙ ap (λ values. is_some (act_in values)) back.populated.futures) ∙ so)

  pub acts_not : (b : Bool) → b ≡ is_some (act_in (values_of x.futures)) → b ≡ false → act_in u.configuration.futures ≡ None
  acts_not b is so = none_of (act_in u.configuration.futures) (sym (is ∙ ap (λ values. is_some (act_in values)) back.populated.futures) ∙ so)

  module _ (e : Effect) (is : act_in u.configuration.futures ≡ Some e) where
    abbrev found : (1 ≤ grant - taken) × (act_of (chase u.configuration.futures) qs m back.end ≡ Some e)
    found = some_within (grant - taken) (act_of (chase u.configuration.futures) qs m back.end) e is

    pub one_left : suc taken ≤ grant
    one_left = omega (arith, found.0)

    pub intends_then : intent_in (with_activity m back.end u.configuration) m ≡ Acts e
    intends_then =
        ap (λ (o : Option Activity). elim o [ None ↦ intents.Rests Done | Some b ↦ intent (chase u.configuration.futures) qs m b ])
        (Maps.find_same name_cmp name_total name_same m back.end u.configuration.activities)
        ∙ intends_by (need_of (chase u.configuration.futures) back.end) (is_communication (chase u.configuration.futures) back.end) (intent (chase u.configuration.futures) qs m back.end) e found.1

    abbrev pub come_acting : (reductions : ℕ) → reductions ≡ suc taken → IsActing z.0 z.1 x u k m grant reductions a e
    come_acting reductions more = record { taken = taken; more = more; within = one_left; returning = back; intends = intends_then }
