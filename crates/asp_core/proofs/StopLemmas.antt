-- A lease that has stopped comes back, and those before it had.
use Rattle.std.proofs.Common.{◌≡◌, ◌∙◌, ◌++◌, ◌∷◌, [], ℕ, zero, suc, List, Some, None, refl, sym, ap, subst}
use Rattle.asp_model.specs.Configuration.{Activity}
use Rattle.asp_model.specs.Contraction.{Becomes, Breaks, Communicates, Contraction, Faults, LineShape, Needs, contract}
use Rattle.asp_model.specs.History.{Committed, EntryShape, HistoryShape}
use Rattle.asp_model.specs.Names.{Name}
use Rattle.asp_model.specs.Split.{Context, Redex, Split, Splits, Stands, plug}
use Rattle.asp_model.specs.Store.{Store}
use Rattle.asp_model.specs.Term.{Tree}
use Rattle.law_journals.specs.Numbered.{IsFirst}
use Rattle.def_journals.specs.Journals.{RunShape, all_entered, entered, first_in, first_run, run_of}
use Rattle.law_chases.proofs.FutureLemmas.{some_is}
use Rattle.law_steps.specs.Reached.{IsAt}
use Rattle.law_journals.proofs.LeaseLemmas.{leases_stay}
use Rattle.code_table.specs.declared.code.Node.{Node}
use Rattle.activity_step.specs.Activities.{IsStopAt}
use Rattle.activity_step.specs.Local.{IsLocalStep, LocalRun}
use Rattle.law_core.specs.Commits.{HasRun}
use Rattle.core_state.specs.declared.lease.Lease.{Lease}
use Rattle.core_state.specs.Leases.{HasStopped}
use Rattle.core_state.specs.Arrivals.{act_at}
use Rattle.asp_core.specs.declared.cores.Core.{Core}
use Rattle.asp_core.specs.Calls.{HasEntered}
use Rattle.asp_core.specs.Cores.{IsRun, history_of}
use Rattle.asp_core.specs.Runs.{counted}
use Rattle.asp_core.specs.Stopping.{AllStopped, AreStoppedFrom, HasRunOut, IsStoppedEntry, StaysStopped, StopsAt}

-- Contractions lead to one activity

module _ (a b c : Activity) (x : IsLocalStep a b) (y : IsLocalStep a c) where
  contexts_of : Split → List Context
  contexts_of (Stands p) = x.contexts
  contexts_of (Splits contexts redex) = contexts

  redex_of : Split → Redex
  redex_of (Stands p) = x.redex
  redex_of (Splits contexts redex) = redex

  term_of : Contraction → Tree
  term_of (Becomes t store lines) = t
  term_of (Faults fault) = x.becomes
  term_of (Needs place) = x.becomes
  term_of (Communicates communication) = x.becomes
  term_of Breaks = x.becomes

  store_of : Contraction → Store
  store_of (Becomes t store lines) = store
  store_of (Faults fault) = x.store
  store_of (Needs place) = x.store
  store_of (Communicates communication) = x.store
  store_of Breaks = x.store

  lines_of : Contraction → List LineShape
  lines_of (Becomes t store lines) = lines
  lines_of (Faults fault) = x.added
  lines_of (Needs place) = x.added
  lines_of (Communicates communication) = x.added
  lines_of Breaks = x.added

  one_step : b ≡ c
  unfolding redex_of contexts_of term_of store_of lines_of
  one_step =
      let splits : Splits x.contexts x.redex ≡ Splits y.contexts y.redex = sym x.splits ∙ y.splits in
      let became : Becomes x.becomes x.store x.added ≡ Becomes y.becomes y.store y.added =
      sym x.is ∙ ap (λ q. contract a.store (redex_of q)) splits ∙ y.is in
      x.after
      ∙ (λ i. record a { term = plug (contexts_of (splits i)) (term_of (became i)); store = store_of (became i); lines = a.lines ++ lines_of (became i); reductions = suc a.reductions })
      ∙ sym y.after

one_end : (n : ℕ) (a b c : Activity) → LocalRun n a b → LocalRun n a c → b ≡ c
one_end zero a b c x y = sym x ∙ y
one_end (suc n) a b c x y =
    one_end n y.0 b c (subst (λ m. LocalRun n m b) (one_step a x.0 y.0 x.1 y.1) x.2) y.2

-- where a lease has stopped, the activity stops that its contractions led to
pub stops_there : (h : HistoryShape) (code : List Node) (s : RunShape) (l : Lease) (n : Name) (end : Activity) → IsFirst (first_in h) → run_of h ≡ Some s
    → HasStopped h code l → HasRun s l.number l.grant n l.taken end → StopsAt l.taken l.grant end
stops_there h code s l n end first run x ran =
    let z = x.lease in
    let since = leases_stay h l.number l.burst z.name z.run s first z.lent z.named run in
    let name : z.name ≡ n = some_is (sym since.named ∙ ran.named) in
    let there : IsAt s.configuration n z.activity = subst (λ m. IsAt s.configuration m z.activity) name (since.there ∙ z.there) in
    let activity : z.activity ≡ ran.activity = some_is (sym there ∙ ran.there) in
    let done = z.done x.fresh in
    let same : done.end ≡ end = one_end l.taken ran.activity done.end end (subst (λ a. LocalRun l.taken a done.end) activity done.run) ran.run in
    record { advance = x.advance; stop = subst (λ a. IsStopAt a x.advance) same x.stop; used = x.used }

-- One entry more

pub stopped_on : (xs : List EntryShape) (s t : RunShape) (e : EntryShape) → all_entered xs s ≡ Some t → IsStoppedEntry t e → AreStoppedFrom xs s → AreStoppedFrom (xs ++ e ∷ []) s
stopped_on [] s t e is stopped are = (subst (λ q. IsStoppedEntry q e) (sym (some_is is)) stopped, λ u _. tt)
stopped_on (x ∷ xs) s t e is stopped are = (
  are.0,
  λ u so. stopped_on xs u t e (sym (ap (λ o. elim o [ None ↦ None | Some v ↦ all_entered xs v ]) so) ∙ is) stopped (are.1 u so),
)

module _ {P : Type 0} where
  pub none_came : (x : Core P) → (history_of x).entries ≡ [] → AllStopped (history_of x)
  none_came x none = subst (λ es. AreStoppedFrom es (first_run (history_of x))) (sym none) tt

  pub stays_stopped : (x new : Core P) (s : RunShape) (e : EntryShape) → IsRun x s → HasEntered x e new → IsStoppedEntry s e
      → StaysStopped (history_of x) (history_of new)
  stays_stopped x new s e run entered stopped are =
      let h = history_of x in
      subst AllStopped (sym entered) (stopped_on h.entries (first_run h) s e run.stand.core.run stopped are)

  -- by a lease that had stopped
  pub comes_stopped : (x new : Core P) (s : RunShape) (code : List Node) (l : Lease) (n : Name) (end : Activity) → IsRun x s → HasStopped (history_of x) code l
      → HasRun s l.number l.grant n l.taken end → HasEntered x (Committed l.number (counted l.taken (act_at s n l.grant l.taken end))) new
      → StaysStopped (history_of x) (history_of new)
  comes_stopped x new s code l n end run has ran entered =
      let out : HasRunOut s l.number (counted l.taken (act_at s n l.grant l.taken end)) = record {
        name = n;
        grant = l.grant;
        taken = l.taken;
        end = end;
        has_run = ran;
        stops = stops_there (history_of x) code s l n end run.stand.core.first run.stand.core.run has ran;
        count = refl;
      } in
      stays_stopped x new s (Committed l.number (counted l.taken (act_at s n l.grant l.taken end))) run entered out
