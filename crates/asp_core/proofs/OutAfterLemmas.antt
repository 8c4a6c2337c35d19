-- Who is out after an entry, and a core of which nobody is.
use Rattle.std.proofs.Common.{◌≡◌, ◌==◌, ◌-◌, ◌∙◌, ◌∷◌, [], ℕ, Bool, true, false, nat_le, List, Option, Some, None, Result, Ok, Err, OnOk, is_some, refl, sym, ap, subst, arith}
use Rattle.asp_model.specs.Configuration.{Configuration}
use Rattle.asp_model.specs.History.{Committed, Delivered, DeliveryShape, Edge, EntryShape, HistoryShape, Need}
use Rattle.asp_model.specs.Names.{Name}
use Rattle.def_journals.specs.Journals.{RunShape, back, committed, delivered, entered, grant_of, granted, out_but, over, reduced, run_of}
use Rattle.law_chases.proofs.FutureLemmas.{no_some, some_is}
use Rattle.law_journals.specs.Entered.{with_lease}
use Rattle.law_journals.proofs.GrowingLemmas.{entries_go_on}
use Rattle.law_core.proofs.VerdictLemmas.{verdicts_are_told}
use Rattle.core_state.specs.declared.lease.Lease.{Lease}
use Rattle.core_state.specs.Leases.{IsLease}
use Rattle.asp_core.specs.declared.cores.Core.{Core}
use Rattle.asp_core.specs.Cores.{IsHome, IsKept, IsRun, code_of, history_of}
use Rattle.asp_core.specs.Calls.{HasEntered, IsCommittedBy, verdict_of}
use Rattle.asp_core.specs.Over.{HasNothingToDo, IsHomeBut, IsOver}

-- Who is out after an entry

back_out : (s t : RunShape) (k rest : ℕ) (o : Option Configuration) → back s k rest o ≡ Some t → t.out ≡ out_but k s.out
back_out s t k rest None e = no_some e
back_out s t k rest (Some d) e = ap (λ (r : RunShape). r.out) (sym (some_is e))

within_out : (s t : RunShape) (k r : ℕ) (n : Name) (grant : ℕ) (b : Bool) → elim b as (λ q. Option RunShape) [ true ↦ back s k (grant - r) (reduced r n s.configuration) | false ↦ None ] ≡ Some t → t.out ≡ out_but k s.out
within_out s t k r n grant true e = back_out s t k (grant - r) (reduced r n s.configuration) e
within_out s t k r n grant false e = no_some e

pub committed_out : (s t : RunShape) (k r : ℕ) (n : Option Name) (grant : Option ℕ) → committed k r s n grant ≡ Some t → t.out ≡ out_but k s.out
committed_out s t k r None grant e = no_some e
committed_out s t k r (Some n) None e = no_some e
committed_out s t k r (Some n) (Some grant) e = within_out s t k r n grant (nat_le r grant) e

over_out : (s t : RunShape) (b : Bool) (o : Option Configuration) → elim b as (λ q. Option RunShape) [ true ↦ over s o | false ↦ None ] ≡ Some t → t.out ≡ s.out
over_out s t true None e = no_some e
over_out s t true (Some d) e = ap (λ (r : RunShape). r.out) (sym (some_is e))
over_out s t false o e = no_some e

pub delivered_out : (d : DeliveryShape) (s t : RunShape) → delivered d s ≡ Some t → t.out ≡ s.out
delivered_out (Edge f from to) s t e = over_out s t _ _ e
delivered_out (Need f to place) s t e = over_out s t _ _ e

nobody_out : (out : List (ℕ × ℕ)) → ((k : ℕ) → grant_of k out ≡ None) → out ≡ []
nobody_out [] none = refl
nobody_out (x ∷ xs) none = no_some (sym (none x.0) ∙ ap {A = Bool} (λ b. elim b [ true ↦ Some x.1 | false ↦ grant_of x.0 xs ]) (itself x.0))
  where
    itself : (k : ℕ) → (k == k) ≡ true
    itself k = grind arith

alone_out : (k grant : ℕ) (out : List (ℕ × ℕ)) → out ≡ [] → out_but k ((k, grant) ∷ out) ≡ []
alone_out k grant out none = ap {A = Bool} (λ b. elim b [ true ↦ out_but k out | false ↦ (k, grant) ∷ out_but k out ]) (itself k) ∙ ap (out_but k) none
  where
    itself : (k : ℕ) → (k == k) ≡ true
    itself k = grind arith

module _ {P : Type 0} where
  pub runs_are_one : (x : Core P) (s t : RunShape) → IsRun x s → IsRun x t → s ≡ t
  runs_are_one x s t a b = some_is (sym a.stand.core.run ∙ b.stand.core.run)

  -- the run of a core whose journal has one entry more
  pub entry_run : (x y : Core P) (e : EntryShape) (s t : RunShape) → IsRun x s → IsRun y t → HasEntered x e y → entered e s ≡ Some t
  entry_run x y e s t is then more =
      let h : HistoryShape = history_of x in
      sym (entries_go_on h e s is.stand.core.run)
      ∙ ap run_of (sym more) ∙ then.stand.core.run

  -- Each run of a core comes from a run of an earlier one, and these are out then
  abbrev pub ComesFrom : (old new : Core P) → (RunShape → List (ℕ × ℕ)) → Type 0
  ComesFrom old new out = (t : RunShape) → IsRun new t → (s : RunShape) × IsRun old s × (t.out ≡ out s)

  pub comes_same : (old new : Core P) → new ≡ old → ComesFrom old new (λ s. s.out)
  comes_same old new same t is = (t, subst (λ (x : Core P). IsRun x t) same is, refl)

  pub comes_lent : (old new : Core P) (s : RunShape) (k : ℕ) → IsRun old s → IsRun new (with_lease s k) → ComesFrom old new (λ s. (k, granted s) ∷ s.out)
  comes_lent old new s k before after t is = (s, before, ap (λ (r : RunShape). r.out) (runs_are_one new t (with_lease s k) is after))

  pub comes_delivered : (old new : Core P) (s : RunShape) (d : DeliveryShape) → IsRun old s → HasEntered old (Delivered d) new → ComesFrom old new (λ s. s.out)
  comes_delivered old new s d before more t is = (s, before, delivered_out d s t (entry_run old new (Delivered d) s t before is more))

  pub comes_back : (old new : Core P) (s : RunShape) (k r : ℕ) → IsRun old s → HasEntered old (Committed k r) new → ComesFrom old new (λ s. out_but k s.out)
  comes_back old new s k r before more t is = (s, before, committed_out s t k r _ _ (entry_run old new (Committed k r) s t before is more))

  -- Cores of which nobody is out

  pub home_by : (x : Core P) → ((s : RunShape) → IsRun x s → (k : ℕ) → grant_of k s.out ≡ None) → IsHome x
  home_by x none s is = nobody_out s.out (none s is)

  pub home_still : (old new : Core P) → ComesFrom old new (λ s. s.out) → IsHome old → IsHome new
  home_still old new comes home t is = let c = comes t is in c.2 ∙ home c.0 c.1

  pub home_but_lent : (old new : Core P) (k : ℕ) → ComesFrom old new (λ s. (k, granted s) ∷ s.out) → IsHome old → IsHomeBut new k
  home_but_lent old new k comes home t is = let c = comes t is in ap (out_but k) c.2 ∙ alone_out k (granted c.0) c.0.out (home c.0 c.1)

  pub home_again : (old new : Core P) (k : ℕ) → ComesFrom old new (λ s. out_but k s.out) → IsHomeBut old k → IsHome new
  home_again old new k comes alone t is = let c = comes t is in c.2 ∙ alone c.0 c.1

  -- by a commit of the one that is out
  pub home_back : {A E : Type 0} (old new : Core P) (kept : IsKept old) (l : Lease) (lease : IsLease (history_of old) (code_of old) l) (r : Result A E) (e : E)
      → ((s : RunShape) → IsRun old s → (x : IsLease (history_of old) (code_of old) l) → OnOk r (IsCommittedBy old s l x.name new))
      → (old.spent ≡ true → r ≡ Err e) → IsHomeBut old l.number → OnOk r (IsHome new)
  home_back {A} {E} old new kept l lease r e committed spent alone = by old.spent refl
    where
      on : (s : RunShape) → IsRun old s → (q : Result A E) → OnOk q (IsCommittedBy old s l lease.name new) → OnOk q (IsHome new)
      on s run (Ok v) c = home_again old new l.number (comes_back old new s l.number _ run c.on.entered) alone
      on s run (Err v) c = tt

      by : (b : Bool) → old.spent ≡ b → OnOk r (IsHome new)
      by true is = subst (λ (q : Result A E). OnOk q (IsHome new)) (sym (spent is)) tt
      by false is = let k = kept is in on k.0 k.1 r (committed k.0 k.1 lease)

  -- where nothing is left to do, and nobody is out, the verdict is told
  pub over_by : (x : Core P) → IsHome x → HasNothingToDo x → IsOver x
  over_by x home still = record { run = still.run; is = still.is; told = told }
    where
      told : (s : RunShape) → IsRun x s → is_some (verdict_of x s) ≡ true
      told s is =
          let core = is.stand.core in
          ap is_some (verdicts_are_told s x.edges.holders.holders x.edges.holders.answers core.whole.sound core.numbered
          (record { back = home s is; owed = still.owed s is; ready = still.ready s is }))
