-- Who is out after a call of the core.
use Rattle.std.proofs.Common.{◌≡◌, ◌≢◌, ◌≤◌, ◌+◌, ◌-◌, ◌*◌, ◌⊎◌, ⊎_elim, ◌&&◌, ◌∷◌, not, ℕ, Bool, true, false, Option, Some, None, Result, Ok, Err, OnOk, OnErr, IfOk, IfSome, sym, ap, refl, ◌∙◌, subst, nat_le, arith}
use Rattle.std.proofs.lemmas.Bool.{true≢false}
use Rattle.std.proofs.lemmas.Option.{none-some, same_Some}
use Rattle.std.specs.Option.{option_map}
use Rattle.asp_model.specs.Configuration.{Configuration}
use Rattle.asp_model.specs.History.{Committed, Delivered, DeliveryShape, Edge, HistoryShape, Lent, Need}
use Rattle.asp_model.specs.Names.{Name}
use Rattle.asp_model.specs.Shapes.{delivery_shape}
use Rattle.asp_model.specs.declared.journal.Delivery.{Delivery}
use Rattle.asp_model.specs.declared.limits.TheConstants.{MOST_GRANTED}
use Rattle.def_journals.specs.Journals.{RunShape, back, committed, delivered, granted, out_but, over, reduced}
use Rattle.law_journals.specs.Entered.{with_lease}
use Rattle.core_state.specs.declared.lease.Lease.{Lease}
use Rattle.core_state.specs.Leases.{IsLease}
use Rattle.core_state.proofs.ListLemmas.{numbers_apart}
use Rattle.core_edges.specs.Answers.{Answering, Counting}
use Rattle.asp_core.specs.declared.cores.Core.{Core}
use Rattle.asp_core.specs.Calls.{HasEntered, HasGoneOn, IsCommittedBy, IsLentBy, MayDeliver, owed_next}
use Rattle.asp_core.specs.Chosen.{StaysChosen}
use Rattle.asp_core.specs.Cores.{IsKept, IsRun, code_of, history_of}
use Rattle.asp_core.specs.Plans.{StayByPlan}
use Rattle.asp_core.specs.Stopping.{StaysStopped}
use Rattle.asp_core.proofs.OutAfterLemmas.{ComesFrom, comes_back, comes_delivered, comes_lent, comes_same, entry_run, runs_are_one}
use Rattle.race_desks.specs.Desks.{KeepsUnlessSpent}
use Rattle.race_desks.specs.Rows.{IsOut}
use Rattle.race_desks.proofs.OutLemmas.{out_lasts, ready_is_in}

-- What is left of the budget

-- each run comes from one before, of which no more was left than is left now, and this
abbrev pub KeepsLeft : {P : Type 0} → (old new : Core P) → ℕ → Type 0
KeepsLeft old new n = (t : RunShape) → IsRun new t → (s : RunShape) × IsRun old s × (s.left ≤ t.left + n)

pub left_same : {P : Type 0} (old new : Core P) → new ≡ old → KeepsLeft old new 0
left_same {P} old new same t is = (t, subst (λ (x : Core P). IsRun x t) same is, omega arith)

back_left : (s t : RunShape) (k rest : ℕ) (o : Option Configuration) → back s k rest o ≡ Some t → s.left ≤ t.left
back_left s t k rest None e = absurd (none-some t e)
back_left s t k rest (Some d) e = let is : s.left + rest ≡ t.left = ap (λ (r : RunShape). r.left) (same_Some _ t e) in omega (arith, is)

within_left : (s t : RunShape) (k r : ℕ) (n : Name) (grant : ℕ) (b : Bool) → elim b as (λ q. Option RunShape) [ true ↦ back s k (grant - r) (reduced r n s.configuration) | false ↦ None ] ≡ Some t → s.left ≤ t.left
within_left s t k r n grant true e = back_left s t k (grant - r) (reduced r n s.configuration) e
within_left s t k r n grant false e = absurd (none-some t e)

-- a commit gives back
committed_left : (s t : RunShape) (k r : ℕ) (n : Option Name) (grant : Option ℕ) → committed k r s n grant ≡ Some t → s.left ≤ t.left
committed_left s t k r None grant e = absurd (none-some t e)
committed_left s t k r (Some n) None e = absurd (none-some t e)
committed_left s t k r (Some n) (Some grant) e = within_left s t k r n grant (nat_le r grant) e

back_keeps : {P : Type 0} (old new : Core P) (s : RunShape) (k r : ℕ) → IsRun old s → HasEntered old (Committed k r) new → KeepsLeft old new 0
back_keeps old new s k r before more t is =
    let some : s.left ≤ t.left = committed_left s t k r _ _ (entry_run old new (Committed k r) s t before is more) in
    (s, before, omega (arith, some))

over_left : (s t : RunShape) (b : Bool) (o : Option Configuration) → elim b as (λ q. Option RunShape) [ true ↦ over s o | false ↦ None ] ≡ Some t → s.left ≤ t.left
over_left s t true None e = absurd (none-some t e)
over_left s t true (Some d) e = let is : s.left ≡ t.left = ap (λ (r : RunShape). r.left) (same_Some _ t e) in omega (arith, is)
over_left s t false o e = absurd (none-some t e)

-- and a delivery takes nothing
delivered_left : (d : DeliveryShape) (s t : RunShape) → delivered d s ≡ Some t → s.left ≤ t.left
delivered_left (Edge f from to) s t e = over_left s t _ _ e
delivered_left (Need f to place) s t e = over_left s t _ _ e

-- a core is spent or it is a run
module _ {P : Type 0} (old : Core P) (kept : IsKept old) where
  run_or_spent : (b : Bool) → old.spent ≡ b → {X : Type 0} → (old.spent ≡ true → X) → ((s : RunShape) → IsRun old s → X) → X
  run_or_spent true is spent run = spent is
  run_or_spent false is spent run = let r = kept is in run r.0 r.1

module _ {P A E : Type 0} (old new : Core P) (kept : IsKept old) (r : Result A E) (e : E) where
  when_err : {X : Type 0} → r ≡ Err e → OnErr r X → X
  when_err {X} is x = subst (λ (q : Result A E). OnErr q X) is x

  -- all others stay out by a commit
  pub commit_out : (l : Lease) (lease : IsLease (history_of old) (code_of old) l)
      → ((s : RunShape) → IsRun old s → (x : IsLease (history_of old) (code_of old) l) → OnOk r (IsCommittedBy old s l x.name new))
      → (old.spent ≡ true → r ≡ Err e) → OnErr r (history_of new ≡ history_of old)
      → (k burst : ℕ) → k ≢ l.number → IsOut (history_of old) k burst → IsOut (history_of new) k burst
  commit_out l lease committed spent err k burst other out =
      run_or_spent old kept old.spent refl
      (λ is. same (when_err (spent is) err))
      (λ s run. by_result s r (committed s run lease) err)
    where
      same : history_of new ≡ history_of old → IsOut (history_of new) k burst
      same is = subst (λ (h : HistoryShape). IsOut h k burst) (sym is) out

      by_result : (s : RunShape) (q : Result A E) → OnOk q (IsCommittedBy old s l lease.name new) → OnErr q (history_of new ≡ history_of old) → IsOut (history_of new) k burst
      by_result s (Ok v) c x = subst (λ (h : HistoryShape). IsOut h k burst) (sym c.on.entered)
          (out_lasts (history_of old) _ k burst (ap (λ b. not b && true) (numbers_apart k l.number other)) out)
      by_result s (Err v) c x = same x

  -- and who comes back is out no more
  pub commit_comes : (l : Lease) (lease : IsLease (history_of old) (code_of old) l)
      → ((s : RunShape) → IsRun old s → (x : IsLease (history_of old) (code_of old) l) → OnOk r (IsCommittedBy old s l x.name new))
      → (old.spent ≡ true → r ≡ Err e) → OnErr r (new.spent ≡ true) → ComesFrom old new (λ s. out_but l.number s.out)
  commit_comes l lease committed spent gives_up =
      run_or_spent old kept old.spent refl
      (λ is t run. absurd (true≢false (sym (when_err (spent is) gives_up) ∙ run.fresh)))
      (λ s run. by_result s run r (committed s run lease) gives_up)
    where
      by_result : (s : RunShape) → IsRun old s → (q : Result A E) → OnOk q (IsCommittedBy old s l lease.name new) → OnErr q (new.spent ≡ true) → ComesFrom old new (λ s. out_but l.number s.out)
      by_result s run (Ok v) c x = comes_back old new s l.number _ run c.on.entered
      by_result s run (Err v) c x = λ t is. absurd (true≢false (sym x ∙ is.fresh))

  -- and no budget is used beyond its grant
  pub commit_left : (l : Lease) (lease : IsLease (history_of old) (code_of old) l)
      → ((s : RunShape) → IsRun old s → (x : IsLease (history_of old) (code_of old) l) → OnOk r (IsCommittedBy old s l x.name new))
      → (old.spent ≡ true → r ≡ Err e) → OnErr r (new.spent ≡ true) → KeepsLeft old new 0
  commit_left l lease committed spent gives_up =
      run_or_spent old kept old.spent refl
      (λ is t run. absurd (true≢false (sym (when_err (spent is) gives_up) ∙ run.fresh)))
      (λ s run. by_result s run r (committed s run lease) gives_up)
    where
      by_result : (s : RunShape) → IsRun old s → (q : Result A E) → OnOk q (IsCommittedBy old s l lease.name new) → OnErr q (new.spent ≡ true) → KeepsLeft old new 0
      by_result s run (Ok v) c x = back_keeps old new s l.number _ run c.on.entered
      by_result s run (Err v) c x = λ t is. absurd (true≢false (sym x ∙ is.fresh))

  -- all stay out by a delivery
  pub deliver_out : (d : DeliveryShape)
      → ((s : RunShape) → IsRun old s → OnOk r (HasGoneOn old (Delivered d) new))
      → (old.spent ≡ true → r ≡ Err e) → OnErr r (history_of new ≡ history_of old)
      → (k burst : ℕ) → IsOut (history_of old) k burst → IsOut (history_of new) k burst
  deliver_out d delivered spent err k burst out =
      run_or_spent old kept old.spent refl
      (λ is. same (when_err (spent is) err))
      (λ s run. by_result r (delivered s run) err)
    where
      same : history_of new ≡ history_of old → IsOut (history_of new) k burst
      same is = subst (λ (h : HistoryShape). IsOut h k burst) (sym is) out

      by_result : (q : Result A E) → OnOk q (HasGoneOn old (Delivered d) new) → OnErr q (history_of new ≡ history_of old) → IsOut (history_of new) k burst
      by_result (Ok v) c x = subst (λ (h : HistoryShape). IsOut h k burst) (sym c.entered) (out_lasts (history_of old) (Delivered d) k burst refl out)
      by_result (Err v) c x = same x

  -- and nobody else is
  pub deliver_comes : (d : DeliveryShape)
      → ((s : RunShape) → IsRun old s → OnOk r (HasGoneOn old (Delivered d) new))
      → (old.spent ≡ true → r ≡ Err e) → OnErr r (new.spent ≡ true) → ComesFrom old new (λ s. s.out)
  deliver_comes d delivered spent gives_up =
      run_or_spent old kept old.spent refl
      (λ is t run. absurd (true≢false (sym (when_err (spent is) gives_up) ∙ run.fresh)))
      (λ s run. by_result s run r (delivered s run) gives_up)
    where
      by_result : (s : RunShape) → IsRun old s → (q : Result A E) → OnOk q (HasGoneOn old (Delivered d) new) → OnErr q (new.spent ≡ true) → ComesFrom old new (λ s. s.out)
      by_result s run (Ok v) c x = comes_delivered old new s d run c.entered
      by_result s run (Err v) c x = λ t is. absurd (true≢false (sym x ∙ is.fresh))

  -- and as much budget is left
  pub deliver_left : (d : DeliveryShape)
      → ((s : RunShape) → IsRun old s → OnOk r (HasGoneOn old (Delivered d) new))
      → (old.spent ≡ true → r ≡ Err e) → OnErr r (new.spent ≡ true) → KeepsLeft old new 0
  deliver_left d delivered spent gives_up =
      run_or_spent old kept old.spent refl
      (λ is t run. absurd (true≢false (sym (when_err (spent is) gives_up) ∙ run.fresh)))
      (λ s run. by_result s run r (delivered s run) gives_up)
    where
      by_result : (s : RunShape) → IsRun old s → (q : Result A E) → OnOk q (HasGoneOn old (Delivered d) new) → OnErr q (new.spent ≡ true) → KeepsLeft old new 0
      by_result s run (Ok v) c x = λ t is. let some = delivered_left d s t (entry_run old new (Delivered d) s t run is c.entered) in (s, run, omega (arith, some))
      by_result s run (Err v) c x = λ t is. absurd (true≢false (sym x ∙ is.fresh))

  -- what is owed next was chosen
  pub deliver_chosen : (d : DeliveryShape) → ((s : RunShape) → IsRun old s → owed_next old s ≡ Some d)
      → ((s : RunShape) → IsRun old s → owed_next old s ≡ Some d → OnOk r (StaysChosen old new))
      → (old.spent ≡ true → r ≡ Err e) → OnOk r (StaysChosen old new)
  deliver_chosen d owed chosen spent =
      run_or_spent old kept old.spent refl
      (λ is. subst (λ (q : Result A E). OnOk q (StaysChosen old new)) (sym (spent is)) tt)
      (λ s run. chosen s run (owed s run))

-- a lend that gives a lease: it is out, nobody was who has this number, and all others stay out
pub record Lends {P : Type 0} (old new : Core P) (k : ℕ) (l : Lease) : Type 0 where
  pub lease : IsLease (history_of new) (code_of new) l
  pub number : l.number ≡ k
  pub free : (burst : ℕ) → IsOut (history_of old) k burst → ⊥
  pub others : (j burst : ℕ) → IsOut (history_of old) j burst → IsOut (history_of new) j burst
  pub comes : ComesFrom old new (λ s. (k, granted s) ∷ s.out)
  pub left : (t : RunShape) → IsRun new t → (s : RunShape) × IsRun old s × (t.left ≡ s.left - granted s)

module _ {P : Type 0} (old new : Core P) (kept : IsKept old) (k : ℕ) (r : Option Lease)
    (lent : (s : RunShape) → IsRun old s → IsLentBy old s k r new) (spent : old.spent ≡ true → (r ≡ None) × (new ≡ old)) where
  pub lends : (l : Lease) → r ≡ Some l → Lends old new k l
  lends l is = run_or_spent old kept old.spent refl (λ e. absurd (none-some l (sym (spent e).0 ∙ is))) (λ s run.
      let x : IsLentBy old s k (Some l) new = subst (λ (q : Option Lease). IsLentBy old s k q new) is (lent s run) in
      let free = λ (burst : ℕ) (out : IsOut (history_of old) k burst). ready_is_in (history_of old) s k burst run.stand.core.first run.stand.core.run x.0 out in record {
        lease = x.3.lease;
        number = x.3.number;
        free = free;
        comes = comes_lent old new s k run x.2;
        left = λ t is. (s, run, ap (λ (r : RunShape). r.left) (runs_are_one new t (with_lease s k) is x.2));
        others = λ j burst out. subst (λ (h : HistoryShape). IsOut h j burst) (sym x.1)
            (out_lasts (history_of old) (Lent k) j burst (ap (λ b. not b && true) (numbers_apart j k (λ same. free burst (subst (λ (i : ℕ). IsOut (history_of old) i burst) same out)))) out);
      })

  -- and nothing changes where there is none
  pub lends_none : r ≡ None → new ≡ old
  lends_none is = run_or_spent old kept old.spent refl (λ e. (spent e).1) (λ s run.
      let x : IsLentBy old s k None new = subst (λ (q : Option Lease). IsLentBy old s k q new) is (lent s run) in x.1)

-- what is owed next may be delivered
module _ {P E : Type 0} (old new : Core P) (r : Result (Option Delivery) E) where
  pub owed_may : (o : Option Delivery) → r ≡ Ok o → OnOk r (new ≡ old)
      → ((s : RunShape) → IsRun old s → IfOk r (λ p. IfSome p (λ x. MayDeliver s (delivery_shape x))))
      → IfSome o (λ d. (s : RunShape) → IsRun new s → MayDeliver s (delivery_shape d))
  owed_may None is same may = tt
  owed_may (Some d) is same may = λ s run.
      let before : new ≡ old = subst (λ (q : Result (Option Delivery) E). OnOk q (new ≡ old)) is same in
      subst (λ (q : Result (Option Delivery) E). IfOk q (λ p. IfSome p (λ x. MayDeliver s (delivery_shape x)))) is
      (may s (subst (λ (x : Core P). IsRun x s) before run))

  -- it is what is owed next
  pub owed_is : (o : Option Delivery) → r ≡ Ok o → OnOk r (new ≡ old)
      → ((s : RunShape) → IsRun old s → IfOk r (λ p. option_map delivery_shape p ≡ owed_next old s))
      → IfSome o (λ d. (s : RunShape) → IsRun new s → owed_next new s ≡ Some (delivery_shape d))
  owed_is None is same next = tt
  owed_is (Some d) is same next = λ s run.
      let before : new ≡ old = subst (λ (q : Result (Option Delivery) E). OnOk q (new ≡ old)) is same in
      let told = subst (λ (q : Result (Option Delivery) E). IfOk q (λ p. option_map delivery_shape p ≡ owed_next old s)) is (next s (subst (λ (x : Core P). IsRun x s) before run)) in
      ap (λ (x : Core P). owed_next x s) before ∙ sym told

  -- and who is out stays so
  pub owed_comes : OnOk r (new ≡ old) → OnErr r (new.spent ≡ true) → ComesFrom old new (λ s. s.out)
  owed_comes same gives_up = by r same gives_up
    where
      by : (q : Result (Option Delivery) E) → OnOk q (new ≡ old) → OnErr q (new.spent ≡ true) → ComesFrom old new (λ s. s.out)
      by (Ok o) is x = comes_same old new is
      by (Err e) is x = λ t run. absurd (true≢false (sym x ∙ run.fresh))

-- nor is budget used where it is asked what is owed
pub owed_left : {P A E : Type 0} (old new : Core P) (r : Result A E) → OnOk r (new ≡ old) → OnErr r (new.spent ≡ true) → KeepsLeft old new 0
owed_left old new (Ok o) is x = left_same old new is
owed_left old new (Err e) is x = λ t run. absurd (true≢false (sym x ∙ run.fresh))

-- What a core keeps by a call, unless it is spent
module _ {P : Type 0} (answers : Answering P) (counts : Counting P) (old new : Core P) where
  -- it was not spent before, where that would leave it spent
  was_fresh : (b : Bool) → old.spent ≡ b → (old.spent ≡ true → new.spent ≡ true) → new.spent ≡ false → old.spent ≡ false
  was_fresh true is stays fresh = absurd (true≢false (sym (stays is) ∙ fresh))
  was_fresh false is stays fresh = is

  pub keeps_by : {A E : Type 0} (r : Result A E) (e : E) → (old.spent ≡ true → r ≡ Err e) → OnErr r (new.spent ≡ true) → OnOk r (StayByPlan answers counts old.edges new.edges) → OnOk r (StaysChosen old new)
      → OnOk r (StaysStopped (history_of old) (history_of new)) → KeepsUnlessSpent answers counts old new
  keeps_by {A} {E} (Ok x) e spent err stay chosen stopped fresh = record {
    fresh = was_fresh old.spent refl (λ is. absurd (subst (λ (q : Result A E). OnOk q ⊥) (sym (spent is)) tt)) fresh;
    plan = stay;
    chosen = chosen;
    stopped = stopped;
  }
  keeps_by (Err x) e spent err stay chosen stopped fresh = absurd (true≢false (sym err ∙ fresh))

  pub keeps_lent : {A : Type 0} → (old.spent ≡ true → A × (new ≡ old)) → StayByPlan answers counts old.edges new.edges → StaysChosen old new → StaysStopped (history_of old) (history_of new)
      → KeepsUnlessSpent answers counts old new
  keeps_lent spent stay chosen stopped fresh = record {
    fresh = was_fresh old.spent refl (λ is. ap (λ (x : Core P). x.spent) (spent is).1 ∙ is) fresh;
    plan = stay;
    chosen = chosen;
    stopped = stopped;
  }

  pub keeps_owed : {A E : Type 0} (r : Result A E) (e : E) → (old.spent ≡ true → r ≡ Err e) → OnErr r (new.spent ≡ true) → OnOk r (new ≡ old) → KeepsUnlessSpent answers counts old new
  keeps_owed r e spent err same =
      keeps_by r e spent err
      (as_before (λ (c : Core P). StayByPlan answers counts old.edges c.edges) (λ plan policies is. is) r same)
      (as_before (λ (c : Core P). StaysChosen old c) (λ chosen. chosen) r same)
      (as_before (λ (c : Core P). StaysStopped (history_of old) (history_of c)) (λ stopped. stopped) r same)
    where
      as_before : {A E : Type 0} (Q : Core P → Type 0) → Q old → (q : Result A E) → OnOk q (new ≡ old) → OnOk q (Q new)
      as_before Q was (Ok x) is = subst Q (sym is) was
      as_before Q was (Err x) is = is

-- a lend leaves what is kept for others, and for itself as much as is said
pub reserve_fits : {P : Type 0} (old new : Core P) (reserved rounds before after : ℕ) → ((t : RunShape) → IsRun new t → (s : RunShape) × IsRun old s × (t.left ≡ s.left - granted s))
    → ((s : RunShape) → IsRun old s → before ≡ s.left) → ((s : RunShape) → IsRun new s → after ≡ s.left)
    → (reserved ≡ 0) ⊎ ((reserved + 1) * MOST_GRANTED ≤ before) → (reserved * MOST_GRANTED ≤ after → (reserved + rounds) * MOST_GRANTED ≤ after)
    → (t : RunShape) → IsRun new t → (reserved + rounds) * MOST_GRANTED ≤ t.left
reserve_fits old new reserved rounds before after lent was is leaves kept t run =
    let c = lent t run in
    let first = was c.0 c.1 in
    let now = is t run in
    let still : reserved * MOST_GRANTED ≤ after = ⊎_elim
    (λ (none : reserved ≡ 0). omega (arith, none))
    (λ (some : (reserved + 1) * MOST_GRANTED ≤ before). omega (arith, some, first, c.2, now))
    leaves in
    let fits = kept still in
    omega (arith, fits, now)
