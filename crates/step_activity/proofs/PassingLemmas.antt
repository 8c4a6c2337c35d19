-- The members that an activity has passed, by its redex as it is told.
use Rattle.std.proofs.Common.{◌≡◌, ◌∙◌, ℕ, List, [], ◌∷◌, sym, ap, subst}
use Rattle.asp_model.specs.Names.{FutureShape}
use Rattle.asp_model.specs.Chase.{Chase}
use Rattle.asp_model.specs.Configuration as model
use Rattle.asp_model.specs.Split as terms
use Rattle.asp_model.specs.Split.{Context, Redex, Splits, split}
use Rattle.asp_model.specs.Store.{Store, cell}
use Rattle.asp_model.specs.Term as term
use Rattle.asp_model.specs.Term.{Head, WaitAll}
use Rattle.step_rows.specs.Decisions.{value_redex}
use Rattle.step_rows.specs.Redexes.{IsRedex}
use Rattle.step_rows.specs.declared.redex.Redex.{Redex as Told}
use Rattle.step_rows.specs.declared.redex.Redex.TheVariants as redex
use Rattle.activity_step.specs.Activities.{StandsFor}
use Rattle.activity_step.specs.Standings.{IsAt}
use Rattle.code_table.specs.Shapes.{store_of}
use Rattle.object_store.specs.View.{StoreView}
use Rattle.step_reads.specs.declared.strict.Strict.{Strict}
use Rattle.step_reads.specs.declared.strict.Strict.TheVariants as strict
use Rattle.step_reads.specs.Passed.{ArePassed}
use Rattle.step_reads.specs.Strict.{strict_in}
use Rattle.step_reads.proofs.PassedLemmas.{members_first}
use Rattle.code_table.specs.declared.code.Node.{Node}
use Rattle.step_activity.specs.declared.actor.Actor.{Actor}
use Rattle.step_activity.specs.Actors.{IsClosedFor, code_of}
use Rattle.step_activity.specs.Clear.{AreClearAt, HasClear}
use Rattle.step_activity.specs.Passing.{HasPassed, IsPassedFor}
use Rattle.step_activity.proofs.IntentLemmas.{same_redex}

abbrev waiting : ℕ → Redex
waiting i = value_redex WaitAll (i ∷ [])

other_head : (h : Head) (r : Redex) (i : ℕ) → waiting i ≡ r → r.head ≡ h → WaitAll ≡ h
other_head h r i e is = ap (λ (q : Redex). q.head) e ∙ is

-- its strict operands are the members of a group
waits : (i : ℕ) (x : Told) → IsRedex (waiting i) x → strict_in x ≡ strict.Members i
waits i (redex.WaitAll j) is = let places : i ∷ [] ≡ j ∷ [] = ap (λ (q : Redex). q.places) is in let same : j ≡ i = cc in ap (λ (m : ℕ). strict.Members m) same
waits i redex.Goes is = let none : i ∷ [] ≡ [] = is.operands in absurd cc
waits i (redex.If j) is = let e : WaitAll ≡ term.If = ap (λ (q : Redex). q.head) is.2 in absurd cc
waits i (redex.Get j l) is = let e : WaitAll ≡ term.Get l.now.text = ap (λ (q : Redex). q.head) is in absurd cc
waits i (redex.Put j l m) is = let e : WaitAll ≡ term.Put l.now.text = ap (λ (q : Redex). q.head) is in absurd cc
waits i (redex.Call j l ks) is = let e : WaitAll ≡ term.Call l.now.text = ap (λ (q : Redex). q.head) is in absurd cc
waits i (redex.Clone j) is = let e : WaitAll ≡ term.Clone = ap (λ (q : Redex). q.head) is in absurd cc
waits i (redex.Active j l) is = let e : WaitAll ≡ term.Active _ = ap (λ (q : Redex). q.head) is in absurd cc
waits i (redex.Serve ls) is = let e : WaitAll ≡ term.Serve _ = ap (λ (q : Redex). q.head) is in absurd cc
waits i (redex.Operate sign j m) is = let e : WaitAll ≡ term.Operate _ = ap (λ (q : Redex). q.head) is in absurd cc
waits i (redex.Print j) is = let e : WaitAll ≡ term.Print = ap (λ (q : Redex). q.head) is in absurd cc
waits i (redex.Scatter j l m) is = let e : WaitAll ≡ term.Scatter l.now.text = ap (λ (q : Redex). q.head) is in absurd cc
waits i (redex.Size j) is = let e : WaitAll ≡ term.Size = ap (λ (q : Redex). q.head) is in absurd cc
waits i (redex.Pending ls) is = let e : WaitAll ≡ term.Pending _ = ap (λ (q : Redex). q.head) is in absurd cc
waits i (redex.Member j m) is = let e : WaitAll ≡ term.Member = ap (λ (q : Redex). q.head) is in absurd cc

module _ (chases : FutureShape → Chase) (a : model.Activity) (k : ℕ) where
  told_has : (x : Told) → IsAt a x → ArePassed chases a.store (strict_in x) k → HasPassed chases a k
  told_has x at h = λ cs i e.
      let same : at.redex ≡ waiting i = same_redex at.contexts cs at.redex (waiting i) (sym at.splits ∙ e) in
      subst (λ (z : Strict). ArePassed chases a.store z k) (waits i x (subst (λ (r : Redex). IsRedex r x) same at.is)) h

  has_told : (x : Told) → IsAt a x → HasPassed chases a k → ArePassed chases a.store (strict_in x) k
  has_told (redex.WaitAll i) at h = h at.contexts i (at.splits ∙ ap (λ (r : Redex). Splits at.contexts r) at.is)
  has_told x at h = tt

module _ (a : model.Activity) (k : ℕ) where
  pub told_clear : (x : Told) → IsAt a x → AreClearAt a.store (strict_in x) k → HasClear a k
  told_clear x at h = λ cs i e.
      let same : at.redex ≡ waiting i = same_redex at.contexts cs at.redex (waiting i) (sym at.splits ∙ e) in
      subst (λ (z : Strict). AreClearAt a.store z k) (waits i x (subst (λ (r : Redex). IsRedex r x) same at.is)) h

  pub clear_told : (x : Told) → IsAt a x → HasClear a k → AreClearAt a.store (strict_in x) k
  clear_told (redex.WaitAll i) at h = h at.contexts i (at.splits ∙ ap (λ (r : Redex). Splits at.contexts r) at.is)
  clear_told x at h = tt

-- how many have come, once the others were looked at
pub looked_on : (x : Actor) (a : model.Activity) (told : Told) → IsAt a told → StandsFor x.activity a → (t : StoreView) → t ≡ x.activity.state.store → (z : Strict) → z ≡ strict_in told → (from n : ℕ)
    → ((m : List Node) → AreClearAt (store_of m t.cells) z from → AreClearAt (store_of m t.cells) z n) → HasClear a from → HasClear a n
looked_on x a told at for t store z e from n on h =
    let m : List Node = code_of x in
    let own : store_of m t.cells ≡ a.store = ap (λ (v : StoreView). store_of m v.cells) store ∙ for.state.store in
    let before : AreClearAt a.store z from = subst (λ (y : Strict). AreClearAt a.store y from) (sym e) (clear_told a from told at h) in
    let now : AreClearAt a.store z n = subst (λ (s : Store). AreClearAt s z n) own (on m (subst (λ (s : Store). AreClearAt s z from) (sym own) before)) in
    told_clear a n told at (subst (λ (y : Strict). AreClearAt a.store y n) e now)

-- at a place nothing is waited for
pub none_passed : (chases : FutureShape → Chase) (a : model.Activity) (p k : ℕ) → split a.term ≡ terms.Stands p → HasPassed chases a k
none_passed chases a p k e = λ cs i h. let both : terms.Stands p ≡ Splits cs (waiting i) = sym e ∙ h in absurd cc

-- and at first nobody is passed
pub first_passed : (chases : FutureShape → Chase) (a : model.Activity) → HasPassed chases a 0
first_passed chases a = λ cs i e. members_first chases a.store (cell a.store i)

-- An actor's own store

module _ (x : Actor) (chases : FutureShape → Chase) (a : model.Activity) (told : Told) (at : IsAt a told) (for : StandsFor x.activity a) (m : List Node) (t : StoreView) (code : m ≡ code_of x) (store : t ≡ x.activity.state.store) (k : ℕ) where
  own : store_of m t.cells ≡ a.store
  own = (λ i. store_of (code i) (store i).cells) ∙ for.state.store

  pub passed_now : ArePassed chases (store_of m t.cells) (strict_in told) k → HasPassed chases a k
  passed_now h = told_has chases a k told at (subst (λ (s : Store). ArePassed chases s (strict_in told) k) own h)

  pub passed_before : HasPassed chases a k → ArePassed chases (store_of m t.cells) (strict_in told) k
  passed_before h = subst (λ (s : Store). ArePassed chases s (strict_in told) k) (sym own) (has_told chases a k told at h)

pub at_first : (x : Actor) (chases : FutureShape → Chase) → IsClosedFor x → IsPassedFor chases x 0
at_first x chases h = record { activity = h.activity; received = h.received; stands = h.stands; passed = first_passed chases h.activity }
