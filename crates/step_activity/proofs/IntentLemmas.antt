-- What an activity intends where it stands, and what is left when that is done.
use Rattle.std.proofs.Common.{◌≡◌, ◌++◌, ℕ, suc, true, false, List, refl, sym, ap, ◌∙◌, subst}
use Rattle.asp_model.specs.Names.{FutureShape, Name, Text}
use Rattle.asp_model.specs.Term.{Head, Serve, Tree}
use Rattle.asp_model.specs.Store.{Store, cell}
use Rattle.asp_model.specs.Split as terms
use Rattle.asp_model.specs.Split.{Context, Redex, Split, Splits, split}
use Rattle.asp_model.specs.Chase.{Chase}
use Rattle.asp_model.specs.Contraction as contraction
use Rattle.asp_model.specs.Contraction.{Communication, Contraction, Becomes, Faults, Needs, Communicates, Breaks, Creates, Sends, Serves, Polls, contract, strict_members, strict_operands}
use Rattle.asp_model.specs.Configuration as model
use Rattle.asp_model.specs.Configuration.{RequestShape}
use Rattle.asp_model.specs.Intent.{Intent, Rests, Awaits, Ready, Reads, Lacks, operands_ready, redex_ready, intent, contracts, ends_service, labels_served, newest}
use Rattle.law_steps.specs.Waking.{labels_at, labels_of_head, labels_wanted}
use Rattle.law_steps.proofs.ContractionLemmas.{serves_by_head}
use Rattle.activity_step.specs.declared.activity.Activity.{Activity}
use Rattle.activity_step.specs.declared.advance.Advance.{Advance}
use Rattle.activity_step.specs.declared.advance.Advance.TheVariants as advance
use Rattle.activity_step.specs.Activities.{IsAfter, StandsFor}
use Rattle.activity_step.specs.Standings as step
use Rattle.activity_step.specs.Standings.{IsAt}
use Rattle.step_rows.specs.declared.redex.Redex.{Redex as Told}
use Rattle.step_reads.specs.declared.strict.Strict.{Strict}
use Rattle.step_reads.specs.Strict.{strict_in, strict_ready}
use Rattle.step_reads.proofs.ReadyLemmas.{ready_in}
use Rattle.step_activity.specs.declared.actor.Actor.{Actor}
use Rattle.step_activity.specs.declared.act.Given.TheVariants as given
use Rattle.step_activity.specs.Actors.{HasOperands, Stands, code_of}
use Rattle.step_activity.specs.Asking.{communicates}
use Rattle.step_activity.specs.Effects.{IsDoneBy}
use Rattle.step_activity.proofs.StandLemmas.{stands_with}

abbrev pub intended : List RequestShape → Name → model.Activity → List Context → Redex → Ready → Intent
intended rs n a cs r x = elim x [ Lacks f ↦ Rests (Awaits f) | Reads s ↦ contracts rs n a cs s (contract s r) ]

abbrev pub intent_at : (FutureShape → Chase) → List RequestShape → Name → model.Activity → Split → Intent
intent_at chases rs n a v = elim v [ terms.Stands p ↦ ends_service a p (newest a.services) | Splits cs r ↦ intended rs n a cs r (redex_ready chases a.store r) ]

pub intent_place : (chases : FutureShape → Chase) (rs : List RequestShape) (n : Name) (a : model.Activity) (p : ℕ) → split a.term ≡ terms.Stands p → intent chases rs n a ≡ ends_service a p (newest a.services)
intent_place chases rs n a p e = ap (intent_at chases rs n a) e

pub intent_redex : (chases : FutureShape → Chase) (rs : List RequestShape) (n : Name) (a : model.Activity) (cs : List Context) (r : Redex) (x : Ready) → split a.term ≡ Splits cs r → redex_ready chases a.store r ≡ x → intent chases rs n a ≡ intended rs n a cs r x
intent_redex chases rs n a cs r x e ready = ap (intent_at chases rs n a) e ∙ ap (intended rs n a cs r) ready

-- Over the store where operands are read

-- a `serve` reads the activity's own store, and all else the store of its operands
abbrev pub OwnFor : Store → Store → Contraction → Type 0
OwnFor own s c = (labels : List Text) → c ≡ Communicates (Serves labels) → s ≡ own

contracts_over : (rs : List RequestShape) (n : Name) (a : model.Activity) (cs : List Context) (s : Store) (c : Contraction) → OwnFor a.store s c → contracts rs n a cs s c ≡ contracts rs n (record a { store = s }) cs s c
contracts_over rs n a cs s (Becomes t u ls) own = refl
contracts_over rs n a cs s (Faults f) own = refl
contracts_over rs n a cs s (Needs p) own = refl
contracts_over rs n a cs s (Communicates (Creates p service)) own = refl
contracts_over rs n a cs s (Communicates (Sends m l ks)) own = refl
contracts_over rs n a cs s (Communicates (Serves labels)) own = ap (λ (t : Store). contracts rs n (record a { store = t }) cs s (Communicates (Serves labels))) (sym (own labels refl))
contracts_over rs n a cs s (Communicates (Polls labels)) own = refl
contracts_over rs n a cs s Breaks own = refl

reads_is : (s t : Store) → Reads s ≡ Reads t → s ≡ t
reads_is s t e = ap (λ (x : Ready). elim x [ Reads u ↦ u | Lacks f ↦ s ]) e

abbrev ready_of : (FutureShape → Chase) → Store → Head → List ℕ → Ready
ready_of chases s h ns = elim (operands_ready chases s (strict_operands h ns)) [ Reads t ↦ operands_ready chases t (strict_members t h ns) | Lacks f ↦ Lacks f ]

pub own_for : (chases : FutureShape → Chase) (a : model.Activity) (r : Redex) (s : Store) → redex_ready chases a.store r ≡ Reads s → OwnFor a.store s (contract s r)
own_for chases a r s reads labels e =
    let head : r.head ≡ Serve labels = serves_by_head s r labels e in
    sym (reads_is a.store s (sym (ap (λ (h : Head). ready_of chases a.store h r.places) head) ∙ reads))

-- an activity whose redex asks for a service wants its labels
pub wanted_served : (a : model.Activity) (cs : List Context) (r : Redex) (s : Store) (labels : List Text) → split a.term ≡ Splits cs r → contract s r ≡ Communicates (Serves labels) → labels_wanted a ≡ labels_served labels (cell a.store a.active)
wanted_served a cs r s labels e is = ap (λ (v : Split). labels_at v (cell a.store a.active)) e ∙ ap (λ (h : Head). labels_of_head h (cell a.store a.active)) (serves_by_head s r labels is)

-- the operands of a redex that is told
pub has_operands : (a : model.Activity) (x : Told) (z : Strict) → IsAt a x → z ≡ strict_in x → HasOperands a z
has_operands a x z h e = record { contexts = h.contexts; redex = h.redex; splits = h.splits; ready = λ chases. ready_in chases a.store x h.redex h.is ∙ ap (strict_ready chases a.store) (sym e) }

pub intent_over : (chases : FutureShape → Chase) (rs : List RequestShape) (n : Name) (a : model.Activity) (z : Strict) (h : HasOperands a z) (s : Store) → strict_ready chases a.store z ≡ Reads s
    → intent chases rs n a ≡ contracts rs n (record a { store = s }) h.contexts s (contract s h.redex)
intent_over chases rs n a z h s reads =
    let whole : redex_ready chases a.store h.redex ≡ Reads s = h.ready chases ∙ reads in
    intent_redex chases rs n a h.contexts h.redex (Reads s) h.splits whole ∙ contracts_over rs n a h.contexts s (contract s h.redex) (own_for chases a h.redex s whole)

pub intent_lacks : (chases : FutureShape → Chase) (rs : List RequestShape) (n : Name) (a : model.Activity) (z : Strict) (h : HasOperands a z) (f : FutureShape) → strict_ready chases a.store z ≡ Lacks f → intent chases rs n a ≡ Rests (Awaits f)
intent_lacks chases rs n a z h f lacks = intent_redex chases rs n a h.contexts h.redex (Lacks f) h.splits (h.ready chases ∙ lacks)

-- After a advance

pub same_contexts : (cs ds : List Context) (r q : Redex) → Splits cs r ≡ Splits ds q → cs ≡ ds
same_contexts cs ds r q e = ap (λ (x : Split). elim x [ Splits ks p ↦ ks | terms.Stands p ↦ cs ]) e

pub same_redex : (cs ds : List Context) (r q : Redex) → Splits cs r ≡ Splits ds q → r ≡ q
same_redex cs ds r q e = ap (λ (x : Split). elim x [ Splits ks p ↦ p | terms.Stands p ↦ r ]) e

no_place : (cs : List Context) (r : Redex) (p : ℕ) → Splits cs r ≡ terms.Stands p → ⊥
no_place cs r p e = absurd cc

-- where it asks something of others it stands as before
pub stays : (y : Activity) (a : model.Activity) (v : Advance) → IsAfter y a true v → communicates v ≡ true → StandsFor y a
stays y a advance.Reduces h is = absurd cc
stays y a (advance.Faults f) h is = h.stands
stays y a (advance.Needs p) h is = h.stands
stays y a (advance.Creates p) h is = h.stands
stays y a advance.Sends h is = h.stands
stays y a advance.Serves h is = h.stands
stays y a advance.Polls h is = h.stands
stays y a (advance.Rests p) h is = h.stands

-- it stands as before, and asks this of others
pub record Asking (y : Activity) (a : model.Activity) (r : Redex) : Type 0 where
  pub stands : StandsFor y a
  pub communication : Communication
  pub is : contract a.store r ≡ Communicates communication

pub asking : (y : Activity) (a : model.Activity) (cs : List Context) (r : Redex) (v : Advance) → split a.term ≡ Splits cs r → IsAfter y a true v → communicates v ≡ true → Asking y a r
asking y a cs r advance.Reduces e h is = absurd cc
asking y a cs r (advance.Faults f) e h is = absurd cc
asking y a cs r (advance.Needs p) e h is = absurd cc
asking y a cs r (advance.Creates p) e h is =
    let same : h.stop.redex ≡ r = same_redex h.stop.contexts cs h.stop.redex r (sym h.stop.splits ∙ e) in
    record { stands = h.stands; communication = Creates p h.stop.is.0; is = ap (contract a.store) (sym same) ∙ h.stop.is.1 }
asking y a cs r advance.Sends e h is =
    let same : h.stop.redex ≡ r = same_redex h.stop.contexts cs h.stop.redex r (sym h.stop.splits ∙ e) in
    record { stands = h.stands; communication = Sends h.stop.is.0 h.stop.is.1 h.stop.is.2; is = ap (contract a.store) (sym same) ∙ h.stop.is.3 }
asking y a cs r advance.Serves e h is =
    let same : h.stop.redex ≡ r = same_redex h.stop.contexts cs h.stop.redex r (sym h.stop.splits ∙ e) in
    record { stands = h.stands; communication = Serves h.stop.is.0; is = ap (contract a.store) (sym same) ∙ h.stop.is.1 }
asking y a cs r advance.Polls e h is =
    let same : h.stop.redex ≡ r = same_redex h.stop.contexts cs h.stop.redex r (sym h.stop.splits ∙ e) in
    record { stands = h.stands; communication = Polls h.stop.is.0; is = ap (contract a.store) (sym same) ∙ h.stop.is.1 }
asking y a cs r (advance.Rests p) e h is = absurd cc

module _ (x : Actor) (y : Activity) (a : model.Activity) (rs : List RequestShape) (n : Name) (cs : List Context) (r : Redex) (h : Stands x a rs) (code : step.code_of y ≡ code_of x) (e : split a.term ≡ Splits cs r) where
  abbrev Done : Contraction → Type 0
  Done c = IsDoneBy n (contracts rs n a cs a.store c) rs (record x { activity = y; clear = 0 }) given.Nothing

  became : (next : model.Activity) (ds : List Context) (q : Redex) (t : Tree) (s : Store) (ls : List contraction.LineShape) → StandsFor y next → split a.term ≡ Splits ds q → contract a.store q ≡ Becomes t s ls
      → next ≡ record a { term = terms.plug ds t; store = s; lines = a.lines ++ ls; reductions = suc a.reductions } → Done (contract a.store r)
  became next ds q t s ls for splits is after =
      let both : Splits cs r ≡ Splits ds q = sym e ∙ splits in
      let b : model.Activity = record a { term = terms.plug cs t; store = s; lines = a.lines ++ ls; reductions = suc a.reductions } in
      let same : next ≡ b = after ∙ ap (λ (ks : List Context). record a { term = terms.plug ks t; store = s; lines = a.lines ++ ls; reductions = suc a.reductions }) (sym (same_contexts cs ds r q both)) in
      let now : StandsFor y b = subst (StandsFor y) same for in
      subst Done (sym (ap (contract a.store) (same_redex cs ds r q both) ∙ is)) (stands_with x y a b rs h now code refl refl refl, (refl, refl, refl, refl))

  -- what is left where the advance asked nothing of others
  pub turned : (v : Advance) → IsAfter y a true v → communicates v ≡ false → Done (contract a.store r)
  turned advance.Reduces k is = became k.next k.step.contexts k.step.redex k.step.becomes k.step.store k.step.added k.stands k.step.splits k.step.is k.step.after
  turned (advance.Faults f) k is =
      let same : k.stop.redex ≡ r = same_redex k.stop.contexts cs k.stop.redex r (sym k.stop.splits ∙ e) in
      subst Done (sym k.stop.is ∙ ap (contract a.store) same) tt
  turned (advance.Needs p) k is =
      let same : k.stop.redex ≡ r = same_redex k.stop.contexts cs k.stop.redex r (sym k.stop.splits ∙ e) in
      subst Done (sym k.stop.is ∙ ap (contract a.store) same) tt
  turned (advance.Creates p) k is = absurd cc
  turned advance.Sends k is = absurd cc
  turned advance.Serves k is = absurd cc
  turned advance.Polls k is = absurd cc
  turned (advance.Rests p) k is = absurd (no_place cs r p (sym e ∙ k.stop))
