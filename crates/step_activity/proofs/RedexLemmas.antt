-- A redex that is told tells its operands, and what it asks of others.
use Rattle.std.proofs.Common.{◌≡◌, ◌∙◌, ◌<◌, ℕ, Bool, true, false, zero, suc, length, List, [], ◌∷◌, Option, Some, None, refl, sym, ap, subst}
use Rattle.asp_model.specs.Names.{Text}
use Rattle.asp_model.specs.Term as term
use Rattle.asp_model.specs.Term.{Head, Tree, Trees, none, more}
use Rattle.asp_model.specs.Split.{Redex, Split, Stands, split}
use Rattle.asp_model.specs.Configuration.{Activity}
use Rattle.law_steps.specs.Closed.{AreBelow, CellsBelow, IsClosedStore}
use Rattle.law_steps.specs.Waking.{labels_at, labels_of_head, labels_wanted}
use Rattle.asp_model.specs.Store as store
use Rattle.asp_model.specs.Store.{CellShape, Store, cell, reached}
use Rattle.asp_model.specs.Contraction.{Communication, Contraction, LineShape, Creates, Sends, Serves, Polls, Communicates, Becomes, Needs, active_row, call_row, contract, is_future, members_at, members_of, strict_members, strict_operands}
use Rattle.step_rows.specs.declared.redex.Redex.{Redex as Told}
use Rattle.step_rows.specs.declared.redex.Redex.TheVariants as redex
use Rattle.step_rows.specs.Decisions.{value_redex}
use Rattle.step_rows.specs.Redexes.{IsRedex}
use Rattle.step_rows.proofs.ReadLemmas.{cell_seen}
use Rattle.code_table.specs.declared.class.Class.{Class}
use Rattle.code_table.specs.declared.code.Node.{Node}
use Rattle.std.specs.Borrow.{Bor}
use Rattle.asp_model.specs.Intent.{method_labels}
use Rattle.code_table.specs.Classes.{class_at, seen_class}
use Rattle.code_table.specs.Tables.{pieces}
use Rattle.serve_rules.specs.Labels.{class_labels}
use Rattle.serve_rules.proofs.LabelLemmas.{object_labels}
use Rattle.code_table.specs.Cells as coded
use Rattle.code_table.specs.Cells.{CodedCell, CodedStore, cell_at}
use Rattle.code_table.specs.Shapes.{cell_of, class_object, store_of}
use Rattle.activity_step.specs.declared.standing.Standing.{Standing}
use Rattle.activity_step.specs.declared.standing.Standing.TheVariants as standing
use Rattle.activity_step.specs.Standings.{IsAt, IsStandingAt}
use Rattle.law_chases.proofs.FutureLemmas.{some_is}
use Rattle.step_activity.specs.Asking.{IsAsked, IsPlaced, IsWithin, asked_for, asked_in, class_in, created_at, labels_in, lent_text, sent_to}
use Rattle.step_activity.proofs.AskLemmas.{IsObject, contract_asks}

-- Operands

abbrev pub operands : Redex → List ℕ
operands r = strict_operands r.head r.places

-- two redexes that are told alike have the same operands
pub same_operands : (r q : Redex) (x : Told) → IsRedex r x → IsRedex q x → operands r ≡ operands q
same_operands r q redex.Goes h g = h.operands ∙ sym g.operands
same_operands r q (redex.Get i l) h g = ap operands (h ∙ sym g)
same_operands r q (redex.Put i l k) h g = ap operands (h ∙ sym g)
same_operands r q (redex.Call i l ks) h g = ap operands (h ∙ sym g)
same_operands r q (redex.Clone i) h g = ap operands (h ∙ sym g)
same_operands r q (redex.Active i l) h g = ap operands (h ∙ sym g)
same_operands r q (redex.Serve ls) h g = ap operands (h ∙ sym g)
same_operands r q (redex.If i) h g = ap operands h.2 ∙ sym (ap operands g.2)
same_operands r q (redex.Operate sign i k) h g = ap operands (h ∙ sym g)
same_operands r q (redex.Print i) h g = ap operands (h ∙ sym g)
same_operands r q (redex.Scatter i l j) h g = ap operands (h ∙ sym g)
same_operands r q (redex.Size i) h g = ap operands (h ∙ sym g)
same_operands r q (redex.Member i j) h g = ap operands (h ∙ sym g)
same_operands r q (redex.WaitAll i) h g = ap operands (h ∙ sym g)
same_operands r q (redex.Pending ls) h g = ap operands (h ∙ sym g)

-- What is asked

class_refers : (k : List Node) (ns : List ℕ) (o : Option Class) (n : List ℕ) → class_object k ns o ≡ store.Reference n → ⊥
class_refers k ns None n e = absurd cc
class_refers k ns (Some c) n e = absurd cc

refers : (k : List Node) (c : CodedCell) (n : List ℕ) → cell_of k c ≡ store.Reference n → c ≡ coded.Reference n
refers k (coded.Reference m) n e = cc
refers k (coded.Number z) n e = absurd cc
refers k (coded.Object i ns) n e = absurd (class_refers k ns (class_at k i) n e)
refers k (coded.Future f) n e = absurd cc
refers k (coded.Group ns) n e = absurd cc

object_created : (k : List Node) (c : CodedCell) (i : ℕ) (l : Option Text) → IsObject (cell_of k c) → created_at c i l ≡ Some (Creates i l)
object_created k (coded.Object j ns) i l h = refl
object_created k (coded.Number z) i l h = absurd h
object_created k (coded.Reference m) i l h = absurd h
object_created k (coded.Future f) i l h = absurd h
object_created k (coded.Group ns) i l h = absurd h

-- a contraction is no communication
abbrev IsOwn : Redex → Store → Type 0
IsOwn r s = (t : Tree) × (u : Store) × (added : List LineShape) × (contract s r ≡ Becomes t u added)

goes_on : (r : Redex) (s : Store) (y : Communication) → IsOwn r s → contract s r ≡ Communicates y → ⊥
goes_on r s y g e = let is = g.3 in let both : Becomes g.0 g.1 g.2 ≡ Communicates y = sym is ∙ e in absurd cc

if_creates : (service : Option Text) → term.If ≡ term.Active service → ⊥
if_creates service e = absurd cc

if_sends : (l : Text) → term.If ≡ term.Call l → ⊥
if_sends l e = absurd cc

if_serves : (ls : List Text) → term.If ≡ term.Serve ls → ⊥
if_serves ls e = absurd cc

if_polls : (ls : List Text) → term.If ≡ term.Pending ls → ⊥
if_polls ls e = absurd cc

module _ (k : List Node) (s : CodedStore) where
  created : (r : Redex) (x : Told) (p : ℕ) (service : Option Text) → IsRedex r x → contract (store_of k s) r ≡ Communicates (Creates p service) → r.head ≡ term.Active service → r.places ≡ p ∷ [] → IsObject (cell (store_of k s) p) → asked_in s x ≡ Some (Creates p service)
  created r redex.Goes p service h e head places at = absurd (goes_on r (store_of k s) (Creates p service) (h.goes (store_of k s)) e)
  created r (redex.Get i l) p service h _ head places at = absurd cc
  created r (redex.Put i l j) p service h _ head places at = absurd cc
  created r (redex.Call i l ks) p service h _ head places at = absurd cc
  created r (redex.Clone i) p service h _ head places at = absurd cc
  created r (redex.Active i l) p service h _ head places at =
      let place : i ≡ p = cc in
      let text : lent_text l ≡ service = cc in
      (λ a. created_at (cell_at s (place a)) (place a) (text a)) ∙ object_created k (cell_at s p) p service (subst IsObject (cell_seen k s p (cell_at s p) refl) at)
  created r (redex.Serve ls) p service h _ head places at = absurd cc
  created r (redex.If i) p service h _ head _ _ = absurd (if_creates service (sym (ap (λ (q : Redex). q.head) h.2) ∙ head))
  created r (redex.Operate sign i j) p service h _ head places at = absurd cc
  created r (redex.Print i) p service h _ head places at = absurd cc
  created r (redex.Scatter i m j) p service h _ head places at = absurd cc
  created r (redex.Size i) p service h _ head places at = absurd cc
  created r (redex.Member i j) p service h _ head places at = absurd cc
  created r (redex.WaitAll i) p service h _ head places at = absurd cc
  created r (redex.Pending ls) p service h _ head places at = absurd cc

  sent : (r : Redex) (x : Told) (i : ℕ) (n : List ℕ) (l : Text) (js : List ℕ) → IsRedex r x → contract (store_of k s) r ≡ Communicates (Sends n l js) → r.head ≡ term.Call l → r.places ≡ i ∷ js → cell (store_of k s) i ≡ store.Reference n → asked_in s x ≡ Some (Sends n l js)
  sent r redex.Goes i n l js h e head places at = absurd (goes_on r (store_of k s) (Sends n l js) (h.goes (store_of k s)) e)
  sent r (redex.Get j m) i n l js h _ head places at = absurd cc
  sent r (redex.Put j m q) i n l js h _ head places at = absurd cc
  sent r (redex.Call j m ks) i n l js h _ head places at =
      let ref : cell_at s i ≡ coded.Reference n = refers k (cell_at s i) n (sym (cell_seen k s i (cell_at s i) refl) ∙ at) in
      let label : m.now.text ≡ l = cc in
      let same : j ∷ ks.now ≡ i ∷ js = cc in
      let place : j ≡ i = cc in
      let arguments : ks.now ≡ js = cc in
      (λ a. sent_to (cell_at s (place a)) (label a) (arguments a)) ∙ ap (λ c. sent_to c l js) ref
  sent r (redex.Clone j) i n l js h _ head places at = absurd cc
  sent r (redex.Active j m) i n l js h _ head places at = absurd cc
  sent r (redex.Serve ls) i n l js h _ head places at = absurd cc
  sent r (redex.If j) i n l js h _ head _ _ = absurd (if_sends l (sym (ap (λ (q : Redex). q.head) h.2) ∙ head))
  sent r (redex.Operate sign j q) i n l js h _ head places at = absurd cc
  sent r (redex.Print j) i n l js h _ head places at = absurd cc
  sent r (redex.Scatter j m q) i n l js h _ head places at = absurd cc
  sent r (redex.Size j) i n l js h _ head places at = absurd cc
  sent r (redex.Member j q) i n l js h _ head places at = absurd cc
  sent r (redex.WaitAll j) i n l js h _ head places at = absurd cc
  sent r (redex.Pending ls) i n l js h _ head places at = absurd cc

  served : (r : Redex) (x : Told) (ls : List Text) → IsRedex r x → contract (store_of k s) r ≡ Communicates (Serves ls) → r.head ≡ term.Serve ls → asked_in s x ≡ Some (Serves ls)
  served r redex.Goes ls h e head = absurd (goes_on r (store_of k s) (Serves ls) (h.goes (store_of k s)) e)
  served r (redex.Get i l) ls h _ head = absurd cc
  served r (redex.Put i l j) ls h _ head = absurd cc
  served r (redex.Call i l ks) ls h _ head = absurd cc
  served r (redex.Clone i) ls h _ head = absurd cc
  served r (redex.Active i l) ls h _ head = absurd cc
  served r (redex.Serve ms) ls h _ head = cc
  served r (redex.If i) ls h _ head = absurd (if_serves ls (sym (ap (λ (q : Redex). q.head) h.2) ∙ head))
  served r (redex.Operate sign i j) ls h _ head = absurd cc
  served r (redex.Print i) ls h _ head = absurd cc
  served r (redex.Scatter i l j) ls h _ head = absurd cc
  served r (redex.Size i) ls h _ head = absurd cc
  served r (redex.Member i j) ls h _ head = absurd cc
  served r (redex.WaitAll i) ls h _ head = absurd cc
  served r (redex.Pending ms) ls h _ head = absurd cc

  polled : (r : Redex) (x : Told) (ls : List Text) → IsRedex r x → contract (store_of k s) r ≡ Communicates (Polls ls) → r.head ≡ term.Pending ls → asked_in s x ≡ Some (Polls ls)
  polled r redex.Goes ls h e head = absurd (goes_on r (store_of k s) (Polls ls) (h.goes (store_of k s)) e)
  polled r (redex.Get i l) ls h _ head = absurd cc
  polled r (redex.Put i l j) ls h _ head = absurd cc
  polled r (redex.Call i l ks) ls h _ head = absurd cc
  polled r (redex.Clone i) ls h _ head = absurd cc
  polled r (redex.Active i l) ls h _ head = absurd cc
  polled r (redex.Serve ms) ls h _ head = absurd cc
  polled r (redex.If i) ls h _ head = absurd (if_polls ls (sym (ap (λ (q : Redex). q.head) h.2) ∙ head))
  polled r (redex.Operate sign i j) ls h _ head = absurd cc
  polled r (redex.Print i) ls h _ head = absurd cc
  polled r (redex.Scatter i l j) ls h _ head = absurd cc
  polled r (redex.Size i) ls h _ head = absurd cc
  polled r (redex.Member i j) ls h _ head = absurd cc
  polled r (redex.WaitAll i) ls h _ head = absurd cc
  polled r (redex.Pending ms) ls h _ head = cc

  -- what the redex asks of others is told
  pub asked : (r : Redex) (x : Told) (y : Communication) → IsRedex r x → contract (store_of k s) r ≡ Communicates y → asked_in s x ≡ Some y
  asked r x (Creates p service) h e = let a = contract_asks (store_of k s) r (Communicates (Creates p service)) e in created r x p service h e a.0 a.1 a.2
  asked r x (Sends n l js) h e = let a = contract_asks (store_of k s) r (Communicates (Sends n l js)) e in sent r x a.0 n l js h e a.1 a.2 a.3
  asked r x (Serves ls) h e = served r x ls h e (contract_asks (store_of k s) r (Communicates (Serves ls)) e)
  asked r x (Polls ls) h e = polled r x ls h e (contract_asks (store_of k s) r (Communicates (Polls ls)) e)

-- What is asked as the store stands

object_is : (k : List Node) (ns : List ℕ) (o : Option Class) → IsObject (class_object k ns o)
object_is k ns None = tt
object_is k ns (Some c) = tt

abbrev needs_or : Option ℕ → Contraction → Contraction
needs_or o c = elim o [ Some p ↦ Needs p | None ↦ c ]

abbrev if_held : Bool → ℕ → Option ℕ
if_held b i = elim b [ true ↦ Some i | false ↦ None ]

creating : (s : Store) (i : ℕ) (l : Option Text) (c : CellShape) → cell s i ≡ c → IsObject c → contract s (value_redex (term.Active l) (i ∷ [])) ≡ Communicates (Creates i l)
creating s i l (store.Object fields methods) e h = ap (λ (c : CellShape). needs_or (if_held (is_future c) i) (active_row i l c)) e
creating s i l (store.Number z) e h = absurd h
creating s i l (store.Reference m) e h = absurd h
creating s i l (store.Future f) e h = absurd h
creating s i l (store.Group ns) e h = absurd h

sending : (s : Store) (i : ℕ) (l : Text) (ks n : List ℕ) → cell s i ≡ store.Reference n → contract s (value_redex (term.Call l) (i ∷ ks)) ≡ Communicates (Sends n l ks)
sending s i l ks n e = ap (λ (c : CellShape). needs_or (if_held (is_future c) i) (call_row s l i ks c)) e

module _ (k : List Node) (s : Store) (i : ℕ) where
  created_now : (l : Option Text) (c : CodedCell) (y : Communication) → cell s i ≡ cell_of k c → created_at c i l ≡ Some y → contract s (value_redex (term.Active l) (i ∷ [])) ≡ Communicates y
  created_now l (coded.Object j ns) y is e = creating s i l (class_object k ns (class_at k j)) is (object_is k ns (class_at k j)) ∙ ap Communicates (some_is e)
  created_now l (coded.Number z) y is e = absurd cc
  created_now l (coded.Reference m) y is e = absurd cc
  created_now l (coded.Future f) y is e = absurd cc
  created_now l (coded.Group ns) y is e = absurd cc

  sent_now : (l : Text) (ks : List ℕ) (c : CodedCell) (y : Communication) → cell s i ≡ cell_of k c → sent_to c l ks ≡ Some y → contract s (value_redex (term.Call l) (i ∷ ks)) ≡ Communicates y
  sent_now l ks (coded.Reference m) y is e = sending s i l ks m is ∙ ap Communicates (some_is e)
  sent_now l ks (coded.Number z) y is e = absurd cc
  sent_now l ks (coded.Object j ns) y is e = absurd cc
  sent_now l ks (coded.Future f) y is e = absurd cc
  sent_now l ks (coded.Group ns) y is e = absurd cc

module _ (k : List Node) (s : CodedStore) where
  asks : (r : Redex) (x : Told) (y : Communication) → IsRedex r x → asked_in s x ≡ Some y → contract (store_of k s) r ≡ Communicates y
  asks r (redex.Active i l) y h e = ap (contract (store_of k s)) h ∙ created_now k (store_of k s) i (lent_text l) (cell_at s i) y (cell_seen k s i (cell_at s i) refl) e
  asks r (redex.Call i l ks) y h e = ap (contract (store_of k s)) h ∙ sent_now k (store_of k s) i l.now.text ks.now (cell_at s i) y (cell_seen k s i (cell_at s i) refl) e
  asks r (redex.Serve ls) y h e = ap (contract (store_of k s)) h ∙ ap Communicates (some_is e)
  asks r (redex.Pending ls) y h e = ap (contract (store_of k s)) h ∙ ap Communicates (some_is e)
  asks r redex.Goes y h e = absurd cc
  asks r (redex.Get i l) y h e = absurd cc
  asks r (redex.Put i l j) y h e = absurd cc
  asks r (redex.Clone i) y h e = absurd cc
  asks r (redex.If i) y h e = absurd cc
  asks r (redex.Operate sign i j) y h e = absurd cc
  asks r (redex.Print i) y h e = absurd cc
  asks r (redex.Scatter i l j) y h e = absurd cc
  asks r (redex.Size i) y h e = absurd cc
  asks r (redex.Member i j) y h e = absurd cc
  asks r (redex.WaitAll i) y h e = absurd cc

  asked_by : (r : Redex) (x : Told) (o : Option Communication) → IsRedex r x → asked_in s x ≡ o → IsAsked o (contract (store_of k s) r)
  asked_by r x (Some y) h e = asks r x y h e
  asked_by r x None h e = λ y is. let both : None ≡ Some y = sym e ∙ asked k s r x y h is in absurd cc

  -- what is told of the redex is what it comes to, and nothing where it asks nothing
  pub is_asked : (r : Redex) (x : Told) → IsRedex r x → IsAsked (asked_in s x) (contract (store_of k s) r)
  is_asked r x h = asked_by r x (asked_in s x) h refl

-- a communication is asked for
pub asked_so : (o : Option Communication) (c : Contraction) (x : Communication) → IsAsked o c → c ≡ Communicates x → o ≡ Some x
asked_so (Some y) c x h e = let same : Communicates y ≡ Communicates x = sym h ∙ e in cc
asked_so None c x h e = absurd (h x e)

abbrev labels_of : Option Communication → List Text
labels_of (Some (Serves ls)) = ls
labels_of o = []

labels_told : (s : CodedStore) (x : Told) (ls : List Text) → asked_in s x ≡ Some (Serves ls) → labels_in x ≡ ls
labels_told s redex.Goes ls e = ap labels_of e
labels_told s (redex.Get i l) ls e = ap labels_of e
labels_told s (redex.Put i l j) ls e = ap labels_of e
labels_told s (redex.Call i l ks) ls e = sent_serves (cell_at s i) e
  where
    sent_serves : (c : CodedCell) → sent_to c l.now.text ks.now ≡ Some (Serves ls) → [] ≡ ls
    sent_serves (coded.Reference n) e = ap labels_of e
    sent_serves (coded.Number z) e = ap labels_of e
    sent_serves (coded.Object i ns) e = ap labels_of e
    sent_serves (coded.Future f) e = ap labels_of e
    sent_serves (coded.Group ns) e = ap labels_of e
labels_told s (redex.Clone i) ls e = ap labels_of e
labels_told s (redex.Active i l) ls e = created_serves (cell_at s i) e
  where
    created_serves : (c : CodedCell) → created_at c i (lent_text l) ≡ Some (Serves ls) → [] ≡ ls
    created_serves (coded.Object j ns) e = ap labels_of e
    created_serves (coded.Number z) e = ap labels_of e
    created_serves (coded.Reference n) e = ap labels_of e
    created_serves (coded.Future f) e = ap labels_of e
    created_serves (coded.Group ns) e = ap labels_of e
labels_told s (redex.Serve ms) ls e = ap labels_of e
labels_told s (redex.If i) ls e = ap labels_of e
labels_told s (redex.Operate sign i j) ls e = ap labels_of e
labels_told s (redex.Print i) ls e = ap labels_of e
labels_told s (redex.Scatter i l j) ls e = ap labels_of e
labels_told s (redex.Size i) ls e = ap labels_of e
labels_told s (redex.Member i j) ls e = ap labels_of e
labels_told s (redex.WaitAll i) ls e = ap labels_of e
labels_told s (redex.Pending ms) ls e = ap labels_of e

-- the labels of a `serve` are told
pub serve_labels : (k : List Node) (s : CodedStore) (r : Redex) (x : Told) (ls : List Text) → IsRedex r x → contract (store_of k s) r ≡ Communicates (Serves ls) → labels_in x ≡ ls
serve_labels k s r x ls h e = labels_told s x ls (asked k s r x (Serves ls) h e)

-- Places

pub is_at : (a : Activity) (s : Standing) (x : Told) → s ≡ standing.Redex x → IsStandingAt a s → IsAt a x
is_at a s x e h = subst (IsStandingAt a) e h

pub is_place : (a : Activity) (s : Standing) (p : ℕ) → s ≡ standing.Place p → IsStandingAt a s → split a.term ≡ Stands p
is_place a s p e h = subst (IsStandingAt a) e h

abbrev places : Redex → List ℕ
places r = r.places

-- the receiver of a call is in the store
pub placed : (n : ℕ) (r : Redex) (x : Told) → IsRedex r x → AreBelow n r.places → IsPlaced n x
placed n r redex.Goes h b = tt
placed n r (redex.Get i l) h b = tt
placed n r (redex.Put i l j) h b = tt
placed n r (redex.Call i l ks) h b = let c : AreBelow n (i ∷ ks.now) = subst (AreBelow n) (ap places h) b in c.0
placed n r (redex.Clone i) h b = tt
placed n r (redex.Active i l) h b = let c : AreBelow n (i ∷ []) = subst (AreBelow n) (ap places h) b in c.0
placed n r (redex.Serve ls) h b = tt
placed n r (redex.If i) h b = tt
placed n r (redex.Operate sign i j) h b = tt
placed n r (redex.Print i) h b = tt
placed n r (redex.Scatter i l j) h b = tt
placed n r (redex.Size i) h b = tt
placed n r (redex.Member i j) h b = tt
placed n r (redex.WaitAll i) h b = tt
placed n r (redex.Pending ls) h b = tt

sent_within : (n : ℕ) (c : CodedCell) (l : Text) (ks : List ℕ) → AreBelow n ks → IsWithin n (sent_to c l ks)
sent_within n (coded.Reference m) l ks h = h
sent_within n (coded.Number z) l ks h = tt
sent_within n (coded.Object i ns) l ks h = tt
sent_within n (coded.Future f) l ks h = tt
sent_within n (coded.Group ns) l ks h = tt

created_within : (n : ℕ) (c : CodedCell) (i : ℕ) (l : Option Text) → i < n → IsWithin n (created_at c i l)
created_within n (coded.Object j ns) i l h = h
created_within n (coded.Number z) i l h = tt
created_within n (coded.Reference m) i l h = tt
created_within n (coded.Future f) i l h = tt
created_within n (coded.Group ns) i l h = tt

-- what others get a copy of is in the store
pub asked_within : (n : ℕ) (s : CodedStore) (r : Redex) (x : Told) → IsRedex r x → AreBelow n r.places → IsWithin n (asked_in s x)
asked_within n s r redex.Goes h b = tt
asked_within n s r (redex.Get i l) h b = tt
asked_within n s r (redex.Put i l j) h b = tt
asked_within n s r (redex.Call i l ks) h b = let c : AreBelow n (i ∷ ks.now) = subst (AreBelow n) (ap places h) b in sent_within n (cell_at s i) l.now.text ks.now c.1
asked_within n s r (redex.Clone i) h b = tt
asked_within n s r (redex.Active i l) h b = let c : AreBelow n (i ∷ []) = subst (AreBelow n) (ap places h) b in created_within n (cell_at s i) i (lent_text l) c.0
asked_within n s r (redex.Serve ls) h b = tt
asked_within n s r (redex.If i) h b = tt
asked_within n s r (redex.Operate sign i j) h b = tt
asked_within n s r (redex.Print i) h b = tt
asked_within n s r (redex.Scatter i l j) h b = tt
asked_within n s r (redex.Size i) h b = tt
asked_within n s r (redex.Member i j) h b = tt
asked_within n s r (redex.WaitAll i) h b = tt
asked_within n s r (redex.Pending ls) h b = tt

-- strict operands are among the places
pub operands_within : (n : ℕ) (r : Redex) (x : Told) → IsRedex r x → AreBelow n r.places → AreBelow n (operands r)
operands_within n r redex.Goes h b = subst (AreBelow n) (sym h.operands) tt
operands_within n r (redex.Get i l) h b = subst (AreBelow n) (sym (ap operands h)) (subst (AreBelow n) (ap places h) b)
operands_within n r (redex.Put i l j) h b = let c : AreBelow n (i ∷ j ∷ []) = subst (AreBelow n) (ap places h) b in subst (AreBelow n) (sym (ap operands h)) (c.0, tt)
operands_within n r (redex.Call i l ks) h b = let c : AreBelow n (i ∷ ks.now) = subst (AreBelow n) (ap places h) b in subst (AreBelow n) (sym (ap operands h)) (c.0, tt)
operands_within n r (redex.Clone i) h b = subst (AreBelow n) (sym (ap operands h)) (subst (AreBelow n) (ap places h) b)
operands_within n r (redex.Active i l) h b = subst (AreBelow n) (sym (ap operands h)) (subst (AreBelow n) (ap places h) b)
operands_within n r (redex.Serve ls) h b = subst (AreBelow n) (sym (ap operands h)) tt
operands_within n r (redex.If i) h b = subst (AreBelow n) (sym (ap operands h.2)) (subst (AreBelow n) (ap places h.2) b)
operands_within n r (redex.Operate sign i j) h b = subst (AreBelow n) (sym (ap operands h)) (subst (AreBelow n) (ap places h) b)
operands_within n r (redex.Print i) h b = subst (AreBelow n) (sym (ap operands h)) (subst (AreBelow n) (ap places h) b)
operands_within n r (redex.Scatter i l j) h b = subst (AreBelow n) (sym (ap operands h)) (subst (AreBelow n) (ap places h) b)
operands_within n r (redex.Size i) h b = subst (AreBelow n) (sym (ap operands h)) (subst (AreBelow n) (ap places h) b)
operands_within n r (redex.Member i j) h b = subst (AreBelow n) (sym (ap operands h)) (subst (AreBelow n) (ap places h) b)
operands_within n r (redex.WaitAll i) h b = subst (AreBelow n) (sym (ap operands h)) (subst (AreBelow n) (ap places h) b)
operands_within n r (redex.Pending ls) h b = subst (AreBelow n) (sym (ap operands h)) tt

members_within : (s : Store) (c : CellShape) (k : ℕ) → AreBelow k (reached c) → AreBelow k (members_of c)
members_within s (store.Number z) k h = tt
members_within s (store.Object fields methods) k h = tt
members_within s (store.Reference n) k h = tt
members_within s (store.Future f) k h = tt
members_within s (store.Group ns) k h = h

cell_within : (k : ℕ) (cs : Store) (n : ℕ) → CellsBelow k cs → AreBelow k (members_of (cell cs n))
cell_within k [] n h = tt
cell_within k (c ∷ cs) zero h = members_within cs c k h.0
cell_within k (c ∷ cs) (suc n) h = cell_within k cs n h.1

group_within : (s : Store) (ns : List ℕ) → IsClosedStore s → AreBelow (length s) (members_at s ns)
group_within s [] h = tt
group_within s (n ∷ ns) h = cell_within (length s) s n h

-- the members of a group that is waited for are in a closed store
pub waited_within : (s : Store) (h : Head) (ns : List ℕ) → IsClosedStore s → AreBelow (length s) (strict_members s h ns)
waited_within s term.WaitAll ns c = group_within s ns c
waited_within s h ns c = tt

-- The labels that are asked for

pub serve_goes : (s : Store) (ls : List Text) (ns : List ℕ) (ts : Trees) (t : Tree) (u : Store) (added : List LineShape) → contract s (record { head = term.Serve ls; places = ns; behind = ts }) ≡ Becomes t u added → ⊥
serve_goes s ls [] none t u added e = cc
serve_goes s ls [] (more x xs) t u added e = cc
serve_goes s ls (n ∷ ns) ts t u added e = cc

pub pending_goes : (s : Store) (ls : List Text) (ns : List ℕ) (ts : Trees) (t : Tree) (u : Store) (added : List LineShape) → contract s (record { head = term.Pending ls; places = ns; behind = ts }) ≡ Becomes t u added → ⊥
pending_goes s ls [] none t u added e = cc
pending_goes s ls [] (more x xs) t u added e = cc
pending_goes s ls (n ∷ ns) ts t u added e = cc

free_asks : (h : Head) (ns : List ℕ) (ts : Trees) (c : CellShape) → ((s : Store) → (t : Tree) × (u : Store) × (added : List LineShape) × (contract s (record { head = h; places = ns; behind = ts }) ≡ Becomes t u added)) → labels_of_head h c ≡ []
free_asks (term.Serve ls) ns ts c goes = let g = goes [] in absurd (serve_goes [] ls ns ts g.0 g.1 g.2 g.3)
free_asks h ns ts c goes = refl

asks_for : (r : Redex) (x : Told) (c : CellShape) → IsRedex r x → labels_of_head r.head c ≡ asked_for x c
asks_for r redex.Goes c h = free_asks r.head r.places r.behind c h.goes
asks_for r (redex.If i) c h = ap (λ (q : Redex). labels_of_head q.head c) h.2
asks_for r (redex.Get i l) c h = ap (λ (q : Redex). labels_of_head q.head c) h
asks_for r (redex.Put i l k) c h = ap (λ (q : Redex). labels_of_head q.head c) h
asks_for r (redex.Call i l ks) c h = ap (λ (q : Redex). labels_of_head q.head c) h
asks_for r (redex.Clone i) c h = ap (λ (q : Redex). labels_of_head q.head c) h
asks_for r (redex.Active i l) c h = ap (λ (q : Redex). labels_of_head q.head c) h
asks_for r (redex.Serve ls) c h = ap (λ (q : Redex). labels_of_head q.head c) h
asks_for r (redex.Operate sign i k) c h = ap (λ (q : Redex). labels_of_head q.head c) h
asks_for r (redex.Print i) c h = ap (λ (q : Redex). labels_of_head q.head c) h
asks_for r (redex.Scatter i l k) c h = ap (λ (q : Redex). labels_of_head q.head c) h
asks_for r (redex.Size i) c h = ap (λ (q : Redex). labels_of_head q.head c) h
asks_for r (redex.Member i k) c h = ap (λ (q : Redex). labels_of_head q.head c) h
asks_for r (redex.WaitAll i) c h = ap (λ (q : Redex). labels_of_head q.head c) h
asks_for r (redex.Pending ls) c h = ap (λ (q : Redex). labels_of_head q.head c) h

-- an activity at a redex asks for what that asks for
pub wanted_at : (a : Activity) (x : Told) → IsAt a x → labels_wanted a ≡ asked_for x (cell a.store a.active)
wanted_at a x h = ap (λ (q : Split). labels_at q (cell a.store a.active)) h.splits ∙ asks_for h.redex x (cell a.store a.active) h.is

-- and none at a place
pub wanted_none : (a : Activity) (p : ℕ) → split a.term ≡ Stands p → labels_wanted a ≡ []
wanted_none a p e = ap (λ (q : Split). labels_at q (cell a.store a.active)) e

-- The labels of methods

abbrev pub class_texts : Option Class → List Text
class_texts None = []
class_texts (Some k) = class_labels k

object_texts : (k : List Node) (ns : List ℕ) (o : Option Class) → method_labels (class_object k ns o) ≡ class_texts o
object_texts k ns None = refl
object_texts k ns (Some c) = object_labels (pieces k) c ns

methods_are : (k : List Node) (c : CodedCell) → method_labels (cell_of k c) ≡ class_texts (class_in k c)
methods_are k (coded.Object i ns) = object_texts k ns (class_at k i)
methods_are k (coded.Number z) = refl
methods_are k (coded.Reference n) = refl
methods_are k (coded.Future f) = refl
methods_are k (coded.Group ns) = refl

pub methods_by : (k : List Node) (c : CodedCell) (o : Option (Bor Class)) → seen_class o ≡ class_in k c → class_texts (seen_class o) ≡ method_labels (cell_of k c)
methods_by k c o e = ap class_texts e ∙ sym (methods_are k c)
