-- Where an activity stands, by its first operand that is a future, or by what it does next.
use Rattle.std.proofs.Common.{◌≡◌, ◌∙◌, ◌++◌, ℕ, Bool, true, false, List, [], ◌∷◌, Option, Some, None, is_some, refl, sym, ap, subst}
use Rattle.std.specs.Borrow.{Bor}
use Rattle.std.specs.Option.{option_map}
use Rattle.asp_model.specs.declared.name.FutureName.{FutureName}
use Rattle.asp_model.specs.declared.outcome.Fault.{Fault}
use Rattle.asp_model.specs.Names.{FutureShape, Name, Text}
use Rattle.asp_model.specs.Store as store
use Rattle.asp_model.specs.Store.{CellShape, Store, cell}
use Rattle.asp_model.specs.Split as terms
use Rattle.asp_model.specs.Split.{Context, Redex, Split, Splits, split}
use Rattle.asp_model.specs.Term as term
use Rattle.asp_model.specs.Chase as chase
use Rattle.asp_model.specs.Chase.{Chase}
use Rattle.asp_model.specs.Contraction as contraction
use Rattle.asp_model.specs.Contraction.{Communication, Contraction, Becomes, Faults, Communicates, Breaks, Creates, Sends, Serves, Polls, LineShape, active_row, contract, first_future, is_future, row, strict_members, strict_operands}
use Rattle.asp_model.specs.Configuration as model
use Rattle.asp_model.specs.Configuration.{Poll, RequestShape, ServiceShape}
use Rattle.asp_model.specs.Intent as intent
use Rattle.asp_model.specs.Intent.{Acts, Intent, Lacks, Numbered, Reads, Ready, contracts, ends_service, labels_served, newest, oldest_match, redex_ready, serves}
use Rattle.asp_model.specs.Shapes.{fault_shape, future_shape}
use Rattle.def_journals.specs.Communications.{is_asking}
use Rattle.def_journals.specs.Owed.{need_at, need_in, needed_at}
use Rattle.step_rows.specs.declared.redex.Redex.{Redex as Told}
use Rattle.step_rows.specs.declared.redex.Redex.TheVariants as redex
use Rattle.step_rows.specs.Redexes.{IsFree, IsRedex}
use Rattle.law_chases.proofs.FutureLemmas.{no_some}
use Rattle.code_table.specs.declared.code.Node.{Node}
use Rattle.code_table.specs.Cells as coded
use Rattle.code_table.specs.Cells.{CodedCell, CodedStore, cell_at}
use Rattle.code_table.specs.Shapes.{store_of}
use Rattle.asp_model.specs.Term.{Tree}
use Rattle.activity_step.specs.Activities.{StandsFor}
use Rattle.object_store.specs.View.{StoreView}
use Rattle.step_reads.specs.declared.strict.Strict.{Strict}
use Rattle.step_reads.specs.Strict.{strict_in}
use Rattle.step_activity.specs.declared.actor.Actor.{Actor}
use Rattle.step_activity.specs.declared.held.Held.{Held}
use Rattle.step_parts.specs.declared.outlook.Outlook.{Outlook}
use Rattle.step_parts.specs.declared.outlook.Outlook.TheVariants as outlook
use Rattle.step_activity.specs.Actors.{code_of}
use Rattle.step_activity.specs.Asking.{asked_in, sent_to}
use Rattle.step_activity.specs.Clear.{AreClearAt}
use Rattle.step_activity.specs.Outlook.{IsOutlook}
use Rattle.step_activity.specs.Stances.{IsHeld, StanceShape, Goes, Needs, Rests, asks_others, free_stance, held_places, held_stance, place_stance, stance_by, stance_of}
use Rattle.step_activity.proofs.HeldLemmas.{held_are, redex_lacks, redex_reads}
use Rattle.step_activity.proofs.IntentLemmas.{intended, intent_at, intent_redex}
use Rattle.step_activity.proofs.RedexLemmas.{asked, pending_goes, serve_goes}

-- By where the term splits

abbrev need_split : (FutureShape → Chase) → model.Activity → Split → Option (FutureShape × ℕ)
need_split chases a v = elim v [ terms.Stands place ↦ None | Splits contexts r ↦ need_at chases a.store (first_future a.store (strict_operands r.head r.places ++ strict_members a.store r.head r.places)) ]

abbrev quiet_split : (FutureShape → Chase) → model.Activity → Split → Bool
quiet_split chases a v = elim v [ terms.Stands place ↦ is_some (newest a.services) | Splits contexts r ↦ elim (redex_ready chases a.store r) [ Lacks f ↦ false | Reads s ↦ is_asking (contract s r) ] ]

abbrev stance_split : (FutureShape → Chase) → List RequestShape → Name → model.Activity → Split → StanceShape
stance_split chases rs n a v = elim (need_split chases a v) [ Some x ↦ Needs x.0 x.1 | None ↦ stance_by (quiet_split chases a v) (intent_at chases rs n a v) ]

-- At a place

by_newest : (a : model.Activity) (p : ℕ) (o : Option ServiceShape) → stance_by (is_some o) (ends_service a p o) ≡ place_stance (is_some o)
by_newest a p None = refl
by_newest a p (Some v) = refl

pub stance_place : (chases : FutureShape → Chase) (rs : List RequestShape) (n : Name) (a : model.Activity) (p : ℕ) (b : Bool) → split a.term ≡ terms.Stands p → b ≡ is_some (newest a.services) → place_stance b ≡ stance_of chases rs n a
stance_place chases rs n a p b e serving = ap place_stance serving ∙ sym (by_newest a p (newest a.services)) ∙ sym (ap (stance_split chases rs n a) e)

-- At a redex

abbrev needs_or : Option ℕ → Contraction → Contraction
needs_or o c = elim o [ Some p ↦ contraction.Needs p | None ↦ c ]

none_by : (o : Option ℕ) (c : Contraction) (y : Communication) → needs_or o c ≡ Communicates y → o ≡ None
none_by None c y e = refl
none_by (Some p) c y e = absurd cc

abbrev quiet_by : Redex → Ready → Bool
quiet_by r x = elim x [ Lacks f ↦ false | Reads s ↦ is_asking (contract s r) ]

abbrev by_need : Option (FutureShape × ℕ) → StanceShape → StanceShape
by_need o x = elim o [ Some y ↦ Needs y.0 y.1 | None ↦ x ]

module _ (chases : FutureShape → Chase) (rs : List RequestShape) (n : Name) (a : model.Activity) (cs : List Context) (r : Redex) (e : split a.term ≡ Splits cs r) where
  abbrev operands : List ℕ
  operands = strict_operands r.head r.places ++ strict_members a.store r.head r.places

  abbrev told : Option ℕ → Ready → StanceShape
  told o x = by_need (need_at chases a.store o) (stance_by (quiet_by r x) (intended rs n a cs r x))

  at_redex : stance_of chases rs n a ≡ told (first_future a.store operands) (redex_ready chases a.store r)
  at_redex = ap (stance_split chases rs n a) e

  module _ (p : ℕ) (g : FutureShape) (first : first_future a.store operands ≡ Some p) (at : cell a.store p ≡ store.Future g) where
    -- by the need at that place
    abbrev held : Option (FutureShape × ℕ) → StanceShape
    held o = by_need o (stance_by (quiet_by r (redex_ready chases a.store r)) (intended rs n a cs r (redex_ready chases a.store r)))

    at_held : stance_of chases rs n a ≡ held (needed_at (chases g) p)
    at_held = at_redex ∙ ap (λ (o : Option ℕ). told o (redex_ready chases a.store r)) first ∙ ap (λ (c : CellShape). held (need_in chases p c)) at

    held_lacks : (f : FutureShape) → needed_at (chases g) p ≡ None → redex_ready chases a.store r ≡ Lacks f → stance_of chases rs n a ≡ Rests (intent.Awaits f)
    held_lacks f none lacks = at_held ∙ ap held none ∙ ap (λ (x : Ready). stance_by (quiet_by r x) (intended rs n a cs r x)) lacks

    held_by : (c : Chase) → chases g ≡ c → held_stance c p ≡ stance_of chases rs n a
    held_by (chase.Value f v) is = sym (at_held ∙ ap (λ (c : Chase). held (needed_at c p)) is)
    held_by (chase.Unfilled f) is = sym (held_lacks f (ap (λ (c : Chase). needed_at c p) is) (redex_lacks chases a.store p g f at (ap (intent.fetched a.store p) is) r first))
    held_by (chase.Cycle f) is = sym (held_lacks f (ap (λ (c : Chase). needed_at c p) is) (redex_lacks chases a.store p g f at (ap (intent.fetched a.store p) is) r first))

    -- by the end of its chase
    pub stance_held : held_stance (chases g) p ≡ stance_of chases rs n a
    stance_held = held_by (chases g) refl

  module _ (none : first_future a.store operands ≡ None) where
    -- what it intends over its own store
    pub intent_free : intent.intent chases rs n a ≡ contracts rs n a cs a.store (contract a.store r)
    intent_free = intent_redex chases rs n a cs r (Reads a.store) e (redex_reads chases a.store r none)

    at_free : stance_of chases rs n a ≡ stance_by (is_asking (contract a.store r)) (contracts rs n a cs a.store (contract a.store r))
    at_free = at_redex ∙ ap (λ (o : Option ℕ). told o (redex_ready chases a.store r)) none ∙ ap (λ (x : Ready). stance_by (quiet_by r x) (intended rs n a cs r x)) (redex_reads chases a.store r none)

  -- it reads no operand, and contracts
  pub stance_goes : IsFree r → Goes false ≡ stance_of chases rs n a
  stance_goes f =
      let none : first_future a.store operands ≡ None = ap (first_future a.store) (λ i. f.operands i ++ f.members a.store i) in
      sym (at_free none ∙ ap (λ (c : Contraction). stance_by (is_asking c) (contracts rs n a cs a.store c)) (f.goes a.store).3)

  module _ (y : Communication) (is : contract a.store r ≡ Communicates y) where
    none_held : first_future a.store operands ≡ None
    none_held = none_by (first_future a.store operands) (row a.store r.head r.places r.behind) y is

    -- what a redex asks of others is what its activity intends
    pub intent_asks : intent.intent chases rs n a ≡ contracts rs n a cs a.store (Communicates y)
    intent_asks = intent_free none_held ∙ ap (contracts rs n a cs a.store) is

    pub stance_asks : stance_of chases rs n a ≡ stance_by true (contracts rs n a cs a.store (Communicates y))
    stance_asks = at_free none_held ∙ ap (λ (c : Contraction). stance_by (is_asking c) (contracts rs n a cs a.store c)) is

-- At a `serve`, by whether a request matches

module _ (a : model.Activity) (cs : List Context) where
  pub match_goes : (n : ℕ) (o : Option Numbered) → Some n ≡ option_map (λ x. x.0) o → Goes true ≡ stance_by true (serves a cs o)
  match_goes n None e = absurd cc
  match_goes n (Some x) e = refl

  pub match_rests : (o : Option Numbered) → None ≡ option_map (λ x. x.0) o → Rests intent.Serving ≡ stance_by true (serves a cs o)
  match_rests None e = refl
  match_rests (Some x) e = absurd cc

-- Whether a redex asks others

active_becomes : (i : ℕ) (service : Option Text) (o : Option ℕ) (c : CellShape) (t : Tree) (u : Store) (ls : List LineShape) → needs_or o (active_row i service c) ≡ Becomes t u ls → ⊥
active_becomes i service (Some p) c t u ls e = cc
active_becomes i service None (store.Object fields methods) t u ls e = cc
active_becomes i service None (store.Number z) t u ls e = cc
active_becomes i service None (store.Reference m) t u ls e = cc
active_becomes i service None (store.Future f) t u ls e = cc
active_becomes i service None (store.Group ns) t u ls e = cc

-- one that contracts asks nothing
becomes_asks : (s : Store) (r : Redex) (x : Told) (t : Tree) (u : Store) (ls : List LineShape) → IsRedex r x → contract s r ≡ Becomes t u ls → asks_others x ≡ false
becomes_asks s r (redex.Active i l) t u ls is e =
    absurd (active_becomes i _ (first_future s (i ∷ [])) (cell s i) t u ls (ap (contract s) (sym is) ∙ e))
becomes_asks s r (redex.Serve labels) t u ls is e = absurd (serve_goes s _ [] term.none t u ls (ap (contract s) (sym is) ∙ e))
becomes_asks s r (redex.Pending labels) t u ls is e = absurd (pending_goes s _ [] term.none t u ls (ap (contract s) (sym is) ∙ e))
becomes_asks s r x t u ls is e = refl

sends_none : (c : CodedCell) (l : Text) (ks : List ℕ) (y : Communication) → sent_to c l ks ≡ Some y → (m : Name) × (y ≡ Sends m l ks)
sends_none (coded.Reference m) l ks y e = (m, cc)
sends_none (coded.Number z) l ks y e = absurd cc
sends_none (coded.Object i ns) l ks y e = absurd cc
sends_none (coded.Future f) l ks y e = absurd cc
sends_none (coded.Group ns) l ks y e = absurd cc

creates_asks : (s : CodedStore) (x : Told) (p : ℕ) (service : Option Text) → asked_in s x ≡ Some (Creates p service) → true ≡ asks_others x
creates_asks s (redex.Active i l) p service e = refl
creates_asks s (redex.Serve ls) p service e = refl
creates_asks s (redex.Pending ls) p service e = refl
creates_asks s (redex.Call i l ks) p service e =
    let sends = sends_none (cell_at s i) l.now.text ks.now (Creates p service) e in
    let is : Creates p service ≡ Sends sends.0 l.now.text ks.now = sends.1 in
    absurd cc
creates_asks s x p service e = absurd cc

serves_asks : (s : CodedStore) (x : Told) (labels : List Text) → asked_in s x ≡ Some (Serves labels) → true ≡ asks_others x
serves_asks s (redex.Active i l) labels e = refl
serves_asks s (redex.Serve ls) labels e = refl
serves_asks s (redex.Pending ls) labels e = refl
serves_asks s (redex.Call i l ks) labels e =
    let sends = sends_none (cell_at s i) l.now.text ks.now (Serves labels) e in
    let is : Serves labels ≡ Sends sends.0 l.now.text ks.now = sends.1 in
    absurd cc
serves_asks s x labels e = absurd cc

-- By what it does next

module _ (rs : List RequestShape) (n : Name) (a : model.Activity) (cs : List Context) (s : Store) where
  abbrev By : Contraction → StanceShape
  By c = stance_by (is_asking c) (contracts rs n a cs s c)

  serves_steps : (b : Bool) (o : Option Numbered) → IsOutlook n (serves a cs o) outlook.Steps → true ≡ b → Goes b ≡ stance_by true (serves a cs o)
  serves_steps b None h e = absurd h
  serves_steps b (Some x) h e = ap Goes (sym e)

  steps_by : (b : Bool) (c : Contraction) → IsOutlook n (contracts rs n a cs s c) outlook.Steps
      → ((t : Tree) (u : Store) (ls : List LineShape) → c ≡ Becomes t u ls → b ≡ false)
      → ((p : ℕ) (service : Option Text) → c ≡ Communicates (Creates p service) → true ≡ b)
      → ((labels : List Text) → c ≡ Communicates (Serves labels) → true ≡ b)
      → Goes b ≡ By c
  steps_by b (Becomes t u ls) h becomes creates serving = ap Goes (becomes t u ls refl)
  steps_by b (Communicates (Creates p service)) h becomes creates serving = ap Goes (sym (creates p service refl))
  steps_by b (Communicates (Serves labels)) h becomes creates serving = serves_steps b (oldest_match (labels_served labels (cell s a.active)) a.served 0 rs) h (serving labels refl)
  steps_by b (Communicates (Sends m l ks)) h becomes creates serving = no_some (sym h.0)
  steps_by b (Communicates (Polls labels)) h becomes creates serving = no_some (sym h.1)
  steps_by b (Faults f) h becomes creates serving = absurd h
  steps_by b (contraction.Needs p) h becomes creates serving = absurd h
  steps_by b Breaks h becomes creates serving = absurd h

  serves_sends : (m : Bor Name) (o : Option Numbered) → IsOutlook n (serves a cs o) (outlook.Sends m) → Goes true ≡ stance_by true (serves a cs o)
  serves_sends m None h = absurd h
  serves_sends m (Some x) h = absurd h

  sends_by : (m : Bor Name) (c : Contraction) → IsOutlook n (contracts rs n a cs s c) (outlook.Sends m) → Goes true ≡ By c
  sends_by m (Communicates (Sends k l ks)) h = refl
  sends_by m (Communicates (Creates p service)) h = absurd h
  sends_by m (Communicates (Polls labels)) h = absurd h
  sends_by m (Communicates (Serves labels)) h = serves_sends m (oldest_match (labels_served labels (cell s a.active)) a.served 0 rs) h
  sends_by m (Becomes t u ls) h = absurd h
  sends_by m (Faults f) h = absurd h
  sends_by m (contraction.Needs p) h = absurd h
  sends_by m Breaks h = absurd h

  serves_polls : (o : Option Numbered) → IsOutlook n (serves a cs o) outlook.Polls → Goes true ≡ stance_by true (serves a cs o)
  serves_polls None h = absurd h
  serves_polls (Some x) h = refl

  polls_by : (c : Contraction) → IsOutlook n (contracts rs n a cs s c) outlook.Polls → Goes true ≡ By c
  polls_by (Communicates (Polls labels)) h = refl
  polls_by (Communicates (Sends k l ks)) h = refl
  polls_by (Communicates (Creates p service)) h = refl
  polls_by (Communicates (Serves labels)) h = serves_polls (oldest_match (labels_served labels (cell s a.active)) a.served 0 rs) h
  polls_by (Becomes t u ls) h = no_some h
  polls_by (Faults f) h = absurd h
  polls_by (contraction.Needs p) h = absurd h
  polls_by Breaks h = absurd h

  rests_awaits : (g : Bor FutureName) (b : Bool) (i : Intent) → IsOutlook n i (outlook.Awaits g) → Rests (intent.Awaits (future_shape g.now)) ≡ stance_by b i
  rests_awaits g b (intent.Rests (intent.Awaits f)) h = ap (λ (x : FutureShape). Rests (intent.Awaits x)) (sym h)
  rests_awaits g b (intent.Rests (intent.Faulted x)) h = absurd h
  rests_awaits g b (intent.Rests intent.Serving) h = absurd h
  rests_awaits g b (intent.Rests intent.Done) h = absurd h
  rests_awaits g b (intent.Rests intent.Running) h = absurd h
  rests_awaits g b (Acts e) h = absurd h

  rests_faulted : (y : Fault) (b : Bool) (i : Intent) → IsOutlook n i (outlook.Faulted y) → Rests (intent.Faulted (fault_shape y)) ≡ stance_by b i
  rests_faulted y b (intent.Rests (intent.Faulted x)) h = ap (λ (z : contraction.FaultShape). Rests (intent.Faulted z)) (sym h)
  rests_faulted y b (intent.Rests (intent.Awaits f)) h = absurd h
  rests_faulted y b (intent.Rests intent.Serving) h = absurd h
  rests_faulted y b (intent.Rests intent.Done) h = absurd h
  rests_faulted y b (intent.Rests intent.Running) h = absurd h
  rests_faulted y b (Acts e) h = absurd h

  rests_serving : (b : Bool) (i : Intent) → IsOutlook n i outlook.Serving → Rests intent.Serving ≡ stance_by b i
  rests_serving b (intent.Rests intent.Serving) h = refl
  rests_serving b (intent.Rests (intent.Awaits f)) h = absurd h
  rests_serving b (intent.Rests (intent.Faulted x)) h = absurd h
  rests_serving b (intent.Rests intent.Done) h = absurd h
  rests_serving b (intent.Rests intent.Running) h = absurd h
  rests_serving b (Acts e) h = absurd h

  rests_done : (b : Bool) (i : Intent) → IsOutlook n i outlook.Done → Rests intent.Done ≡ stance_by b i
  rests_done b (intent.Rests intent.Done) h = refl
  rests_done b (intent.Rests (intent.Awaits f)) h = absurd h
  rests_done b (intent.Rests (intent.Faulted x)) h = absurd h
  rests_done b (intent.Rests intent.Serving) h = absurd h
  rests_done b (intent.Rests intent.Running) h = absurd h
  rests_done b (Acts e) h = absurd h

  outlook_by : (b : Bool) (o : Outlook) (c : Contraction) → IsOutlook n (contracts rs n a cs s c) o
      → ((t : Tree) (u : Store) (ls : List LineShape) → c ≡ Becomes t u ls → b ≡ false)
      → ((p : ℕ) (service : Option Text) → c ≡ Communicates (Creates p service) → true ≡ b)
      → ((labels : List Text) → c ≡ Communicates (Serves labels) → true ≡ b)
      → free_stance b o ≡ By c
  outlook_by b outlook.Steps c h becomes creates serving = steps_by b c h becomes creates serving
  outlook_by b (outlook.Sends m) c h becomes creates serving = sends_by m c h
  outlook_by b outlook.Polls c h becomes creates serving = polls_by c h
  outlook_by b (outlook.Awaits g) c h becomes creates serving = rests_awaits g (is_asking c) (contracts rs n a cs s c) h
  outlook_by b (outlook.Faulted y) c h becomes creates serving = rests_faulted y (is_asking c) (contracts rs n a cs s c) h
  outlook_by b outlook.Serving c h becomes creates serving = rests_serving (is_asking c) (contracts rs n a cs s c) h
  outlook_by b outlook.Done c h becomes creates serving = rests_done (is_asking c) (contracts rs n a cs s c) h

-- where no operand is a future: by what it does next, and whether its redex asks others
pub stance_free : (chases : FutureShape → Chase) (rs : List RequestShape) (n : Name) (a : model.Activity) (cs : List Context) (r : Redex) (e : split a.term ≡ Splits cs r) → first_future a.store (operands chases rs n a cs r e) ≡ None
    → (k : List Node) (cells : CodedStore) → store_of k cells ≡ a.store → (x : Told) → IsRedex r x → (o : Outlook) → IsOutlook n (intent.intent chases rs n a) o → free_stance (asks_others x) o ≡ stance_of chases rs n a
stance_free chases rs n a cs r e none k cells own x is o h =
    let c : Contraction = contract a.store r in
    let intends : IsOutlook n (contracts rs n a cs a.store c) o = subst (λ (i : Intent). IsOutlook n i o) (intent_free chases rs n a cs r e none) h in
    let here : contract (store_of k cells) r ≡ c = ap (λ (t : Store). contract t r) own in
    outlook_by rs n a cs a.store (asks_others x) o c intends
    (λ t u ls q. becomes_asks a.store r x t u ls is q)
    (λ p service q. creates_asks cells x p service (asked k cells r x (Creates p service) is (here ∙ q)))
    (λ labels q. serves_asks cells x labels (asked k cells r x (Serves labels) is (here ∙ q)))
    ∙ sym (at_free chases rs n a cs r e none)

-- The first operand that is a future, over the activity's own store
pub own_held : (x : Actor) (a : model.Activity) → StandsFor x.activity a → (t : StoreView) → t ≡ x.activity.state.store → (told : Told) (r : Redex) → IsRedex r told → (z : Strict) → z ≡ strict_in told → (o : Option Held) (n : ℕ) → AreClearAt a.store (strict_in told) n
    → ((k : List Node) → AreClearAt (store_of k t.cells) z n → IsHeld (store_of k t.cells) (held_places (store_of k t.cells) z) o) → IsHeld a.store (strict_operands r.head r.places ++ strict_members a.store r.head r.places) o
own_held x a for t store told r is z e o n clear h =
    let k : List Node = code_of x in
    let own : store_of k t.cells ≡ a.store = ap (λ (v : StoreView). store_of k v.cells) store ∙ for.state.store in
    let here : AreClearAt (store_of k t.cells) z n = subst (λ (s : Store). AreClearAt s z n) (sym own) (subst (λ (y : Strict). AreClearAt a.store y n) (sym e) clear) in
    subst (λ (ns : List ℕ). IsHeld a.store ns o) (ap (held_places a.store) e ∙ held_are a.store told r is)
    (subst (λ (s : Store). IsHeld s (held_places s z) o) own (h k here))
