-- What an activity does next, by what its redex comes to.
use Rattle.std.proofs.Common.{◌≡◌, ℕ, List, Option, Some, None, length, refl, sym, ap, ◌∙◌, subst}
use Rattle.asp_model.specs.declared.name.FutureName.{FutureName}
use Rattle.asp_model.specs.declared.outcome.Fault.{Fault}
use Rattle.std.specs.Borrow.{Bor}
use Rattle.std.specs.Option.{option_map}
use Rattle.asp_model.specs.Names.{Name, FutureShape, Text}
use Rattle.asp_model.specs.Store.{Store, cell}
use Rattle.asp_model.specs.Split.{Context, Redex}
use Rattle.asp_model.specs.Contraction.{Contraction, Becomes, Faults, Needs, Communicates, Breaks, Creates, Sends, Serves, Polls, contract, strict_members, strict_operands}
use Rattle.asp_model.specs.Configuration as model
use Rattle.asp_model.specs.Configuration.{RequestShape}
use Rattle.asp_model.specs.Chase.{Values, chase}
use Rattle.asp_model.specs.Intent.{Intent, Numbered, Ready, Reads, Lacks, contracts, intent, labels_served, oldest_match, redex_ready, serves}
use Rattle.asp_model.specs.Shapes.{fault_shape, future_shape}
use Rattle.step_reads.specs.Prospects as prospects
use Rattle.step_reads.specs.Prospects.{ProspectShape, Goes, GoesTo, Stops, Asks, Awaits, Still, comes_to, prospect_by}
use Rattle.law_steps.specs.Closed.{AreBelow, IsClosedStore}
use Rattle.law_steps.specs.Waking.{labels_wanted}
use Rattle.code_table.proofs.CodedLemmas.{length-store_of}
use Rattle.step_rows.specs.declared.redex.Redex.{Redex as Told}
use Rattle.step_rows.specs.Redexes.{IsRedex}
use Rattle.activity_step.specs.Activities.{StandsFor}
use Rattle.activity_step.specs.Standings.{IsAt}
use Rattle.code_table.specs.Cells.{CodedStore}
use Rattle.code_table.specs.Shapes.{store_of}
use Rattle.object_store.specs.View.{StoreView}
use Rattle.code_table.specs.declared.code.Node.{Node}
use Rattle.step_activity.specs.declared.actor.Actor.{Actor}
use Rattle.step_parts.specs.declared.outlook.Outlook.TheVariants as outlook
use Rattle.step_activity.specs.Actors.{IsClosedFor, code_of}
use Rattle.step_activity.specs.Asking.{labels_in}
use Rattle.step_activity.specs.Outlook.{IsOutlook}
use Rattle.step_activity.proofs.FetchLemmas.{redex_below}
use Rattle.step_activity.proofs.IntentLemmas.{intended, intent_redex, own_for, wanted_served}
use Rattle.step_activity.proofs.RedexLemmas.{operands, operands_within, same_operands, serve_labels, waited_within}
use Rattle.step_activity.proofs.StandLemmas.{size}

module _ (rs : List RequestShape) (n : Name) (a : model.Activity) (cs : List Context) where
  goes_by : (s : Store) (c : Contraction) → Goes ≡ prospect_by c → IsOutlook n (contracts rs n a cs s c) outlook.Steps
  goes_by s (Becomes t u ls) e = (refl, refl)
  goes_by s (Communicates (Creates p service)) e = (refl, refl)
  goes_by s (Faults f) e = absurd cc
  goes_by s (Communicates (Sends m l ks)) e = absurd cc
  goes_by s (Communicates (Serves ls)) e = absurd cc
  goes_by s (Communicates (Polls ls)) e = absurd cc
  goes_by s (Needs p) e = absurd cc
  goes_by s Breaks e = absurd cc

  pub goes : (r : Redex) (x : Ready) → Goes ≡ comes_to x r → IsOutlook n (intended rs n a cs r x) outlook.Steps
  goes r (Reads s) e = goes_by s (contract s r) e
  goes r (Lacks f) e = absurd cc

  goes_to_by : (m : Bor Name) (s : Store) (c : Contraction) → GoesTo m.now ≡ prospect_by c → IsOutlook n (contracts rs n a cs s c) (outlook.Sends m)
  goes_to_by m s (Communicates (Sends k l ks)) e = cc
  goes_to_by m s (Becomes t u ls) e = absurd cc
  goes_to_by m s (Communicates (Creates p service)) e = absurd cc
  goes_to_by m s (Faults f) e = absurd cc
  goes_to_by m s (Communicates (Serves ls)) e = absurd cc
  goes_to_by m s (Communicates (Polls ls)) e = absurd cc
  goes_to_by m s (Needs p) e = absurd cc
  goes_to_by m s Breaks e = absurd cc

  pub goes_to : (m : Bor Name) (r : Redex) (x : Ready) → GoesTo m.now ≡ comes_to x r → IsOutlook n (intended rs n a cs r x) (outlook.Sends m)
  goes_to m r (Reads s) e = goes_to_by m s (contract s r) e
  goes_to m r (Lacks f) e = absurd cc

  stops_by : (g : Fault) (s : Store) (c : Contraction) → Stops (fault_shape g) ≡ prospect_by c → IsOutlook n (contracts rs n a cs s c) (outlook.Faulted g)
  stops_by g s (Faults f) e = cc
  stops_by g s (Becomes t u ls) e = absurd cc
  stops_by g s (Communicates (Creates p service)) e = absurd cc
  stops_by g s (Communicates (Sends k l ks)) e = absurd cc
  stops_by g s (Communicates (Serves ls)) e = absurd cc
  stops_by g s (Communicates (Polls ls)) e = absurd cc
  stops_by g s (Needs p) e = absurd cc
  stops_by g s Breaks e = absurd cc

  pub stops : (g : Fault) (r : Redex) (x : Ready) → Stops (fault_shape g) ≡ comes_to x r → IsOutlook n (intended rs n a cs r x) (outlook.Faulted g)
  stops g r (Reads s) e = stops_by g s (contract s r) e
  stops g r (Lacks f) e = absurd cc

  polls_by : (s : Store) (c : Contraction) → prospects.Polls ≡ prospect_by c → IsOutlook n (contracts rs n a cs s c) outlook.Polls
  polls_by s (Communicates (Polls ls)) e = refl
  polls_by s (Becomes t u ls) e = absurd cc
  polls_by s (Communicates (Creates p service)) e = absurd cc
  polls_by s (Communicates (Sends m l ks)) e = absurd cc
  polls_by s (Communicates (Serves ls)) e = absurd cc
  polls_by s (Faults f) e = absurd cc
  polls_by s (Needs p) e = absurd cc
  polls_by s Breaks e = absurd cc

  pub polls : (r : Redex) (x : Ready) → prospects.Polls ≡ comes_to x r → IsOutlook n (intended rs n a cs r x) outlook.Polls
  polls r (Reads s) e = polls_by s (contract s r) e
  polls r (Lacks f) e = absurd cc

  still_by : (s : Store) (c : Contraction) → Still ≡ prospect_by c → IsOutlook n (contracts rs n a cs s c) outlook.Done
  still_by s (Needs p) e = tt
  still_by s Breaks e = tt
  still_by s (Becomes t u ls) e = absurd cc
  still_by s (Communicates (Creates p service)) e = absurd cc
  still_by s (Faults f) e = absurd cc
  still_by s (Communicates (Sends m l ks)) e = absurd cc
  still_by s (Communicates (Serves ls)) e = absurd cc
  still_by s (Communicates (Polls ls)) e = absurd cc

  pub still : (r : Redex) (x : Ready) → Still ≡ comes_to x r → IsOutlook n (intended rs n a cs r x) outlook.Done
  still r (Reads s) e = still_by s (contract s r) e
  still r (Lacks f) e = absurd cc

  no_awaits : (f : FutureShape) (c : Contraction) → Awaits f ≡ prospect_by c → ⊥
  no_awaits f (Becomes t u ls) e = absurd cc
  no_awaits f (Communicates (Creates p service)) e = absurd cc
  no_awaits f (Faults g) e = absurd cc
  no_awaits f (Communicates (Sends m l ks)) e = absurd cc
  no_awaits f (Communicates (Serves ls)) e = absurd cc
  no_awaits f (Communicates (Polls ls)) e = absurd cc
  no_awaits f (Needs p) e = absurd cc
  no_awaits f Breaks e = absurd cc

  pub awaits : (g : Bor FutureName) (r : Redex) (x : Ready) → Awaits (future_shape g.now) ≡ comes_to x r → IsOutlook n (intended rs n a cs r x) (outlook.Awaits g)
  awaits g r (Reads s) e = absurd (no_awaits (future_shape g.now) (contract s r) e)
  awaits g r (Lacks f) e = let same : future_shape g.now ≡ f = cc in sym same

serves_by : (c : Contraction) → Asks ≡ prospect_by c → (ls : List Text) × (c ≡ Communicates (Serves ls))
serves_by (Communicates (Serves ls)) e = (ls, refl)
serves_by (Becomes t u ls) e = absurd cc
serves_by (Communicates (Creates p service)) e = absurd cc
serves_by (Faults f) e = absurd cc
serves_by (Communicates (Sends m l ks)) e = absurd cc
serves_by (Communicates (Polls ls)) e = absurd cc
serves_by (Needs p) e = absurd cc
serves_by Breaks e = absurd cc

-- At a `serve`, by whether a request matches

pub serve_steps : (n : Name) (a : model.Activity) (cs : List Context) (k : ℕ) (o : Option Numbered) → Some k ≡ option_map (λ x. x.0) o → IsOutlook n (serves a cs o) outlook.Steps
serve_steps n a cs k None e = absurd cc
serve_steps n a cs k (Some x) e = (refl, refl)

pub serve_rests : (n : Name) (a : model.Activity) (cs : List Context) (o : Option Numbered) → None ≡ option_map (λ x. x.0) o → IsOutlook n (serves a cs o) outlook.Serving
serve_rests n a cs None e = tt
serve_rests n a cs (Some x) e = absurd cc

-- the redex is a `serve`
pub record IsServe (r : Redex) (x : Ready) : Type 0 where
  pub store : Store
  pub labels : List Text
  pub reads : x ≡ Reads store
  pub is : contract store r ≡ Communicates (Serves labels)

pub asks : (r : Redex) (x : Ready) → Asks ≡ comes_to x r → IsServe r x
asks r (Reads s) e = let v = serves_by (contract s r) e in record { store = s; labels = v.0; reads = refl; is = v.1 }
asks r (Lacks f) e = absurd cc

-- At a redex that is told

-- what the redex comes to over this store of this code is told
abbrev pub By : Values → Told → ProspectShape → List Node → StoreView → Type 0
By values x p k s = (r : Redex) → IsRedex r x → AreBelow (length s.cells) (strict_operands r.head r.places) → AreBelow (length s.cells) (strict_members (store_of k s.cells) r.head r.places) → p ≡ comes_to (redex_ready (chase values) (store_of k s.cells) r) r

pub by_own : (values : Values) (x : Told) (p : ProspectShape) (k m : List Node) (s t : StoreView) → k ≡ m → s ≡ t → By values x p k s → By values x p m t
by_own values x p k m s t code store by = subst (λ (l : List Node). By values x p l t) code (subst (By values x p k) store by)

module _ (x : Actor) (values : Values) (told : Told) (at : (a : model.Activity) → StandsFor x.activity a → IsAt a told) where
  abbrev ready : (a : model.Activity) → StandsFor x.activity a → Ready
  ready a h = redex_ready (chase values) a.store (at a h).redex

  pub comes : (p : ProspectShape) → IsClosedFor x → By values told p (code_of x) x.activity.state.store → (a : model.Activity) (h : StandsFor x.activity a) → p ≡ comes_to (ready a h) (at a h).redex
  comes p closed by a h =
      let n : ℕ = length x.activity.state.store.cells in
      let b : IsAt closed.activity told = at closed.activity closed.stands.activity in
      let whole : AreBelow n b.redex.places = subst (λ (m : ℕ). AreBelow m b.redex.places) (size x closed.activity closed.received closed.stands) (redex_below closed.activity b.contexts b.redex closed.closed b.splits) in
      let below : AreBelow n (operands (at a h).redex) = subst (AreBelow n) (same_operands b.redex (at a h).redex told b.is (at a h).is) (operands_within n b.redex told b.is whole) in
      let r : Redex = (at a h).redex in
      let stores : closed.activity.store ≡ store_of (code_of x) x.activity.state.store.cells = sym closed.stands.activity.state.store in
      let shut : IsClosedStore (store_of (code_of x) x.activity.state.store.cells) = subst IsClosedStore stores closed.closed.store in
      let members : AreBelow n (strict_members (store_of (code_of x) x.activity.state.store.cells) r.head r.places) =
      subst (λ (m : ℕ). AreBelow m (strict_members (store_of (code_of x) x.activity.state.store.cells) r.head r.places)) (length-store_of (code_of x) x.activity.state.store.cells)
      (waited_within (store_of (code_of x) x.activity.state.store.cells) r.head r.places shut) in
      by (at a h).redex (at a h).is below members ∙ ap (λ (s : Store). comes_to (redex_ready (chase values) s (at a h).redex) (at a h).redex) h.state.store

  pub outlook_at : (p : ProspectShape) → IsClosedFor x → By values told p (code_of x) x.activity.state.store → (a : model.Activity) (rs : List RequestShape) (n : Name) (h : StandsFor x.activity a) (Q : Intent → Type 0)
      → (p ≡ comes_to (ready a h) (at a h).redex → Q (intended rs n a (at a h).contexts (at a h).redex (ready a h))) → Q (intent (chase values) rs n a)
  outlook_at p closed by a rs n h Q is = subst Q (sym (intent_redex (chase values) rs n a (at a h).contexts (at a h).redex (ready a h) (at a h).splits refl)) (is (comes p closed by a h))

  -- a `serve` asks for the labels that are told
  serve_told : (a : model.Activity) (h : StandsFor x.activity a) (written : List Text) → written ≡ labels_in told → (w : IsServe (at a h).redex (ready a h)) → w.store ≡ a.store → w.labels ≡ written
  serve_told a h written e w own =
      let r : Redex = (at a h).redex in
      let cells : CodedStore = x.activity.state.store.cells in
      let is : contract (store_of (code_of x) cells) r ≡ Communicates (Serves w.labels) = ap (λ (s : Store). contract s r) (h.state.store ∙ sym own) ∙ w.is in
      sym (serve_labels (code_of x) cells r told w.labels (at a h).is is) ∙ sym e

  -- and intends their oldest match
  pub serve_intent : (a : model.Activity) (rs : List RequestShape) (n : Name) (h : StandsFor x.activity a) (written : List Text) → written ≡ labels_in told → IsServe (at a h).redex (ready a h)
      → intended rs n a (at a h).contexts (at a h).redex (ready a h) ≡ serves a (at a h).contexts (oldest_match (labels_served written (cell a.store a.active)) a.served 0 rs)
  serve_intent a rs n h written e w =
      let r : Redex = (at a h).redex in
      let cs : List Context = (at a h).contexts in
      let own : w.store ≡ a.store = own_for (chase values) a r w.store w.reads w.labels w.is in
      let labels : w.labels ≡ written = serve_told a h written e w own in
      ap (intended rs n a cs r) w.reads ∙ ap (contracts rs n a cs w.store) w.is
      ∙ (λ i. serves a cs (oldest_match (labels_served (labels i) (cell (own i) a.active)) a.served 0 rs))

  -- they are those that the activity wants
  pub serve_wanted : (a : model.Activity) (h : StandsFor x.activity a) (written : List Text) → written ≡ labels_in told → IsServe (at a h).redex (ready a h) → labels_wanted a ≡ labels_served written (cell a.store a.active)
  serve_wanted a h written e w =
      let r : Redex = (at a h).redex in
      let own : w.store ≡ a.store = own_for (chase values) a r w.store w.reads w.labels w.is in
      wanted_served a (at a h).contexts r w.store w.labels (at a h).splits w.is ∙ ap (λ (ls : List Text). labels_served ls (cell a.store a.active)) (serve_told a h written e w own)
