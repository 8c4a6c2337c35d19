-- An intent sees what was served by its oldest match alone.
use Rattle.std.specs.Prelude.{◌≡◌, ℕ, Bool, true, false, List, [], ◌∷◌, Option, Some, None}
use Rattle.std.proofs.Common.{refl, sym, ap, subst, ◌∙◌, inl, inr, ◌⊎◌}
use Rattle.asp_model.specs.Names.{Name, FutureShape, Text}
use Rattle.asp_model.specs.Term.{Head, Serve, Pending, Trees, none, more}
use Rattle.asp_model.specs.Split.{Context, Redex, Split, Stands, Splits, split}
use Rattle.asp_model.specs.Store.{Store, cell}
use Rattle.asp_model.specs.Contraction.{Contraction, Becomes, Faults, Needs, Communicates, Breaks, Creates, Sends, Serves, Polls, contract}
use Rattle.asp_model.specs.Chase.{Chase}
use Rattle.asp_model.specs.Configuration.{RequestShape, ServiceShape, Activity}
use Rattle.asp_model.specs.Intent.{Effect, Intent, Acts, Rests, Done, Awaits, Ready, Reads, Lacks, redex_ready, oldest_match, serves, newest, ends_service, contracts, intent}
use Rattle.law_steps.specs.Steps.{IsPoll}
use Rattle.std.proofs.lemmas.Bool.{false_from_ne_true}
use Rattle.law_chases.proofs.FutureLemmas.{no_some, some_is, none_true}
use Rattle.law_steps.proofs.ContractionLemmas.{serves_by_head, polls_by_head}
use Rattle.law_steps.proofs.FactLemmas.{no_acts, acts_is}
use Rattle.law_services.specs.Services.{set_of_head, set_by, set_at}
use Rattle.law_services.specs.Correct.{bare}

-- with these numbers of what was served
abbrev pub with_served : List ℕ → Activity → Activity
with_served ks a = record a { served = ks }

abbrev pub restored : List ℕ → Effect → Effect
restored ks e = record e { own = with_served ks e.own }

abbrev pub restore : List ℕ → Intent → Intent
restore ks (Acts e) = Acts (restored ks e)
restore ks (Rests status) = Rests status

-- Who polls

abbrev pub is_pending : Head → Bool
is_pending (Pending labels) = true
is_pending h = false

abbrev pub pending_by : Split → Bool
pending_by (Stands place) = false
pending_by (Splits contexts redex) = is_pending redex.head

-- it stands at a `pending`
abbrev pub polls_at : Activity → Bool
polls_at a = pending_by (split a.term)

-- Where no service is asked for

abbrev ready_by : Name → Activity → List RequestShape → List Context → Redex → Ready → Intent
ready_by n b qs contexts redex o = elim o [ Lacks f ↦ Rests (Awaits f) | Reads s ↦ contracts qs n b contexts s (contract s redex) ]

abbrev pub by_split : (FutureShape → Chase) → Name → Activity → List RequestShape → Split → Intent
by_split chases n b qs t = elim t [
  | Stands place ↦ ends_service b place (newest b.services)
  | Splits contexts redex ↦ ready_by n b qs contexts redex (redex_ready chases b.store redex)
]

module _ (rs : List RequestShape) (n : Name) (a : Activity) where
  contracts_bare : (contexts : List Context) (s : Store) (r : Contraction) → ((labels : List Text) → r ≡ Communicates (Serves labels) → ⊥) → ((labels : List Text) → r ≡ Communicates (Polls labels) → ⊥) → contracts rs n a contexts s r ≡ restore a.served (contracts [] n (bare a) contexts s r)
  contracts_bare contexts s (Becomes t store lines) unlike other = refl
  contracts_bare contexts s (Faults x) unlike other = refl
  contracts_bare contexts s (Needs place) unlike other = refl
  contracts_bare contexts s Breaks unlike other = refl
  contracts_bare contexts s (Communicates (Creates object service)) unlike other = refl
  contracts_bare contexts s (Communicates (Sends to label arguments)) unlike other = refl
  contracts_bare contexts s (Communicates (Serves labels)) unlike other = absurd (unlike labels refl)
  contracts_bare contexts s (Communicates (Polls labels)) unlike other = absurd (other labels refl)

  ready_bare : (contexts : List Context) (redex : Redex) → set_of_head redex.head (cell a.store a.active) ≡ None → is_pending redex.head ≡ false → (o : Ready) → ready_by n a rs contexts redex o ≡ restore a.served (ready_by n (bare a) [] contexts redex o)
  ready_bare contexts redex not calm (Lacks f) = refl
  ready_bare contexts redex not calm (Reads s) = contracts_bare contexts s (contract s redex) (λ labels e. no_some (sym not ∙ ap (λ h. set_of_head h (cell a.store a.active)) (serves_by_head s redex labels e)))
      (λ labels e. none_true (sym calm ∙ ap is_pending (polls_by_head s redex labels e)))

  ends_bare : (place : ℕ) (o : Option ServiceShape) → ends_service a place o ≡ restore a.served (ends_service (bare a) place o)
  ends_bare place None = refl
  ends_bare place (Some x) = refl

  split_bare : (chases : FutureShape → Chase) (t : Split) → set_by t (cell a.store a.active) ≡ None → pending_by t ≡ false → by_split chases n a rs t ≡ restore a.served (by_split chases n (bare a) [] t)
  split_bare chases (Stands place) not calm = ends_bare place (newest a.services)
  split_bare chases (Splits contexts redex) not calm = ready_bare contexts redex not calm (redex_ready chases a.store redex)

  pub intent_bare : (chases : FutureShape → Chase) → set_at a ≡ None → polls_at a ≡ false → intent chases rs n a ≡ restore a.served (intent chases [] n (bare a))
  intent_bare chases not calm = split_bare chases (split a.term) not calm

-- At a `pending`

module _ (chases : FutureShape → Chase) (rs : List RequestShape) (n : Name) (a : Activity) (e : Effect) where
  poll_by : (contexts : List Context) (h : Head) (ns : List ℕ) (ts : Trees) → is_pending h ≡ true → by_split chases n a rs (Splits contexts (record { head = h; places = ns; behind = ts })) ≡ Acts e → IsPoll n e
  poll_by contexts (Pending ls) [] none p h = subst (IsPoll n) (acts_is h) refl
  poll_by contexts (Pending ls) [] (more t ts) p h = no_acts h
  poll_by contexts (Pending ls) (i ∷ ns) ts p h = no_acts h
  poll_by contexts k ns ts p h = none_true p

  split_polls : (t : Split) → pending_by t ≡ true → by_split chases n a rs t ≡ Acts e → IsPoll n e
  split_polls (Stands place) p h = none_true p
  split_polls (Splits contexts redex) p h = poll_by contexts redex.head redex.places redex.behind p h

  -- who acts there polls
  pub who_polls : polls_at a ≡ true → intent chases rs n a ≡ Acts e → IsPoll n e
  who_polls p h = split_polls (split a.term) p h

-- who acts and does not poll stands elsewhere
pub calm_at : (chases : FutureShape → Chase) (rs : List RequestShape) (n : Name) (a : Activity) (e : Effect) → intent chases rs n a ≡ Acts e → (IsPoll n e → ⊥) → polls_at a ≡ false
calm_at chases rs n a e h calm = false_from_ne_true (polls_at a) (λ p. calm (who_polls chases rs n a e p h))

-- At a `serve`

-- it takes the oldest match, or it is broken
abbrev pub IsServe : Name → Activity → List Text → Type 0
IsServe n a labels = ((contexts : List Context) × ((chases : FutureShape → Chase) (rs : List RequestShape) (ks : List ℕ) → intent chases rs n (with_served ks a) ≡ serves (with_served ks a) contexts (oldest_match labels ks 0 rs)))
    ⊎ ((chases : FutureShape → Chase) (rs : List RequestShape) (ks : List ℕ) → intent chases rs n (with_served ks a) ≡ Rests Done)

module _ (n : Name) (a : Activity) (labels : List Text) where
  abbrev IsServeOf : Split → Type 0
  IsServeOf t = ((contexts : List Context) × ((chases : FutureShape → Chase) (rs : List RequestShape) (ks : List ℕ) → by_split chases n (with_served ks a) rs t ≡ serves (with_served ks a) contexts (oldest_match labels ks 0 rs)))
      ⊎ ((chases : FutureShape → Chase) (rs : List RequestShape) (ks : List ℕ) → by_split chases n (with_served ks a) rs t ≡ Rests Done)

  serve_by : (contexts : List Context) (h : Head) (ns : List ℕ) (ts : Trees) → set_of_head h (cell a.store a.active) ≡ Some labels → IsServeOf (Splits contexts (record { head = h; places = ns; behind = ts }))
  serve_by contexts (Serve ls) [] none e = inl (contexts, λ chases rs ks. ap (λ l. serves (with_served ks a) contexts (oldest_match l ks 0 rs)) (some_is e))
  serve_by contexts (Serve ls) [] (more t ts) e = inr (λ chases rs ks. refl)
  serve_by contexts (Serve ls) (i ∷ ns) ts e = inr (λ chases rs ks. refl)
  serve_by contexts h ns ts e = no_some e

  split_serves : (t : Split) → set_by t (cell a.store a.active) ≡ Some labels → IsServeOf t
  split_serves (Stands place) e = no_some e
  split_serves (Splits contexts redex) e = serve_by contexts redex.head redex.places redex.behind e

  pub is_serve : set_at a ≡ Some labels → IsServe n a labels
  is_serve e = split_serves (split a.term) e
