-- What it says that an activity awaits a future, or is at a `serve`.
use Rattle.std.specs.Prelude.{◌≡◌, ℕ, zero, suc, ◌+◌, ◌&&◌, not, Bool, true, false, List, [], ◌∷◌, ◌++◌, Option, Some, None, slice_get}
use Rattle.std.proofs.Common.{refl, sym, ap, subst, ◌∙◌, arith}
use Rattle.std.specs.FinMap.{find}
use Rattle.asp_model.specs.Names.{Name, FutureShape, Text, name_cmp}
use Rattle.asp_model.specs.Term.{has_text}
use Rattle.asp_model.specs.Split.{Context, Redex, Split, Stands, Splits, split}
use Rattle.asp_model.specs.Store.{Store, cell}
use Rattle.asp_model.specs.Parcel.{has_place}
use Rattle.asp_model.specs.Contraction.{Contraction, Becomes, Faults, Needs, Communicates, Breaks, Creates, Sends, Serves, Polls, contract, strict_operands, strict_members}
use Rattle.asp_model.specs.Chase.{Chase, chase}
use Rattle.asp_model.specs.Configuration.{RequestShape, ServiceShape, Activity, Configuration, requests_of}
use Rattle.asp_model.specs.Intent.{StatusShape, Done, Serving, Running, Awaits, Faulted, Intent, Acts, Rests, Ready, Reads, Lacks, operands_ready, redex_ready, oldest_match, labels_served, serves, newest, ends_service, contracts, intent}
use Rattle.asp_model.specs.Step.{intent_in}
use Rattle.asp_model.specs.Status.{status_of_intent, status_of}
use Rattle.law_steps.specs.Waking.{labels_of_head, labels_at, labels_wanted}
use Rattle.law_chases.proofs.FutureLemmas.{no_some, some_is, none_true}
use Rattle.law_chases.proofs.ChaseLemmas.{awaited}
use Rattle.law_steps.proofs.ContractionLemmas.{serves_by_head}
use Rattle.law_steps.proofs.PersistLemmas.{GoesOn, KeepsValues, intent_on}

-- Intents with a status

abbrev is_awaiting : StatusShape → Bool
is_awaiting (Awaits f) = true
is_awaiting s = false

abbrev is_serving : StatusShape → Bool
is_serving Serving = true
is_serving s = false

-- an intent with a status other than Running rests
abbrev pub is_resting : StatusShape → Bool
is_resting Running = false
is_resting s = true

pub rests : (p : Intent) (status : StatusShape) → is_resting status ≡ true → status_of_intent p ≡ status → p ≡ Rests status
rests (Acts e) status is h = none_true (ap is_resting h ∙ is)
rests (Rests s) status is h = ap Rests h

abbrev intent_by : Configuration → Name → Option Activity → Intent
intent_by c n o = elim o [ None ↦ Rests Done | Some a ↦ intent (chase c.futures) (requests_of c n) n a ]

-- Awaited futures

-- a chase of some future comes to this one
abbrev pub IsLacked : Configuration → FutureShape → Type 0
IsLacked c f = (x : FutureShape) × (awaited (chase c.futures x) ≡ Some f)

pub awaits_lacked : (c : Configuration) (n : Name) (f : FutureShape) → status_of c n ≡ Awaits f → IsLacked c f
awaits_lacked c n f st = by_entry (find name_cmp n c.activities) (rests (intent_in c n) (Awaits f) refl st)
  where
    by_entry : (o : Option Activity) → intent_by c n o ≡ Rests (Awaits f) → IsLacked c f
    by_entry None h = none_true (ap (λ p. is_awaiting (status_of_intent p)) h)
    by_entry (Some a) h =
        let g = chase c.futures in
        let keeps : KeepsValues g g = λ x y p q. q in
        let holds : FutureShape → FutureShape → Type 0 = λ x y. IsLacked c f in
        let on = subst (λ p. GoesOn g g keeps holds (requests_of c n) [] n a (labels_wanted a) p (intent g (requests_of c n ++ []) n a)) h (intent_on g g keeps holds (requests_of c n) [] n a) in
        let z = on (λ x e. (f, e, (x, e))) in
        z.2

-- Labels that are served

-- no request of the list that was not served has one of the labels
abbrev pub NoneMatch : List Text → List ℕ → List RequestShape → Type 0
NoneMatch labels served rs = oldest_match labels served 0 rs ≡ None

module _ (chases : FutureShape → Chase) (rs : List RequestShape) (n : Name) (a : Activity) where
  abbrev Says : List Text → Intent → Type 0
  Says labels p = p ≡ Rests Serving → NoneMatch labels a.served rs

  other : (labels : List Text) (p : Intent) → is_serving (status_of_intent p) ≡ false → Says labels p
  other labels p differs h = none_true (sym differs ∙ ap (λ q. is_serving (status_of_intent q)) h)

  serves_says : (contexts : List Context) (labels : List Text) → Says labels (serves a contexts (oldest_match labels a.served 0 rs))
  serves_says contexts labels = by_match (oldest_match labels a.served 0 rs) refl
    where
      by_match : (o : _) → oldest_match labels a.served 0 rs ≡ o → Says labels (serves a contexts o)
      by_match None e = λ h. e
      by_match (Some x) e = other labels (serves a contexts (Some x)) refl

  contracts_says : (contexts : List Context) (s : Store) (wanted : List Text) (r : Contraction) → ((labels : List Text) → r ≡ Communicates (Serves labels) → wanted ≡ labels_served labels (cell s a.active)) → Says wanted (contracts rs n a contexts s r)
  contracts_says contexts s wanted (Becomes t store lines) by = other wanted (contracts rs n a contexts s (Becomes t store lines)) refl
  contracts_says contexts s wanted (Faults x) by = other wanted (Rests (Faulted x)) refl
  contracts_says contexts s wanted (Needs place) by = other wanted (Rests Done) refl
  contracts_says contexts s wanted Breaks by = other wanted (Rests Done) refl
  contracts_says contexts s wanted (Communicates (Creates object service)) by = other wanted (contracts rs n a contexts s (Communicates (Creates object service))) refl
  contracts_says contexts s wanted (Communicates (Sends to label arguments)) by = other wanted (contracts rs n a contexts s (Communicates (Sends to label arguments))) refl
  contracts_says contexts s wanted (Communicates (Polls labels)) by = other wanted (contracts rs n a contexts s (Communicates (Polls labels))) refl
  contracts_says contexts s wanted (Communicates (Serves labels)) by = subst (λ w. Says w (contracts rs n a contexts s (Communicates (Serves labels)))) (sym (by labels refl)) (serves_says contexts (labels_served labels (cell s a.active)))

  reads_it : (s : Store) (r : Redex) (labels : List Text) → contract s r ≡ Communicates (Serves labels) → redex_ready chases a.store r ≡ Reads s → s ≡ a.store
  reads_it s r labels e is =
      let h = serves_by_head s r labels e in
      let now : redex_ready chases a.store r ≡ Reads a.store = ap (λ k. elim (operands_ready chases a.store (strict_operands k r.places)) [ Reads t ↦ operands_ready chases t (strict_members t k r.places) | Lacks x ↦ Lacks x ]) h in
      ap (λ o. elim o [ Reads t ↦ t | Lacks x ↦ s ]) (sym is ∙ now)

  abbrev by_ready : List Context → Redex → Ready → Intent
  by_ready contexts redex o = elim o [ Lacks f ↦ Rests (Awaits f) | Reads s ↦ contracts rs n a contexts s (contract s redex) ]

  ready_says : (contexts : List Context) (redex : Redex) (o : Ready) → redex_ready chases a.store redex ≡ o → Says (labels_of_head redex.head (cell a.store a.active)) (by_ready contexts redex o)
  ready_says contexts redex (Lacks f) is = other _ (Rests (Awaits f)) refl
  ready_says contexts redex (Reads s) is = contracts_says contexts s (labels_of_head redex.head (cell a.store a.active)) (contract s redex) (λ labels e.
      ap (λ k. labels_of_head k (cell a.store a.active)) (serves_by_head s redex labels e) ∙ ap (λ u. labels_served labels (cell u a.active)) (sym (reads_it s redex labels e is)))

  ends_says : (place : ℕ) (o : Option ServiceShape) → Says [] (ends_service a place o)
  ends_says place None = other [] (Rests Done) refl
  ends_says place (Some x) = other [] (ends_service a place (Some x)) refl

  abbrev by_split : Split → Intent
  by_split t = elim t [
    | Stands place ↦ ends_service a place (newest a.services)
    | Splits contexts redex ↦ by_ready contexts redex (redex_ready chases a.store redex)
  ]

  split_says : (t : Split) → Says (labels_at t (cell a.store a.active)) (by_split t)
  split_says (Stands place) = ends_says place (newest a.services)
  split_says (Splits contexts redex) = ready_says contexts redex (redex_ready chases a.store redex) refl

  serving_none : intent chases rs n a ≡ Rests Serving → NoneMatch (labels_wanted a) a.served rs
  serving_none = split_says (split a.term)

-- who is at a `serve` is there, and no request of its that was not served has one of the labels
pub serving_is : (c : Configuration) (n : Name) → status_of c n ≡ Serving → (a : Activity) × (find name_cmp n c.activities ≡ Some a) × NoneMatch (labels_wanted a) a.served (requests_of c n)
serving_is c n st = by_entry (find name_cmp n c.activities) refl (rests (intent_in c n) Serving refl st)
  where
    by_entry : (o : Option Activity) → find name_cmp n c.activities ≡ o → intent_by c n o ≡ Rests Serving → (a : Activity) × (find name_cmp n c.activities ≡ Some a) × NoneMatch (labels_wanted a) a.served (requests_of c n)
    by_entry None e h = none_true (ap (λ p. is_serving (status_of_intent p)) h)
    by_entry (Some a) e h = (a, e, serving_none (chase c.futures) (requests_of c n) n a h)

abbrev match_by : Bool → ℕ → RequestShape → Option (ℕ × RequestShape) → Option (ℕ × RequestShape)
match_by b k r o = elim b [ true ↦ Some (k, r) | false ↦ o ]

not_both : (a b : Bool) → (not a && b) ≡ false → a ≡ false → b ≡ false
not_both true b h e = none_true (sym e)
not_both false b h e = h

-- so each of them
pub none_matches : (labels : List Text) (served : List ℕ) (k : ℕ) (rs : List RequestShape) → oldest_match labels served k rs ≡ None → (i j : ℕ) (r : RequestShape) → slice_get rs i ≡ Some r → j ≡ k + i → has_place j served ≡ false → has_text r.label labels ≡ false
none_matches labels served k [] h i j r at e free = no_some at
none_matches labels served k (q ∷ rs) h i j r at e free = elim (not (has_place k served) && has_text q.label labels) as (λ b. (not (has_place k served) && has_text q.label labels) ≡ b → match_by b k q (oldest_match labels served (suc k) rs) ≡ None → has_text r.label labels ≡ false) [
  | true ↦ λ d h. no_some (sym h)
  | false ↦ λ d h. by_place i at e d (λ l a. none_matches labels served (suc k) rs h l j r a)
] refl h
  where
    by_place : (i : ℕ) → slice_get (q ∷ rs) i ≡ Some r → j ≡ k + i → (not (has_place k served) && has_text q.label labels) ≡ false → ((l : ℕ) → slice_get rs l ≡ Some r → j ≡ suc k + l → has_place j served ≡ false → has_text r.label labels ≡ false) → has_text r.label labels ≡ false
    by_place zero at e d later =
        let same : j ≡ k = omega (arith, e) in
        ap (λ u. has_text u.label labels) (sym (some_is at)) ∙ not_both (has_place k served) (has_text q.label labels) d (ap (λ x. has_place x served) (sym same) ∙ free)
    by_place (suc i) at e d later = later i at (let a : j ≡ suc k + i = omega (arith, e) in a) free
