-- What more filled futures and more requests leave of an intent.
use Rattle.std.specs.Prelude.{◌≡◌, ◌≢◌, ℕ, suc, ◌&&◌, not, Bool, true, false, List, [], ◌∷◌, ◌++◌, Option, Some, None}
use Rattle.std.proofs.Common.{refl, sym, ap, subst, ◌∙◌, inl, inr, ⊎_elim, ◌⊎◌}
use Rattle.std.proofs.lemmas.List.{append-nil}
use Rattle.std.proofs.lemmas.Bool.{or_parts, and_right}
use Rattle.asp_model.specs.Names.{Name, FutureShape, Text}
use Rattle.asp_model.specs.Term.{Serve, has_text}
use Rattle.asp_model.specs.Split.{Context, Redex, Split, Stands, Splits, split}
use Rattle.asp_model.specs.Store.{CellShape, Number, Object, Reference, Future, Group, Store, cell}
use Rattle.asp_model.specs.Parcel.{ParcelShape, has_place}
use Rattle.asp_model.specs.Contraction.{Contraction, Becomes, Faults, Needs, Communicates, Breaks, Creates, Sends, Serves, Polls, contract, strict_operands, strict_members}
use Rattle.asp_model.specs.Chase.{Chase, Value, Unfilled, Cycle}
use Rattle.asp_model.specs.Configuration.{RequestShape, ServiceShape, Poll, Activity}
use Rattle.asp_model.specs.Intent.{Done, Serving, Running, Awaits, Faulted, Intent, Acts, Rests, Ready, Reads, Lacks, fetched, operand_ready, operands_ready, redex_ready, Numbered, oldest_match, labels_served, serves, polls, Effect, newest, ends_service, contracts, intent}
use Rattle.law_steps.specs.Waking.{labels_of_head, labels_at, labels_wanted, has_wanted}
use Rattle.law_chases.proofs.FutureLemmas.{no_some, some_is, none_true}
use Rattle.law_steps.proofs.ContractionLemmas.{serves_by_head}
use Rattle.law_chases.proofs.ChaseLemmas.{awaited}

-- Readings

-- a chase to a value is the same in both
abbrev pub KeepsValues : (f g : FutureShape → Chase) → Type 0
KeepsValues f g = (x y : FutureShape) (p : ParcelShape) → f x ≡ Value y p → g x ≡ Value y p

-- what awaited h in f awaits in g one for which this holds
abbrev pub KeepsLack : (f g : FutureShape → Chase) (holds : FutureShape → FutureShape → Type 0) → FutureShape → Type 0
KeepsLack f g holds h = (x : FutureShape) → awaited (f x) ≡ Some h → (k : FutureShape) × (awaited (g x) ≡ Some k) × holds h k

lacks : (s : Store) (n : ℕ) (d : Chase) (k : FutureShape) → awaited d ≡ Some k → fetched s n d ≡ Lacks k
lacks s n (Value y p) k a = no_some a
lacks s n (Unfilled h) k a = ap Lacks (some_is a)
lacks s n (Cycle h) k a = ap Lacks (some_is a)

module _ (f g : FutureShape → Chase) (keeps : KeepsValues f g) (holds : FutureShape → FutureShape → Type 0) where
  abbrev pub ReadyOn : Ready → Ready → Type 0
  ReadyOn (Reads t) r = r ≡ Reads t
  ReadyOn (Lacks h) r = KeepsLack f g holds h → (k : FutureShape) × (r ≡ Lacks k) × holds h k

  lack_on : (s : Store) (n : ℕ) (x h : FutureShape) → awaited (f x) ≡ Some h → ReadyOn (Lacks h) (fetched s n (g x))
  lack_on s n x h a lack = let z = lack x a in (z.0, lacks s n (g x) z.0 z.1, z.2)

  fetched_on : (s : Store) (n : ℕ) (x : FutureShape) (c : Chase) → f x ≡ c → ReadyOn (fetched s n c) (fetched s n (g x))
  fetched_on s n x (Value y p) is = ap (fetched s n) (keeps x y p is)
  fetched_on s n x (Unfilled h) is = lack_on s n x h (ap awaited is)
  fetched_on s n x (Cycle h) is = lack_on s n x h (ap awaited is)

  operand_on : (s : Store) (n : ℕ) (c : CellShape) → ReadyOn (operand_ready f s n c) (operand_ready g s n c)
  operand_on s n (Future x) = fetched_on s n x (f x) refl
  operand_on s n (Number z) = refl
  operand_on s n (Object fields methods) = refl
  operand_on s n (Reference m) = refl
  operand_on s n (Group ns) = refl

  abbrev then_ready : (Store → Ready) → Ready → Ready
  then_ready next r = elim r [ Reads t ↦ next t | Lacks h ↦ Lacks h ]

  then_on : (next other : Store → Ready) → ((t : Store) → ReadyOn (next t) (other t)) → (r q : Ready) → ReadyOn r q → ReadyOn (then_ready next r) (then_ready other q)
  then_on next other on (Reads t) q h = subst (λ u. ReadyOn (next t) (then_ready other u)) (sym h) (on t)
  then_on next other on (Lacks x) q h = λ lack. let z = h lack in (z.0, ap (then_ready other) z.1, z.2)

  operands_on : (ns : List ℕ) (s : Store) → ReadyOn (operands_ready f s ns) (operands_ready g s ns)
  operands_on [] s = refl
  operands_on (n ∷ ns) s = then_on (λ t. operands_ready f t ns) (λ t. operands_ready g t ns) (operands_on ns) (operand_ready f s n (cell s n)) (operand_ready g s n (cell s n)) (operand_on s n (cell s n))

  pub redex_on : (s : Store) (r : Redex) → ReadyOn (redex_ready f s r) (redex_ready g s r)
  redex_on s r = then_on (λ t. operands_ready f t (strict_members t r.head r.places)) (λ t. operands_ready g t (strict_members t r.head r.places)) (λ t. operands_on (strict_members t r.head r.places) t) (operands_ready f s (strict_operands r.head r.places)) (operands_ready g s (strict_operands r.head r.places)) (operands_on (strict_operands r.head r.places) s)

-- Requests

abbrev is_empty : List RequestShape → Bool
is_empty [] = true
is_empty (x ∷ xs) = false

abbrev matched : Bool → Numbered → Option Numbered → Option Numbered
matched b x o = elim b [ true ↦ Some x | false ↦ o ]

match_more : (labels : List Text) (served : List ℕ) (k : ℕ) (rs qs : List RequestShape) (x : Numbered) → oldest_match labels served k rs ≡ Some x → oldest_match labels served k (rs ++ qs) ≡ Some x
match_more labels served k [] qs x h = no_some h
match_more labels served k (r ∷ rs) qs x h =
    elim (not (has_place k served) && has_text r.label labels) as (λ b. elim b [ true ↦ Some (k, r) | false ↦ oldest_match labels served (suc k) rs ] ≡ Some x → elim b [ true ↦ Some (k, r) | false ↦ oldest_match labels served (suc k) (rs ++ qs) ] ≡ Some x) [
      | true ↦ λ h. h
      | false ↦ λ h. match_more labels served (suc k) rs qs x h
    ] h

no_match : (labels : List Text) (served : List ℕ) (k : ℕ) (qs : List RequestShape) → has_wanted labels qs ≡ false → oldest_match labels served k qs ≡ None
no_match labels served k [] h = refl
no_match labels served k (q ∷ qs) h =
    let x = or_parts (has_text q.label labels) (has_wanted labels qs) h in
    ap (λ b. elim b [ true ↦ Some (k, q) | false ↦ oldest_match labels served (suc k) qs ]) (and_right (not (has_place k served)) (has_text q.label labels) x.0) ∙ no_match labels served (suc k) qs x.1

none_more : (labels : List Text) (served : List ℕ) (k : ℕ) (rs qs : List RequestShape) → oldest_match labels served k rs ≡ None → has_wanted labels qs ≡ false → oldest_match labels served k (rs ++ qs) ≡ None
none_more labels served k [] qs h w = no_match labels served k qs w
none_more labels served k (r ∷ rs) qs h w =
    elim (not (has_place k served) && has_text r.label labels) as (λ b. matched b (k, r) (oldest_match labels served (suc k) rs) ≡ None → matched b (k, r) (oldest_match labels served (suc k) (rs ++ qs)) ≡ None) [
      | true ↦ λ h. no_some (sym h)
      | false ↦ λ h. none_more labels served (suc k) rs qs h w
    ] h

-- Intents

module _ (f g : FutureShape → Chase) (keeps : KeepsValues f g) (holds : FutureShape → FutureShape → Type 0) (rs qs : List RequestShape) (n : Name) (a : Activity) where
  -- a poll that is a poll still, where more requests are there
  abbrev pub PollsAnew : Effect → Intent → Type 0
  PollsAnew e p = (e.logged ≡ Some (n, Poll)) × (x : Effect) × (p ≡ Acts x) × (x.logged ≡ Some (n, Poll)) × (qs ≢ [])

  -- what becomes of an intent, where these labels are asked for
  abbrev pub GoesOn : List Text → Intent → Intent → Type 0
  GoesOn labels (Acts e) p = (p ≡ Acts e) ⊎ PollsAnew e p
  GoesOn labels (Rests Done) p = p ≡ Rests Done
  GoesOn labels (Rests (Faulted x)) p = p ≡ Rests (Faulted x)
  GoesOn labels (Rests Running) p = ⊥
  GoesOn labels (Rests Serving) p = has_wanted labels qs ≡ false → p ≡ Rests Serving
  GoesOn labels (Rests (Awaits h)) p = KeepsLack f g holds h → (k : FutureShape) × (p ≡ Rests (Awaits k)) × holds h k

  serves_on : (contexts : List Context) (labels : List Text) (o : Option Numbered) → oldest_match labels a.served 0 rs ≡ o → GoesOn labels (serves a contexts o) (serves a contexts (oldest_match labels a.served 0 (rs ++ qs)))
  serves_on contexts labels None is = λ w. ap (serves a contexts) (none_more labels a.served 0 rs qs is w)
  serves_on contexts labels (Some x) is = inl (ap (serves a contexts) (match_more labels a.served 0 rs qs x is))

  polls_on : (contexts : List Context) (s : Store) (labels : List Text) (l : List RequestShape) → l ≡ qs → (polls n a contexts s (oldest_match labels a.served 0 (rs ++ qs)) ≡ polls n a contexts s (oldest_match labels a.served 0 rs)) ⊎ (qs ≢ [])
  polls_on contexts s labels [] is = inl (ap (λ l. polls n a contexts s (oldest_match labels a.served 0 l)) (ap (λ l. rs ++ l) (sym is) ∙ append-nil rs))
  polls_on contexts s labels (l ∷ ls) is = inr (λ none. none_true (ap is_empty (is ∙ none)))

  contracts_on : (contexts : List Context) (s : Store) (wanted : List Text) (r : Contraction) → ((labels : List Text) → r ≡ Communicates (Serves labels) → wanted ≡ labels_served labels (cell s a.active)) → GoesOn wanted (contracts rs n a contexts s r) (contracts (rs ++ qs) n a contexts s r)
  contracts_on contexts s wanted (Becomes t store lines) by = inl refl
  contracts_on contexts s wanted (Faults x) by = refl
  contracts_on contexts s wanted (Needs place) by = refl
  contracts_on contexts s wanted Breaks by = refl
  contracts_on contexts s wanted (Communicates (Creates object service)) by = inl refl
  contracts_on contexts s wanted (Communicates (Sends to label arguments)) by = inl refl
  contracts_on contexts s wanted (Communicates (Polls labels)) by = ⊎_elim (λ p. inl p) (λ more. inr (refl, _, refl, refl, more)) (polls_on contexts s (labels_served labels (cell s a.active)) qs refl)
  contracts_on contexts s wanted (Communicates (Serves labels)) by = subst (λ w. GoesOn w (contracts rs n a contexts s (Communicates (Serves labels))) (contracts (rs ++ qs) n a contexts s (Communicates (Serves labels)))) (sym (by labels refl)) (serves_on contexts (labels_served labels (cell s a.active)) _ refl)

  reads_it : (s : Store) (r : Redex) (labels : List Text) → r.head ≡ Serve labels → redex_ready f s r ≡ Reads s
  reads_it s r labels h = ap (λ k. elim (operands_ready f s (strict_operands k r.places)) [ Reads t ↦ operands_ready f t (strict_members t k r.places) | Lacks x ↦ Lacks x ]) h

  abbrev contracts_by : List RequestShape → List Context → Redex → Ready → Intent
  contracts_by ps contexts redex o = elim o [ Lacks x ↦ Rests (Awaits x) | Reads s ↦ contracts ps n a contexts s (contract s redex) ]

  abbrev store_of : Ready → Store → Store
  store_of (Reads s) t = s
  store_of (Lacks x) t = t

  ready_on : (contexts : List Context) (redex : Redex) (o p : Ready) → redex_ready f a.store redex ≡ o → ReadyOn f g keeps holds o p → GoesOn (labels_of_head redex.head (cell a.store a.active)) (contracts_by rs contexts redex o) (contracts_by (rs ++ qs) contexts redex p)
  ready_on contexts redex (Lacks x) p is on = λ lack. let z = on lack in (z.0, ap (contracts_by (rs ++ qs) contexts redex) z.1, z.2)
  ready_on contexts redex (Reads s) p is on =
      subst (λ q. GoesOn (labels_of_head redex.head (cell a.store a.active)) (contracts rs n a contexts s (contract s redex)) (contracts_by (rs ++ qs) contexts redex q)) (sym on)
      (contracts_on contexts s (labels_of_head redex.head (cell a.store a.active)) (contract s redex) (λ labels e.
      let h = serves_by_head s redex labels e in
      let t : s ≡ a.store = ap (λ o. store_of o s) (sym is ∙ reads_it a.store redex labels h) in
      ap (λ k. labels_of_head k (cell a.store a.active)) h ∙ ap (λ u. labels_served labels (cell u a.active)) (sym t)))

  ends_on : (place : ℕ) (o : Option ServiceShape) → GoesOn [] (ends_service a place o) (ends_service a place o)
  ends_on place None = refl
  ends_on place (Some x) = inl refl

  abbrev intent_by : (FutureShape → Chase) → List RequestShape → Split → Intent
  intent_by chases ps t = elim t [
    | Stands place ↦ ends_service a place (newest a.services)
    | Splits contexts redex ↦ contracts_by ps contexts redex (redex_ready chases a.store redex)
  ]

  split_on : (t : Split) → GoesOn (labels_at t (cell a.store a.active)) (intent_by f rs t) (intent_by g (rs ++ qs) t)
  split_on (Stands place) = ends_on place (newest a.services)
  split_on (Splits contexts redex) = ready_on contexts redex (redex_ready f a.store redex) (redex_ready g a.store redex) refl (redex_on f g keeps holds a.store redex)

  -- an intent where more futures are filled and more requests are there
  pub intent_on : GoesOn (labels_wanted a) (intent f rs n a) (intent g (rs ++ qs) n a)
  intent_on = split_on (split a.term)
