-- The first strict operand that is a future, and what an activity intends by it.
use Rattle.std.specs.Prelude.{◌≡◌, ◌⊎◌, ℕ, Bool, true, false, List, [], ◌∷◌, ◌++◌, Option, Some, None}
use Rattle.std.proofs.Common.{refl, sym, ap, subst, ◌∙◌, inl, inr, ⊎_elim}
use Rattle.std.proofs.lemmas.List.{append-nil}
use Rattle.asp_model.specs.Names.{Name, FutureShape}
use Rattle.asp_model.specs.Split.{Context, Redex, Split, Stands, Splits, split}
use Rattle.asp_model.specs.Store as stores
use Rattle.asp_model.specs.Store.{CellShape, Store, cell}
use Rattle.asp_model.specs.Contraction.{Contraction, Becomes, Faults, Needs, Communicates, Breaks, Creates, Sends, Serves, Polls, contract, first_future, is_future, strict_members, strict_operands}
use Rattle.asp_model.specs.Chase.{Chase, Value, Unfilled, Cycle}
use Rattle.asp_model.specs.Configuration.{RequestShape, ServiceShape, Activity}
use Rattle.asp_model.specs.Intent.{Awaits, Intent, Acts, Rests, Ready, Reads, Lacks, Numbered, fetched, operand_ready, operands_ready, redex_ready, serves, newest, ends_service, contracts, labels_served, oldest_match}
use Rattle.law_chases.proofs.FutureLemmas.{no_some, none_true, some_is}
use Rattle.law_chases.proofs.ChaseLemmas.{awaited}

abbrev pub future_of : CellShape → Option FutureShape
future_of (stores.Future f) = Some f
future_of c = None

abbrev pub future_at : Store → Option ℕ → Option FutureShape
future_at s None = None
future_at s (Some n) = future_of (cell s n)

abbrev pub operands : Store → Redex → List ℕ
operands s r = strict_operands r.head r.places ++ strict_members s r.head r.places

abbrev pub operand_by : Activity → Split → Option FutureShape
operand_by a t = elim t [ Stands place ↦ None | Splits contexts r ↦ future_at a.store (first_future a.store (operands a.store r)) ]

-- the first strict operand that is a future, if there is one
abbrev pub operand_of : Activity → Option FutureShape
operand_of a = operand_by a (split a.term)

-- Reading strict operands

abbrev first_or : Bool → ℕ → Option ℕ → Option ℕ
first_or b n o = elim b [ true ↦ Some n | false ↦ o ]

no_first : (b : Bool) (n : ℕ) (o : Option ℕ) → first_or b n o ≡ None → (b ≡ false) × (o ≡ None)
no_first true n o h = no_some (sym h)
no_first false n o h = (refl, h)

abbrev then_ready : (Store → Ready) → Ready → Ready
then_ready next r = elim r [ Reads t ↦ next t | Lacks f ↦ Lacks f ]

module _ (chases : FutureShape → Chase) (s : Store) where
  reads_it : (n : ℕ) (c : CellShape) → is_future c ≡ false → operand_ready chases s n c ≡ Reads s
  reads_it n (stores.Future f) h = none_true (sym h)
  reads_it n c h = refl

  reads_all : (ns ms : List ℕ) → first_future s (ns ++ ms) ≡ None → (operands_ready chases s ns ≡ Reads s) × (first_future s ms ≡ None)
  reads_all [] ms h = (refl, h)
  reads_all (n ∷ ns) ms h =
      let first = no_first (is_future (cell s n)) n (first_future s (ns ++ ms)) h in
      let rest = reads_all ns ms first.1 in
      (ap (then_ready (λ t. operands_ready chases t ns)) (reads_it n (cell s n) first.0) ∙ rest.0, rest.1)

  -- without a future among them, the redex is read as it stands
  pub reads_so : (r : Redex) → first_future s (operands s r) ≡ None → redex_ready chases s r ≡ Reads s
  reads_so r h =
      let ms = strict_members s r.head r.places in
      let here = reads_all (strict_operands r.head r.places) ms h in
      ap (then_ready (λ t. operands_ready chases t (strict_members t r.head r.places))) here.0
      ∙ (reads_all ms [] (ap (first_future s) (append-nil ms) ∙ here.1)).0

  module _ (k : ℕ) (f h : FutureShape) (is : cell s k ≡ stores.Future f) (ends : awaited (chases f) ≡ Some h) where
    lacks_at : (y : Chase) → awaited y ≡ Some h → fetched s k y ≡ Lacks h
    lacks_at (Value g p) e = no_some e
    lacks_at (Unfilled g) e = ap Lacks (some_is e)
    lacks_at (Cycle g) e = ap Lacks (some_is e)

    lacks_it : operand_ready chases s k (cell s k) ≡ Lacks h
    lacks_it = ap (operand_ready chases s k) is ∙ lacks_at (chases f) ends

    lacks_all : (ns ms : List ℕ) → first_future s (ns ++ ms) ≡ Some k
        → (operands_ready chases s ns ≡ Lacks h) ⊎ ((operands_ready chases s ns ≡ Reads s) × (first_future s ms ≡ Some k))
    lacks_all [] ms e = inr (refl, e)
    lacks_all (n ∷ ns) ms e =
        elim (is_future (cell s n)) as (λ b. is_future (cell s n) ≡ b → first_or b n (first_future s (ns ++ ms)) ≡ Some k
        → (operands_ready chases s (n ∷ ns) ≡ Lacks h) ⊎ ((operands_ready chases s (n ∷ ns) ≡ Reads s) × (first_future s ms ≡ Some k))) [
          | true ↦ λ b e. inl (ap (λ j. then_ready (λ t. operands_ready chases t ns) (operand_ready chases s j (cell s j))) (some_is e) ∙ ap (then_ready (λ t. operands_ready chases t ns)) lacks_it)
          | false ↦ λ b e.
              let read = ap (then_ready (λ t. operands_ready chases t ns)) (reads_it n (cell s n) b) in
              ⊎_elim (λ l. inl (read ∙ l)) (λ r. inr (read ∙ r.0, r.1)) (lacks_all ns ms e)
        ] refl e

    -- the first future among them is awaited, where it leads to no value
    pub lacks_so : (r : Redex) → first_future s (operands s r) ≡ Some k → redex_ready chases s r ≡ Lacks h
    lacks_so r e =
        let ms = strict_members s r.head r.places in
        let next : Store → Ready = λ t. operands_ready chases t (strict_members t r.head r.places) in
        ⊎_elim
        (λ l. ap (then_ready next) l)
        (λ x. ap (then_ready next) x.0 ∙ ⊎_elim (λ l. l) (λ y. no_some y.1) (lacks_all ms [] (ap (first_future s) (append-nil ms) ∙ x.1)))
        (lacks_all (strict_operands r.head r.places) ms e)

-- Intents without a future among the strict operands

-- it awaits nothing
abbrev pub AwaitsNothing : Intent → Type 0
AwaitsNothing (Acts e) = Unit {0}
AwaitsNothing (Rests (Awaits f)) = ⊥
AwaitsNothing (Rests status) = Unit {0}

is_first : (s : Store) (ns : List ℕ) (k : ℕ) → first_future s ns ≡ Some k → is_future (cell s k) ≡ true
is_first s [] k e = no_some e
is_first s (n ∷ ns) k e =
    elim (is_future (cell s n)) as (λ b. is_future (cell s n) ≡ b → first_or b n (first_future s ns) ≡ Some k → is_future (cell s k) ≡ true) [
      | true ↦ λ b e. ap (λ j. is_future (cell s j)) (sym (some_is e)) ∙ b
      | false ↦ λ b e. is_first s ns k e
    ] refl e

no_future_in : (c : CellShape) → future_of c ≡ None → is_future c ≡ true → ⊥
no_future_in (stores.Future f) none e = no_some (sym none)
no_future_in c none e = none_true e

no_operand : (s : Store) (ns : List ℕ) (o : Option ℕ) → first_future s ns ≡ o → future_at s o ≡ None → o ≡ None
no_operand s ns None is none = refl
no_operand s ns (Some k) is none = absurd (no_future_in (cell s k) none (is_first s ns k is))

module _ (rs : List RequestShape) (n : Name) (a : Activity) where
  abbrev read_by : List Context → Redex → Ready → Intent
  read_by contexts redex o = elim o [ Lacks f ↦ Rests (Awaits f) | Reads s ↦ contracts rs n a contexts s (contract s redex) ]

  abbrev pub intent_by : (FutureShape → Chase) → Split → Intent
  intent_by chases t = elim t [
    | Stands place ↦ ends_service a place (newest a.services)
    | Splits contexts redex ↦ read_by contexts redex (redex_ready chases a.store redex)
  ]

  ends_awaiting_nothing : (place : ℕ) (o : Option ServiceShape) → AwaitsNothing (ends_service a place o)
  ends_awaiting_nothing place None = tt
  ends_awaiting_nothing place (Some x) = tt

  serves_awaiting_nothing : (contexts : List Context) (o : Option Numbered) → AwaitsNothing (serves a contexts o)
  serves_awaiting_nothing contexts None = tt
  serves_awaiting_nothing contexts (Some x) = tt

  contracts_awaiting_nothing : (contexts : List Context) (s : Store) (r : Contraction) → AwaitsNothing (contracts rs n a contexts s r)
  contracts_awaiting_nothing contexts s (Becomes t store lines) = tt
  contracts_awaiting_nothing contexts s (Faults x) = tt
  contracts_awaiting_nothing contexts s (Needs place) = tt
  contracts_awaiting_nothing contexts s Breaks = tt
  contracts_awaiting_nothing contexts s (Communicates (Creates object service)) = tt
  contracts_awaiting_nothing contexts s (Communicates (Sends to label arguments)) = tt
  contracts_awaiting_nothing contexts s (Communicates (Serves labels)) = serves_awaiting_nothing contexts (oldest_match (labels_served labels (cell s a.active)) a.served 0 rs)
  contracts_awaiting_nothing contexts s (Communicates (Polls labels)) = tt

  -- it is the same whatever futures are filled, and awaits nothing
  pub quiet_by : (f g : FutureShape → Chase) (t : Split) → operand_by a t ≡ None → (intent_by f t ≡ intent_by g t) × AwaitsNothing (intent_by f t)
  quiet_by f g (Stands place) none = (refl, ends_awaiting_nothing place (newest a.services))
  quiet_by f g (Splits contexts redex) none =
      let first = no_operand a.store (operands a.store redex) (first_future a.store (operands a.store redex)) refl none in
      let by = read_by contexts redex in
      let here = ap by (reads_so f a.store redex first) in (
        here ∙ sym (ap by (reads_so g a.store redex first)),
        subst_nothing (sym here) (contracts_awaiting_nothing contexts a.store (contract a.store redex)),
      )
    where
      subst_nothing : {p q : Intent} → p ≡ q → AwaitsNothing p → AwaitsNothing q
      subst_nothing e x = subst AwaitsNothing e x
