-- Whoever acts and has no need reads no future.
use Rattle.std.proofs.Common.{◌≡◌, ◌++◌, ◌∷◌, [], ℕ, Bool, true, false, List, Option, Some, None, refl, sym, ap, subst, ◌∙◌}
use Rattle.std.proofs.lemmas.List.{append-nil}
use Rattle.std.specs.FinMap.{find}
use Rattle.asp_model.specs.Names.{Name, FutureShape, name_cmp}
use Rattle.asp_model.specs.Parcel.{ParcelShape}
use Rattle.asp_model.specs.Split.{Context, Redex, Split, Splits, Stands, split}
use Rattle.asp_model.specs.Store as stores
use Rattle.asp_model.specs.Store.{CellShape, Store, cell}
use Rattle.asp_model.specs.Contraction.{contract, first_future, is_future, strict_members, strict_operands}
use Rattle.asp_model.specs.Chase.{Chase, Cycle, Unfilled, Value, chase}
use Rattle.asp_model.specs.Configuration.{Activity, Configuration, RequestShape, requests_of}
use Rattle.asp_model.specs.Intent.{Acts, Awaits, Done, Intent, Lacks, Reads, Ready, Rests, contracts, ends_service, intent, newest, operand_ready, operands_ready, redex_ready}
use Rattle.def_journals.specs.Owed.{need_at, need_in, need_of, needed_at}
use Rattle.def_journals.specs.Passing.{cell_read, effect_events, operands_read, read_in, redex_read, unpacked_by}
use Rattle.law_chases.proofs.ChaseLemmas.{awaited}
use Rattle.law_chases.proofs.FutureLemmas.{no_some, none_true, some_is}
use Rattle.law_core.proofs.OperandLemmas.{lacks_so, operands}
use Rattle.law_core.specs.Readings.{ActsUnpackNothing}

abbrev or_later : Bool → ℕ → Option ℕ → Option ℕ
or_later b n o = elim b [ true ↦ Some n | false ↦ o ]

first_is_none : (b : Bool) (n : ℕ) (o : Option ℕ) → or_later b n o ≡ None → (b ≡ false) × (o ≡ None)
first_is_none true n o h = no_some (sym h)
first_is_none false n o h = (refl, h)

-- Reading operands of which none is a future

module _ (chases : FutureShape → Chase) (s : Store) where
  reads_it : (n : ℕ) (c : CellShape) → is_future c ≡ false → operand_ready chases s n c ≡ Reads s
  reads_it n (stores.Future f) h = none_true (sym h)
  reads_it n c h = refl

  unpacks_none : (c : CellShape) → is_future c ≡ false → cell_read chases c ≡ []
  unpacks_none (stores.Future f) h = none_true (sym h)
  unpacks_none c h = refl

  abbrev then_read : (Store → List (FutureShape × ParcelShape)) → Ready → List (FutureShape × ParcelShape)
  then_read next r = elim r [ Reads t ↦ next t | Lacks f ↦ [] ]

  abbrev then_ready : (Store → Ready) → Ready → Ready
  then_ready next r = elim r [ Reads t ↦ next t | Lacks f ↦ Lacks f ]

  none_read : (ns ms : List ℕ) → first_future s (ns ++ ms) ≡ None → (operands_read chases s ns ≡ []) × (operands_ready chases s ns ≡ Reads s) × (first_future s ms ≡ None)
  none_read [] ms h = (refl, refl, h)
  none_read (n ∷ ns) ms h =
      let first = first_is_none (is_future (cell s n)) n (first_future s (ns ++ ms)) h in
      let reads = reads_it n (cell s n) first.0 in
      let rest = none_read ns ms first.1 in (
        ap (λ xs. xs ++ then_read (λ t. operands_read chases t ns) (operand_ready chases s n (cell s n))) (unpacks_none (cell s n) first.0)
            ∙ ap (then_read (λ t. operands_read chases t ns)) reads
            ∙ rest.0,
        ap (then_ready (λ t. operands_ready chases t ns)) reads ∙ rest.1,
        rest.2,
      )

  -- a redex of which no strict operand is a future
  pub nothing_read : (r : Redex) → first_future s (strict_operands r.head r.places ++ strict_members s r.head r.places) ≡ None → redex_read chases s r ≡ []
  nothing_read r h =
      let ns = strict_operands r.head r.places in
      let ms = strict_members s r.head r.places in
      let next : Store → List (FutureShape × ParcelShape) = λ t. operands_read chases t (strict_members t r.head r.places) in
      let first = none_read ns ms h in
      let second = none_read ms [] (ap (first_future s) (append-nil ms) ∙ first.2) in
      ap (λ xs. xs ++ then_read next (operands_ready chases s ns)) first.0
      ∙ ap (then_read next) first.1
      ∙ second.0

-- Whoever acts

future_in : (s : Store) (ns : List ℕ) (p : ℕ) → first_future s ns ≡ Some p → (f : FutureShape) × (cell s p ≡ stores.Future f)
future_in s [] p h = no_some h
future_in s (n ∷ ns) p h = by (is_future (cell s n)) refl h (future_in s ns p)
  where
    there : (c : CellShape) → is_future c ≡ true → (f : FutureShape) × (c ≡ stores.Future f)
    there (stores.Future f) e = (f, refl)
    there (stores.Number z) e = none_true e
    there (stores.Object fields methods) e = none_true e
    there (stores.Reference m) e = none_true e
    there (stores.Group ks) e = none_true e

    by : (b : Bool) → is_future (cell s n) ≡ b → or_later b n (first_future s ns) ≡ Some p → (first_future s ns ≡ Some p → (f : FutureShape) × (cell s p ≡ stores.Future f)) → (f : FutureShape) × (cell s p ≡ stores.Future f)
    by true is e later = let same = some_is e in subst (λ k. (f : FutureShape) × (cell s k ≡ stores.Future f)) same (there (cell s n) is)
    by false is e later = later e

lacking : (d : Chase) (p : ℕ) → needed_at d p ≡ None → (h : FutureShape) × (awaited d ≡ Some h)
lacking (Value f v) p none = no_some (sym none)
lacking (Unfilled f) p none = (f, refl)
lacking (Cycle f) p none = (f, refl)

abbrev acting : Intent → Bool
acting (Acts e) = true
acting (Rests status) = false

module _ (chases : FutureShape → Chase) (rs : List RequestShape) (n : Name) (a : Activity) where
  abbrev contracts_by : List Context → Redex → Ready → Intent
  contracts_by contexts r o = elim o [ Lacks f ↦ Rests (Awaits f) | Reads s ↦ contracts rs n a contexts s (contract s r) ]

  abbrev intent_by : Split → Intent
  intent_by t = elim t [ Stands place ↦ ends_service a place (newest a.services) | Splits contexts r ↦ contracts_by contexts r (redex_ready chases a.store r) ]

  abbrev need_by : Split → Option (FutureShape × ℕ)
  need_by t = elim t [ Stands place ↦ None | Splits contexts r ↦ need_at chases a.store (first_future a.store (operands a.store r)) ]

  abbrev read_by : Split → List (FutureShape × ParcelShape)
  read_by t = elim t [ Stands place ↦ [] | Splits contexts r ↦ redex_read chases a.store r ]

  acts_on : (contexts : List Context) (r : Redex) (o : Option ℕ) → first_future a.store (operands a.store r) ≡ o → need_at chases a.store o ≡ None → acting (contracts_by contexts r (redex_ready chases a.store r)) ≡ true → o ≡ None
  acts_on contexts r None first none acts = refl
  acts_on contexts r (Some p) first none acts =
      let f = future_in a.store (operands a.store r) p first in
      let h = lacking (chases f.0) p (sym (ap (need_in chases p) f.1) ∙ none) in
      none_true (sym (ap (λ o. acting (contracts_by contexts r o)) (lacks_so chases a.store p f.0 h.0 f.1 h.1 r first)) ∙ acts)

  reads_none : (t : Split) → need_by t ≡ None → acting (intent_by t) ≡ true → read_by t ≡ []
  reads_none (Stands place) none acts = refl
  reads_none (Splits contexts r) none acts = nothing_read chases a.store r (acts_on contexts r (first_future a.store (operands a.store r)) refl none acts)

  pub unpacks_nothing : need_of chases a ≡ None → acting (intent chases rs n a) ≡ true → unpacked_by chases a ≡ []
  unpacks_nothing none acts = reads_none (split a.term) none acts

abbrev unpacked_at : Configuration → Option Activity → List (FutureShape × ParcelShape)
unpacked_at c o = elim o [ None ↦ [] | Some a ↦ unpacked_by (chase c.futures) a ]

abbrev needed_by : Configuration → Option Activity → Option (FutureShape × ℕ)
needed_by c o = elim o [ None ↦ None | Some a ↦ need_of (chase c.futures) a ]

abbrev intended_by : Configuration → Name → Option Activity → Intent
intended_by c n o = elim o [ None ↦ Rests Done | Some a ↦ intent (chase c.futures) (requests_of c n) n a ]

reads_in : (c : Configuration) (n : Name) (o : Option Activity) → needed_by c o ≡ None → acting (intended_by c n o) ≡ true → unpacked_at c o ≡ []
reads_in c n None none acts = refl
reads_in c n (Some a) none acts = unpacks_nothing (chase c.futures) (requests_of c n) n a none acts

pub acts_unpack_nothing : ActsUnpackNothing
acts_unpack_nothing c n e none acts =
    ap (λ p. elim p [ Rests status ↦ [] | Acts x ↦ effect_events n (read_in c n) x ]) acts
    ∙ ap (λ xs. effect_events n xs e) (reads_in c n (find name_cmp n c.activities) none (ap acting acts))
