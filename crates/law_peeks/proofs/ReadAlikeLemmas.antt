-- A redex is read alike with a value at its first strict operand that is a future.
use Rattle.std.proofs.Common.{◌≡◌, ◌⊎◌, ◌<◌, ◌++◌, ◌∷◌, [], ℕ, Bool, true, false, List, Option, Some, length, map, refl, sym, ap, subst, ◌∙◌, inl, inr, ⊎_elim, arith}
use Rattle.std.proofs.lemmas.List.{append-nil}
use Rattle.asp_model.specs.Names.{FutureShape}
use Rattle.asp_model.specs.Term.{Head, WaitAll}
use Rattle.asp_model.specs.Split.{Redex}
use Rattle.asp_model.specs.Store as stores
use Rattle.asp_model.specs.Store.{CellShape, Store, cell, with_cell, moved_cell}
use Rattle.asp_model.specs.Parcel.{ParcelShape, place_at, unpack_at, with_cells_at}
use Rattle.asp_model.specs.Contraction.{first_future, is_future, members_of, strict_members, strict_operands}
use Rattle.asp_model.specs.Chase.{Chase, Value}
use Rattle.asp_model.specs.Intent.{Ready, Reads, Lacks, fetched, operand_ready, operands_ready}
use Rattle.def_journals.specs.Passing.{cell_read, operands_read, redex_read, value_read}
use Rattle.law_steps.specs.Closed.{AreBelow, IsClosedStore}
use Rattle.law_steps.specs.Linked.{Each}
use Rattle.law_steps.proofs.ClosedLaws.{in_store}
use Rattle.law_steps.proofs.ClosedLemmas.{operands_below, waited_below}
use Rattle.law_steps.proofs.MovedLemmas.{length_written}
use Rattle.law_paths.proofs.ActiveLemmas.{unpacked_stays}
use Rattle.law_paths.proofs.CellLemmas.{cell_front, cell_there}
use Rattle.law_paths.proofs.ReadyLemmas.{moved_future}
use Rattle.law_chases.proofs.FutureLemmas.{no_some, none_true, some_is}
use Rattle.law_core.proofs.OperandLemmas.{operands}
use Rattle.law_peeks.specs.Needs.{IsReadAlike, NeedsKeepReadings, Peek}
use Rattle.law_peeks.proofs.RowLemmas.{needs_first}

-- The cell of the value's root is no future

module _ (s : Store) (k : ℕ) (f : ℕ → ℕ) (within : k < length s) where
  plain_root : (cs : List CellShape) → 0 < length cs → is_future (cell cs 0) ≡ false → is_future (cell (with_cells_at s k (map (moved_cell f) cs)) k) ≡ false
  plain_root [] some root = absurd (omega (arith, some))
  plain_root (c ∷ cs) some root =
      let t : Store = with_cell s k (moved_cell f c) in
      let size : length t ≡ length s = length_written s k (moved_cell f c) in
      ap is_future (cell_front t (map (moved_cell f) cs) k (omega (arith, size, within)) ∙ cell_there s k (moved_cell f c) within)
      ∙ moved_future f c ∙ root

-- Operands that are no futures are read as they stand

abbrev or_later : Bool → ℕ → Option ℕ → Option ℕ
or_later b n o = elim b [ true ↦ Some n | false ↦ o ]

abbrev then_ready : (Store → Ready) → Ready → Ready
then_ready next r = elim r [ Reads t ↦ next t | Lacks f ↦ Lacks f ]

abbrev then_read : (Store → List (FutureShape × ParcelShape)) → Ready → List (FutureShape × ParcelShape)
then_read next r = elim r [ Reads t ↦ next t | Lacks f ↦ [] ]

module _ (chases : FutureShape → Chase) (s : Store) where
  reads_it : (n : ℕ) (c : CellShape) → is_future c ≡ false → operand_ready chases s n c ≡ Reads s
  reads_it n (stores.Future f) h = none_true (sym h)
  reads_it n c h = refl

  unpacks_none : (c : CellShape) → is_future c ≡ false → cell_read chases c ≡ []
  unpacks_none (stores.Future f) h = none_true (sym h)
  unpacks_none c h = refl

  plain_ready : (n : ℕ) (ns : List ℕ) → is_future (cell s n) ≡ false → operands_ready chases s (n ∷ ns) ≡ operands_ready chases s ns
  plain_ready n ns h = ap (then_ready (λ t. operands_ready chases t ns)) (reads_it n (cell s n) h)

  plain_read : (n : ℕ) (ns : List ℕ) → is_future (cell s n) ≡ false → operands_read chases s (n ∷ ns) ≡ operands_read chases s ns
  plain_read n ns h =
      ap (λ xs. xs ++ then_read (λ t. operands_read chases t ns) (operand_ready chases s n (cell s n))) (unpacks_none (cell s n) h)
      ∙ ap (then_read (λ t. operands_read chases t ns)) (reads_it n (cell s n) h)

-- Strict operands

-- the future is among these operands: both stores are read into one, and s has one value more to unpack
record Met (chases : FutureShape → Chase) (s t : Store) (read : FutureShape × ParcelShape) (ns : List ℕ) : Type 0 where
  ready : operands_ready chases t ns ≡ operands_ready chases s ns
  values : operands_read chases s ns ≡ read ∷ operands_read chases t ns

-- it is not: both are read as they stand, and it is among those behind
record Missed (chases : FutureShape → Chase) (s t : Store) (k : ℕ) (ns ms : List ℕ) : Type 0 where
  plain : Each (λ n. is_future (cell s n) ≡ false) ns
  after : operands_ready chases t ns ≡ Reads t
  before : operands_ready chases s ns ≡ Reads s
  none_after : operands_read chases t ns ≡ []
  none_before : operands_read chases s ns ≡ []
  behind : first_future s ms ≡ Some k

module _ (chases : FutureShape → Chase) (s : Store) (k : ℕ) (held f : FutureShape) (p : ParcelShape) (is : cell s k ≡ stores.Future held) (leads : chases held ≡ Value f p) (some : 0 < length p.cells) (root : is_future (cell p.cells 0) ≡ false) where
  abbrev t : Store
  t = unpack_at s k p

  here : is_future (cell t k) ≡ false
  here = plain_root s k (place_at (length s) k) (in_store s k held is) p.cells some root

  kept : (m : ℕ) → m < length s → is_future (cell s m) ≡ false → cell t m ≡ cell s m
  kept = (unpacked_stays s k p (ap is_future is)).0

  ready_here : (ns : List ℕ) → operands_ready chases s (k ∷ ns) ≡ operands_ready chases t ns
  ready_here ns = ap (then_ready (λ u. operands_ready chases u ns)) (ap (operand_ready chases s k) is ∙ ap (fetched s k) leads)

  read_here : (ns : List ℕ) → operands_read chases s (k ∷ ns) ≡ (f, p) ∷ operands_read chases t ns
  read_here ns =
      let next : Store → List (FutureShape × ParcelShape) = λ u. operands_read chases u ns in
      ap (λ c. cell_read chases c ++ then_read next (operand_ready chases s k c)) is
      ∙ ap (λ d. value_read d ++ then_read next (fetched s k d)) leads

  meets : (n : ℕ) (ns : List ℕ) → n ≡ k → Met chases s t (f, p) (n ∷ ns)
  meets n ns same = subst (λ j. Met chases s t (f, p) (j ∷ ns)) (sym same) (record {
    ready = plain_ready chases t k ns here ∙ sym (ready_here ns);
    values = read_here ns ∙ ap (λ xs. (f, p) ∷ xs) (sym (plain_read chases t k ns here));
  })

  module _ (n : ℕ) (ns ms : List ℕ) (within : n < length s) (plain : is_future (cell s n) ≡ false) where
    stays : is_future (cell t n) ≡ false
    stays = ap is_future (kept n within plain) ∙ plain

    later_met : Met chases s t (f, p) ns → Met chases s t (f, p) (n ∷ ns)
    later_met x = record {
      ready = plain_ready chases t n ns stays ∙ x.ready ∙ sym (plain_ready chases s n ns plain);
      values = plain_read chases s n ns plain ∙ x.values ∙ ap (λ xs. (f, p) ∷ xs) (sym (plain_read chases t n ns stays));
    }

    later_missed : Missed chases s t k ns ms → Missed chases s t k (n ∷ ns) ms
    later_missed x = record {
      plain = (plain, x.plain);
      after = plain_ready chases t n ns stays ∙ x.after;
      before = plain_ready chases s n ns plain ∙ x.before;
      none_after = plain_read chases t n ns stays ∙ x.none_after;
      none_before = plain_read chases s n ns plain ∙ x.none_before;
      behind = x.behind;
    }

  read_alike : (ns ms : List ℕ) → AreBelow (length s) ns → first_future s (ns ++ ms) ≡ Some k → Met chases s t (f, p) ns ⊎ Missed chases s t k ns ms
  read_alike [] ms b e = inr (record { plain = tt; after = refl; before = refl; none_after = refl; none_before = refl; behind = e })
  read_alike (n ∷ ns) ms b e =
      elim (is_future (cell s n)) as (λ x. is_future (cell s n) ≡ x → or_later x n (first_future s (ns ++ ms)) ≡ Some k → Met chases s t (f, p) (n ∷ ns) ⊎ Missed chases s t k (n ∷ ns) ms) [
        | true ↦ λ x e. inl (meets n ns (some_is e))
        | false ↦ λ x e. ⊎_elim (λ l. inl (later_met n ns ms b.0 x l)) (λ r. inr (later_missed n ns ms b.0 x r)) (read_alike ns ms b.1 e)
      ] refl e

  -- Members of a group that is waited for

  members_same : (h : Head) (ns : List ℕ) → Each (λ n. is_future (cell s n) ≡ false) (strict_operands h ns) → AreBelow (length s) (strict_operands h ns) → strict_members t h ns ≡ strict_members s h ns
  members_same WaitAll [] e b = refl
  members_same WaitAll (n ∷ ns) e b = ap members_of (kept n b.0 e.0)
  members_same h ns e b = refl

  met_in : (ms : List ℕ) → AreBelow (length s) ms → first_future s ms ≡ Some k → Met chases s t (f, p) ms
  met_in ms b e = ⊎_elim (λ l. l) (λ r. no_some r.behind) (read_alike ms [] b (ap (first_future s) (append-nil ms) ∙ e))

  -- The redex

  module _ (r : Redex) (closed : IsClosedStore s) (places : AreBelow (length s) r.places) where
    abbrev ns : List ℕ
    ns = strict_operands r.head r.places

    abbrev ms : List ℕ
    ms = strict_members s r.head r.places

    abbrev next_ready : Store → Ready
    next_ready u = operands_ready chases u (strict_members u r.head r.places)

    abbrev next_read : Store → List (FutureShape × ParcelShape)
    next_read u = operands_read chases u (strict_members u r.head r.places)

    front : AreBelow (length s) ns
    front = operands_below (length s) r.head r.places places

    abbrev x : Peek
    x = record { future = f; place = k; value = p }

    alike_met : Met chases s t (f, p) ns → IsReadAlike chases s t r x
    alike_met y = record {
      ready = ap (then_ready next_ready) y.ready;
      unpacked = λ i. y.values i ++ then_read next_read (sym y.ready i);
    }

    alike_missed : Missed chases s t k ns ms → IsReadAlike chases s t r x
    alike_missed z =
        let same : strict_members t r.head r.places ≡ ms = members_same r.head r.places z.plain front in
        let y : Met chases s t (f, p) ms = met_in ms (waited_below s r.head r.places closed) z.behind in
        let now : redex_read chases t r ≡ operands_read chases t ms = (λ i. z.none_after i ++ then_read next_read (z.after i)) ∙ ap (operands_read chases t) same in
        let was : redex_read chases s r ≡ operands_read chases s ms = λ i. z.none_before i ++ then_read next_read (z.before i) in record {
          ready = ap (then_ready next_ready) z.after ∙ ap (operands_ready chases t) same ∙ y.ready ∙ sym (ap (then_ready next_ready) z.before);
          unpacked = was ∙ y.values ∙ ap (λ xs. (f, p) ∷ xs) (sym now);
        }

    redex_alike : first_future s (operands s r) ≡ Some k → IsReadAlike chases s t r x
    redex_alike e = ⊎_elim alike_met alike_missed (read_alike ns ms front e)

pub needs_keep_readings : NeedsKeepReadings
needs_keep_readings chases s r x closed places h = redex_alike chases s x.place h.held x.future x.value h.holds h.leads h.some h.root r closed places (needs_first s r x.place h.needs)
