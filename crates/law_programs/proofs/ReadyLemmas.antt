-- Where strict operands are unpacked, none of them is a future.
use Rattle.std.specs.Prelude.{◌≡◌, ℕ, zero, suc, ◌<◌, ◌≤◌, Bool, true, false, List, [], ◌∷◌, ◌++◌, Some, None, length, map, ◌⊎◌}
use Rattle.std.proofs.Common.{refl, sym, ap, subst, ◌∙◌, arith, inl, inr, ⊎_elim}
use Rattle.asp_model.specs.Names.{FutureShape}
use Rattle.asp_model.specs.Term.{Head, WaitAll}
use Rattle.asp_model.specs.Split.{Redex}
use Rattle.asp_model.specs.Store.{CellShape, Number, Object, Reference, Future, Group, Store, cell, with_cell, moved_cell}
use Rattle.asp_model.specs.Parcel.{ParcelShape, place_at, unpack_at}
use Rattle.asp_model.specs.Contraction.{strict_operands, strict_members, members_of, members_at, is_future, first_future}
use Rattle.asp_model.specs.Chase.{Chase, Value, Unfilled, Cycle}
use Rattle.asp_model.specs.Intent.{Ready, Reads, Lacks, fetched, operand_ready, operands_ready, redex_ready}
use Rattle.law_steps.specs.Linked.{Each}
use Rattle.law_steps.specs.Closed.{AreBelow, IsClosedStore}
use Rattle.law_chases.proofs.FutureLemmas.{none_true}
use Rattle.law_steps.proofs.ClosedLemmas.{operands_below, waited_below}
use Rattle.law_steps.proofs.EachLemmas.{each_both, below_more}
use Rattle.law_steps.proofs.MovedLemmas.{length_written, unpacked_at_closed}

-- Cells of changed stores

cell_first : (s t : Store) (n : ℕ) → n < length s → cell (s ++ t) n ≡ cell s n
cell_first [] t n lt = absurd (omega (arith, lt))
cell_first (c ∷ s) t zero lt = refl
cell_first (c ∷ s) t (suc n) lt = cell_first s t n (omega (arith, lt))

cell_written : (s : Store) (n : ℕ) (d : CellShape) → n < length s → cell (with_cell s n d) n ≡ d
cell_written [] n d lt = absurd (omega (arith, lt))
cell_written (c ∷ s) zero d lt = refl
cell_written (c ∷ s) (suc n) d lt = cell_written s n d (omega (arith, lt))

-- another cell, or this one
cell_kept : (s : Store) (n m : ℕ) (d : CellShape) → (m ≡ n) ⊎ (cell (with_cell s n d) m ≡ cell s m)
cell_kept [] n m d = inr refl
cell_kept (c ∷ s) zero zero d = inl refl
cell_kept (c ∷ s) zero (suc m) d = inr refl
cell_kept (c ∷ s) (suc n) zero d = inr refl
cell_kept (c ∷ s) (suc n) (suc m) d = ⊎_elim (λ e. inl (ap suc e)) (λ e. inr e) (cell_kept s n m d)

moved_future : (f : ℕ → ℕ) (c : CellShape) → is_future (moved_cell f c) ≡ is_future c
moved_future f (Object fields methods) = refl
moved_future f (Group ns) = refl
moved_future f (Number z) = refl
moved_future f (Reference n) = refl
moved_future f (Future x) = refl

-- What a reading keeps

-- no future stands at a place
abbrev pub IsNone : Store → ℕ → Type 0
IsNone s n = is_future (cell s n) ≡ false

-- a store that is no shorter, closed, and has the same cells but for futures
pub record IsFrom (s t : Store) : Type 0 where
  pub closed : IsClosedStore t
  pub longer : length s ≤ length t
  pub same : (m : ℕ) → m < length s → IsNone s m → cell t m ≡ cell s m

from_itself : (s : Store) → IsClosedStore s → IsFrom s s
from_itself s h = record { closed = h; longer = omega arith; same = λ m lt k. refl }

none_still : (s t : Store) (m : ℕ) → IsFrom s t → m < length s → IsNone s m → IsNone t m
none_still s t m f lt k = ap is_future (f.same m lt k) ∙ k

from_both : (s t u : Store) → IsFrom s t → IsFrom t u → IsFrom s u
from_both s t u f g = record {
  closed = g.closed;
  longer = omega (arith, f.longer, g.longer);
  same = λ m lt k. g.same m (omega (arith, lt, f.longer)) (none_still s t m f lt k) ∙ f.same m lt k;
}

nones_still : (s t : Store) (ns : List ℕ) → IsFrom s t → AreBelow (length s) ns → Each (IsNone s) ns → Each (IsNone t) ns
nones_still s t [] f b h = tt
nones_still s t (n ∷ ns) f b h = (none_still s t n f b.0 h.0, nones_still s t ns f b.1 h.1)

-- a value that a chase gives: closed, with a first cell that is no future
pub record IsGiven (p : ParcelShape) : Type 0 where
  pub cells : IsClosedStore p.cells
  pub first : 0 < length p.cells
  pub none : IsNone p.cells 0

abbrev pub AllGiven : (FutureShape → Chase) → Type 0
AllGiven chases = (f y : FutureShape) (p : ParcelShape) → chases f ≡ Value y p → IsGiven p

-- One value, unpacked at a place that holds a future

placed_from : (s : Store) (n : ℕ) (cells : List CellShape) (roots : List ℕ) → n < length s → IsClosedStore s → is_future (cell s n) ≡ true → IsGiven (record { cells = cells; roots = roots }) → IsFrom s (unpack_at s n (record { cells = cells; roots = roots })) × IsNone (unpack_at s n (record { cells = cells; roots = roots })) n
placed_from s n [] roots lt h held g = absurd (omega (arith, g.first))
placed_from s n (c ∷ cs) roots lt h held g =
    let f : ℕ → ℕ = place_at (length s) n in
    let d : CellShape = moved_cell f c in
    let others : List CellShape = map (moved_cell f) cs in
    let x = unpacked_at_closed s n (c ∷ cs) roots lt h g.cells in
    let within : (m : ℕ) → m < length s → m < length (with_cell s n d) = λ m less. omega (arith, less, length_written s n d) in (
      record {
        closed = x.0;
        longer = x.1;
        same = λ m less k. cell_first (with_cell s n d) others m (within m less) ∙ ⊎_elim (λ e. none_true (sym k ∙ ap (λ i. is_future (cell s i)) e ∙ held)) (λ e. e) (cell_kept s n m d);
      },
      ap is_future (cell_first (with_cell s n d) others n (within n lt) ∙ cell_written s n d lt) ∙ moved_future f c ∙ g.none,
    )

-- a reading that leaves no future at these places
abbrev pub ReadsNone : Store → List ℕ → Ready → Type 0
ReadsNone s ns (Reads t) = IsFrom s t × Each (IsNone t) ns
ReadsNone s ns (Lacks f) = Unit {0}

module _ (chases : FutureShape → Chase) (given : AllGiven chases) where
  fetched_none : (s : Store) (n : ℕ) (f : FutureShape) (c : Chase) → chases f ≡ c → n < length s → IsClosedStore s → is_future (cell s n) ≡ true → ReadsNone s (n ∷ []) (fetched s n c)
  fetched_none s n f (Value y p) is lt h held = let x = placed_from s n p.cells p.roots lt h held (given f y p is) in (x.0, (x.1, tt))
  fetched_none s n f (Unfilled x) is lt h held = tt
  fetched_none s n f (Cycle x) is lt h held = tt

  operand_none : (s : Store) (n : ℕ) (c : CellShape) → cell s n ≡ c → n < length s → IsClosedStore s → ReadsNone s (n ∷ []) (operand_ready chases s n c)
  operand_none s n (Future f) e lt h = fetched_none s n f (chases f) refl lt h (ap is_future e)
  operand_none s n (Number z) e lt h = (from_itself s h, (ap is_future e, tt))
  operand_none s n (Object fields methods) e lt h = (from_itself s h, (ap is_future e, tt))
  operand_none s n (Reference m) e lt h = (from_itself s h, (ap is_future e, tt))
  operand_none s n (Group ns) e lt h = (from_itself s h, (ap is_future e, tt))

  -- first these places, and then those
  then_none : (s : Store) (ms ns : List ℕ) (next : Store → Ready) → AreBelow (length s) ms → ((t : Store) → IsFrom s t → ReadsNone t ns (next t)) → (r : Ready) → ReadsNone s ms r → ReadsNone s (ms ++ ns) (elim r [ Reads t ↦ next t | Lacks f ↦ Lacks f ])
  then_none s ms ns next below to (Reads t) h = both (next t) (to t h.0)
    where
      both : (r : Ready) → ReadsNone t ns r → ReadsNone s (ms ++ ns) r
      both (Reads u) k = (from_both s t u h.0 k.0, each_both (IsNone u) ms ns (nones_still t u ms k.0 (below_more (length s) (length t) h.0.longer ms below) h.1) k.1)
      both (Lacks f) k = tt
  then_none s ms ns next below to (Lacks f) h = tt

  operands_none : (ns : List ℕ) (s : Store) → AreBelow (length s) ns → IsClosedStore s → ReadsNone s ns (operands_ready chases s ns)
  operands_none [] s below h = (from_itself s h, tt)
  operands_none (n ∷ ns) s below h = then_none s (n ∷ []) ns (λ t. operands_ready chases t ns) (below.0, tt) (λ t f. operands_none ns t (below_more (length s) (length t) f.longer ns below.1) f.closed) (operand_ready chases s n (cell s n)) (operand_none s n (cell s n) refl below.0 h)

-- The strict operands of a redex

-- a group that is waited for has its members still where some of them are unpacked
same_first : (s t : Store) (ns : List ℕ) → IsFrom s t → AreBelow (length s) ns → Each (IsNone s) ns → members_at t ns ≡ members_at s ns
same_first s t [] f b h = refl
same_first s t (n ∷ ns) f b h = ap members_of (f.same n b.0 h.0)

same_members : (s t : Store) (h : Head) (ns : List ℕ) → IsFrom s t → AreBelow (length s) (strict_operands h ns) → Each (IsNone s) (strict_operands h ns) → strict_members t h ns ≡ strict_members s h ns
same_members s t WaitAll ns f b k = same_first s t ns f b k
same_members s t h ns f b k = refl

none_first : (s : Store) (ns : List ℕ) → Each (IsNone s) ns → first_future s ns ≡ None
none_first s [] h = refl
none_first s (n ∷ ns) h = ap (λ (b : Bool). elim b [ true ↦ Some n | false ↦ first_future s ns ]) h.0 ∙ none_first s ns h.1

-- where a redex is read, its contraction asks for no future
abbrev pub AsksNone : Redex → Ready → Type 0
AsksNone r (Reads t) = first_future t (strict_operands r.head r.places ++ strict_members t r.head r.places) ≡ None
AsksNone r (Lacks f) = Unit {0}

module _ (chases : FutureShape → Chase) (given : AllGiven chases) (r : Redex) where
  abbrev operands : List ℕ
  operands = strict_operands r.head r.places

  members_asked : (t : Store) → AreBelow (length t) operands → Each (IsNone t) operands → (x : Ready) → ReadsNone t (strict_members t r.head r.places) x → AsksNone r x
  members_asked t below h (Reads u) k = none_first u (operands ++ strict_members u r.head r.places) (each_both (IsNone u) operands (strict_members u r.head r.places) (nones_still t u operands k.0 below h) (subst (Each (IsNone u)) (sym (same_members t u r.head r.places k.0 below h)) k.1))
  members_asked t below h (Lacks f) k = tt

  operands_asked : (s : Store) → AreBelow (length s) operands → (x : Ready) → ReadsNone s operands x → AsksNone r (elim x [ Reads t ↦ operands_ready chases t (strict_members t r.head r.places) | Lacks f ↦ Lacks f ])
  operands_asked s below (Reads t) h = members_asked t (below_more (length s) (length t) h.0.longer operands below) h.1 (operands_ready chases t (strict_members t r.head r.places)) (operands_none chases given (strict_members t r.head r.places) t (waited_below t r.head r.places h.0.closed) h.0.closed)
  operands_asked s below (Lacks f) h = tt

  pub redex_asks_none : (s : Store) → AreBelow (length s) r.places → IsClosedStore s → AsksNone r (redex_ready chases s r)
  redex_asks_none s below h =
      let strict = operands_below (length s) r.head r.places below in
      operands_asked s strict (operands_ready chases s operands) (operands_none chases given operands s strict h)
