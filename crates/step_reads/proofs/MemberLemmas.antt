-- The members of a group that is waited for, over the store where the group was read.
use Rattle.std.proofs.Common.{◌≡◌, ◌<◌, ◌+◌, ℕ, zero, suc, false, List, [], ◌∷◌, ◌++◌, length, map, refl, sym, ap, ◌∙◌, subst, length-append, arith}
use Rattle.std.proofs.lemmas.List.{length-map}
use Rattle.asp_model.specs.Names.{FutureShape}
use Rattle.asp_model.specs.Store.{CellShape, Number, Object, Reference, Future, Group, Store, cell, with_cell, moved_cell}
use Rattle.asp_model.specs.Parcel.{ParcelShape, place_at, unpack_at, with_cells_at}
use Rattle.asp_model.specs.Contraction.{is_future, members_of}
use Rattle.asp_model.specs.Chase.{Values, Chase, Value, Unfilled, Cycle, chase}
use Rattle.asp_model.specs.Intent.{Ready, Reads, fetched, operand_ready}
use Rattle.law_steps.specs.Closed.{AreBelow, CellsBelow, IsClosedStore}
use Rattle.law_steps.proofs.EachLemmas.{each_mapped}
use Rattle.law_steps.proofs.MovedLemmas.{length_written}
use Rattle.law_chases.proofs.ChaseLemmas.{chase_finds}
use Rattle.step_reads.specs.Faces.{Face}
use Rattle.step_reads.specs.Sights.{Shows, first_missed, members_missed, missed_or, sight, value_missed, value_sight}
use Rattle.step_reads.specs.Values.{AreClosedValues}
use Rattle.step_reads.proofs.ChaseLemmas.{HaveRoots}
use Rattle.step_reads.proofs.SightLemmas.{IsSeenAs, IsUnpacked, by_chase, cell_before, cell_written, face_moved, future_below, seen_same}

-- each value that a chase comes to is closed
abbrev pub AreClosed : (FutureShape → Chase) → Type 0
AreClosed chases = (f g : FutureShape) (p : ParcelShape) → chases f ≡ Value g p → IsClosedStore p.cells

pub closed_of : (values : Values) → AreClosedValues values → AreClosed (chase values)
closed_of values closed f g p e = (closed g p (chase_finds values f g p e).0).closed.cells

-- Cells that are moved

sight_moved : (chases : FutureShape → Chase) (f : ℕ → ℕ) (c : CellShape) → sight chases (moved_cell f c) ≡ sight chases c
sight_moved chases f (Number z) = refl
sight_moved chases f (Object fields methods) = ap Shows (face_moved f (Object fields methods))
sight_moved chases f (Reference n) = refl
sight_moved chases f (Future g) = refl
sight_moved chases f (Group ns) = ap Shows (face_moved f (Group ns))

members_moved : (f : ℕ → ℕ) (c : CellShape) → members_of (moved_cell f c) ≡ map f (members_of c)
members_moved f (Number z) = refl
members_moved f (Object fields methods) = refl
members_moved f (Reference n) = refl
members_moved f (Future g) = refl
members_moved f (Group ns) = refl

cell_behind : (s xs : Store) (n : ℕ) → cell (s ++ xs) (n + length s) ≡ cell xs n
cell_behind [] xs n = let same : n + 0 ≡ n = omega arith in ap (cell xs) same
cell_behind (c ∷ s) xs n = let same : n + suc (length s) ≡ suc (n + length s) = omega arith in ap (cell (c ∷ (s ++ xs))) same ∙ cell_behind s xs n

cell_mapped : (f : ℕ → ℕ) (cs : List CellShape) (n : ℕ) → n < length cs → cell (map (moved_cell f) cs) n ≡ moved_cell f (cell cs n)
cell_mapped f [] n lt = absurd (omega (arith, lt))
cell_mapped f (c ∷ cs) zero lt = refl
cell_mapped f (c ∷ cs) (suc n) lt = let less : n < length cs = omega (arith, lt) in cell_mapped f cs n less

-- where a number of a parcel stands once it is unpacked
landed : (s : Store) (n : ℕ) (f : ℕ → ℕ) (cs : List CellShape) (m : ℕ) → n < length s → m < length cs → cell (with_cells_at s n (map (moved_cell f) cs)) (place_at (length s) n m) ≡ moved_cell f (cell cs m)
landed s n f [] m here lt = absurd (omega (arith, lt))
landed s n f (c ∷ cs) zero here lt =
    let d : CellShape = moved_cell f c in
    let xs : Store = map (moved_cell f) cs in
    let size : length (with_cell s n d) ≡ length s = length_written s n d in
    let less : n < length (with_cell s n d) = omega (arith, size, here) in
    cell_before (with_cell s n d) xs n less ∙ cell_written s n d here
landed s n f (c ∷ cs) (suc m) here lt =
    let d : CellShape = moved_cell f c in
    let xs : Store = map (moved_cell f) cs in
    let size : length (with_cell s n d) ≡ length s = length_written s n d in
    let less : m < length cs = omega (arith, lt) in
    ap (λ (k : ℕ). cell (with_cell s n d ++ xs) (m + k)) (sym size) ∙ cell_behind (with_cell s n d) xs m ∙ cell_mapped f cs m less

landed_below : (s : Store) (n : ℕ) (f : ℕ → ℕ) (cs : List CellShape) (m : ℕ) → n < length s → m < length cs → place_at (length s) n m < length (with_cells_at s n (map (moved_cell f) cs))
landed_below s n f [] m here lt = absurd (omega (arith, lt))
landed_below s n f (c ∷ cs) zero here lt =
    let d : CellShape = moved_cell f c in
    let xs : Store = map (moved_cell f) cs in
    let size : length (with_cell s n d) ≡ length s = length_written s n d in
    let all : length (with_cell s n d ++ xs) ≡ length (with_cell s n d) + length xs = length-append (with_cell s n d) xs in
    omega (arith, size, all, here)
landed_below s n f (c ∷ cs) (suc m) here lt =
    let d : CellShape = moved_cell f c in
    let xs : Store = map (moved_cell f) cs in
    let size : length (with_cell s n d) ≡ length s = length_written s n d in
    let all : length (with_cell s n d ++ xs) ≡ length (with_cell s n d) + length xs = length-append (with_cell s n d) xs in
    let many : length xs ≡ length cs = length-map cs (moved_cell f) in
    omega (arith, size, all, many, lt)

-- members are missed there as in the parcel
missed_landed : (chases : FutureShape → Chase) (s : Store) (n : ℕ) (p : ParcelShape) (ms : List ℕ) → n < length s → AreBelow (length p.cells) ms → first_missed chases (unpack_at s n p) (map (place_at (length s) n) ms) ≡ first_missed chases p.cells ms
missed_landed chases s n p [] here below = refl
missed_landed chases s n p (m ∷ ms) here below =
    let f : ℕ → ℕ = place_at (length s) n in
    let one : sight chases (cell (unpack_at s n p) (f m)) ≡ sight chases (cell p.cells m) = ap (sight chases) (landed s n f p.cells m here below.0) ∙ sight_moved chases f (cell p.cells m) in
    let others : first_missed chases (unpack_at s n p) (map f ms) ≡ first_missed chases p.cells ms = missed_landed chases s n p ms here below.1 in
    λ i. missed_or (one i) (others i)

group_below : (k : ℕ) (c : CellShape) → CellsBelow k (c ∷ []) → AreBelow k (members_of c)
group_below k (Number z) h = tt
group_below k (Object fields methods) h = tt
group_below k (Reference n) h = tt
group_below k (Future g) h = tt
group_below k (Group ns) h = h.0

root_below : (k : ℕ) (cs : List CellShape) → 0 < length cs → CellsBelow k cs → AreBelow k (members_of (cell cs 0))
root_below k [] some h = absurd (omega (arith, some))
root_below k (c ∷ cs) some h = group_below k c (h.0, tt)

-- The store where a group is read

pub record IsGrouped (chases : FutureShape → Chase) (s : Store) (n : ℕ) (c : CellShape) (x : Ready) : Type 0 where
  pub store : Store
  pub reads : x ≡ Reads store
  pub seen : IsSeenAs chases s store
  pub stands : is_future (cell store n) ≡ false
  pub missed : first_missed chases store (members_of (cell store n)) ≡ members_missed chases s c
  pub below : AreBelow (length store) (members_of (cell store n))

-- it stands there itself
as_it_is : (chases : FutureShape → Chase) (s : Store) (n : ℕ) (c : CellShape) → cell s n ≡ c → is_future c ≡ false → members_missed chases s c ≡ first_missed chases s (members_of c) → AreBelow (length s) (members_of c) → IsGrouped chases s n c (Reads s)
as_it_is chases s n c at e missed below = record {
  store = s;
  reads = refl;
  seen = seen_same chases s;
  stands = ap is_future at ∙ e;
  missed = ap (λ (d : CellShape). first_missed chases s (members_of d)) at ∙ sym missed;
  below = subst (λ (d : CellShape). AreBelow (length s) (members_of d)) (sym at) below;
}

by_value : (chases : FutureShape → Chase) → HaveRoots chases → AreClosed chases → (s : Store) (n : ℕ) (g : FutureShape) (f : Face) (x : Chase) → cell s n ≡ Future g → chases g ≡ x → value_sight x ≡ Shows f → IsGrouped chases s n (Future g) (fetched s n x)
by_value chases roots closed s n g f (Value h p) at is e =
    let root = roots g h p is in
    let here : n < length s = future_below s n g at in
    let t : Store = unpack_at s n p in
    let move : ℕ → ℕ = place_at (length s) n in
    let u : IsUnpacked chases s n (Reads t) = by_chase chases roots s n g f (Value h p) at is e in
    let reads : Reads t ≡ Reads u.store = u.reads in
    let same : u.store ≡ t = cc in
    let top : cell t n ≡ moved_cell move (cell p.cells 0) = landed s n move p.cells 0 here root.0 in
    let ms : List ℕ = members_of (cell p.cells 0) in
    let members : members_of (cell t n) ≡ map move ms = ap members_of top ∙ members_moved move (cell p.cells 0) in
    let within : AreBelow (length p.cells) ms = root_below (length p.cells) p.cells root.0 (closed g h p is) in
    record {
      store = t;
      reads = refl;
      seen = subst (IsSeenAs chases s) same u.seen;
      stands = subst (λ (v : Store). is_future (cell v n) ≡ false) same u.stands;
      missed = ap (first_missed chases t) members ∙ missed_landed chases s n p ms here within ∙ sym (ap (value_missed chases) is);
      below = subst (AreBelow (length t)) (sym members) (each_mapped (λ (m : ℕ). m < length p.cells) (λ (k : ℕ). k < length t) move (λ m lt. landed_below s n move p.cells m here lt) ms within);
    }
by_value chases roots closed s n g f (Unfilled h) at is e = absurd cc
by_value chases roots closed s n g f (Cycle h) at is e = absurd cc

grouped_by : (chases : FutureShape → Chase) → HaveRoots chases → AreClosed chases → (s : Store) (n : ℕ) (f : Face) (c : CellShape) → cell s n ≡ c → sight chases c ≡ Shows f → AreBelow (length s) (members_of c) → IsGrouped chases s n c (operand_ready chases s n c)
grouped_by chases roots closed s n f (Number z) at e below = as_it_is chases s n (Number z) at refl refl below
grouped_by chases roots closed s n f (Object fields methods) at e below = as_it_is chases s n (Object fields methods) at refl refl below
grouped_by chases roots closed s n f (Reference m) at e below = as_it_is chases s n (Reference m) at refl refl below
grouped_by chases roots closed s n f (Group ns) at e below = as_it_is chases s n (Group ns) at refl refl below
grouped_by chases roots closed s n f (Future g) at e below = by_value chases roots closed s n g f (chases g) at refl e

pub grouped : (chases : FutureShape → Chase) → HaveRoots chases → AreClosed chases → (s : Store) (n : ℕ) (f : Face) → sight chases (cell s n) ≡ Shows f → AreBelow (length s) (members_of (cell s n)) → IsGrouped chases s n (cell s n) (operand_ready chases s n (cell s n))
grouped chases roots closed s n f e below = grouped_by chases roots closed s n f (cell s n) refl e below
