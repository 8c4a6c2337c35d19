-- What is seen of operands without a change is what stands there after their values are unpacked.
use Rattle.std.proofs.Common.{◌≡◌, ◌==◌, ◌<◌, ◌≤◌, ◌+◌, ◌≢◌, ℕ, zero, suc, Bool, true, false, List, [], ◌∷◌, ◌++◌, Some, None, length, map, refl, sym, ap, ◌∙◌, subst, length-append, arith}
use Rattle.std.specs.Prelude.{pos}
use Rattle.std.proofs.lemmas.List.{length-map}
use Rattle.std.proofs.lemmas.Bool.Decides.{nat_tests}
use Rattle.asp_model.specs.Names.{FutureShape}
use Rattle.asp_model.specs.Term.{moved}
use Rattle.asp_model.specs.Store.{CellShape, Number, Object, Reference, Future, Group, Field, MethodShape, Store, cell, with_cell, moved_cell}
use Rattle.asp_model.specs.Parcel.{place_at, unpack_at, with_cells_at}
use Rattle.asp_model.specs.Contraction.{first_future, is_future}
use Rattle.asp_model.specs.Chase.{Chase, Value, Unfilled, Cycle}
use Rattle.asp_model.specs.Intent.{Ready, Reads, Lacks, fetched, operand_ready, operands_ready}
use Rattle.law_steps.specs.Closed.{AreBelow}
use Rattle.law_steps.specs.Linked.{Each}
use Rattle.law_steps.proofs.EachLemmas.{below_more}
use Rattle.step_reads.specs.Faces.{Face, GroupFace, ObjectFace, face}
use Rattle.step_reads.specs.Sights.{Sight, Shows, Misses, sight, value_sight, missed_or, first_missed}
use Rattle.step_reads.proofs.ReadyLemmas.{more_ready}
use Rattle.law_steps.proofs.MovedLemmas.{length_written}
use Rattle.step_reads.proofs.ChaseLemmas.{HaveRoots}

-- Cells

map_over : {X Y : Type 0} (g : X → Y) (h : X → X) → ((x : X) → g (h x) ≡ g x) → (xs : List X) → map g (map h xs) ≡ map g xs
map_over g h e [] = refl
map_over g h e (x ∷ xs) = λ i. e x i ∷ map_over g h e xs i

pub face_moved : (f : ℕ → ℕ) (c : CellShape) → face (moved_cell f c) ≡ face c
face_moved f (Number z) = refl
face_moved f (Object fields methods) =
    let place : Field → Field = λ x. record { label = x.label; place = f x.place } in
    let body : MethodShape → MethodShape = λ m. record { head = m.head; body = moved f m.body } in
    λ i. ObjectFace (map_over (λ (x : Field). x.label) place (λ x. refl) fields i) (map_over (λ (m : MethodShape). m.head) body (λ m. refl) methods i)
face_moved f (Reference n) = refl
face_moved f (Future g) = refl
face_moved f (Group ns) = ap GroupFace (length-map ns f)

future_moved : (f : ℕ → ℕ) (c : CellShape) → is_future (moved_cell f c) ≡ is_future c
future_moved f (Number z) = refl
future_moved f (Object fields methods) = refl
future_moved f (Reference n) = refl
future_moved f (Future g) = refl
future_moved f (Group ns) = refl

-- a cell that is no future is seen as it is
sight_standing : (chases : FutureShape → Chase) (c : CellShape) → is_future c ≡ false → sight chases c ≡ Shows (face c)
sight_standing chases (Number z) e = refl
sight_standing chases (Object fields methods) e = refl
sight_standing chases (Reference n) e = refl
sight_standing chases (Future g) e = absurd cc
sight_standing chases (Group ns) e = refl

pub future_below : (s : Store) (n : ℕ) (f : FutureShape) → cell s n ≡ Future f → n < length s
future_below [] n f h = absurd cc
future_below (c ∷ s) zero f h = omega arith
future_below (c ∷ s) (suc n) f h = let below : n < length s = future_below s n f h in omega (arith, below)

pub past_end : (s : Store) (p : ℕ) → length s ≤ p → cell s p ≡ Number (pos 0)
past_end [] p h = refl
past_end (c ∷ s) zero h = absurd (omega arith)
past_end (c ∷ s) (suc p) h = past_end s p (omega arith)

pub cell_before : (s xs : Store) (n : ℕ) → n < length s → cell (s ++ xs) n ≡ cell s n
cell_before [] xs n h = absurd (omega arith)
cell_before (c ∷ s) xs zero h = refl
cell_before (c ∷ s) xs (suc n) h = cell_before s xs n (omega arith)

pub cell_written : (s : Store) (n : ℕ) (d : CellShape) → n < length s → cell (with_cell s n d) n ≡ d
cell_written [] n d h = absurd (omega arith)
cell_written (c ∷ s) zero d h = refl
cell_written (c ∷ s) (suc n) d h = cell_written s n d (omega arith)

cell_kept : (s : Store) (n k : ℕ) (d : CellShape) → k ≢ n → cell (with_cell s n d) k ≡ cell s k
cell_kept [] n k d h = refl
cell_kept (c ∷ s) zero zero d h = absurd (h refl)
cell_kept (c ∷ s) zero (suc k) d h = refl
cell_kept (c ∷ s) (suc n) zero d h = refl
cell_kept (c ∷ s) (suc n) (suc k) d h = cell_kept s n k d (λ e. h (ap suc e))

-- A store where operands were unpacked

-- a store has grown, and is seen as before
pub record IsSeenAs (chases : FutureShape → Chase) (s t : Store) : Type 0 where
  pub grows : length s ≤ length t
  pub same : (k : ℕ) → k < length s → sight chases (cell t k) ≡ sight chases (cell s k)
  pub still : (k : ℕ) → k < length s → is_future (cell s k) ≡ false → is_future (cell t k) ≡ false
  pub kept : (k : ℕ) → k < length s → is_future (cell s k) ≡ false → cell t k ≡ cell s k

pub seen_same : (chases : FutureShape → Chase) (s : Store) → IsSeenAs chases s s
seen_same chases s = record { grows = omega arith; same = λ k h. refl; still = λ k h e. e; kept = λ k h e. refl }

pub seen_then : (chases : FutureShape → Chase) (s t u : Store) → IsSeenAs chases s t → IsSeenAs chases t u → IsSeenAs chases s u
seen_then chases s t u a b = record {
  grows = omega (arith, a.grows, b.grows);
  same = λ k h. b.same k (omega (arith, h, a.grows)) ∙ a.same k h;
  still = λ k h e. b.still k (omega (arith, h, a.grows)) (a.still k h e);
  kept = λ k h e. b.kept k (omega (arith, h, a.grows)) (a.still k h e) ∙ a.kept k h e;
}

pub record IsUnpacked (chases : FutureShape → Chase) (s : Store) (n : ℕ) (x : Ready) : Type 0 where
  pub store : Store
  pub reads : x ≡ Reads store
  pub seen : IsSeenAs chases s store
  pub stands : is_future (cell store n) ≡ false

-- a root at a place, and cells behind
record IsPlaced (s t : Store) (n : ℕ) (c : CellShape) : Type 0 where
  grows : length s ≤ length t
  here : face (cell t n) ≡ face c
  stands : is_future (cell t n) ≡ is_future c
  others : (k : ℕ) → k < length s → k ≢ n → cell t k ≡ cell s k

placed : (s : Store) (n : ℕ) (f : ℕ → ℕ) (cs : List CellShape) → n < length s → 0 < length cs → IsPlaced s (with_cells_at s n (map (moved_cell f) cs)) n (cell cs 0)
placed s n f [] h some = absurd (omega arith)
placed s n f (c ∷ cs) h some =
    let d : CellShape = moved_cell f c in
    let xs : Store = map (moved_cell f) cs in
    let size : length (with_cell s n d) ≡ length s = length_written s n d in
    let all : length (with_cell s n d ++ xs) ≡ length (with_cell s n d) + length xs = length-append (with_cell s n d) xs in
    let at : cell (with_cell s n d ++ xs) n ≡ d = cell_before (with_cell s n d) xs n (omega (arith, size, h)) ∙ cell_written s n d h in
    record {
      grows = omega (arith, size, all);
      here = ap face at ∙ face_moved f c;
      stands = ap is_future at ∙ future_moved f c;
      others = λ k b ne. cell_before (with_cell s n d) xs k (omega (arith, size, b)) ∙ cell_kept s n k d ne;
    }

placed_same : (chases : FutureShape → Chase) (s t : Store) (n : ℕ) (c : CellShape) → IsPlaced s t n c → is_future c ≡ false → sight chases (cell s n) ≡ Shows (face c) → (k : ℕ) → k < length s → (b : Bool) → k == n ≡ b → sight chases (cell t k) ≡ sight chases (cell s k)
placed_same chases s t n c p e h k below true is =
    let same : k ≡ n = grind (arith, nat_tests, is) in
    let there : sight chases (cell t n) ≡ sight chases (cell s n) = sight_standing chases (cell t n) (p.stands ∙ e) ∙ ap Shows p.here ∙ sym h in
    subst (λ (m : ℕ). sight chases (cell t m) ≡ sight chases (cell s m)) (sym same) there
placed_same chases s t n c p e h k below false is =
    let other : k ≢ n = λ q. grind (arith, nat_tests, is, q) in
    ap (sight chases) (p.others k below other)

placed_still : (s t : Store) (n : ℕ) (c : CellShape) → IsPlaced s t n c → is_future c ≡ false → (k : ℕ) → k < length s → is_future (cell s k) ≡ false → (b : Bool) → k == n ≡ b → is_future (cell t k) ≡ false
placed_still s t n c p e k below h true is =
    let same : k ≡ n = grind (arith, nat_tests, is) in
    subst (λ (m : ℕ). is_future (cell t m) ≡ false) (sym same) (p.stands ∙ e)
placed_still s t n c p e k below h false is =
    let other : k ≢ n = λ q. grind (arith, nat_tests, is, q) in
    ap is_future (p.others k below other) ∙ h

placed_kept : (s t : Store) (n : ℕ) (c : CellShape) → IsPlaced s t n c → is_future (cell s n) ≡ true → (k : ℕ) → k < length s → is_future (cell s k) ≡ false → (b : Bool) → k == n ≡ b → cell t k ≡ cell s k
placed_kept s t n c p e k below h true is =
    let same : k ≡ n = grind (arith, nat_tests, is) in
    let future : is_future (cell s k) ≡ true = subst (λ (m : ℕ). is_future (cell s m) ≡ true) (sym same) e in
    let no : false ≡ true = sym h ∙ future in
    absurd cc
placed_kept s t n c p e k below h false is =
    let other : k ≢ n = λ q. grind (arith, nat_tests, is, q) in
    p.others k below other

pub by_chase : (chases : FutureShape → Chase) → HaveRoots chases → (s : Store) (n : ℕ) (g : FutureShape) (f : Face) (x : Chase) → cell s n ≡ Future g → chases g ≡ x → value_sight x ≡ Shows f → IsUnpacked chases s n (fetched s n x)
by_chase chases roots s n g f (Value h p) at is e =
    let root = roots g h p is in
    let here : IsPlaced s (unpack_at s n p) n (cell p.cells 0) = placed s n (place_at (length s) n) p.cells (future_below s n g at) root.0 in
    let seen : sight chases (cell s n) ≡ Shows (face (cell p.cells 0)) = ap (sight chases) at ∙ ap value_sight is in
    record {
      store = unpack_at s n p;
      reads = refl;
      seen = record {
        grows = here.grows;
        same = λ k below. placed_same chases s (unpack_at s n p) n (cell p.cells 0) here root.1 seen k below (k == n) refl;
        still = λ k below h. placed_still s (unpack_at s n p) n (cell p.cells 0) here root.1 k below h (k == n) refl;
        kept = λ k below h. placed_kept s (unpack_at s n p) n (cell p.cells 0) here (ap is_future at) k below h (k == n) refl;
      };
      stands = here.stands ∙ root.1;
    }
by_chase chases roots s n g f (Unfilled h) at is e = absurd cc
by_chase chases roots s n g f (Cycle h) at is e = absurd cc

standing : (chases : FutureShape → Chase) (s : Store) (n : ℕ) (c : CellShape) → cell s n ≡ c → is_future c ≡ false → IsUnpacked chases s n (Reads s)
standing chases s n c at e = record { store = s; reads = refl; seen = seen_same chases s; stands = ap is_future at ∙ e }

by_cell : (chases : FutureShape → Chase) → HaveRoots chases → (s : Store) (n : ℕ) (f : Face) (c : CellShape) → cell s n ≡ c → sight chases c ≡ Shows f → IsUnpacked chases s n (operand_ready chases s n c)
by_cell chases roots s n f (Number z) at e = standing chases s n (Number z) at refl
by_cell chases roots s n f (Object fields methods) at e = standing chases s n (Object fields methods) at refl
by_cell chases roots s n f (Reference m) at e = standing chases s n (Reference m) at refl
by_cell chases roots s n f (Future g) at e = by_chase chases roots s n g f (chases g) at refl e
by_cell chases roots s n f (Group ns) at e = standing chases s n (Group ns) at refl

chase_lacks : (s : Store) (n : ℕ) (g : FutureShape) (x : Chase) → value_sight x ≡ Misses g → fetched s n x ≡ Lacks g
chase_lacks s n g (Value h p) e = absurd cc
chase_lacks s n g (Unfilled h) e = let same : h ≡ g = cc in ap Lacks same
chase_lacks s n g (Cycle h) e = let same : h ≡ g = cc in ap Lacks same

pub cell_lacks : (chases : FutureShape → Chase) (s : Store) (n : ℕ) (g : FutureShape) (c : CellShape) → sight chases c ≡ Misses g → operand_ready chases s n c ≡ Lacks g
cell_lacks chases s n g (Number z) e = absurd cc
cell_lacks chases s n g (Object fields methods) e = absurd cc
cell_lacks chases s n g (Reference m) e = absurd cc
cell_lacks chases s n g (Future h) e = chase_lacks s n g (chases h) e
cell_lacks chases s n g (Group ns) e = absurd cc

-- All operands

missed_same : (chases : FutureShape → Chase) (s t : Store) (ns : List ℕ) → IsSeenAs chases s t → AreBelow (length s) ns → first_missed chases t ns ≡ first_missed chases s ns
missed_same chases s t [] h below = refl
missed_same chases s t (n ∷ ns) h below = λ i. missed_or (h.same n below.0 i) (missed_same chases s t ns h below.1 i)

lacks_step : (chases : FutureShape → Chase) → HaveRoots chases → (s : Store) (n : ℕ) (ns : List ℕ) (g : FutureShape) (x : Sight) → AreBelow (length s) ns → sight chases (cell s n) ≡ x → missed_or x (first_missed chases s ns) ≡ Some g
    → ((u : Store) → AreBelow (length u) ns → first_missed chases u ns ≡ Some g → operands_ready chases u ns ≡ Lacks g) → operands_ready chases s (n ∷ ns) ≡ Lacks g
lacks_step chases roots s n ns g (Shows f) below is e again =
    let u = by_cell chases roots s n f (cell s n) refl is in
    more_ready chases s n ns (Reads u.store) u.reads ∙ again u.store (below_more (length s) (length u.store) u.seen.grows ns below) (missed_same chases s u.store ns u.seen below ∙ e)
lacks_step chases roots s n ns g (Misses h) below is e again =
    let same : h ≡ g = cc in
    more_ready chases s n ns (Lacks h) (cell_lacks chases s n h (cell s n) is) ∙ ap Lacks same

-- the first future that is missed is what the operands lack
pub missed_lacks : (chases : FutureShape → Chase) → HaveRoots chases → (s : Store) (ns : List ℕ) (g : FutureShape) → AreBelow (length s) ns → first_missed chases s ns ≡ Some g → operands_ready chases s ns ≡ Lacks g
missed_lacks chases roots s [] g below e = absurd cc
missed_lacks chases roots s (n ∷ ns) g below e = lacks_step chases roots s n ns g (sight chases (cell s n)) below.1 refl e (λ u. missed_lacks chases roots u ns g)

pub record AreUnpacked (chases : FutureShape → Chase) (s : Store) (ns : List ℕ) (x : Ready) : Type 0 where
  pub store : Store
  pub reads : x ≡ Reads store
  pub seen : IsSeenAs chases s store
  pub stand : Each (λ i. is_future (cell store i) ≡ false) ns

reads_step : (chases : FutureShape → Chase) → HaveRoots chases → (s : Store) (n : ℕ) (ns : List ℕ) (x : Sight) → n < length s → AreBelow (length s) ns → sight chases (cell s n) ≡ x → missed_or x (first_missed chases s ns) ≡ None
    → ((u : Store) → AreBelow (length u) ns → first_missed chases u ns ≡ None → AreUnpacked chases u ns (operands_ready chases u ns)) → AreUnpacked chases s (n ∷ ns) (operands_ready chases s (n ∷ ns))
reads_step chases roots s n ns (Shows f) here below is e again =
    let u = by_cell chases roots s n f (cell s n) refl is in
    let v = again u.store (below_more (length s) (length u.store) u.seen.grows ns below) (missed_same chases s u.store ns u.seen below ∙ e) in
    record {
      store = v.store;
      reads = more_ready chases s n ns (Reads u.store) u.reads ∙ v.reads;
      seen = seen_then chases s u.store v.store u.seen v.seen;
      stand = (v.seen.still n (omega (arith, here, u.seen.grows)) u.stands, v.stand);
    }
reads_step chases roots s n ns (Misses h) here below is e again = absurd cc

-- where none is missed, all are unpacked
pub none_missed : (chases : FutureShape → Chase) → HaveRoots chases → (s : Store) (ns : List ℕ) → AreBelow (length s) ns → first_missed chases s ns ≡ None → AreUnpacked chases s ns (operands_ready chases s ns)
none_missed chases roots s [] below e = record { store = s; reads = refl; seen = seen_same chases s; stand = tt }
none_missed chases roots s (n ∷ ns) below e = reads_step chases roots s n ns (sight chases (cell s n)) below.0 below.1 refl e (λ u. none_missed chases roots u ns)

-- no future stands among them
pub no_future : (s : Store) (ns : List ℕ) → Each (λ i. is_future (cell s i) ≡ false) ns → first_future s ns ≡ None
no_future s [] h = refl
no_future s (n ∷ ns) h = ap (λ (b : Bool). elim b [ true ↦ Some n | false ↦ first_future s ns ]) h.0 ∙ no_future s ns h.1

-- what was seen is the face that stands there
pub shown : (chases : FutureShape → Chase) (s t : Store) (i : ℕ) (f : Face) → IsSeenAs chases s t → i < length s → is_future (cell t i) ≡ false → sight chases (cell s i) ≡ Shows f → face (cell t i) ≡ f
shown chases s t i f h below stands e =
    let both : Shows (face (cell t i)) ≡ Shows f = sym (sight_standing chases (cell t i) stands) ∙ h.same i below ∙ e in
    cc
