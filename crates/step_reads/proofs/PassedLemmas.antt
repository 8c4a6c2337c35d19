-- Members that are passed, one after the other, and while futures are filled.
use Rattle.std.proofs.Common.{◌≡◌, ◌∙◌, ◌<◌, ◌≤◌, ◌+◌, ℕ, zero, suc, List, [], ◌∷◌, Option, Some, None, get_or, length, take, add-one, refl, sym, ap, subst, arith}
use Rattle.std.proofs.lemmas.List.{take_all}
use Rattle.asp_model.specs.Names.{FutureShape}
use Rattle.asp_model.specs.Store.{CellShape, Number, Object, Reference, Future, Group, Store, cell}
use Rattle.asp_model.specs.Contraction.{members_of}
use Rattle.asp_model.specs.Chase.{Chase, Value, Unfilled, Cycle}
use Rattle.law_steps.proofs.PersistLemmas.{KeepsValues}
use Rattle.step_reads.specs.declared.strict.Strict.{Strict}
use Rattle.step_reads.specs.declared.strict.Strict.TheVariants as strict
use Rattle.step_reads.specs.Faces.{Face}
use Rattle.step_reads.specs.Passed.{ArePassed, members_passed, value_passed}
use Rattle.step_reads.specs.Sights.{Misses, Shows, Sight, first_missed, missed_or, sight, value_sight}

none_missed : {A : Type 0} (g : FutureShape) (o : Option FutureShape) → missed_or (Misses g) o ≡ None → A
none_missed g o e = absurd cc

-- One after the other

module _ (chases : FutureShape → Chase) (s : Store) where
  here_by : (x : Sight) (o p : Option FutureShape) → missed_or x o ≡ None → (o ≡ None → p ≡ None) → missed_or x p ≡ None
  here_by (Shows f) o p e h = h e
  here_by (Misses g) o p e h = none_missed g o e

  -- one more that shows itself is passed
  pub passed_on : (ns : List ℕ) (i : ℕ) (f : Face) → i < length ns → first_missed chases s (take i ns) ≡ None → sight chases (cell s (get_or ns i 0)) ≡ Shows f → first_missed chases s (take (i + 1) ns) ≡ None
  passed_on ns i f lt e is = ap (λ (k : ℕ). first_missed chases s (take k ns)) (add-one i) ∙ on ns i lt e is
    where
      on : (ns : List ℕ) (i : ℕ) → i < length ns → first_missed chases s (take i ns) ≡ None → sight chases (cell s (get_or ns i 0)) ≡ Shows f → first_missed chases s (take (suc i) ns) ≡ None
      on [] i lt e is = absurd (omega (arith, lt))
      on (n ∷ ns) zero lt e is = ap (λ (x : Sight). missed_or x None) is
      on (n ∷ ns) (suc i) lt e is =
          let less : i < length ns = omega (arith, lt) in
          here_by (sight chases (cell s n)) (first_missed chases s (take i ns)) (first_missed chases s (take (suc i) ns)) e (λ h. on ns i less h is)

  found_by : (g : FutureShape) (x : Sight) (o p : Option FutureShape) → missed_or x o ≡ None → (o ≡ None → p ≡ Some g) → missed_or x p ≡ Some g
  found_by g (Shows f) o p e h = h e
  found_by g (Misses k) o p e h = none_missed k o e

  -- the first that is not passed is the first that is missed
  pub passed_to : (ns : List ℕ) (i : ℕ) (g : FutureShape) → i < length ns → first_missed chases s (take i ns) ≡ None → sight chases (cell s (get_or ns i 0)) ≡ Misses g → first_missed chases s ns ≡ Some g
  passed_to [] i g lt e is = absurd (omega (arith, lt))
  passed_to (n ∷ ns) zero g lt e is = ap (λ (x : Sight). missed_or x (first_missed chases s ns)) is
  passed_to (n ∷ ns) (suc i) g lt e is =
      let less : i < length ns = omega (arith, lt) in
      found_by g (sight chases (cell s n)) (first_missed chases s (take i ns)) (first_missed chases s ns) e (λ h. passed_to ns i g less h is)

  -- all are passed
  pub passed_all : (ns : List ℕ) (i : ℕ) → length ns ≤ i → first_missed chases s (take i ns) ≡ None → first_missed chases s ns ≡ None
  passed_all ns i le e = sym (ap (first_missed chases s) (take_all i ns le)) ∙ e

  pub all_passed : (ns : List ℕ) → first_missed chases s ns ≡ None → first_missed chases s (take (length ns) ns) ≡ None
  all_passed ns e = let le : length ns ≤ length ns = omega arith in ap (first_missed chases s) (take_all (length ns) ns le) ∙ e

  pub passes_none : (k : ℕ) → first_missed chases s (take k []) ≡ None
  passes_none zero = refl
  passes_none (suc k) = refl

-- At first none is passed

value_first : (chases : FutureShape → Chase) (c : Chase) → value_passed chases c 0
value_first chases (Value f p) = refl
value_first chases (Unfilled f) = refl
value_first chases (Cycle f) = refl

pub members_first : (chases : FutureShape → Chase) (s : Store) (c : CellShape) → members_passed chases s c 0
members_first chases s (Future f) = value_first chases (chases f)
members_first chases s (Number z) = refl
members_first chases s (Object fields methods) = refl
members_first chases s (Reference n) = refl
members_first chases s (Group ns) = refl

pub passed_first : (chases : FutureShape → Chase) (s : Store) (x : Strict) → ArePassed chases s x 0
passed_first chases s (strict.Members i) = members_first chases s (cell s i)
passed_first chases s strict.Nothing = tt
passed_first chases s (strict.One i) = tt
passed_first chases s (strict.Two i k) = tt

-- While futures are filled

module _ (old new : FutureShape → Chase) (stay : KeepsValues old new) where
  chase_shows : (f : FutureShape) (c : Chase) (x : Face) → old f ≡ c → value_sight c ≡ Shows x → value_sight (new f) ≡ Shows x
  chase_shows f (Value g p) x is e = ap value_sight (stay f g p is) ∙ e
  chase_shows f (Unfilled g) x is e = absurd cc
  chase_shows f (Cycle g) x is e = absurd cc

  still_shows : (c : CellShape) (x : Face) → sight old c ≡ Shows x → sight new c ≡ Shows x
  still_shows (Future f) x e = chase_shows f (old f) x refl e
  still_shows (Number z) x e = e
  still_shows (Object fields methods) x e = e
  still_shows (Reference n) x e = e
  still_shows (Group ns) x e = e

  none_by : (c : CellShape) (x : Sight) (o p : Option FutureShape) → sight old c ≡ x → missed_or x o ≡ None → (o ≡ None → p ≡ None) → missed_or (sight new c) p ≡ None
  none_by c (Shows f) o p is e h = ap (λ (y : Sight). missed_or y p) (still_shows c f is) ∙ h e
  none_by c (Misses g) o p is e h = none_missed g o e

  still_none : (s : Store) (ns : List ℕ) → first_missed old s ns ≡ None → first_missed new s ns ≡ None
  still_none s [] e = refl
  still_none s (n ∷ ns) e = none_by (cell s n) (sight old (cell s n)) (first_missed old s ns) (first_missed new s ns) refl (ap (λ (y : Sight). missed_or y (first_missed old s ns)) refl ∙ e) (still_none s ns)

  value_still : (f : FutureShape) (k : ℕ) (c : Chase) → old f ≡ c → value_passed old c k → value_passed new (new f) k
  value_still f k (Value g p) is e = subst (λ (c : Chase). value_passed new c k) (sym (stay f g p is)) (still_none p.cells (take k (members_of (cell p.cells 0))) e)
  value_still f k (Unfilled g) is e = subst (value_passed new (new f)) (sym e) (value_first new (new f))
  value_still f k (Cycle g) is e = subst (value_passed new (new f)) (sym e) (value_first new (new f))

  members_still : (s : Store) (c : CellShape) (k : ℕ) → members_passed old s c k → members_passed new s c k
  members_still s (Future f) k e = value_still f k (old f) refl e
  members_still s (Number z) k e = still_none s (take k []) e
  members_still s (Object fields methods) k e = still_none s (take k []) e
  members_still s (Reference n) k e = still_none s (take k []) e
  members_still s (Group ns) k e = still_none s (take k ns) e

  -- what was passed stays so
  pub passed_still : (s : Store) (x : Strict) (k : ℕ) → ArePassed old s x k → ArePassed new s x k
  passed_still s (strict.Members i) k e = members_still s (cell s i) k e
  passed_still s strict.Nothing k e = tt
  passed_still s (strict.One i) k e = tt
  passed_still s (strict.Two i j) k e = tt
