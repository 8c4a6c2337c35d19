-- A store whose cells show what stands at places of another: both show the same.
use Rattle.std.specs.Prelude.{◌≡◌, ◌≢◌, ℕ, zero, suc, ◌<◌, List, [], ◌∷◌, Option, Some, None, length, map}
use Rattle.std.proofs.Common.{refl, sym, ap, subst, ◌∙◌}
use Rattle.asp_model.specs.Store.{CellShape, Store, cell, reached}
use Rattle.asp_model.specs.Parcel.{ParcelShape}
use Rattle.law_steps.specs.Linked.{Each}
use Rattle.law_chases.proofs.FutureLemmas.{no_some}
use Rattle.def_paths.specs.Places.{Place, In_store, In_value, Side, inner, beside, part, read_by, child_by, entered_by, told, written, entered, found, children}
use Rattle.def_paths.specs.Agree.{Pairs, no_pair, pair}
use Rattle.law_paths.specs.Links.{IsClosedSide, Good, Link}
use Rattle.law_paths.proofs.CellLemmas.{map_map}
use Rattle.law_paths.proofs.GoodLemmas.{one_entered, children_good}

-- where a place of the new store was in the old one
abbrev pub carried : (ℕ → Place) → Place → Place
carried m (In_store j) = m j
carried m (In_value q c) = In_value (carried m q) c

pub carried_inner : (m : ℕ → Place) (p : Place) (c : ℕ) → carried m (inner p c) ≡ inner (carried m p) c
carried_inner m p zero = refl
carried_inner m p (suc c) = refl

abbrev base_of : Place → Place
base_of (In_store j) = In_store j
base_of (In_value q j) = q

abbrev number_of : Place → ℕ
number_of (In_store j) = j
number_of (In_value q j) = j

pub same_base : {p q : Place} {i j : ℕ} → In_value p i ≡ In_value q j → p ≡ q
same_base e = ap base_of e

pub same_number : {p q : Place} {i j : ℕ} → In_value p i ≡ In_value q j → i ≡ j
same_number e = ap number_of e

-- the cell of the store in which a place stands
abbrev pub base : Place → ℕ
base (In_store j) = j
base (In_value q c) = base q

base_inner : (p : Place) (c : ℕ) → base (inner p c) ≡ base p
base_inner p zero = refl
base_inner p (suc c) = refl

-- a store at whose cells in D stands what stood at these places of the old one
module _ (old : Side) (s : Store) (D : ℕ → Type 0) (m : ℕ → Place) where
  abbrev pub new : Side
  new = record old { store = s }

  -- what is shown at a number of the new store and at its place in the old one
  pub data Shown (j : ℕ) : Type 0 where
    -- both enter one value
    entering : (u : ParcelShape) → entered new (In_store j) ≡ Some u → entered old (m j) ≡ Some u → Shown j
    -- nothing is entered here, and what is read there stands here
    reading : entered new (In_store j) ≡ None → told old.awaited (cell s j) ≡ found old (m j) → map m (reached (cell s j)) ≡ children old (m j) → Shown j

  pub record Moves : Type 0 where
    pub within : (j : ℕ) → D j → j < length s
    pub next : (j : ℕ) → D j → Each D (reached (cell s j))
    pub shown : (j : ℕ) → D j → Shown j
    pub good : (j : ℕ) → D j → Good old (m j)
    pub one : (j k : ℕ) → D j → D k → m j ≡ m k → j ≡ k
    -- no cell stands for one of a value that is entered
    pub apart : (j c : ℕ) (q : Place) (u : ParcelShape) → D j → D (base q) → Good new q → entered new q ≡ Some u → m j ≢ In_value (carried m q) c

  -- from the cell that stands here and the one that stood there
  pub shown_by : (j : ℕ) (c d : CellShape) → cell s j ≡ d → written old (m j) ≡ c → entered_by old.values d ≡ entered_by old.values c → told old.awaited d ≡ told old.awaited c → map m (reached d) ≡ map (beside (m j)) (reached c) → Shown j
  shown_by j c d e e' enters tells kids = by (entered_by old.values c) refl
    where
      by : (o : Option ParcelShape) → entered_by old.values c ≡ o → Shown j
      by (Some u) is = entering u (ap (entered_by old.values) e ∙ enters ∙ is) (ap (entered_by old.values) e' ∙ is)
      by None is =
          let none : entered old (m j) ≡ None = ap (entered_by old.values) e' ∙ is in
          reading (ap (entered_by old.values) e ∙ enters ∙ is)
          (ap (told old.awaited) e ∙ tells ∙ sym (λ i. told old.awaited (read_by (e' i) (none i))))
          (ap (λ x. map m (reached x)) e ∙ kids ∙ sym (λ i. map (child_by (none i) (m j)) (reached (read_by (e' i) (none i)))))

  -- a place of the new store, and where it was
  abbrev pub WasAt : Place → Place → Type 0
  WasAt p q = Good new p × D (base p) × (carried m p ≡ q)

  module _ (moves : Moves) where
    entered_store : (j : ℕ) → Shown j → (u : ParcelShape) → entered new (In_store j) ≡ Some u → entered old (m j) ≡ Some u
    entered_store j (entering v e d) u is = d ∙ ap Some (one_entered e is)
    entered_store j (reading e d k) u is = no_some (sym e ∙ is)

    -- what is entered at a place of the new store was entered in the old one
    pub entered_carried : (p : Place) → Good new p → D (base p) → (u : ParcelShape) → entered new p ≡ Some u → entered old (carried m p) ≡ Some u
    entered_carried (In_store j) g h u is = entered_store j (moves.shown j h) u is
    entered_carried (In_value q j) g h u is =
        let d = entered_carried q g.0 h g.1.0 g.1.1 in
        (λ i. entered_by old.values (part (d i) j)) ∙ sym (λ i. entered_by old.values (part (g.1.1 i) j)) ∙ is

    carried_good : (p : Place) → Good new p → D (base p) → Good old (carried m p)
    carried_good (In_store j) g h = moves.good j h
    carried_good (In_value q j) g h = (carried_good q g.0 h, (g.1.0, entered_carried q g.0 h g.1.0 g.1.1, g.1.2))

    abbrev Alike : Place → Place → Type 0
    Alike p q = (found new p ≡ found old q) × (map (carried m) (children new p) ≡ children old q)

    inner_children : (p : Place) (cs : List ℕ) → map (carried m) (map (inner p) cs) ≡ map (inner (carried m p)) cs
    inner_children p = map_map (inner p) (carried m) (inner (carried m p)) (carried_inner m p)

    -- both enter one value
    both_enter : (p q : Place) (u : ParcelShape) → carried m p ≡ q → entered new p ≡ Some u → entered old q ≡ Some u → Alike p q
    both_enter p q u is e d = (
      (λ i. told old.awaited (read_by (written new p) (e i))) ∙ sym (λ i. told old.awaited (read_by (written old q) (d i))),
      (λ i. map (carried m) (map (child_by (e i) p) (reached (read_by (written new p) (e i)))))
          ∙ inner_children p (reached (cell u.cells 0))
          ∙ (λ i. map (inner (is i)) (reached (cell u.cells 0)))
          ∙ sym (λ i. map (child_by (d i) q) (reached (read_by (written old q) (d i)))),
    )

    alike_store : (j : ℕ) → Shown j → Alike (In_store j) (m j)
    alike_store j (entering u e d) = both_enter (In_store j) (m j) u refl e d
    alike_store j (reading e d k) = (
      (λ i. told old.awaited (read_by (cell s j) (e i))) ∙ d,
      (λ i. map (carried m) (map (child_by (e i) (In_store j)) (reached (read_by (cell s j) (e i)))))
          ∙ map_map In_store (carried m) m (λ c. refl) (reached (cell s j)) ∙ k,
    )

    -- the same cell of a value stands at both places
    alike_value : (q : Place) (j : ℕ) (c : CellShape) → written new (In_value q j) ≡ c → written old (In_value (carried m q) j) ≡ c → (o : Option ParcelShape) → entered_by old.values c ≡ o → Alike (In_value q j) (In_value (carried m q) j)
    alike_value q j c e d (Some u) is = both_enter (In_value q j) (In_value (carried m q) j) u refl (ap (entered_by old.values) e ∙ is) (ap (entered_by old.values) d ∙ is)
    alike_value q j c e d None is =
        let x : entered new (In_value q j) ≡ None = ap (entered_by old.values) e ∙ is in
        let y : entered old (In_value (carried m q) j) ≡ None = ap (entered_by old.values) d ∙ is in (
          (λ i. told old.awaited (read_by (e i) (x i))) ∙ sym (λ i. told old.awaited (read_by (d i) (y i))),
          (λ i. map (carried m) (map (child_by (x i) (In_value q j)) (reached (read_by (e i) (x i)))))
              ∙ inner_children q (reached c)
              ∙ sym (λ i. map (child_by (y i) (In_value (carried m q) j)) (reached (read_by (d i) (y i)))),
        )

    alike : (p : Place) → Good new p → D (base p) → Alike p (carried m p)
    alike (In_store j) g h = alike_store j (moves.shown j h)
    alike (In_value q j) g h =
        let d = entered_carried q g.0 h g.1.0 g.1.1 in
        let c = cell g.1.0.cells j in
        alike_value q j c (λ i. part (g.1.1 i) j) (λ i. part (d i) j) (entered_by old.values c) refl

    abbrev IsOf : Place → Type 0
    IsOf p = Good new p × D (base p)

    both_each : (ps : List Place) → Each (Good new) ps → Each (λ p. D (base p)) ps → Each IsOf ps
    both_each [] g h = tt
    both_each (p ∷ ps) g h = ((g.0, h.0), both_each ps g.1 h.1)

    pairs_carried : (ps : List Place) → Each IsOf ps → Pairs WasAt ps (map (carried m) ps)
    pairs_carried [] h = no_pair
    pairs_carried (p ∷ ps) h = pair (h.0.0, h.0.1, refl) (pairs_carried ps h.1)

    inner_based : (p : Place) → D (base p) → (cs : List ℕ) → Each (λ q. D (base q)) (map (inner p) cs)
    inner_based p h [] = tt
    inner_based p h (c ∷ cs) = (subst D (sym (base_inner p c)) h, inner_based p h cs)

    stored_based : (cs : List ℕ) → Each D cs → Each (λ q. D (base q)) (map In_store cs)
    stored_based [] h = tt
    stored_based (c ∷ cs) h = (h.0, stored_based cs h.1)

    child_based : (p : Place) → D (base p) → (o : Option ParcelShape) → Each (λ q. D (base q)) (map (child_by o p) (reached (read_by (written new p) o)))
    child_based p h (Some u) = inner_based p h (reached (cell u.cells 0))
    child_based (In_store j) h None = stored_based (reached (cell s j)) (moves.next j h)
    child_based (In_value q j) h None = inner_based q h (reached (written new (In_value q j)))

    injective : (p q : Place) → IsOf p → IsOf q → carried m p ≡ carried m q → p ≡ q
    injective (In_store j) (In_store k) g h e = ap In_store (moves.one j k g.1 h.1 e)
    injective (In_store j) (In_value q c) g h e = absurd (moves.apart j c q h.0.1.0 g.1 h.1 h.0.0 h.0.1.1 e)
    injective (In_value q c) (In_store j) g h e = absurd (moves.apart j c q g.0.1.0 h.1 g.1 g.0.0 g.0.1.1 (sym e))
    injective (In_value p c) (In_value q d) g h e = λ i. In_value (injective p q (g.0.0, g.1) (h.0.0, h.1) (same_base e) i) (same_number e i)

    pub moves_link : IsClosedSide new → Link new old WasAt
    moves_link closed = record {
      left = λ p q r. r.0;
      right = λ p q r. subst (Good old) r.2 (carried_good p r.0 r.1);
      same = λ p q r. (alike p r.0 r.1).0 ∙ ap (found old) r.2;
      next = λ p q r. subst (λ x. Pairs WasAt (children new p) (children old x)) r.2 (subst (Pairs WasAt (children new p)) (alike p r.0 r.1).1
          (pairs_carried (children new p) (both_each (children new p) (children_good new closed p r.0) (child_based p r.1 (entered new p)))));
      once = λ p q r x y. sym x.2 ∙ y.2;
      back = λ p q r x y. injective p q (x.0, x.1) (y.0, y.1) (x.2 ∙ sym y.2);
    }
