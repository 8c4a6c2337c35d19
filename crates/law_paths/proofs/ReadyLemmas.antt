-- Strict operands that are read on both sides: where one side has the value in place, the other unpacks it.
use Rattle.std.specs.Prelude.{◌≡◌, ℕ, ◌<◌, ◌≤◌, false, List, [], ◌∷◌, Some, None, length}
use Rattle.std.proofs.Common.{refl, sym, ap, subst, ◌∙◌, arith, ⊎_elim}
use Rattle.asp_model.specs.Names.{FutureShape}
use Rattle.asp_model.specs.Term.{Head, Get, Put, Call, Clone, Active, If, Operate, Print, Scatter, Size, Member, WaitAll}
use Rattle.asp_model.specs.Split.{Redex}
use Rattle.asp_model.specs.Store.{CellShape, Number, Object, Reference, Future, Group, Store, cell, moved_cell}
use Rattle.asp_model.specs.Parcel.{ParcelShape, unpack_at}
use Rattle.asp_model.specs.Contraction.{is_future, strict_operands, strict_members, members_at, members_of, first_of}
use Rattle.asp_model.specs.Chase.{Chase, Value, Unfilled, Cycle}
use Rattle.asp_model.specs.Intent.{Ready, Reads, Lacks, fetched, operand_ready, operands_ready, redex_ready}
use Rattle.law_chases.proofs.FutureLemmas.{none_true, true_false}
use Rattle.def_paths.specs.Places.{Place, In_store, Side, told, read_by, entered_by, entered, found, side_by, value_by, name_by}
use Rattle.def_paths.specs.Agree.{Pairs, no_pair, pair}
use Rattle.law_paths.specs.Links.{IsClosedSide, Link}
use Rattle.law_paths.specs.Alike.{AlikeCells, groups, numbers, objects, references, AlikeRedexes}
use Rattle.law_paths.proofs.CellLemmas.{not_entered}
use Rattle.law_paths.proofs.PairLemmas.{Then, pairs_weaker}
use Rattle.law_paths.proofs.LinkLemmas.{Itself, link_itself, Back, link_back, link_then}
use Rattle.law_paths.proofs.GrownLemmas.{over}
use Rattle.law_paths.proofs.DeliveredLemmas.{number_case}
use Rattle.law_paths.proofs.DeliveredLemmas as Delivering
use Rattle.law_paths.proofs.OnwardLemmas.{Stored, Sides, Onward, here, cells_at, low, low_too}
use Rattle.law_paths.proofs.RowsLemmas.{Operand}

pub moved_future : (f : ℕ → ℕ) (c : CellShape) → is_future (moved_cell f c) ≡ is_future c
moved_future f (Future x) = refl
moved_future f (Number z) = refl
moved_future f (Object fs ms) = refl
moved_future f (Reference n) = refl
moved_future f (Group ns) = refl

told_future : (names : FutureShape → FutureShape) (c : CellShape) → is_future (told names c) ≡ is_future c
told_future names (Future x) = refl
told_future names (Number z) = refl
told_future names (Object fs ms) = refl
told_future names (Reference n) = refl
told_future names (Group ns) = refl

-- a cell that is no future stays
abbrev pub StaysPlain : Store → Store → Type 0
StaysPlain s t = (j : ℕ) → j < length s → is_future (cell s j) ≡ false → cell t j ≡ cell s j

-- a store whose operand at n is read: it shows what it showed
pub record Fetched (a : Side) (n : ℕ) (t : Store) : Type 1 where
  pub rel : Place → Place → Type 0
  pub link : Link (over a t) a rel
  pub closed : IsClosedSide (over a t)
  pub same : (j : ℕ) → j < length a.store → rel (In_store j) (In_store j)
  pub shown : is_future (found a (In_store n)) ≡ false
  pub plain : is_future (cell t n) ≡ false
  pub stays : StaysPlain a.store t
  pub longer : length a.store ≤ length t

-- one operand is read, or lacks a value
pub data OneReady (a : Side) (n : ℕ) : Ready → Type 1 where
  fetches : (t : Store) → Fetched a n t → OneReady a n (Reads t)
  lacks : (f : FutureShape) → found a (In_store n) ≡ Future f → OneReady a n (Lacks f)

module _ (k : FutureShape → Chase) (s : Store) (h : IsClosedSide (side_by k s)) (n : ℕ) (lt : n < length s) where
  abbrev a : Side
  a = side_by k s

  as_it_stands : is_future (cell s n) ≡ false → OneReady a n (Reads s)
  as_it_stands e =
      let none : entered a (In_store n) ≡ None = not_entered a.values (cell s n) e in
      fetches s (record {
        rel = Itself a;
        link = link_itself a h;
        closed = h;
        same = λ j lt. (lt, refl);
        shown = ap is_future (λ i. told a.awaited (read_by (cell s n) (none i))) ∙ told_future a.awaited (cell s n) ∙ e;
        plain = e;
        stays = λ j lt d. refl;
        longer = omega arith;
      })

  module _ (f : FutureShape) (at : cell s n ≡ Future f) where
    lacking : (g : FutureShape) → value_by (k f) ≡ None → name_by (k f) ≡ g → OneReady a n (Lacks g)
    lacking g none name = lacks g ((λ i. told a.awaited (read_by (at i) (entered_by a.values (at i)))) ∙ (λ i. told a.awaited (read_by (Future f) (none i))) ∙ ap Future name)

    unpacking : (p : ParcelShape) → value_by (k f) ≡ Some p → OneReady a n (Reads (unpack_at s n p))
    unpacking p value = by p.cells p.roots value (h.roots f p value)
      where
        by : (cells : List CellShape) (roots : List ℕ) → value_by (k f) ≡ Some (record { cells = cells; roots = roots }) → 0 < length cells → OneReady a n (Reads (unpack_at s n (record { cells = cells; roots = roots })))
        by [] roots value some = absurd (omega (arith, some))
        by (c ∷ cs) roots value some =
            let there : entered a (In_store n) ≡ Some (record { cells = c ∷ cs; roots = roots }) = ap (entered_by a.values) at ∙ value in
            fetches (unpack_at s n (record { cells = c ∷ cs; roots = roots })) (record {
              rel = Delivering.Delivers a h n f c cs roots lt at value;
              link = Delivering.delivered_link a h n f c cs roots lt at value;
              closed = Delivering.delivered_closed a h n f c cs roots lt at value;
              same = Delivering.delivers a h n f c cs roots lt at value;
              shown = ap is_future (λ i. told a.awaited (read_by (cell s n) (there i))) ∙ told_future a.awaited c ∙ Delivering.plain a h n f c cs roots lt at value;
              plain = ap is_future (Delivering.cell_at_i a h n f c cs roots lt at value) ∙ moved_future (Delivering.g a h n f c cs roots lt at value) c ∙ Delivering.plain a h n f c cs roots lt at value;
              stays = λ j lt' d. ⊎_elim
                  (λ e. none_true (sym d ∙ ap (λ x. is_future (cell s x)) e ∙ ap is_future at))
                  (λ ne. Delivering.cell_low a h n f c cs roots lt at value j lt' ne)
                  (number_case j n);
              longer = let e = Delivering.size a h n f c cs roots lt at value in omega (arith, e);
            })

    fetched_ready : (y : Chase) → k f ≡ y → OneReady a n (fetched s n y)
    fetched_ready (Value g p) e = unpacking p (ap value_by e)
    fetched_ready (Unfilled g) e = lacking g (ap value_by e) (ap name_by e)
    fetched_ready (Cycle g) e = lacking g (ap value_by e) (ap name_by e)

  by_cell : (c : CellShape) → cell s n ≡ c → OneReady a n (operand_ready k s n c)
  by_cell (Future f) e = fetched_ready f e (k f) refl
  by_cell (Number z) e = as_it_stands (ap is_future e)
  by_cell (Object fs ms) e = as_it_stands (ap is_future e)
  by_cell (Reference m) e = as_it_stands (ap is_future e)
  by_cell (Group ns) e = as_it_stands (ap is_future e)

  pub one_ready : OneReady a n (operand_ready k s n (cell s n))
  one_ready = by_cell (cell s n) refl

-- Both sides

pub data AlikeReady (a b : Side) (R : Place → Place → Type 0) (xs ys : List ℕ) : Ready → Ready → Type 1 where
  both_read : {t u : Store} (o : Onward R (over a t) (over b u)) → StaysPlain a.store t → StaysPlain b.store u → Pairs (Operand (over a t) (over b u) o.rel o.sides) xs ys → AlikeReady a b R xs ys (Reads t) (Reads u)
  both_lack : (f : FutureShape) → AlikeReady a b R xs ys (Lacks f) (Lacks f)

named : (x y : FutureShape) → Future x ≡ Future y → x ≡ y
named x y e = ap (λ c. elim c [ Future z ↦ z | _ ↦ x ]) e

abbrev read_on : (FutureShape → Chase) → List ℕ → Ready → Ready
read_on k ns r = elim r [ Reads t ↦ operands_ready k t ns | Lacks f ↦ Lacks f ]

-- the sides on which one operand was read
pub fetched_sides : (a b : Side) (R : Place → Place → Type 0) → Sides a b R → (n m : ℕ) (t u : Store) (x : Fetched a n t) (y : Fetched b m u) → Sides (over a t) (over b u) (Then (Then x.rel R) (Back y.rel))
fetched_sides a b R s n m t u x y = record {
  link = link_then (over a t) b (over b u) (Then x.rel R) (Back y.rel) (link_then (over a t) a b x.rel R x.link s.link) (link_back (over b u) b y.rel y.link);
  left = x.closed;
  right = y.closed;
}

operand_stays : (a b : Side) (R : Place → Place → Type 0) (s : Sides a b R) (t u : Store) (o : Onward R (over a t) (over b u)) → StaysPlain a.store t → StaysPlain b.store u → (i j : ℕ) → Operand a b R s i j → Operand (over a t) (over b u) o.rel o.sides i j
operand_stays a b R s t u o left right i j x = record { related = o.keeps i j x.related; left = ap is_future (left i (low a b R s i j x.related) x.left) ∙ x.left; right = ap is_future (right j (low_too a b R s i j x.related) x.right) ∙ x.right }

operands_stay : (a b : Side) (R : Place → Place → Type 0) (s : Sides a b R) (t u : Store) (o : Onward R (over a t) (over b u)) → StaysPlain a.store t → StaysPlain b.store u → (xs ys : List ℕ) → Pairs (Operand a b R s) xs ys → Pairs (Operand (over a t) (over b u) o.rel o.sides) xs ys
operands_stay a b R s t u o left right xs ys = pairs_weaker (Operand a b R s) (Operand (over a t) (over b u) o.rel o.sides) (operand_stays a b R s t u o left right) xs ys

module _ (k k' : FutureShape → Chase) where
  abbrev AllReady : Store → Store → (Place → Place → Type 0) → List ℕ → List ℕ → Ready → Ready → Type 1
  AllReady s s' R = AlikeReady (side_by k s) (side_by k' s') R

  module _ (s s' : Store) (R : Place → Place → Type 0) (both : Sides (side_by k s) (side_by k' s') R) (n m : ℕ) (r : Stored R n m) (ns ms : List ℕ) (rs : Pairs (Stored R) ns ms) where
    abbrev Next : Type 1
    Next = (t u : Store) (Later : Place → Place → Type 0) → Sides (side_by k t) (side_by k' u) Later → Pairs (Stored Later) ns ms → AllReady t u Later ns ms (operands_ready k t ns) (operands_ready k' u ms)

    onward_from : (t u : Store) (x : Fetched (side_by k s) n t) (y : Fetched (side_by k' s') m u) (p q : Ready) → AllReady t u (Then (Then x.rel R) (Back y.rel)) ns ms p q → AllReady s s' R (n ∷ ns) (m ∷ ms) p q
    onward_from t u x y _ _ (both_lack f) = both_lack f
    onward_from t u x y _ _ (both_read {t = t'} {u = u'} o left right ops) =
        let keeps : (i j : ℕ) → Stored R i j → Stored (Then (Then x.rel R) (Back y.rel)) i j = λ i j z. (In_store j, (In_store i, x.same i (low _ _ R both i j z), z), y.same j (low_too _ _ R both i j z)) in
        both_read (record { rel = o.rel; sides = o.sides; keeps = λ i j z. o.keeps i j (keeps i j z) })
        (λ j lt e. left j (omega (arith, lt, x.longer)) (ap is_future (x.stays j lt e) ∙ e) ∙ x.stays j lt e) (λ j lt e. right j (omega (arith, lt, y.longer)) (ap is_future (y.stays j lt e) ∙ e) ∙ y.stays j lt e)
        (pair (record { related = o.keeps n m (keeps n m r); left = ap is_future (left n (omega (arith, low _ _ R both n m r, x.longer)) x.plain) ∙ x.plain; right = ap is_future (right m (omega (arith, low_too _ _ R both n m r, y.longer)) y.plain) ∙ y.plain }) ops)

    step_both : (p q : Ready) → OneReady (side_by k s) n p → OneReady (side_by k' s') m q → Next → AllReady s s' R (n ∷ ns) (m ∷ ms) (read_on k ns p) (read_on k' ms q)
    step_both _ _ (fetches t x) (fetches u y) to = onward_from t u x y _ _ (to t u (Then (Then x.rel R) (Back y.rel)) (fetched_sides _ _ R both n m t u x y)
        (pairs_weaker (Stored R) (Stored (Then (Then x.rel R) (Back y.rel))) (λ i j z. (In_store j, (In_store i, x.same i (low _ _ R both i j z), z), y.same j (low_too _ _ R both i j z))) ns ms rs))
    step_both _ _ (fetches t x) (lacks f e) to = absurd (true_false _ (ap is_future (both.link.same (In_store n) (In_store m) r ∙ e)) x.shown)
    step_both _ _ (lacks f e) (fetches u y) to = absurd (true_false _ (ap is_future (sym (both.link.same (In_store n) (In_store m) r) ∙ e)) y.shown)
    step_both _ _ (lacks f e) (lacks g d) to = subst (λ z. AllReady s s' R (n ∷ ns) (m ∷ ms) (Lacks f) (Lacks z)) (named f g (sym e ∙ both.link.same (In_store n) (In_store m) r ∙ d)) (both_lack f)

  -- strict operands are read on both sides, or both lack the same future
  pub operands_both : (ns ms : List ℕ) (s s' : Store) (R : Place → Place → Type 0) → Sides (side_by k s) (side_by k' s') R → Pairs (Stored R) ns ms → AllReady s s' R ns ms (operands_ready k s ns) (operands_ready k' s' ms)
  operands_both [] [] s s' R both ps = both_read (here _ _ R both) (λ j lt e. refl) (λ j lt e. refl) no_pair
  operands_both [] (m ∷ ms) s s' R both ps = elim ps [ ]
  operands_both (n ∷ ns) [] s s' R both ps = elim ps [ ]
  operands_both (n ∷ ns) (m ∷ ms) s s' R both (pair r rs) = step_both s s' R both n m r ns ms rs _ _ (one_ready k s both.left n (low _ _ R both n m r)) (one_ready k' s' both.right m (low_too _ _ R both n m r))
      (λ t u Later sides qs. operands_both ns ms t u Later sides qs)

-- Which operands are strict

module _ (L : ℕ → ℕ → Type 0) where
  first_alike : (ns ms : List ℕ) → Pairs L ns ms → Pairs L (first_of ns) (first_of ms)
  first_alike _ _ no_pair = no_pair
  first_alike _ _ (pair r rs) = pair r no_pair

  pub strict_alike : (h : Head) (ns ms : List ℕ) → Pairs L ns ms → Pairs L (strict_operands h ns) (strict_operands h ms)
  strict_alike (Get l) ns ms ps = ps
  strict_alike (Put l) ns ms ps = first_alike ns ms ps
  strict_alike (Call l) ns ms ps = first_alike ns ms ps
  strict_alike Clone ns ms ps = ps
  strict_alike (Active service) ns ms ps = ps
  strict_alike If ns ms ps = ps
  strict_alike (Operate sign) ns ms ps = ps
  strict_alike Print ns ms ps = ps
  strict_alike (Scatter l) ns ms ps = ps
  strict_alike Size ns ms ps = ps
  strict_alike Member ns ms ps = ps
  strict_alike WaitAll ns ms ps = ps
  strict_alike h ns ms ps = no_pair

  members_alike : (c d : CellShape) → AlikeCells L c d → Pairs L (members_of c) (members_of d)
  members_alike _ _ (groups ps) = ps
  members_alike _ _ (numbers z) = no_pair
  members_alike _ _ (objects fs ms) = no_pair
  members_alike _ _ (references n) = no_pair

module _ (a b : Side) (R : Place → Place → Type 0) (s : Sides a b R) where
  waited_alike : (ns ms : List ℕ) → Pairs (Operand a b R s) ns ms → Pairs (Stored R) (members_at a.store ns) (members_at b.store ms)
  waited_alike _ _ no_pair = no_pair
  waited_alike _ _ (pair {x = i} {y = j} x xs) = members_alike (Stored R) _ _ (cells_at a b R s i j x.related x.left x.right)

  pub strict_members_alike : (h : Head) (ns ms : List ℕ) → Pairs (Operand a b R s) (strict_operands h ns) (strict_operands h ms) → Pairs (Stored R) (strict_members a.store h ns) (strict_members b.store h ms)
  strict_members_alike WaitAll ns ms ps = waited_alike ns ms ps
  strict_members_alike h ns ms ps = no_pair

-- each is in the store, and no future
abbrev AllPlain : Side → List ℕ → Type 0
AllPlain z [] = Unit {0}
AllPlain z (n ∷ ns) = ((n < length z.store) × (is_future (cell z.store n) ≡ false)) × AllPlain z ns

-- Redexes

-- related cells that are no futures
abbrev pub PlainBoth : (a b : Side) (R : Place → Place → Type 0) → ℕ → ℕ → Type 0
PlainBoth a b R i j = Stored R i j × (is_future (cell a.store i) ≡ false) × (is_future (cell b.store j) ≡ false)

-- both redexes can be contracted on what is read, or both lack the same future
pub data ReadyRedexes (a b : Side) (R : Place → Place → Type 0) (x y : Redex) : Ready → Ready → Type 1 where
  may_contract : {t u : Store} (o : Onward R (over a t) (over b u)) → ((i j : ℕ) → PlainBoth a b R i j → Operand (over a t) (over b u) o.rel o.sides i j) → Pairs (Operand (over a t) (over b u) o.rel o.sides) (strict_operands x.head x.places) (strict_operands x.head y.places)
      → Pairs (Operand (over a t) (over b u) o.rel o.sides) (strict_members t x.head x.places) (strict_members u y.head y.places) → ReadyRedexes a b R x y (Reads t) (Reads u)
  may_not : (f : FutureShape) → ReadyRedexes a b R x y (Lacks f) (Lacks f)

module _ (k k' : FutureShape → Chase) (s s' : Store) (R : Place → Place → Type 0) (both : Sides (side_by k s) (side_by k' s') R) (x y : Redex) (e : AlikeRedexes (Stored R) x y) where
  abbrev near : Side
  near = side_by k s

  abbrev far : Side
  far = side_by k' s'

  abbrev read_members : (FutureShape → Chase) → Redex → Ready → Ready
  read_members k z r = elim r [ Reads t ↦ operands_ready k t (strict_members t z.head z.places) | Lacks f ↦ Lacks f ]

  abbrev first : List ℕ
  first = strict_operands x.head x.places

  abbrev first_too : List ℕ
  first_too = strict_operands x.head y.places

  -- the members of a group stay while they are read
  members_stay : (h : Head) (z : Side) (t' : Store) (ns : List ℕ) → StaysPlain z.store t' → AllPlain z (strict_operands h ns) → strict_members t' h ns ≡ strict_members z.store h ns
  members_stay WaitAll z t' [] stays plain = refl
  members_stay WaitAll z t' (n ∷ ns) stays plain = ap members_of (stays n plain.0.0 plain.0.1)
  members_stay h z t' ns stays plain = refl

  all_plain : (t u : Store) (o : Onward R (over near t) (over far u)) (xs ys : List ℕ) → Pairs (Operand (over near t) (over far u) o.rel o.sides) xs ys → AllPlain (over near t) xs × AllPlain (over far u) ys
  all_plain t u o _ _ no_pair = (tt, tt)
  all_plain t u o _ _ (pair {x = i} {y = j} x xs) = let k = all_plain t u o _ _ xs in (((low _ _ o.rel o.sides i j x.related, x.left), k.0), ((low_too _ _ o.rel o.sides i j x.related, x.right), k.1))

  abbrev Stays : (t u : Store) → Onward R (over near t) (over far u) → Type 0
  Stays t u o = (i j : ℕ) → PlainBoth near far R i j → Operand (over near t) (over far u) o.rel o.sides i j

  members_ready : (t u : Store) (o : Onward R (over near t) (over far u)) → Stays t u o → Pairs (Operand (over near t) (over far u) o.rel o.sides) first first_too → (p q : Ready) → AlikeReady (over near t) (over far u) o.rel (strict_members t x.head x.places) (strict_members u x.head y.places) p q → ReadyRedexes near far R x y p q
  members_ready t u o stays ops _ _ (both_lack f) = may_not f
  members_ready t u o stays ops _ _ (both_read {t = t'} {u = u'} o' left right more) =
      let plain = all_plain t u o first first_too ops in
      may_contract (record { rel = o'.rel; sides = o'.sides; keeps = λ i j r. o'.keeps i j (o.keeps i j r) })
      (λ i j x. operand_stays (over near t) (over far u) o.rel o.sides t' u' o' left right i j (stays i j x))
      (operands_stay (over near t) (over far u) o.rel o.sides t' u' o' left right first first_too ops)
      (subst (λ h. Pairs (Operand (over near t') (over far u') o'.rel o'.sides) (strict_members t' x.head x.places) (strict_members u' h y.places)) e.head
      (subst (λ l. Pairs (Operand (over near t') (over far u') o'.rel o'.sides) l (strict_members u' x.head y.places)) (sym (members_stay x.head (over near t) t' x.places left plain.0))
      (subst (λ l. Pairs (Operand (over near t') (over far u') o'.rel o'.sides) (strict_members t x.head x.places) l) (sym (members_stay x.head (over far u) u' y.places right plain.1)) more)))

  redexes_by : (p q : Ready) → AlikeReady near far R first first_too p q → ReadyRedexes near far R x y (read_members k x p) (read_members k' y q)
  redexes_by _ _ (both_lack f) = may_not f
  redexes_by _ _ (both_read {t = t} {u = u} o left right ops) =
      let ms = strict_members_alike (over near t) (over far u) o.rel o.sides x.head x.places y.places ops in
      subst (λ h. ReadyRedexes near far R x y (operands_ready k t (strict_members t x.head x.places)) (operands_ready k' u (strict_members u h y.places))) e.head
      (members_ready t u o (λ i j x. record { related = o.keeps i j x.0; left = ap is_future (left i (low near far R both i j x.0) x.1) ∙ x.1; right = ap is_future (right j (low_too near far R both i j x.0) x.2) ∙ x.2 }) ops _ _ (operands_both k k' (strict_members t x.head x.places) (strict_members u x.head y.places) t u o.rel o.sides ms))

  -- the strict operands of redexes that are alike
  pub redexes_ready : ReadyRedexes near far R x y (redex_ready k s x) (redex_ready k' s' y)
  redexes_ready = subst (λ h. ReadyRedexes near far R x y (redex_ready k s x) (read_members k' y (operands_ready k' s' (strict_operands h y.places)))) e.head
      (redexes_by _ _ (operands_both k k' first first_too s s' R both (strict_alike (Stored R) x.head x.places y.places e.places)))
