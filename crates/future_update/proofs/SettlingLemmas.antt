-- Passings between two others, and what is marked as they are passed over.
use Rattle.std.proofs.Common.{◌≡◌, ℕ, ◌<◌, ◌≤◌, ◌==◌, ◌≢◌, ◌⊎◌, inl, inr, cond, length, zero, suc, nat_lt, nat_eq, Bool, true, false, eqb, List, [], ◌∷◌, Option, Some, None, refl, sym, ap, ◌∙◌, subst, arith}
use Rattle.std.specs.Prelude.{◌||◌, ◌&&◌, not, filter, slice_get, leb}
use Rattle.future_update.specs.declared.numbered.Edge.{Edge}
use Rattle.future_update.specs.declared.numbered.Future.{Future}
use Rattle.std.proofs.lemmas.Bool.Decides.{eqb_tells, leb_tells, nat_tests}
use Rattle.std.proofs.lemmas.List.{length-map}
use Rattle.std.proofs.lemmas.Option.{slice_get_past}
use Rattle.asp_model.specs.History.{ChoiceShape, Forward, FromHome, Leave}
use Rattle.def_journals.specs.Edges.{EdgeShape, HoldersShape, has_edge, has_filled, owed_at}
use Rattle.future_update.specs.Names.{IsKnownEdge, edge_of}
use Rattle.std.specs.List.{list_any}
use Rattle.std.specs.BTreeMap.{is_at}
use Rattle.std.specs.BTreeSet.{contains}
use Rattle.std.specs.BTreeMap.Range.{range_contains}
use Rattle.std.specs.declared.cmp.Ordering.{Ordering}
use Rattle.std.specs.declared.cmp.Ordering.TheVariants.{Less, Equal, Greater}
use Rattle.std.specs.declared.ops.Bound.TheVariants.{Included}
use Rattle.std.specs.Ordering.{is_eq, is_gt, is_le, is_lt, nat_cmp, ordering_then}
use Rattle.std.specs.FinMap.{nat_cmp-IsAntisymmetric}
use Rattle.std.proofs.lemmas.Bool.{eq-eqb}
use Rattle.future_update.specs.declared.numbered.Passing.{Passing}
use Rattle.core_sets.specs.declared.marks.Marks.{Marks}
use Rattle.future_update.specs.declared.records.Records.{Records}
use Rattle.core_sets.specs.Marks.{MarkedIf, is_marked}
use Rattle.future_update.specs.Numbered.{edge_at, no_edge}
use Rattle.future_update.proofs.NumberLemmas.{all_at}
use Rattle.future_update.proofs.RecordLemmas.{edges_known}
use Rattle.future_update.specs.declared.passings.Passings.{Passings}
use Rattle.future_update.specs.Passings.{AreAhead, ArePassings, IsBetween, IsLeft, IsSound, MarkedLast, is_kept, is_last, may_send, passing_cmp, passing_of}
use Rattle.future_update.specs.Records.{AreRecords, answers_of, names_of, owes, shape_of}
use Rattle.future_update.proofs.NameLemmas.{clash}

equal : (r : Ordering) → is_eq r ≡ true → r ≡ Equal
equal Less e = clash e refl
equal Equal e = refl
equal Greater e = clash e refl

both_equal : (r s : Ordering) → ordering_then r s ≡ Equal → (r ≡ Equal) × (s ≡ Equal)
both_equal Less s e = clash refl (sym (ap is_eq e))
both_equal Equal s e = (refl, e)
both_equal Greater s e = clash refl (sym (ap is_eq e))

pub passing_same : (k x : Passing) → is_at (passing_cmp k) x ≡ true → k ≡ x
passing_same k x e =
    let a = both_equal (nat_cmp k.by x.by) (ordering_then (nat_cmp k.index x.index) (ordering_then (nat_cmp k.from x.from) (nat_cmp k.place x.place))) (equal (passing_cmp k x) e) in
    let b = both_equal (nat_cmp k.index x.index) (ordering_then (nat_cmp k.from x.from) (nat_cmp k.place x.place)) a.1 in
    let c = both_equal (nat_cmp k.from x.from) (nat_cmp k.place x.place) b.1 in
    λ i. record {
      by = nat_cmp-IsAntisymmetric k.by x.by a.0 i;
      index = nat_cmp-IsAntisymmetric k.index x.index b.0 i;
      from = nat_cmp-IsAntisymmetric k.from x.from c.0 i;
      place = nat_cmp-IsAntisymmetric k.place x.place c.1 i;
    }

-- what is among some and passes a test is among those that pass it
pub any_filter : (test : Passing → Bool) (k : Passing) (xs : List Passing) → test k ≡ true → list_any (is_at (passing_cmp k)) xs ≡ true → list_any (is_at (passing_cmp k)) (filter test xs) ≡ true
any_filter test k [] t e = e
any_filter test k (x ∷ xs) t e = by (is_at (passing_cmp k) x) refl e (test x) refl (any_filter test k xs t)
  where
    by : (here : Bool) → is_at (passing_cmp k) x ≡ here → (here || list_any (is_at (passing_cmp k)) xs) ≡ true → (b : Bool) → test x ≡ b → (list_any (is_at (passing_cmp k)) xs ≡ true → list_any (is_at (passing_cmp k)) (filter test xs) ≡ true) → list_any (is_at (passing_cmp k)) (cond b (x ∷ filter test xs) (filter test xs)) ≡ true
    by true h a true _ rest = ap (λ b. b || list_any (is_at (passing_cmp k)) (filter test xs)) h
    by true h a false u rest = clash (ap test (sym (passing_same k x h)) ∙ t) u
    by false h a true _ rest = (λ i. h i || rest a i)
    by false h a false _ rest = rest a

-- where nothing stands, nothing is owed
pub owed_within : (r : Records) (p : ℕ) → owes r p ≡ true → p < length r.edges.keys
owed_within r p owed = elim (leb_tells (length r.edges.keys) p) [
  | inl e ↦ clash owed (ap (λ x. owed_at (shape_of r) x (slice_get (answers_of r) p)) (slice_get_past (shape_of r).edges p (subst (λ n. n ≤ p) (sym (length-map r.edges.keys (edge_of (names_of r)))) e.1)))
  | inr e ↦ e.1
]

pub none_beyond : (r : Records) (p n : ℕ) → n ≡ length r.edges.keys → n ≤ p → nat_lt p n ≡ owes r p
none_beyond r p n size le = by (owes r p) refl
  where
    not_less : nat_lt p n ≡ false
    not_less = grind (arith, nat_tests)

    by : (b : Bool) → owes r p ≡ b → nat_lt p n ≡ owes r p
    by true e = let lt = owed_within r p e in absurd (omega (arith, lt, le, size))
    by false e = not_less ∙ sym e

pub ahead_begins : (r : Records) (owed : Marks) (low high : Passing) (sorted ahead : List Passing) → ((p : ℕ) → owes r p ≡ true → is_marked owed p ≡ false → range_contains passing_cmp (Included low) (Included high) (passing_of (edge_at r.edges.keys p) p) ≡ true) → AreAhead r owed sorted → ahead ≡ filter (range_contains passing_cmp (Included low) (Included high)) sorted → AreAhead r owed ahead
ahead_begins r owed low high sorted ahead left kept e p o u =
    let k : Passing = passing_of (edge_at r.edges.keys p) p in
    ap (list_any (is_at (passing_cmp k))) e ∙ any_filter (range_contains passing_cmp (Included low) (Included high)) k sorted (left p o u) (kept p o u)

pub none_ahead : (r : Records) (owed : Marks) (ks : List Passing) → length ks ≡ 0 → AreAhead r owed ks → AreAhead r owed []
none_ahead r owed [] e all = all
none_ahead r owed (k ∷ ks) e all = absurd (omega (arith, e))

pub either_false : (a b : Bool) → (a || b) ≡ false → (a ≡ false) × (b ≡ false)
either_false true b e = clash refl e
either_false false b e = (refl, e)

-- past one of them
pub ahead_goes : (r : Records) (old new : Marks) (x : Passing) (ahead : List Passing) → AreAhead r old (x ∷ ahead) → MarkedIf (owes r x.place) x.place old new → AreAhead r new ahead
ahead_goes r old new x ahead all marked p owed unmarked = by (is_at (passing_cmp (passing_of (edge_at r.edges.keys p) p)) x) refl
  where
    k : Passing
    k = passing_of (edge_at r.edges.keys p) p

    both : (is_marked old p ≡ false) × ((owes r x.place && p == x.place) ≡ false)
    both = either_false (is_marked old p) (owes r x.place && p == x.place) (sym (marked p) ∙ unmarked)

    by : (here : Bool) → is_at (passing_cmp k) x ≡ here → list_any (is_at (passing_cmp k)) ahead ≡ true
    by true h =
        let same : p ≡ x.place = ap (λ (y : Passing). y.place) (passing_same k x h) in
        clash (λ i. (ap (owes r) (sym same) ∙ owed) i && eq-eqb p x.place same i) both.1
    by false h = sym (ap (λ b. b || list_any (is_at (passing_cmp k)) ahead) h) ∙ all p owed both.0

pub sound_goes : (r : Records) (old new : Marks) (x : Passing) → IsSound r old → MarkedIf (owes r x.place) x.place old new → IsSound r new
sound_goes r old new x sound marked p e = by (is_marked old p) refl (owes r x.place) refl (eqb_tells p x.place) (sym (marked p) ∙ e)
  where
    by : (a : Bool) → is_marked old p ≡ a → (so : Bool) → owes r x.place ≡ so → ((eqb p x.place ≡ true) × (p ≡ x.place)) ⊎ ((eqb p x.place ≡ false) × (p ≢ x.place)) → (a || (so && p == x.place)) ≡ true → owes r p ≡ true
    by true a so s t h = sound p a
    by false a true s (inl t) h = ap (owes r) t.1 ∙ s
    by false a true s (inr t) h = clash h t.0
    by false a false s t h = clash h refl

pub all_marked : (r : Records) (owed : Marks) → IsSound r owed → AreAhead r owed [] → (p : ℕ) → is_marked owed p ≡ owes r p
all_marked r owed sound ahead p = by (is_marked owed p) refl (owes r p) refl
  where
    by : (a : Bool) → is_marked owed p ≡ a → (b : Bool) → owes r p ≡ b → a ≡ b
    by true e true h = refl
    by true e false h = clash (sound p e) h
    by false e true h = clash (ahead p h e) refl
    by false e false h = refl

-- The last passing, beside those that are sorted

never_both : (a b : Bool) → (a && (b && false)) ≡ true → false ≡ true
never_both true true e = e
never_both true false e = e
never_both false b e = e

pub owed_sends : (h : HoldersShape) (x : Option EdgeShape) (a : Option ChoiceShape) → owed_at h x a ≡ true → may_send a ≡ true
owed_sends h None a e = clash e refl
owed_sends h (Some x) None e = clash e refl
owed_sends h (Some x) (Some FromHome) e = refl
owed_sends h (Some x) (Some Forward) e = refl
owed_sends h (Some x) (Some Leave) e = never_both (not (has_edge x h.delivered)) (has_filled x.future h.filled) e

pub last_goes : (r : Records) (s : Passings) (old new : Marks) → ArePassings s r.edges.keys (answers_of r) → MarkedLast r s.last old new → AreAhead r new s.sorted.keys
last_goes r s old new passings marked = by s.last (λ p o. passings p (owed_sends (shape_of r) (slice_get (shape_of r).edges p) (slice_get (answers_of r) p) o)) marked
  where
    by : (last : Option Passing) → ((p : ℕ) → owes r p ≡ true → (is_last last (passing_of (edge_at r.edges.keys p) p) || list_any (is_at (passing_cmp (passing_of (edge_at r.edges.keys p) p))) s.sorted.keys) ≡ true) → MarkedLast r last old new → AreAhead r new s.sorted.keys
    by None all then = λ p o u. all p o
    by (Some x) all then = ahead_goes r old new x s.sorted.keys (λ p o u. all p o) then

pub last_sound : (r : Records) (last : Option Passing) (old new : Marks) → IsSound r old → MarkedLast r last old new → IsSound r new
last_sound r None old new sound marked = λ p e. sound p (sym (marked p) ∙ e)
last_sound r (Some x) old new sound marked = sound_goes r old new x sound marked

last_unmarked : (r : Records) (last : Option Passing) (old new : Marks) → MarkedLast r last old new → (p : ℕ) → is_marked new p ≡ false → is_marked old p ≡ false
last_unmarked r None old new marked p u = sym (marked p) ∙ u
last_unmarked r (Some x) old new marked p u = (either_false (is_marked old p) (owes r x.place && p == x.place) (sym (marked p) ∙ u)).0

-- The passings of a future, by its first activities

compared_self : (n : ℕ) → nat_cmp n n ≡ Equal
compared_self n = let lt : nat_lt n n ≡ false = grind (arith, nat_tests) in let e : nat_eq n n ≡ true = grind (arith, nat_tests) in λ i. cond (lt i) Less (cond (e i) Equal Greater)

compared_less : (m n : ℕ) → m < n → nat_cmp m n ≡ Less
compared_less m n h = let lt : nat_lt m n ≡ true = grind (arith, nat_tests) in ap (λ b. cond b Less (cond (nat_eq m n) Equal Greater)) lt

compared_more : (m n : ℕ) → n < m → nat_cmp m n ≡ Greater
compared_more m n h = let lt : nat_lt m n ≡ false = grind (arith, nat_tests) in let e : nat_eq m n ≡ false = grind (arith, nat_tests) in λ i. cond (lt i) Less (cond (e i) Equal Greater)

passing_itself : (k : Passing) → is_at (passing_cmp k) k ≡ true
passing_itself k = λ i. is_eq (ordering_then (compared_self k.by i) (ordering_then (compared_self k.index i) (ordering_then (compared_self k.from i) (compared_self k.place i))))

-- one more passing, where there is room

pub kept_before : (s : Passings) (x k : Passing) → s.last ≡ None → is_kept s k ≡ true → is_kept (record { sorted = s.sorted; last = Some x }) k ≡ true
kept_before s x k none e = by (is_at (passing_cmp k) x) (ap (λ o. is_last o k || contains passing_cmp s.sorted k) (sym none) ∙ e)
  where
    by : (b : Bool) → contains passing_cmp s.sorted k ≡ true → (b || contains passing_cmp s.sorted k) ≡ true
    by true c = refl
    by false c = c

pub kept_now : (s : Passings) (x : Edge) (n m : ℕ) → n ≡ m → is_kept (record { sorted = s.sorted; last = Some (passing_of x n) }) (passing_of x m) ≡ true
kept_now s x n m e = ap (λ b. b || contains passing_cmp s.sorted (passing_of x m)) (ap (λ j. is_at (passing_cmp (passing_of x m)) (passing_of x j)) e ∙ passing_itself (passing_of x m))

-- the order where the futures are one
same_future_order : (by index : ℕ) (f g p q : ℕ) → passing_cmp (record { by = by; index = index; from = f; place = p }) (record { by = by; index = index; from = g; place = q }) ≡ ordering_then (nat_cmp f g) (nat_cmp p q)
same_future_order by index f g p q = λ i. ordering_then (compared_self by i) (ordering_then (compared_self index i) (ordering_then (nat_cmp f g) (nat_cmp p q)))

pub low_first : (by index f g p : ℕ) → f ≤ g → is_le (passing_cmp (record { by = by; index = index; from = f; place = 0 }) (record { by = by; index = index; from = g; place = p })) ≡ true
low_first by index f g p le = ap is_le (same_future_order by index f g 0 p) ∙ cases (leb_tells g f)
  where
    last : (p : ℕ) → is_le (nat_cmp 0 p) ≡ true
    last zero = ap is_le (compared_self 0)
    last (suc p) = ap is_le (compared_less 0 (suc p) (omega arith))

    cases : ((leb g f ≡ true) × (g ≤ f)) ⊎ ((leb g f ≡ false) × (f < g)) → is_le (ordering_then (nat_cmp f g) (nat_cmp 0 p)) ≡ true
    cases (inl e) = let same : f ≡ g = omega (arith, e.1, le) in ap (λ n. is_le (ordering_then (nat_cmp n g) (nat_cmp 0 p))) same ∙ ap (λ r. is_le (ordering_then r (nat_cmp 0 p))) (compared_self g) ∙ last p
    cases (inr e) = ap (λ r. is_le (ordering_then r (nat_cmp 0 p))) (compared_less f g e.1)

high_last : (by index f g p q : ℕ) → g ≤ f → q ≤ p → is_lt (passing_cmp (record { by = by; index = index; from = f; place = p }) (record { by = by; index = index; from = g; place = q })) ≡ false
high_last by index f g p q le le_place = ap is_lt (same_future_order by index f g p q) ∙ cases (leb_tells f g)
  where
    last : ((leb p q ≡ true) × (p ≤ q)) ⊎ ((leb p q ≡ false) × (q < p)) → is_lt (nat_cmp p q) ≡ false
    last (inl e) = let same : p ≡ q = omega (arith, e.1, le_place) in ap (λ n. is_lt (nat_cmp n q)) same ∙ ap is_lt (compared_self q)
    last (inr e) = ap is_lt (compared_more p q e.1)

    cases : ((leb f g ≡ true) × (f ≤ g)) ⊎ ((leb f g ≡ false) × (g < f)) → is_lt (ordering_then (nat_cmp f g) (nat_cmp p q)) ≡ false
    cases (inl e) = let same : f ≡ g = omega (arith, e.1, le) in ap (λ n. is_lt (ordering_then (nat_cmp n g) (nat_cmp p q))) same ∙ ap (λ r. is_lt (ordering_then r (nat_cmp p q))) (compared_self g) ∙ last (leb_tells p q)
    cases (inr e) = ap (λ r. is_lt (ordering_then r (nat_cmp p q))) (compared_more f g e.1)

-- between the first passing of some activities and their last one
pub between : (by index first last most from place : ℕ) → first ≤ from → from ≤ last → place ≤ most → range_contains passing_cmp (Included (record { by = by; index = index; from = first; place = 0 })) (Included (record { by = by; index = index; from = last; place = most })) (record { by = by; index = index; from = from; place = place }) ≡ true
between by index first last most from place a b c = λ i. low_first by index first from place a i && not (high_last by index last from most place b c i)

-- what an edge and its place allow
pub passing_bounds : (r : Records) → AreRecords r → (p : ℕ) → owes r p ≡ true → (p ≤ 4294967295) × ((edge_at r.edges.keys p).from ≤ 4294967295)
passing_bounds r h p owed =
    let lt : p < length r.edges.keys = owed_within r p owed in
    let known = all_at (IsKnownEdge (names_of r)) r.edges.keys p no_edge lt (edges_known r h) in
    (omega (arith, lt, h.delivered.small, h.delivered_size), omega (arith, known.from, h.names.few))

-- what is left of a future's edges stands between its bounds
pub left_between : (r : Records) (old new : Marks) (last_one : Option Passing) (f : Future) (first last : ℕ) → AreRecords r → IsLeft r old f first last → MarkedLast r last_one old new → (p : ℕ) → owes r p ≡ true → is_marked new p ≡ false → range_contains passing_cmp (Included (record { by = f.by; index = f.index; from = first; place = 0 })) (Included (record { by = f.by; index = f.index; from = last; place = 4294967295 })) (passing_of (edge_at r.edges.keys p) p) ≡ true
left_between r old new last_one f first last h left marked p o u =
    let e : Edge = edge_at r.edges.keys p in
    let kind : IsBetween f first last e = left p o (last_unmarked r last_one old new marked p u) in
    (λ i. range_contains passing_cmp (Included (record { by = f.by; index = f.index; from = first; place = 0 })) (Included (record { by = f.by; index = f.index; from = last; place = 4294967295 })) (record { by = (kind.future i).by; index = (kind.future i).index; from = e.from; place = p }))
    ∙ between f.by f.index first last 4294967295 e.from p kind.least kind.most (passing_bounds r h p o).0

pub not_more : (r : Ordering) → is_le r ≡ true → is_gt r ≡ false
not_more Less e = refl
not_more Equal e = refl
not_more Greater e = clash refl (sym e)
