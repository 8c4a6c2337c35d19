-- What holds of futures and edges by numbers holds of their names.
use Rattle.std.proofs.Common.{◌≡◌, ◌≢◌, ◌⊎◌, inl, inr, ℕ, zero, suc, ◌<◌, Bool, true, false, cond, eqb, nat_eq, List, [], ◌∷◌, ◌++◌, Option, Some, None, length, map, get_or, refl, sym, ap, ◌∙◌, subst, arith}
use Rattle.std.specs.Prelude.{◌||◌, ◌&&◌, unwrap_or}
use Rattle.std.specs.List.{AllByRecursion, list_any}
use Rattle.std.specs.Map.{lookup}
use Rattle.std.specs.Option.{option_map}
use Rattle.std.proofs.lemmas.Bool.{eqb-true}
use Rattle.std.proofs.lemmas.Bool.Decides.{eqb_tells}
use Rattle.asp_model.specs.declared.name.FutureName.{FutureName}
use Rattle.asp_model.specs.Names.{Name, FutureShape, same_name, same_future}
use Rattle.asp_model.specs.Order.{same_name_same}
use Rattle.asp_model.specs.FutureOrder.{eq_shape}
use Rattle.def_journals.specs.Edges.{has_edge, has_received, home_of, same_edge}
use Rattle.future_update.specs.declared.numbered.Future.{Future}
use Rattle.future_update.specs.declared.numbered.Edge.{Edge}
use Rattle.future_update.specs.declared.numbered.Receipt.{Receipt}
use Rattle.future_update.specs.Names.{AreNames, IsKnown, IsKnownFuture, IsKnownEdge, edge_of, future_of, name_of}
use Rattle.future_update.specs.Numbered.{IsKnownHome, IsKnownReceipt, home_entry, is_edge, is_future, is_receipt, receipt_entry}
use Rattle.future_update.proofs.NameLemmas.{clash, name_itself}

-- One activity, future, edge or receipt

pub truth : (b : Bool) → (b ≡ true → ⊥) → b ≡ false
truth true never = absurd (never refl)
truth false never = refl

pub same_names : (ns : List Name) → AreNames ns → (i j : ℕ) → IsKnown ns i → IsKnown ns j → same_name (name_of ns i) (name_of ns j) ≡ eqb i j
same_names ns names i j known_i known_j = by (eqb_tells i j)
  where
    by : ((eqb i j ≡ true) × (i ≡ j)) ⊎ ((eqb i j ≡ false) × (i ≢ j)) → same_name (name_of ns i) (name_of ns j) ≡ eqb i j
    by (inl e) = subst (λ k. same_name (name_of ns i) (name_of ns k) ≡ true) e.1 (name_itself (name_of ns i)) ∙ sym e.0
    by (inr e) = truth (same_name (name_of ns i) (name_of ns j)) (λ s. e.1 (names.apart i j known_i known_j (same_name_same (name_of ns i) (name_of ns j) s))) ∙ sym e.0

pub same_futures : (ns : List Name) → AreNames ns → (f g : Future) → IsKnownFuture ns f → IsKnownFuture ns g → same_future (future_of ns f) (future_of ns g) ≡ is_future f g
same_futures ns names f g known_f known_g =
    let f_name : FutureName = record { by = name_of ns f.by; index = f.index } in
    let g_name : FutureName = record { by = name_of ns g.by; index = g.index } in
    sym (eq_shape f_name g_name) ∙ ap (λ b. b && nat_eq f.index g.index) (same_names ns names f.by g.by known_f known_g)

pub same_edges : (ns : List Name) → AreNames ns → (x y : Edge) → IsKnownEdge ns x → IsKnownEdge ns y → same_edge (edge_of ns x) (edge_of ns y) ≡ is_edge x y
same_edges ns names x y known_x known_y = λ i. same_futures ns names x.future y.future known_x.future known_y.future i && (same_names ns names x.from y.from known_x.from known_y.from i && same_names ns names x.to y.to known_x.to known_y.to i)

pub same_receipts : (ns : List Name) → AreNames ns → (x y : Receipt) → IsKnownReceipt ns x → IsKnownReceipt ns y → (same_future (future_of ns x.future) (future_of ns y.future) && same_name (name_of ns x.by) (name_of ns y.by)) ≡ is_receipt x y
same_receipts ns names x y known_x known_y = λ i. same_futures ns names x.future y.future known_x.0 known_y.0 i && same_names ns names x.by y.by known_x.1 known_y.1 i

both_true : (a b : Bool) → (a && b) ≡ true → (a ≡ true) × (b ≡ true)
both_true true b e = (refl, e)
both_true false b e = clash e refl

pub is_future_same : (f g : Future) → is_future f g ≡ true → f ≡ g
is_future_same f g e =
    let both = both_true (eqb f.by g.by) (eqb f.index g.index) e in
    λ i. record { by = eqb-true f.by g.by both.0 i; index = eqb-true f.index g.index both.1 i }

pub is_edge_same : (x y : Edge) → is_edge x y ≡ true → x ≡ y
is_edge_same x y e =
    let outer = both_true (is_future x.future y.future) (eqb x.from y.from && eqb x.to y.to) e in
    let inner = both_true (eqb x.from y.from) (eqb x.to y.to) outer.1 in
    λ i. record { future = is_future_same x.future y.future outer.0 i; from = eqb-true x.from y.from inner.0 i; to = eqb-true x.to y.to inner.1 i }

-- All of a list

pub all_so : {X : Type 0} (P Q : X → Type 0) (xs : List X) → ((x : X) → P x → Q x) → AllByRecursion P xs → AllByRecursion Q xs
all_so P Q [] h all = tt
all_so P Q (x ∷ xs) h all = (h x all.0, all_so P Q xs h all.1)

pub all_more : {X : Type 0} (P : X → Type 0) (xs : List X) (y : X) → AllByRecursion P xs → P y → AllByRecursion P (xs ++ y ∷ [])
all_more P [] y all p = (p, tt)
all_more P (x ∷ xs) y all p = (all.0, all_more P xs y all.1 p)

pub all_at : {X : Type 0} (P : X → Type 0) (xs : List X) (i : ℕ) (d : X) → i < length xs → AllByRecursion P xs → P (get_or xs i d)
all_at P [] i d lt all = absurd (omega (arith, lt))
all_at P (x ∷ xs) zero d lt all = all.0
all_at P (x ∷ xs) (suc i) d lt all = all_at P xs i d (omega (arith, lt)) all.1

-- Some of a list

-- a test finds in the images what another one finds in the list
pub any_map : {K X : Type 0} (same : X → Bool) (eq : K → Bool) (h : K → X) (ks : List K) → AllByRecursion (λ k. same (h k) ≡ eq k) ks → list_any same (map h ks) ≡ list_any eq ks
any_map same eq h [] all = refl
any_map same eq h (k ∷ ks) all = λ i. all.0 i || any_map same eq h ks all.1 i

pub any_none : {X : Type 0} (same : X → Bool) (xs : List X) → AllByRecursion (λ x. same x ≡ false) xs → list_any same xs ≡ false
any_none same [] all = refl
any_none same (x ∷ xs) all = (λ i. all.0 i || any_none same xs all.1 i)

pub edge_kept : (ns : List Name) → AreNames ns → (x : Edge) → IsKnownEdge ns x → (es : List Edge) → AllByRecursion (IsKnownEdge ns) es → has_edge (edge_of ns x) (map (edge_of ns) es) ≡ list_any (is_edge x) es
edge_kept ns names x known es all = any_map (same_edge (edge_of ns x)) (is_edge x) (edge_of ns) es (all_so (IsKnownEdge ns) (λ y. same_edge (edge_of ns x) (edge_of ns y) ≡ is_edge x y) es (λ y known_y. same_edges ns names x y known known_y) all)

pub receipt_kept : (ns : List Name) → AreNames ns → (x : Receipt) → IsKnownReceipt ns x → (xs : List Receipt) → AllByRecursion (IsKnownReceipt ns) xs → has_received (future_of ns x.future) (name_of ns x.by) (map (receipt_entry ns) xs) ≡ list_any (is_receipt x) xs
receipt_kept ns names x known xs all =
    let same : FutureShape × Name → Bool = λ e. same_future (future_of ns x.future) e.0 && same_name (name_of ns x.by) e.1 in
    any_map same (is_receipt x) (receipt_entry ns) xs (all_so (IsKnownReceipt ns) (λ y. same (receipt_entry ns y) ≡ is_receipt x y) xs (λ y known_y. same_receipts ns names x y known known_y) all)

-- Homes

pub home_kept : (ns : List Name) → AreNames ns → (f : Future) → IsKnownFuture ns f → (es : List (Future × ℕ)) → AllByRecursion (IsKnownHome ns) es → home_of (future_of ns f) (map (home_entry ns) es) ≡ option_map (name_of ns) (lookup (is_future f) es)
home_kept ns names f known [] all = refl
home_kept ns names f known (e ∷ es) all = by (is_future f e.0) (same_futures ns names f e.0 known all.0.0) (home_kept ns names f known es all.1)
  where
    by : (b : Bool) → same_future (future_of ns f) (future_of ns e.0) ≡ b → home_of (future_of ns f) (map (home_entry ns) es) ≡ option_map (name_of ns) (lookup (is_future f) es) → elim (same_future (future_of ns f) (future_of ns e.0)) [ true ↦ Some (name_of ns e.1) | false ↦ home_of (future_of ns f) (map (home_entry ns) es) ] ≡ option_map (name_of ns) (cond b (Some e.1) (lookup (is_future f) es))
    by true e' h = ap (λ b. elim b [ true ↦ Some (name_of ns e.1) | false ↦ home_of (future_of ns f) (map (home_entry ns) es) ]) e'
    by false e' h = ap (λ b. elim b [ true ↦ Some (name_of ns e.1) | false ↦ home_of (future_of ns f) (map (home_entry ns) es) ]) e' ∙ h

pub home_known : (ns : List Name) (f : Future) (es : List (Future × ℕ)) (k : ℕ) → AllByRecursion (IsKnownHome ns) es → lookup (is_future f) es ≡ Some k → IsKnown ns k
home_known ns f [] k all e = absurd (subst some (sym e) tt)
  where
    some : Option ℕ → Type 0
    some (Some k) = Unit {0}
    some None = ⊥
home_known ns f (e ∷ es) k all here = by (is_future f e.0) (home_known ns f es k all.1) here
  where
    by : (b : Bool) → (lookup (is_future f) es ≡ Some k → IsKnown ns k) → cond b (Some e.1) (lookup (is_future f) es) ≡ Some k → IsKnown ns k
    by true rest h = subst (IsKnown ns) (ap (λ o. unwrap_or o e.1) h) all.0.1
    by false rest h = rest h
