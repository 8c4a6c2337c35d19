-- One future is filled on both sides, by values that agree: what agreed still does.
use Rattle.std.specs.Prelude.{◌≡◌, ◌≢◌, ℕ, ◌<◌, true, T, List, [], ◌∷◌, Option, Some, None, length, is_some}
use Rattle.std.proofs.Common.{refl, sym, ap, subst, ◌∙◌, inl, inr, ⊎_elim, ◌⊎◌}
use Rattle.std.specs.FinMap.{find, put, is_sorted}
use Rattle.asp_model.specs.Names.{FutureShape, future_cmp}
use Rattle.asp_model.specs.Store.{Store}
use Rattle.asp_model.specs.Parcel.{ParcelShape}
use Rattle.asp_model.specs.Chase.{Values, Goes, lead_by, lead, Chase, Value, Unfilled, Cycle, cycle_of, chase}
use Rattle.law_steps.specs.Closed.{AreBelow, IsClosedStore, IsClosedValue}
use Rattle.law_chases.proofs.FutureLemmas.{no_some, some_is, none_true, true_false, future_total, future_same, future_case}
use Rattle.law_chases.proofs.MapLemmas as Maps
use Rattle.law_chases.specs.Walks.{IsFilled}
use Rattle.law_chases.proofs.ChaseLemmas.{awaited}
use Rattle.law_steps.proofs.ClosedLemmas.{first_root}
use Rattle.def_paths.specs.Places.{Place, In_store, Side, found, from, found_at, side_of, value_by, name_by, AreReadAlike}
use Rattle.def_paths.specs.Agree.{Pairs, pair, MayBoth, neither, both, ParcelsAgree}
use Rattle.law_paths.specs.Links.{IsClosedSide, Link}
use Rattle.law_paths.proofs.PairLemmas.{Then}
use Rattle.law_paths.proofs.LinkLemmas.{Itself, link_itself, Back, link_back, link_then}
use Rattle.law_paths.proofs.PathLemmas.{link_reads, OnePath, paths_link, roots_linked}
use Rattle.law_paths.proofs.OnwardLemmas.{Stored, Sides, Onward, stored_pairs, pairs_stored}
use Rattle.law_paths.proofs.PairLemmas.{pairs_weaker}
use Rattle.law_paths.proofs.ParcelLemmas.{ParcelPaths, parcel_sides, parcel_roots}
use Rattle.law_paths.proofs.OpenLemmas.{after}
use Rattle.law_paths.proofs.FilledLemmas.{Filled, old, fill_link}
use Rattle.law_paths.proofs.ToldLemmas.{retold, retold_link, value_link, Reads, reads_root}
use Rattle.law_chases.proofs.CycleLemmas.{AtMost, less_total}
use Rattle.law_chases.proofs.MeetLemmas.{chase_goes, named_cycle}
use Rattle.law_chases.proofs.FilledLemmas.{keeps_value, keeps_unfilled, lead_there, chase_before, still_sorted, not_filled, Turns, name_turns, name_least, name_of}
use Rattle.law_paths.proofs.StatusLemmas.{ValuesClosed, value_chased, side_closed, Root, plain_root, entered_root, awaiting_root, shown_name, root_of, chase_plain, status_shown, future_in}
use Rattle.law_paths.proofs.RenamedLemmas.{renamed, filling, names_stay, Renames, renames_unfilled, renames_cycle}

-- What the filled future becomes, on one side

-- a value whose root is no future, and which shows what the parcel shows
pub record Effective (vs : Values) (v u : ParcelShape) : Type 1 where
  pub rel : Place → Place → Type 0
  pub link : Link (side_of vs u.cells) (side_of vs v.cells) rel
  pub root : rel (In_store 0) (In_store 0)
  pub closed : IsClosedSide (side_of vs u.cells)
  pub some : 0 < length u.cells

pub data Outcome (vs : Values) (f : FutureShape) (v : ParcelShape) : Option FutureShape → Type 1 where
  gets_value : (y : FutureShape) (u : ParcelShape) → chase (put future_cmp f v vs) f ≡ Value y u → Effective vs v u → Outcome vs f v None
  awaits : (h : FutureShape) → h ≢ f → find future_cmp h vs ≡ None → chase (put future_cmp f v vs) f ≡ Unfilled h → Outcome vs f v (Some h)
  turns : (g h : FutureShape) → lead (put future_cmp f v vs) f ≡ Goes g → ((chase vs g ≡ Unfilled f) × (h ≡ f)) ⊎ (chase vs g ≡ Cycle h) → Outcome vs f v (Some h)

module _ (vs : Values) (sorted : T (is_sorted future_cmp vs)) (values : ValuesClosed vs) (f : FutureShape) (new : find future_cmp f vs ≡ None) (v : ParcelShape) (hv : IsClosedValue v) where
  abbrev ws : Values
  ws = put future_cmp f v vs

  closed_side : IsClosedSide (side_of vs v.cells)
  closed_side = side_closed vs values v.cells hv.closed.cells

  awaiting_by : (g : FutureShape) → lead ws f ≡ Goes g → (c : Chase) → chase vs g ≡ c → value_by c ≡ None → Outcome vs f v (Some (name_by c))
  awaiting_by g goes (Value y u) e none = no_value none
    where
      no_value : Some u ≡ None → Outcome vs f v (Some y)
      no_value d = absurd (true_false true refl (ap is_some d))
  awaiting_by g goes (Unfilled h) e none = ⊎_elim {C = Outcome vs f v (Some h)}
      (λ same. turns g h goes (inl (e ∙ ap Unfilled same, same)))
      (λ apart. awaits h apart (not_filled vs sorted f new v g h e) (chase_goes ws (still_sorted vs sorted f new v) f g goes ∙ keeps_unfilled vs sorted f new v g h e apart))
      (future_case h f)
  awaiting_by g goes (Cycle h) e none = turns g h goes (inr e)

  outcome_by : (o : Option FutureShape) → Root vs v o → Outcome vs f v o
  outcome_by _ (plain_root h) = gets_value f v (chase_plain ws f v (lead_there vs sorted f new v) h) (record {
    rel = Itself (side_of vs v.cells);
    link = link_itself (side_of vs v.cells) closed_side;
    root = (first_root v hv, refl);
    closed = closed_side;
    some = first_root v hv;
  })
  outcome_by _ (entered_root g u at e) =
      let y = value_chased (chase vs g) u e in
      gets_value y.0 u (chase_goes ws (still_sorted vs sorted f new v) f g (lead_there vs sorted f new v ∙ ap (lead_by v) at) ∙ keeps_value vs sorted f new v g y.0 u y.1) (record {
        rel = Reads (side_of vs v.cells) closed_side u g (first_root v hv) at e;
        link = value_link (side_of vs v.cells) closed_side u g (first_root v hv) at e;
        root = reads_root (side_of vs v.cells) closed_side u g (first_root v hv) at e;
        closed = side_closed vs values u.cells (closed_side.values g u e);
        some = closed_side.roots g u e;
      })
  outcome_by _ (awaiting_root g at e) = awaiting_by g (lead_there vs sorted f new v ∙ ap (lead_by v) at) (chase vs g) refl e

  pub outcome_of : Outcome vs f v (shown_name vs values v)
  outcome_of = outcome_by (shown_name vs values v) (root_of vs values v)

-- Names of cycles, from one side to the other

module _ (vs xs : Values) (sorted : T (is_sorted future_cmp vs)) (sorted' : T (is_sorted future_cmp xs)) (f : FutureShape) (new : find future_cmp f vs ≡ None) (new' : find future_cmp f xs ≡ None) (v w : ParcelShape)
    (filled : (x : FutureShape) → IsFilled xs x → IsFilled vs x) (status : (x : FutureShape) → IsFilled xs x → awaited (chase vs x) ≡ awaited (chase xs x)) where
  awaits_h : (x h : FutureShape) (c : Chase) → chase vs x ≡ c → IsFilled vs h → awaited c ≡ Some h → c ≡ Cycle h
  awaits_h x h (Value g p) e k d = no_some d
  awaits_h x h (Unfilled m) e k d = absurd (true_false (is_some (find future_cmp h vs)) k (ap (λ z. is_some (find future_cmp z vs)) (sym (some_is d)) ∙ ap is_some (not_filled vs sorted f new v x m e)))
  awaits_h x h (Cycle m) e k d = ap Cycle (some_is d)

  awaits_f : (x : FutureShape) (c : Chase) → chase vs x ≡ c → awaited c ≡ Some f → c ≡ Unfilled f
  awaits_f x (Value g p) e d = no_some d
  awaits_f x (Unfilled m) e d = ap Unfilled (some_is d)
  awaits_f x (Cycle m) e d = absurd (true_false (is_some (find future_cmp f vs)) (subst (IsFilled vs) (some_is d) (named_cycle vs sorted x m e).filled) (ap is_some new))

  -- the roots on both sides: f closes a cycle, or comes into one
  module _ (g g' h : FutureShape) (goes : lead (put future_cmp f v vs) f ≡ Goes g) (goes' : lead (put future_cmp f w xs) f ≡ Goes g')
      (root : ((chase vs g ≡ Unfilled f) × (h ≡ f)) ⊎ (chase vs g ≡ Cycle h)) (root' : ((chase xs g' ≡ Unfilled f) × (h ≡ f)) ⊎ (chase xs g' ≡ Cycle h)) where
    abbrev Here : FutureShape → Type 0
    Here = Turns vs sorted f new v g h goes root

    abbrev There : FutureShape → Type 0
    There = Turns xs sorted' f new' w g' h goes' root'

    turns_over : (y : FutureShape) → IsFilled (put future_cmp f w xs) y → There y → IsFilled (put future_cmp f v vs) y × Here y
    turns_over y k t = ⊎_elim
        (λ same. (ap is_some (ap (λ z. find future_cmp z (put future_cmp f v vs)) same ∙ Maps.find_same future_cmp future_total future_same f v vs), inl (ap (chase vs) same ∙ chase_before vs sorted f new v)))
        (λ apart.
        let there : IsFilled xs y = ap is_some (sym (Maps.find_other future_cmp future_total future_same y f w xs apart)) ∙ k in (
          Maps.stays_there future_cmp future_total future_same f v vs y (filled y there),
          ⊎_elim
              (λ e. inl (awaits_f y (chase vs y) refl (status y there ∙ ap awaited e)))
              (λ e. inr (awaits_h y h (chase vs y) refl (filled h (named_cycle xs sorted' y h e).filled) (status y there ∙ ap awaited e)))
              t,
        ))
        (future_case y f)

    pub name_below : AtMost (cycle_of (put future_cmp f v vs) f) (cycle_of (put future_cmp f w xs) f)
    name_below =
        let there = name_turns xs sorted' f new' w g' h goes' root' in
        let x = turns_over (cycle_of (put future_cmp f w xs) f) (name_of xs sorted' f new' w g' h goes' root').filled there in
        name_least vs sorted f new v g h goes root (cycle_of (put future_cmp f w xs) f) x.0 x.1

-- Both sides

module _ (vs xs : Values) (sorted : T (is_sorted future_cmp vs)) (sorted' : T (is_sorted future_cmp xs)) (values : ValuesClosed vs) (values' : ValuesClosed xs)
    (agree : (x : FutureShape) → MayBoth (ParcelsAgree (chase vs) (chase xs)) (find future_cmp x vs) (find future_cmp x xs))
    (f : FutureShape) (new : find future_cmp f vs ≡ None) (new' : find future_cmp f xs ≡ None)
    (v w : ParcelShape) (hv : IsClosedValue v) (hw : IsClosedValue w) (vw : ParcelsAgree (chase vs) (chase xs) v w) where
  abbrev vs' : Values
  vs' = put future_cmp f v vs

  abbrev xs' : Values
  xs' = put future_cmp f w xs

  roots_found : (p q : ParcelShape) → p.roots ≡ 0 ∷ [] → q.roots ≡ 0 ∷ [] → ParcelsAgree (chase vs) (chase xs) p q → found (side_of vs p.cells) (In_store 0) ≡ found (side_of xs q.cells) (In_store 0)
  roots_found p q e d r = some_is (sym (ap (λ l. found_at (side_of vs p.cells) (from (side_of vs p.cells) l 0 [])) e) ∙ r.finds 0 [] ∙ ap (λ l. found_at (side_of xs q.cells) (from (side_of xs q.cells) l 0 [])) d)

  -- the same futures are filled, and they await the same names
  both_status : (x : FutureShape) (o p : Option ParcelShape) → find future_cmp x vs ≡ o → find future_cmp x xs ≡ p → MayBoth (ParcelsAgree (chase vs) (chase xs)) o p → (is_some o ≡ is_some p) × (is_some p ≡ true → awaited (chase vs x) ≡ awaited (chase xs x))
  both_status x _ _ e d neither = (refl, λ k. none_true k)
  both_status x _ _ e d (both {x = p} {y = q} r) = (refl, λ k. status_shown vs sorted values x p e ∙ ap future_in (roots_found p q (values x p e).root (values' x q d).root r) ∙ sym (status_shown xs sorted' values' x q d))

  same_filled : (x : FutureShape) → is_some (find future_cmp x vs) ≡ is_some (find future_cmp x xs)
  same_filled x = (both_status x _ _ refl refl (agree x)).0

  same_status : (x : FutureShape) → IsFilled xs x → awaited (chase vs x) ≡ awaited (chase xs x)
  same_status x k = (both_status x _ _ refl refl (agree x)).1 k

  -- What the filled future becomes, on both sides

  -- a renaming for both sides
  pub record Renaming : Type 0 where
    pub old_name : FutureShape
    pub new_name : FutureShape
    pub left : Renames vs sorted values f new v old_name new_name
    pub right : Renames xs sorted' values' f new' w old_name new_name

  pub data BothBecome : Type 1 where
    both_valued : (y z : FutureShape) (u t : ParcelShape) → chase vs' f ≡ Value y u → chase xs' f ≡ Value z t → Effective vs v u → Effective xs w t → BothBecome
    both_renamed : Renaming → BothBecome

  -- a cycle on one side is one on the other
  not_both : (h : FutureShape) → h ≢ f → find future_cmp h vs ≡ None → (g : FutureShape) → ((chase xs g ≡ Unfilled f) × (h ≡ f)) ⊎ (chase xs g ≡ Cycle h) → ⊥
  not_both h apart none g (inl x) = apart x.1
  not_both h apart none g (inr x) = true_false (is_some (find future_cmp h xs)) (named_cycle xs sorted' g h x).filled (sym (same_filled h) ∙ ap is_some none)

  not_both' : (h : FutureShape) → h ≢ f → find future_cmp h xs ≡ None → (g : FutureShape) → ((chase vs g ≡ Unfilled f) × (h ≡ f)) ⊎ (chase vs g ≡ Cycle h) → ⊥
  not_both' h apart none g (inl x) = apart x.1
  not_both' h apart none g (inr x) = true_false (is_some (find future_cmp h vs)) (named_cycle vs sorted g h x).filled (same_filled h ∙ ap is_some none)

  join : (o p : Option FutureShape) → o ≡ p → Outcome vs f v o → Outcome xs f w p → BothBecome
  join _ _ e (gets_value y u a x) (gets_value z t b s) = both_valued y z u t a b x s
  join _ _ e (gets_value y u a x) (awaits h b c d) = absurd (true_false true refl (ap is_some (sym e)))
  join _ _ e (gets_value y u a x) (turns g h b c) = absurd (true_false true refl (ap is_some (sym e)))
  join _ _ e (awaits h a b c) (gets_value z t d s) = absurd (true_false true refl (ap is_some e))
  join _ _ e (turns g h a b) (gets_value z t d s) = absurd (true_false true refl (ap is_some e))
  join _ _ e (awaits h a b c) (awaits h' a' b' c') =
      let same = some_is e in
      both_renamed (record { old_name = h; new_name = h; left = renames_unfilled vs sorted values f new v h a c; right = renames_unfilled xs sorted' values' f new' w h a (c' ∙ ap Unfilled (sym same)) })
  join _ _ e (awaits h a b c) (turns g h' a' b') = absurd (not_both h a b g (subst (λ z. ((chase xs g ≡ Unfilled f) × (z ≡ f)) ⊎ (chase xs g ≡ Cycle z)) (sym (some_is e)) b'))
  join _ _ e (turns g h a b) (awaits h' a' b' c') = absurd (not_both' h' a' b' g (subst (λ z. ((chase vs g ≡ Unfilled f) × (z ≡ f)) ⊎ (chase vs g ≡ Cycle z)) (some_is e) b))
  join _ _ e (turns g h a b) (turns g' h' a' b') =
      let r : ((chase xs g' ≡ Unfilled f) × (h ≡ f)) ⊎ (chase xs g' ≡ Cycle h) = subst (λ z. ((chase xs g' ≡ Unfilled f) × (z ≡ f)) ⊎ (chase xs g' ≡ Cycle z)) (sym (some_is e)) b' in
      let same : cycle_of vs' f ≡ cycle_of xs' f = less_total (cycle_of vs' f) (cycle_of xs' f)
      (name_below xs vs sorted' sorted f new' new w v (λ x k. sym (same_filled x) ∙ k) (λ x k. sym (same_status x (sym (same_filled x) ∙ k))) g' g h a' a r b)
      (name_below vs xs sorted sorted' f new new' v w (λ x k. same_filled x ∙ k) same_status g g' h a a' b r) in
      both_renamed (record { old_name = h; new_name = cycle_of vs' f; left = renames_cycle vs sorted values f new v g h a b; right = subst (Renames xs sorted' values' f new' w h) (sym same) (renames_cycle xs sorted' values' f new' w g' h a' r) })

  pub both_become : BothBecome
  both_become = join _ _ (ap future_in (roots_found v w hv.root hw.root vw)) (outcome_of vs sorted values f new v hv) (outcome_of xs sorted' values' f new' w hw)

  -- The same, for sides

  module _ (closed : ValuesClosed vs') (closed' : ValuesClosed xs') (s t : Store) (R : Place → Place → Type 0) (both_sides : Sides (side_of vs s) (side_of xs t) R) where
    new_sides : (R' : Place → Place → Type 0) → Link (side_of vs' s) (side_of xs' t) R' → ((i j : ℕ) → Stored R i j → Stored R' i j) → Onward R (side_of vs' s) (side_of xs' t)
    new_sides R' l keeps = record { rel = R'; sides = record { link = l; left = side_closed vs' closed s both_sides.left.store; right = side_closed xs' closed' t both_sides.right.store }; keeps = keeps }

    -- the same values and store, with other names
    with_names : (a b : Side) → a.values ≡ b.values → a.awaited ≡ b.awaited → a.store ≡ b.store → a ≡ b
    with_names a b e d c = λ i. record { values = e i; awaited = d i; store = c i }

    renamed_link : Renaming → Link (side_of vs' s) (side_of xs' t) R
    renamed_link r =
        let g = renamed f r.old_name r.new_name in
        let l = retold_link g (side_of vs s) (side_of xs t) both_sides.left both_sides.right (λ x. name_by (chase vs' x)) (λ x. name_by (chase xs' x)) r.left.names r.right.names R both_sides.link in
        let e : retold (side_of vs s) (λ x. name_by (chase vs' x)) ≡ side_of vs' s = with_names _ _ (λ i x. sym (r.left.stay x) i) refl refl in
        let d : retold (side_of xs t) (λ x. name_by (chase xs' x)) ≡ side_of xs' t = with_names _ _ (λ i x. sym (r.right.stay x) i) refl refl in
        subst (λ a. Link a (side_of xs' t) R) e (subst (λ b. Link (retold (side_of vs s) (λ x. name_by (chase vs' x))) b R) d l)

    module _ (y z : FutureShape) (u q : ParcelShape) (now : chase vs' f ≡ Value y u) (now' : chase xs' f ≡ Value z q) (x : Effective vs v u) (x' : Effective xs w q) where
      abbrev P : Place → Place → Type 0
      P = ParcelPaths (chase vs) (chase xs) v w vw hv.closed hw.closed (side_closed vs values v.cells hv.closed.cells) (side_closed xs values' w.cells hw.closed.cells)

      parcels : Sides (side_of vs v.cells) (side_of xs w.cells) P
      parcels = parcel_sides (chase vs) (chase xs) v w vw hv.closed hw.closed (side_closed vs values v.cells hv.closed.cells) (side_closed xs values' w.cells hw.closed.cells)

      abbrev ValuePairs : Place → Place → Type 0
      ValuePairs = Then (Then x.rel P) (Back x'.rel)

      values_link : Link (side_of vs u.cells) (side_of xs q.cells) ValuePairs
      values_link = link_then (side_of vs u.cells) (side_of xs w.cells) (side_of xs q.cells) (Then x.rel P) (Back x'.rel)
          (link_then (side_of vs u.cells) (side_of vs v.cells) (side_of xs w.cells) x.rel P x.link parcels.link) (link_back (side_of xs q.cells) (side_of xs w.cells) x'.rel x'.link)

      first_pair : (xs ys : List ℕ) → xs ≡ 0 ∷ [] → ys ≡ 0 ∷ [] → Pairs (Stored P) xs ys → Stored P 0 0
      first_pair xs ys e d ps = head (subst (λ l. Pairs (Stored P) (0 ∷ []) l) d (subst (λ l. Pairs (Stored P) l ys) e ps))
        where
          head : Pairs (Stored P) (0 ∷ []) (0 ∷ []) → Stored P 0 0
          head (pair r rs) = r

      root_pair : ValuePairs (In_store 0) (In_store 0)
      root_pair = (In_store 0, (In_store 0, x.root, first_pair v.roots w.roots hv.root hw.root (parcel_roots (chase vs) (chase xs) v w vw hv.closed hw.closed (side_closed vs values v.cells hv.closed.cells) (side_closed xs values' w.cells hw.closed.cells))), x'.root)

      abbrev nowa : FutureShape → Option ParcelShape
      nowa g = value_by (chase vs' g)

      abbrev nowb : FutureShape → Option ParcelShape
      nowb g = value_by (chase xs' g)

      abbrev FilledPairs : Place → Place → Type 0
      FilledPairs = Filled (side_of vs s) (side_of xs t) u q nowa nowb f (filling vs sorted values f new v y u now s) (filling xs sorted' values' f new' w z q now' t)
          both_sides.left both_sides.right x.closed x'.closed x.some x'.some R ValuePairs both_sides.link values_link root_pair

      filled_link : Link (after (side_of vs s) nowa) (after (side_of xs t) nowb) FilledPairs
      filled_link = fill_link (side_of vs s) (side_of xs t) u q nowa nowb f (filling vs sorted values f new v y u now s) (filling xs sorted' values' f new' w z q now' t)
          both_sides.left both_sides.right x.closed x'.closed x.some x'.some R ValuePairs both_sides.link values_link root_pair

      valued_link : Link (side_of vs' s) (side_of xs' t) FilledPairs
      valued_link = retold_link (λ g. g) (after (side_of vs s) nowa) (after (side_of xs t) nowb)
          (let h = side_closed vs' closed s both_sides.left.store in record { store = h.store; values = h.values; roots = h.roots; plain = h.plain })
          (let h = side_closed xs' closed' t both_sides.right.store in record { store = h.store; values = h.values; roots = h.roots; plain = h.plain })
          (λ g. name_by (chase vs' g)) (λ g. name_by (chase xs' g)) (names_stay vs sorted values f new v y u now) (names_stay xs sorted' values' f new' w z q now') FilledPairs filled_link

      valued_onward : Onward R (side_of vs' s) (side_of xs' t)
      valued_onward = new_sides FilledPairs valued_link (λ i j r. old r)

    onward_by : BothBecome → Onward R (side_of vs' s) (side_of xs' t)
    onward_by (both_valued y z u q now now' x x') = valued_onward y z u q now now' x x'
    onward_by (both_renamed r) = new_sides R (renamed_link r) (λ i j z. z)

    -- sides that were linked are linked when the future is filled
    pub filled_onward : Onward R (side_of vs' s) (side_of xs' t)
    filled_onward = onward_by both_become

  -- what read alike reads alike
  pub filled_alike : ValuesClosed vs' → ValuesClosed xs' → (s t : Store) → IsClosedStore s → IsClosedStore t → (ps qs : List ℕ) → AreBelow (length s) ps → AreBelow (length t) qs → AreReadAlike (side_of vs s) (side_of xs t) ps qs → AreReadAlike (side_of vs' s) (side_of xs' t) ps qs
  filled_alike closed closed' s t hs ht ps qs below below' r =
      let ha = side_closed vs values s hs in
      let hb = side_closed xs values' t ht in
      let R = OnePath (side_of vs s) (side_of xs t) ha hb ps qs below below' r in
      let o = filled_onward closed closed' s t R (record { link = paths_link (side_of vs s) (side_of xs t) ha hb ps qs below below' r; left = ha; right = hb }) in
      link_reads (side_of vs' s) (side_of xs' t) o.rel o.sides.link ps qs (pairs_stored o.rel ps qs (pairs_weaker (Stored R) (Stored o.rel) o.keeps ps qs (stored_pairs R ps qs (roots_linked (side_of vs s) (side_of xs t) ha hb ps qs below below' r))))
