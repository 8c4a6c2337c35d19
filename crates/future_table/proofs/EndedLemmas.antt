-- What the links are when a future is filled: the head has another end, or one head goes below another.
use Rattle.std.proofs.Common.{◌≡◌, ◌≢◌, ◌+◌, ◌<◌, ◌≤◌, ℕ, suc, Bool, true, false, cond, max, List, Some, None, length, length-set, set, refl, sym, ap, subst, ◌∙◌, arith, inl, inr, ⊎_elim, ◌⊎◌}
use Rattle.std.proofs.lemmas.Bool.{cases_eq}
use Rattle.std.proofs.lemmas.List.{get_or-set_other, get_or-set_same}
use Rattle.std.specs.FinMap.{put}
use Rattle.asp_model.specs.Names.{FutureShape, future_cmp, future_lt}
use Rattle.asp_model.specs.Parcel.{ParcelShape}
use Rattle.asp_model.specs.Chase.{Values, Chase, Goes, lead, chase, lesser}
use Rattle.asp_model.specs.Chase as chases
use Rattle.law_chases.proofs.CycleLemmas.{AtMost, itself_at_most, lesser_first, lesser_second}
use Rattle.future_table.specs.declared.links.Link.{Link}
use Rattle.future_table.specs.declared.links.End.{End}
use Rattle.future_table.specs.Numbers.{named}
use Rattle.future_table.specs.Links.{IsHead, link_at, no_link}
use Rattle.future_table.specs.Components.{AreComponents, EndsWithin, chase_at, lesser_of, put_below, with_end}
use Rattle.future_table.proofs.JoinedLemmas.{Joined}

module _ (vs : Values) (f : FutureShape) (p : ParcelShape) (names : List FutureShape) (links : List Link) (k : AreComponents vs names links) (a : ℕ) (first : IsHead links a) (awaits : chase_at vs names a ≡ chases.Unfilled f) where
  abbrev n : ℕ
  n = length names

  -- another end
  module _ (e : End) (within : EndsWithin n e) (root : (g : FutureShape) → lead (put future_cmp f p vs) f ≡ Goes g → chase_at vs names a ≡ chase vs g) where
    abbrev links' : List Link
    links' = with_end links a e

    abbrev changed : Link
    changed = record { up = (link_at links a).up; height = (link_at links a).height; least = (link_at links a).least; end = e }

    pub here : link_at links' a ≡ changed
    here = get_or-set_same links a changed no_link first.0

    other : (i : ℕ) → i ≢ a → link_at links' i ≡ link_at links i
    other i ne = get_or-set_other links a i changed no_link ne

    same_height : (i : ℕ) → (link_at links' i).height ≡ (link_at links i).height
    same_height i = ⊎_elim (λ is. ap (λ m. (link_at links' m).height) is ∙ ap (λ (x : Link). x.height) here ∙ ap (λ m. (link_at links m).height) (sym is)) (λ ne. ap (λ (x : Link). x.height) (other i ne)) (cases_eq i a)

    same_least : (link_at links' a).least ≡ (link_at links a).least
    same_least = ap (λ (x : Link). x.least) here

    pub ended : Joined vs f p names links links' a a a
    ended = record {
      first = first;
      second = first;
      awaits = awaits;
      root = root;
      onto = inl refl;
      size = length-set links a changed;
      others = λ i ne _. other i ne;
      one = inl refl;
      head = ap (λ (x : Link). x.up) here ∙ first.1;
      under = λ i is ne. absurd (ne (⊎_elim (λ x. x) (λ x. x) is));
      higher = λ i lt. omega (arith, same_height i);
      low = λ i lt. omega (arith, same_height i, k.low i lt);
      within = subst (λ (x : Link). EndsWithin n x.end) (sym here) within;
      least = inl same_least;
      below_first = subst (λ m. AtMost (named names m) (named names (link_at links a).least)) (sym same_least) (itself_at_most (named names (link_at links a).least));
      below_second = subst (λ m. AtMost (named names m) (named names (link_at links a).least)) (sym same_least) (itself_at_most (named names (link_at links a).least));
    }

  -- one head below another
  module _ (b : ℕ) (second : IsHead links b) (apart : a ≢ b) (g : FutureShape) (goes : lead (put future_cmp f p vs) f ≡ Goes g) (root : chase_at vs names b ≡ chase vs g)
      (only : (h : FutureShape) → lead (put future_cmp f p vs) f ≡ Goes h → h ≡ g) where
    abbrev least : ℕ
    least = lesser_of names (link_at links a).least (link_at links b).least

    lesser_named : (x y : ℕ) → named names (lesser_of names x y) ≡ lesser (named names x) (named names y)
    lesser_named x y = by (future_lt (named names y) (named names x))
      where
        by : (t : Bool) → named names (cond t y x) ≡ elim t [ true ↦ named names y | false ↦ named names x ]
        by true = refl
        by false = refl

    lesser_is : (x y : ℕ) → (lesser_of names x y ≡ x) ⊎ (lesser_of names x y ≡ y)
    lesser_is x y = by (future_lt (named names y) (named names x))
      where
        by : (t : Bool) → (cond t y x ≡ x) ⊎ (cond t y x ≡ y)
        by true = inr refl
        by false = inl refl

    module _ (low high : ℕ) (pair : ((low ≡ a) × (high ≡ b)) ⊎ ((low ≡ b) × (high ≡ a))) (ordered : (link_at links low).height ≤ (link_at links high).height) where
      abbrev e : End
      e = (link_at links b).end

      abbrev low_link : Link
      low_link = record { up = Some high; height = (link_at links low).height; least = (link_at links low).least; end = (link_at links low).end }

      abbrev high_link : Link
      high_link = record { up = None; height = max (link_at links high).height ((link_at links low).height + 1); least = least; end = e }

      abbrev below : List Link
      below = put_below links low high least e

      low_head : IsHead links low
      low_head = ⊎_elim (λ x. subst (IsHead links) (sym x.0) first) (λ x. subst (IsHead links) (sym x.0) second) pair

      high_head : IsHead links high
      high_head = ⊎_elim (λ x. subst (IsHead links) (sym x.1) second) (λ x. subst (IsHead links) (sym x.1) first) pair

      differ : low ≢ high
      differ d = ⊎_elim (λ x. apart (sym x.0 ∙ d ∙ x.1)) (λ x. apart (sym x.1 ∙ sym d ∙ x.0)) pair

      pub at_high : link_at below high ≡ high_link
      at_high = get_or-set_same (set links low low_link) high high_link no_link (let s = length-set links low low_link in omega (arith, s, high_head.0))

      at_low : link_at below low ≡ low_link
      at_low = get_or-set_other (set links low low_link) high low high_link no_link differ ∙ get_or-set_same links low low_link no_link low_head.0

      at_other : (i : ℕ) → i ≢ low → i ≢ high → link_at below i ≡ link_at links i
      at_other i nl nh = get_or-set_other (set links low low_link) high i high_link no_link nh ∙ get_or-set_other links low i low_link no_link nl

      one_of : (i : ℕ) → i ≢ a → i ≢ b → (i ≢ low) × (i ≢ high)
      one_of i na nb = ⊎_elim (λ x. ((λ d. na (d ∙ x.0)), (λ d. nb (d ∙ x.1)))) (λ x. ((λ d. nb (d ∙ x.0)), (λ d. na (d ∙ x.1)))) pair

      is_low : (i : ℕ) → (i ≡ a) ⊎ (i ≡ b) → i ≢ high → i ≡ low
      is_low i is ne = ⊎_elim
          (λ x. ⊎_elim (λ d. d ∙ sym x.0) (λ d. absurd (ne (d ∙ sym x.1))) is)
          (λ x. ⊎_elim (λ d. absurd (ne (d ∙ sym x.1))) (λ d. d ∙ sym x.0) is)
          pair

      heights : (i : ℕ) → i < length links → ((link_at links i).height ≤ (link_at below i).height) × ((link_at below i).height ≤ suc (length vs))
      heights i lt = ⊎_elim
          (λ d.
          let now : (link_at below i).height ≡ max (link_at links high).height ((link_at links low).height + 1) = ap (λ m. (link_at below m).height) d ∙ ap (λ (x : Link). x.height) at_high in
          let was : (link_at links i).height ≡ (link_at links high).height = ap (λ m. (link_at links m).height) d in
          (omega (arith, now, was), omega (arith, now, k.low high high_head.0, k.low low low_head.0)))
          (λ nh. ⊎_elim
          (λ d.
          let now : (link_at below i).height ≡ (link_at links low).height = ap (λ m. (link_at below m).height) d ∙ ap (λ (x : Link). x.height) at_low in
          let was : (link_at links i).height ≡ (link_at links low).height = ap (λ m. (link_at links m).height) d in
          (omega (arith, now, was), omega (arith, now, k.low low low_head.0)))
          (λ nl. let now : (link_at below i).height ≡ (link_at links i).height = ap (λ (x : Link). x.height) (at_other i nl nh) in (omega (arith, now), omega (arith, now, k.low i lt)))
          (cases_eq i low))
          (cases_eq i high)

      top_least : (link_at below high).least ≡ least
      top_least = ap (λ (x : Link). x.least) at_high

      pub put_so : Joined vs f p names links below a b high
      put_so = record {
        first = first;
        second = second;
        awaits = awaits;
        root = λ h d. root ∙ ap (chase vs) (sym (only h d));
        onto = inr (g, goes);
        size = let s = length-set links low low_link in length-set (set links low low_link) high high_link ∙ s;
        others = λ i na nb. let x = one_of i na nb in at_other i x.0 x.1;
        one = ⊎_elim (λ x. inr x.1) (λ x. inl x.1) pair;
        head = ap (λ (x : Link). x.up) at_high;
        under = λ i is ne.
            let d = is_low i is ne in
            let mine : (link_at below i).height ≡ (link_at links low).height = ap (λ m. (link_at below m).height) d ∙ ap (λ (x : Link). x.height) at_low in
            let top : (link_at below high).height ≡ max (link_at links high).height ((link_at links low).height + 1) = ap (λ (x : Link). x.height) at_high in
            (ap (λ m. (link_at below m).up) d ∙ ap (λ (x : Link). x.up) at_low, omega (arith, mine, top));
        higher = λ i lt. (heights i lt).0;
        low = λ i lt. (heights i lt).1;
        within = subst (λ (x : Link). EndsWithin n x.end) (sym at_high) (k.heads b second).within;
        least = ⊎_elim (λ d. inl (top_least ∙ d)) (λ d. inr (top_least ∙ d)) (lesser_is (link_at links a).least (link_at links b).least);
        below_first = subst (λ x. AtMost x (named names (link_at links a).least)) (sym (ap (named names) top_least ∙ lesser_named (link_at links a).least (link_at links b).least)) (lesser_first (named names (link_at links a).least) (named names (link_at links b).least));
        below_second = subst (λ x. AtMost x (named names (link_at links b).least)) (sym (ap (named names) top_least ∙ lesser_named (link_at links a).least (link_at links b).least)) (lesser_second (named names (link_at links a).least) (named names (link_at links b).least));
      }
