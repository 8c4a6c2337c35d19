-- A future is filled: two components become one, or the walks of one end otherwise.
use Rattle.std.proofs.Common.{◌≡◌, ◌≢◌, ◌+◌, ◌<◌, ◌≤◌, ℕ, suc, true, false, cond, List, Option, Some, None, length, is_some, sym, ap, subst, ◌∙◌, T, arith, inl, inr, ⊎_elim, ◌⊎◌}
use Rattle.std.proofs.lemmas.Bool.{cases_eq}
use Rattle.std.specs.FinMap.{find, put, is_sorted}
use Rattle.std.specs.FinMap.Entries.{length-put}
use Rattle.asp_model.specs.Names.{FutureShape, future_cmp}
use Rattle.asp_model.specs.Parcel.{ParcelShape}
use Rattle.asp_model.specs.Chase.{Values, Chase, Goes, lead, chase}
use Rattle.asp_model.specs.Chase as chases
use Rattle.law_chases.specs.Walks.{IsFilled}
use Rattle.law_chases.proofs.FutureLemmas.{future_case, future_same, future_total}
use Rattle.law_chases.proofs.MapLemmas as Maps
use Rattle.law_chases.proofs.ChaseLemmas.{walk_filled}
use Rattle.law_chases.proofs.CycleLemmas.{AtMost, at_most_then, less_total}
use Rattle.law_chases.proofs.MeetLemmas.{meet_back, meet_then, chase_goes, chase_meets, cycle_never, named_cycle}
use Rattle.law_chases.proofs.FilledLemmas.{chase_before, still_sorted}
use Rattle.law_chases.proofs.FillLemmas.{elsewhere, of_root, together}
use Rattle.future_table.specs.declared.links.Link.{Link}
use Rattle.future_table.specs.Values.{told}
use Rattle.future_table.specs.Numbers.{named, number_of}
use Rattle.future_table.specs.Links.{IsHead, link_at}
use Rattle.future_table.specs.Components.{AreComponents, EndsWithin, IsHeadLink, chase_at, end_told}
use Rattle.future_table.proofs.NumberLemmas.{named_number}
use Rattle.future_table.proofs.ComponentLemmas.{head_at}

-- the links of two heads, or of one, when the future that the first awaits is filled
pub record Joined (vs : Values) (f : FutureShape) (p : ParcelShape) (names : List FutureShape) (links links' : List Link) (a b top : ℕ) : Type 0 where
  pub first : IsHead links a
  pub second : IsHead links b
  pub awaits : chase_at vs names a ≡ chases.Unfilled f
  -- the value's root leads where the second's walks lead
  pub root : (g : FutureShape) → lead (put future_cmp f p vs) f ≡ Goes g → chase_at vs names b ≡ chase vs g
  pub onto : (b ≡ a) ⊎ ((g : FutureShape) × (lead (put future_cmp f p vs) f ≡ Goes g))
  pub size : length links' ≡ length links
  pub others : (i : ℕ) → i ≢ a → i ≢ b → link_at links' i ≡ link_at links i
  pub one : (top ≡ a) ⊎ (top ≡ b)
  pub head : (link_at links' top).up ≡ None
  pub under : (i : ℕ) → (i ≡ a) ⊎ (i ≡ b) → i ≢ top → ((link_at links' i).up ≡ Some top) × ((link_at links' i).height < (link_at links' top).height)
  pub higher : (i : ℕ) → i < length links → (link_at links i).height ≤ (link_at links' i).height
  pub low : (i : ℕ) → i < length links → (link_at links' i).height ≤ suc (length vs)
  pub within : EndsWithin (length names) (link_at links' top).end
  pub least : ((link_at links' top).least ≡ (link_at links a).least) ⊎ ((link_at links' top).least ≡ (link_at links b).least)
  pub below_first : AtMost (named names (link_at links' top).least) (named names (link_at links a).least)
  pub below_second : AtMost (named names (link_at links' top).least) (named names (link_at links b).least)

some_is : {A : Type 0} {x y : A} → Some x ≡ Some y → x ≡ y
some_is {A} {x} {y} e = ap (λ o. elim o [ None ↦ x | Some z ↦ z ]) e

none_some : {A C : Type 0} {x : A} → None ≡ Some x → C
none_some {A} e = absurd (subst (λ (o : Option A). T (elim o [ None ↦ true | Some y ↦ false ])) e tt)

module _ (vs : Values) (f : FutureShape) (p : ParcelShape) (sorted : T (is_sorted future_cmp vs)) (new : find future_cmp f vs ≡ None) (names : List FutureShape) (links links' : List Link)
    (k : AreComponents vs names links) (at : ℕ) (number : number_of f names ≡ Some at) (a b top : ℕ) (j : Joined vs f p names links links' a b top) where
  abbrev pub after : Values
  after = put future_cmp f p vs

  abbrev c : ℕ → Chase
  c = chase_at vs names

  abbrev d : ℕ → Chase
  d = chase_at after names

  abbrev end : Chase
  end = chase after f

  sorted' : T (is_sorted future_cmp after)
  sorted' = still_sorted vs sorted f new p

  as_one : (x y : FutureShape) → chase vs x ≡ chase vs y → chase after x ≡ chase after y
  as_one = together vs f p sorted new

  d_first : d a ≡ end
  d_first = as_one (named names a) f (j.awaits ∙ sym (chase_before vs sorted f new p))

  d_second : d b ≡ end
  d_second = ⊎_elim
      (λ same. ap d same ∙ d_first)
      (λ x. as_one (named names b) x.0 (j.root x.0 x.1) ∙ sym (chase_goes after sorted' f x.0 x.1))
      j.onto

  pub d_top : d top ≡ end
  d_top = ⊎_elim (λ e. ap d e ∙ d_first) (λ e. ap d e ∙ d_second) j.one

  -- the other heads
  IsOther : ℕ → Type 0
  IsOther i = IsHead links i × (i ≢ a) × (i ≢ b)

  stays : (i : ℕ) → IsOther i → d i ≡ c i
  unfolding IsOther
  stays i o = elsewhere vs f p sorted new (named names i) (
    (λ e. o.1 (k.apart i a o.0 j.first (e ∙ sym j.awaits))),
    (λ g goes e. o.2 (k.apart i b o.0 j.second (e ∙ sym (j.root g goes)))),
  )

  not_joined : (i : ℕ) → IsOther i → end ≡ d i → ⊥
  unfolding IsOther
  not_joined i o e =
      let x = of_root vs f p sorted new (named names i) (e ∙ stays i o) in
      o.2 (k.apart i b o.0 j.second (x.2 ∙ sym (j.root x.0 x.1)))

  -- a future's component was one of the two, or another
  place : (i : ℕ) → i < length names → ((c a ≡ c i) ⊎ (c b ≡ c i)) ⊎ ((r : ℕ) × IsOther r × (c r ≡ c i))
  unfolding IsOther
  place i lt =
      let x = head_at vs names links k i lt in
      ⊎_elim
      (λ e. inl (inl (ap c (sym e) ∙ x.2)))
      (λ ne. ⊎_elim (λ e. inl (inr (ap c (sym e) ∙ x.2))) (λ ne'. inr (x.0, (x.1, ne, ne'), x.2)) (cases_eq x.0 b))
      (cases_eq x.0 a)

  abbrev top_link : Link
  top_link = link_at links' top

  heads_first : IsHeadLink vs names a (link_at links a)
  heads_first = k.heads a j.first

  heads_second : IsHeadLink vs names b (link_at links b)
  heads_second = k.heads b j.second

  -- the least future of the new component
  pub known : top_link.least < length names
  known = ⊎_elim
      (λ e. subst (λ m. m < length names) (sym e) heads_first.known)
      (λ e. subst (λ m. m < length names) (sym e) heads_second.known)
      j.least

  pub member : d top_link.least ≡ end
  member = ⊎_elim
      (λ e. ap d e ∙ as_one _ _ heads_first.member ∙ d_first)
      (λ e. ap d e ∙ as_one _ _ heads_second.member ∙ d_second)
      j.least

  pub least_of_all : (i : ℕ) → i < length names → d i ≡ end → AtMost (named names top_link.least) (named names i)
  least_of_all i lt e = ⊎_elim
      (λ x. ⊎_elim
      (λ same. at_most_then (named names top_link.least) (named names (link_at links a).least) (named names i) j.below_first (heads_first.least i lt (sym same)))
      (λ same. at_most_then (named names top_link.least) (named names (link_at links b).least) (named names i) j.below_second (heads_second.least i lt (sym same)))
      x)
      (λ x. absurd (not_joined x.0 x.1 (sym e ∙ sym (as_one (named names x.0) (named names i) x.2))))
      (place i lt)

  filled_before : (x : FutureShape) → x ≢ f → IsFilled after x → IsFilled vs x
  filled_before x apart h = ap is_some (sym (Maps.find_other future_cmp future_total future_same x f p vs apart)) ∙ h

  pub numbered : (x : FutureShape) → IsFilled after x → (n : ℕ) × (number_of x names ≡ Some n)
  numbered x h = ⊎_elim (λ same. (at, ap (λ y. number_of y names) same ∙ number)) (λ apart. k.numbered x (filled_before x apart h)) (future_case x f)

  -- a cycle has the name of the least future
  pub cycle_named : (n : FutureShape) → end ≡ chases.Cycle n → n ≡ named names top_link.least
  cycle_named n e =
      let name = named_cycle after sorted' f n e in
      let x = numbered n name.filled in
      let at_n = named_number n names x.0 x.1 in
      let here : d x.0 ≡ end = ap (chase after) at_n.1 ∙ sym (chase_meets after sorted' f n name.meets) in
      let low : AtMost (named names top_link.least) n = subst (AtMost (named names top_link.least)) at_n.1 (least_of_all x.0 at_n.0 here) in
      let least = named names top_link.least in
      let cycles : chase after least ≡ chases.Cycle n = member ∙ e in
      let there = named_cycle after sorted' least n cycles in
      let filled : IsFilled after least = walk_filled after (length after) least (cycle_never after sorted' least n cycles (suc (length after))) in
      less_total n least low (name.least least filled (meet_then after f n least name.meets (meet_back after least n there.meets)))

  -- The links afterwards

  longer : length after ≡ suc (length vs)
  longer = let e : length after ≡ cond (is_some (find future_cmp f vs)) (length vs) (length vs + 1) = length-put future_cmp future_total f p vs sorted in
      let g : length after ≡ length vs + 1 = e ∙ ap (λ o. cond (is_some o) (length vs) (length vs + 1)) new in omega (arith, g)

  data Kind (i : ℕ) : Type 0 where
    is_top : i ≡ top → Kind i
    is_under : (link_at links' i).up ≡ Some top → (link_at links' i).height < (link_at links' top).height → (c a ≡ c i) ⊎ (c b ≡ c i) → Kind i
    is_other : i ≢ a → i ≢ b → Kind i

  kind : (i : ℕ) → Kind i
  kind i = ⊎_elim
      (λ e. is_top e)
      (λ ne. ⊎_elim
      (λ e. let u = j.under i (inl e) ne in is_under u.0 u.1 (inl (ap c (sym e))))
      (λ na. ⊎_elim
      (λ e. let u = j.under i (inr e) ne in is_under u.0 u.1 (inr (ap c (sym e))))
      (λ nb. is_other na nb)
      (cases_eq i b))
      (cases_eq i a))
      (cases_eq i top)

  top_within : top < length links'
  top_within = ⊎_elim (λ e. omega (arith, e, j.first.0, j.size)) (λ e. omega (arith, e, j.second.0, j.size)) j.one

  leads : (i u : ℕ) → i < length links' → (link_at links' i).up ≡ Some u → Kind i → (u < length links') × ((link_at links' i).height < (link_at links' u).height)
  leads i u lt e (is_top t) = none_some (sym j.head ∙ ap (λ m. (link_at links' m).up) (sym t) ∙ e)
  leads i u lt e (is_under up less x) = let same : top ≡ u = some_is (sym up ∙ e) in (omega (arith, top_within, same), subst (λ m. (link_at links' i).height < (link_at links' m).height) same less)
  leads i u lt e (is_other na nb) =
      let link = j.others i na nb in
      let was = k.lead i u (omega (arith, lt, j.size)) (ap (λ (x : Link). x.up) (sym link) ∙ e) in
      let here : (link_at links' i).height ≡ (link_at links i).height = ap (λ (x : Link). x.height) link in
      (omega (arith, was.0, j.size), omega (arith, here, was.1, j.higher u was.0))

  alike : (i u : ℕ) → i < length links' → (link_at links' i).up ≡ Some u → Kind i → d i ≡ d u
  alike i u lt e (is_top t) = none_some (sym j.head ∙ ap (λ m. (link_at links' m).up) (sym t) ∙ e)
  alike i u lt e (is_under up less x) =
      ⊎_elim (λ same. sym (as_one (named names a) (named names i) same) ∙ d_first) (λ same. sym (as_one (named names b) (named names i) same) ∙ d_second) x
      ∙ sym d_top ∙ ap d (some_is (sym up ∙ e))
  alike i u lt e (is_other na nb) = as_one (named names i) (named names u) (k.alike i u (omega (arith, lt, j.size)) (ap (λ (x : Link). x.up) (sym (j.others i na nb)) ∙ e))

  other_head : (i : ℕ) → IsHead links' i → i ≢ a → i ≢ b → IsOther i
  unfolding IsOther
  other_head i h na nb = ((omega (arith, h.0, j.size), ap (λ (x : Link). x.up) (sym (j.others i na nb)) ∙ h.1), na, nb)

  other_link : (i : ℕ) → IsOther i → IsHeadLink after names i (link_at links' i)
  unfolding IsOther
  other_link i o =
      let x = k.heads i o.0 in
      subst (IsHeadLink after names i) (sym (j.others i o.1 o.2)) (record {
        ends = ap told (stays i o) ∙ x.ends;
        within = x.within;
        known = x.known;
        member = as_one (named names (link_at links i).least) (named names i) x.member;
        least = λ m lt same. ⊎_elim
            (λ y. absurd (not_joined i o (⊎_elim (λ e. sym d_first ∙ as_one (named names a) (named names m) e) (λ e. sym d_second ∙ as_one (named names b) (named names m) e) y ∙ same)))
            (λ y. x.least m lt (sym y.2 ∙ sym (stays y.0 y.1) ∙ as_one (named names y.0) (named names m) y.2 ∙ same ∙ stays i o))
            (place m lt);
      })

  heads_after : (told (d top) ≡ end_told names top_link.least top_link.end) → (i : ℕ) → IsHead links' i → Kind i → IsHeadLink after names i (link_at links' i)
  heads_after ends i h (is_top t) = subst (λ m. IsHeadLink after names m (link_at links' m)) (sym t) (record {
    ends = ends;
    within = j.within;
    known = known;
    member = member ∙ sym d_top;
    least = λ m lt same. least_of_all m lt (same ∙ d_top);
  })
  heads_after ends i h (is_under up less x) = none_some (sym h.1 ∙ up)
  heads_after ends i h (is_other na nb) = other_link i (other_head i h na nb)

  apart_after : (i m : ℕ) → IsHead links' i → IsHead links' m → d i ≡ d m → Kind i → Kind m → i ≡ m
  unfolding IsOther
  apart_after i m h h' e (is_under up less x) q = none_some (sym h.1 ∙ up)
  apart_after i m h h' e q (is_under up less x) = none_some (sym h'.1 ∙ up)
  apart_after i m h h' e (is_top t) (is_top t') = t ∙ sym t'
  apart_after i m h h' e (is_top t) (is_other na nb) = absurd (not_joined m (other_head m h' na nb) (sym d_top ∙ ap d (sym t) ∙ e))
  apart_after i m h h' e (is_other na nb) (is_top t) = absurd (not_joined i (other_head i h na nb) (sym d_top ∙ ap d (sym t) ∙ sym e))
  apart_after i m h h' e (is_other na nb) (is_other na' nb') =
      let o = other_head i h na nb in
      let o' = other_head m h' na' nb' in
      k.apart i m o.0 o'.0 (sym (stays i o) ∙ e ∙ stays m o')

  low_after : (i : ℕ) → i < length links' → (link_at links' i).height ≤ length after
  low_after i lt = omega (arith, j.low i (omega (arith, lt, j.size)), longer)

  -- the components afterwards, where the end of the walks is told
  pub joined_components : (told (d top) ≡ end_told names top_link.least top_link.end) → AreComponents after names links'
  joined_components ends = record {
    count = j.size ∙ k.count;
    numbered = numbered;
    lead = λ i u lt e. leads i u lt e (kind i);
    low = low_after;
    alike = λ i u lt e. alike i u lt e (kind i);
    heads = λ i h. heads_after ends i h (kind i);
    apart = λ i m h h' e. apart_after i m h h' e (kind i) (kind m);
  }
