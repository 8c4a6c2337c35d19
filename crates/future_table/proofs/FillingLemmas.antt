-- Components when a future is filled, by what the root of its value is.
use Rattle.std.proofs.Common.{◌≡◌, ◌≢◌, ◌<◌, ◌≤◌, ℕ, Bool, true, false, cond, List, Option, Some, None, length, nat_lt, refl, sym, ap, subst, ◌∙◌, T, arith, inl, inr, ⊎_elim, ◌⊎◌}
use Rattle.std.proofs.lemmas.Bool.Decides.{nat_tests}
use Rattle.std.specs.FinMap.{find, put, is_sorted}
use Rattle.asp_model.specs.Names.{FutureShape, future_cmp}
use Rattle.asp_model.specs.Parcel.{ParcelShape}
use Rattle.asp_model.specs.Chase.{Values, Lead, Chase, Goes, lead, chase}
use Rattle.asp_model.specs.Chase as chases
use Rattle.law_chases.proofs.FilledLemmas.{chase_before, turns_named, name}
use Rattle.law_chases.proofs.FillLemmas.{Onward, ends, goes_on, turns, onward}
use Rattle.future_table.specs.declared.links.Link.{Link}
use Rattle.future_table.specs.declared.links.End.{End}
use Rattle.future_table.specs.declared.links.End.TheVariants as ending
use Rattle.future_table.specs.Values.{Told, Value, Cycle, told}
use Rattle.future_table.specs.Numbers.{named, number_of}
use Rattle.future_table.specs.Links.{IsHead, link_at}
use Rattle.future_table.specs.Components.{AreComponents, chase_at, end_told, joined, lesser_of, put_below, with_end}
use Rattle.future_table.proofs.NumberLemmas.{named_number}
use Rattle.future_table.proofs.JoinedLemmas.{Joined, cycle_named, d_top, joined_components}
use Rattle.future_table.proofs.EndedLemmas.{at_high, ended, here, put_so}

none_some : {A C : Type 0} {x : A} → None ≡ Some x → C
none_some {A} e = absurd (subst (λ (o : Option A). T (elim o [ None ↦ true | Some y ↦ false ])) e tt)

some_is : {A : Type 0} {x y : A} → Some x ≡ Some y → x ≡ y
some_is {A} {x} {y} e = ap (λ o. elim o [ None ↦ x | Some z ↦ z ]) e

abbrev next_in : Lead → Option FutureShape
next_in (Goes f) = Some f
next_in l = None

abbrev told_cycle : Told → Option FutureShape
told_cycle (Cycle f) = Some f
told_cycle t = None

abbrev cycle_in : Chase → Option FutureShape
cycle_in (chases.Cycle f) = Some f
cycle_in c = None

cycle_told : (c : Chase) → told_cycle (told c) ≡ cycle_in c
cycle_told (chases.Value f p) = refl
cycle_told (chases.Unfilled f) = refl
cycle_told (chases.Cycle f) = refl

cycle_of_name : (c : Chase) (n : FutureShape) → cycle_in c ≡ Some n → c ≡ chases.Cycle n
cycle_of_name (chases.Value f p) n e = none_some e
cycle_of_name (chases.Unfilled f) n e = none_some e
cycle_of_name (chases.Cycle f) n e = ap chases.Cycle (some_is e)

module _ (vs : Values) (f : FutureShape) (p : ParcelShape) (sorted : T (is_sorted future_cmp vs)) (new : find future_cmp f vs ≡ None) (names : List FutureShape) (links : List Link)
    (k : AreComponents vs names links) (at : ℕ) (number : number_of f names ≡ Some at) (a : ℕ) (first : IsHead links a) (climbs : chase_at vs names at ≡ chase_at vs names a) where
  abbrev after : Values
  after = put future_cmp f p vs

  named_at : (at < length names) × (named names at ≡ f)
  named_at = named_number f names at number

  awaits : chase_at vs names a ≡ chases.Unfilled f
  awaits = sym climbs ∙ ap (chase vs) named_at.1 ∙ chase_before vs sorted f new p

  on : Onward vs f p sorted new
  on = onward vs f p sorted new

  -- its walks end there
  pub plain_components : ((g : FutureShape) → lead after f ≢ Goes g) → AreComponents after names (with_end links a (ending.Value at))
  plain_components no_root =
      let e = ending.Value at in
      let j = ended vs f p names links k a first awaits e named_at.0 (λ g d. absurd (no_root g d)) in
      joined_components vs f p sorted new names links (with_end links a e) k at number a a a j
      (ap told (d_top vs f p sorted new names links (with_end links a e) k at number a a a j) ∙ by on
      ∙ ap (λ (x : Link). end_told names (link_at (with_end links a e) a).least x.end) (sym (here vs f p names links k a first awaits e named_at.0 (λ g d. absurd (no_root g d)))))
    where
      by : Onward vs f p sorted new → told (chase after f) ≡ Value (named names at)
      by (ends now none) = ap told now ∙ ap Value (sym named_at.1)
      by (goes_on g goes now other none) = absurd (no_root g goes)
      by (turns g h goes root) = absurd (no_root g goes)

  -- they go round a cycle
  pub closed_components : (g : FutureShape) → lead after f ≡ Goes g → chase_at vs names a ≡ chase vs g → AreComponents after names (with_end links a ending.Cycle)
  closed_components g goes back =
      let e = ending.Cycle in
      let root : (h : FutureShape) → lead after f ≡ Goes h → chase_at vs names a ≡ chase vs h = λ h d. back ∙ ap (chase vs) (some_is (ap next_in (sym goes ∙ d))) in
      let j = ended vs f p names links k a first awaits e tt root in
      joined_components vs f p sorted new names links (with_end links a e) k at number a a a j
      (ap told (d_top vs f p sorted new names links (with_end links a e) k at number a a a j) ∙ by on j
      ∙ ap (λ (x : Link). end_told names (link_at (with_end links a e) a).least x.end) (sym (here vs f p names links k a first awaits e tt root)))
    where
      by : Onward vs f p sorted new → (j : Joined vs f p names links (with_end links a ending.Cycle) a a a) → told (chase after f) ≡ Cycle (named names (link_at (with_end links a ending.Cycle) a).least)
      by (ends now none) j = absurd (none g goes)
      by (goes_on h goes' now other none) j = absurd (other (sym (j.root h goes') ∙ awaits))
      by (turns h m goes' root) j =
          let now = turns_named vs sorted f new p h m goes' root f (inl (chase_before vs sorted f new p)) in
          ap told now ∙ ap Cycle (cycle_named vs f p sorted new names links (with_end links a ending.Cycle) k at number a a a j (name vs sorted f new p h m goes' root) now)

  -- they go on as those of the root
  module _ (b : ℕ) (second : IsHead links b) (apart : a ≢ b) (g : FutureShape) (goes : lead after f ≡ Goes g) (root : chase_at vs names b ≡ chase vs g) where
    only : (h : FutureShape) → lead after f ≡ Goes h → h ≡ g
    only h d = some_is (ap next_in (sym d ∙ goes))

    abbrev least : ℕ
    least = lesser_of names (link_at links a).least (link_at links b).least

    abbrev e : End
    e = (link_at links b).end

    was : told (chase_at vs names b) ≡ end_told names (link_at links b).least e
    was = (k.heads b second).ends

    -- an end that is no cycle is told alike under any least future
    same_end : (x y : ℕ) (e : End) → (told_cycle (end_told names x e) ≡ None) → end_told names x e ≡ end_told names y e
    same_end x y (ending.Value i) h = refl
    same_end x y (ending.Unfilled i) h = refl
    same_end x y ending.Cycle h = none_some (sym h)

    cycle_end : (x y : ℕ) (e : End) (n : FutureShape) → told_cycle (end_told names x e) ≡ Some n → end_told names y e ≡ Cycle (named names y)
    cycle_end x y (ending.Value i) n h = none_some h
    cycle_end x y (ending.Unfilled i) n h = none_some h
    cycle_end x y ending.Cycle n h = refl

    no_cycle : (c : Chase) → ((n : FutureShape) → c ≢ chases.Cycle n) → cycle_in c ≡ None
    no_cycle (chases.Value h q) none = refl
    no_cycle (chases.Unfilled h) none = refl
    no_cycle (chases.Cycle h) none = absurd (none h refl)

    told_now : (links' : List Link) (top : ℕ) (j : Joined vs f p names links links' a b top) → Onward vs f p sorted new → told (chase after f) ≡ end_told names (link_at links' top).least e
    told_now links' top j (ends now none) = absurd (none g goes)
    told_now links' top j (goes_on h goes' now other none) =
        let is : chase after f ≡ chase_at vs names b = now ∙ sym (j.root h goes') in
        let quiet : told_cycle (end_told names (link_at links b).least e) ≡ None = ap told_cycle (sym was) ∙ cycle_told (chase_at vs names b) ∙ ap cycle_in (sym is) ∙ no_cycle (chase after f) none in
        ap told is ∙ was ∙ same_end (link_at links b).least (link_at links' top).least e quiet
    told_now links' top j (turns h m goes' root') = ⊎_elim
        (λ x. absurd (apart (k.apart a b first second (awaits ∙ sym x.0 ∙ sym (j.root h goes')))))
        (λ x.
        let round : told_cycle (end_told names (link_at links b).least e) ≡ Some m = ap told_cycle (sym was) ∙ cycle_told (chase_at vs names b) ∙ ap cycle_in (j.root h goes' ∙ x) in
        let now = turns_named vs sorted f new p h m goes' root' f (inl (chase_before vs sorted f new p)) in
        ap told now ∙ ap Cycle (cycle_named vs f p sorted new names links links' k at number a b top j (name vs sorted f new p h m goes' root') now)
        ∙ sym (cycle_end (link_at links b).least (link_at links' top).least e m round))
        root'

    below_components : (low high : ℕ) (pair : ((low ≡ a) × (high ≡ b)) ⊎ ((low ≡ b) × (high ≡ a))) (ordered : (link_at links low).height ≤ (link_at links high).height) → AreComponents after names (put_below links low high least e)
    below_components low high pair ordered =
        let links' = put_below links low high least e in
        let j = put_so vs f p names links k a first awaits b second apart g goes root only low high pair ordered in
        joined_components vs f p sorted new names links links' k at number a b high j
        (ap told (d_top vs f p sorted new names links links' k at number a b high j) ∙ told_now links' high j on
        ∙ ap (λ (x : Link). end_told names (link_at links' high).least x.end) (sym (at_high vs f p names links k a first awaits b second apart g goes root only low high pair ordered)))

    pub joined_after : AreComponents after names (joined names links a b)
    joined_after = by (nat_lt (link_at links a).height (link_at links b).height) refl
      where
        by : (t : Bool) → nat_lt (link_at links a).height (link_at links b).height ≡ t → AreComponents after names (cond t (put_below links a b least e) (put_below links b a least e))
        by true d = let lt : (link_at links a).height < (link_at links b).height = grind (arith, nat_tests) in below_components a b (inl (refl, refl)) (omega (arith, lt))
        by false d = let le : (link_at links b).height ≤ (link_at links a).height = grind (arith, nat_tests) in below_components b a (inr (refl, refl)) le
