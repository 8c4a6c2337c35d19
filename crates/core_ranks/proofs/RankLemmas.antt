-- What changes leave of where activities stand.
use Rattle.std.proofs.Common.{◌≡◌, ◌≢◌, ◌||◌, ◌∷◌, ℕ, Bool, true, false, List, [], refl, sym, ap, subst, ◌∙◌, ◌⊎◌, inl, inr}
use Rattle.std.proofs.lemmas.Bool.{false≢true}
use Rattle.std.specs.Cmp.{IsTotalOrder, nat_cmp_total, on_total, then_total, tied_itself}
use Rattle.std.specs.Cmp.Lexicographic.{nat_list_cmp_total}
use Rattle.std.specs.Ordering.{is_eq}
use Rattle.asp_model.specs.Names.{FutureShape, future_cmp, same_future}
use Rattle.asp_model.specs.Order.{same_future_same}
use Rattle.core_ranks.specs.declared.ranks.Ranks.{Ranks}
use Rattle.core_ranks.specs.declared.waiting.Waiting.{Waiting}
use Rattle.core_ranks.specs.Numbers.{has_number}
use Rattle.core_ranks.specs.Waiting.{StayElsewhere, numbers_at}
use Rattle.core_ranks.specs.Ranks.{AreShifted, IsRanked, OthersStay, RankShape, Goes, HasNeed, Waits, Circles, Rests, awaits, circles, goes, has_need, shifted, waits_for}
use Rattle.core_ranks.proofs.NumberLemmas.{number_itself, numbers_apart}

future_total : IsTotalOrder future_cmp
future_total = then_total (on_total (λ f. f.by) nat_list_cmp_total) (on_total (λ f. f.index) nat_cmp_total)

future_itself : (f : FutureShape) → same_future f f ≡ true
future_itself f = ap is_eq (tied_itself future_total f)

pub future_case : (f g : FutureShape) → (f ≡ g) ⊎ (same_future f g ≡ false)
future_case f g = elim (same_future f g) as (λ b. same_future f g ≡ b → (f ≡ g) ⊎ (b ≡ false)) [
  | true ↦ λ e. inl (same_future_same f g e)
  | false ↦ λ e. inr refl
] refl

-- more are there, if so
abbrev pub gained : (more here was : Bool) → Bool
gained true here was = here || was
gained false here was = was

gained_not : (b was : Bool) → gained b false was ≡ was
gained_not true was = refl
gained_not false was = refl

gained_here : (b : Bool) → gained b true false ≡ b
gained_here true = refl
gained_here false = refl

-- nobody waits for this future any more
abbrev pub elsewhere : (same was : Bool) → Bool
elsewhere true was = false
elsewhere false was = was

elsewhere_none : (b : Bool) → elsewhere b false ≡ false
elsewhere_none true = refl
elsewhere_none false = refl

elsewhere_itself : (b : Bool) → elsewhere b b ≡ false
elsewhere_itself true = refl
elsewhere_itself false = refl

-- What is told of who is shifted

module _ (told : RankShape → Bool) (then : RankShape) where
  shifted_by : (g : FutureShape) (b : Bool) → told (Waits g) ≡ false → told (elim b [ true ↦ then | false ↦ Waits g ]) ≡ gained (told then) b (told (Waits g))
  shifted_by g true e = sym (gained_here (told then)) ∙ ap (gained (told then) true) (sym e)
  shifted_by g false e = sym (gained_not (told then) (told (Waits g)))

goes_shifted : (f : FutureShape) (then x : RankShape) → goes (shifted f then x) ≡ gained (goes then) (waits_for f x) (goes x)
goes_shifted f then Goes = sym (gained_not (goes then) true)
goes_shifted f then HasNeed = sym (gained_not (goes then) false)
goes_shifted f then (Waits g) = shifted_by goes then g (same_future f g) refl
goes_shifted f then Circles = sym (gained_not (goes then) false)
goes_shifted f then Rests = sym (gained_not (goes then) false)

need_shifted : (f : FutureShape) (then x : RankShape) → has_need (shifted f then x) ≡ gained (has_need then) (waits_for f x) (has_need x)
need_shifted f then Goes = sym (gained_not (has_need then) false)
need_shifted f then HasNeed = sym (gained_not (has_need then) true)
need_shifted f then (Waits g) = shifted_by has_need then g (same_future f g) refl
need_shifted f then Circles = sym (gained_not (has_need then) false)
need_shifted f then Rests = sym (gained_not (has_need then) false)

circles_shifted : (f : FutureShape) (then x : RankShape) → circles (shifted f then x) ≡ gained (circles then) (waits_for f x) (circles x)
circles_shifted f then Goes = sym (gained_not (circles then) false)
circles_shifted f then HasNeed = sym (gained_not (circles then) false)
circles_shifted f then (Waits g) = shifted_by circles then g (same_future f g) refl
circles_shifted f then Circles = sym (gained_not (circles then) true)
circles_shifted f then Rests = sym (gained_not (circles then) false)

module _ (h f : FutureShape) (then : RankShape) where
  waits_not : waits_for h (shifted f then Rests) ≡ gained (waits_for h then) false (elsewhere (same_future h f) false)
  waits_not = sym (gained_not (waits_for h then) (elsewhere (same_future h f) false) ∙ elsewhere_none (same_future h f))

  waits_by : (g : FutureShape) (b : Bool) → same_future f g ≡ b → waits_for h (elim b [ true ↦ then | false ↦ Waits g ]) ≡ gained (waits_for h then) b (elsewhere (same_future h f) (same_future h g))
  waits_by g true e =
      let same : f ≡ g = same_future_same f g e in
      sym (ap (gained (waits_for h then) true) (ap (λ k. elsewhere (same_future h f) (same_future h k)) (sym same) ∙ elsewhere_itself (same_future h f)) ∙ gained_here (waits_for h then))
  waits_by g false e = sym (gained_not (waits_for h then) (elsewhere (same_future h f) (same_future h g)) ∙ by (same_future h f) refl)
    where
      by : (b : Bool) → same_future h f ≡ b → elsewhere b (same_future h g) ≡ same_future h g
      by true q = sym (ap (λ k. same_future k g) (same_future_same h f q) ∙ e)
      by false q = refl

  waits_shifted : (x : RankShape) → waits_for h (shifted f then x) ≡ gained (waits_for h then) (waits_for f x) (elsewhere (same_future h f) (waits_for h x))
  waits_shifted Goes = waits_not
  waits_shifted HasNeed = waits_not
  waits_shifted (Waits g) = waits_by g (same_future f g) refl
  waits_shifted Circles = waits_not
  waits_shifted Rests = waits_not

-- Shifts

-- these who waited for a future stand so
pub record Shifts (f : FutureShape) (then : RankShape) (ns : List ℕ) (old new : Ranks) : Type 0 where
  pub waited : ns ≡ numbers_at old.waiting f
  pub going : (k : ℕ) → has_number k new.going.keys ≡ gained (goes then) (has_number k ns) (has_number k old.going.keys)
  pub needy : (k : ℕ) → has_number k new.needy.keys ≡ gained (has_need then) (has_number k ns) (has_number k old.needy.keys)
  pub waiting : (k : ℕ) (h : FutureShape) → has_number k (numbers_at new.waiting h) ≡ gained (waits_for h then) (has_number k ns) (elsewhere (same_future h f) (has_number k (numbers_at old.waiting h)))
  pub circling : (k : ℕ) → has_number k new.circling.keys ≡ gained (circles then) (has_number k ns) (has_number k old.circling.keys)

pub are_shifted : (f : FutureShape) (then : RankShape) (ns : List ℕ) (old new : Ranks) → Shifts f then ns old new → AreShifted f then old new
are_shifted f then ns old new s k x h =
    let here : has_number k ns ≡ waits_for f x = ap (has_number k) s.waited ∙ h.waiting f in
    record {
      going = s.going k ∙ (λ i. gained (goes then) (here i) (h.going i)) ∙ sym (goes_shifted f then x);
      needy = s.needy k ∙ (λ i. gained (has_need then) (here i) (h.needy i)) ∙ sym (need_shifted f then x);
      waiting = λ g. s.waiting k g ∙ (λ i. gained (waits_for g then) (here i) (elsewhere (same_future g f) (h.waiting g i))) ∙ sym (waits_shifted g f then x);
      circling = s.circling k ∙ (λ i. gained (circles then) (here i) (h.circling i)) ∙ sym (circles_shifted f then x);
    }

apart : (h f : FutureShape) → same_future h f ≡ false → f ≢ h
apart h f e q = false≢true (sym e ∙ ap (same_future h) q ∙ future_itself h)

-- who waited for a future was taken out
pub taken_out : (f : FutureShape) (old mid : Waiting) → numbers_at mid f ≡ [] → StayElsewhere f old mid → (k : ℕ) (h : FutureShape) → has_number k (numbers_at mid h) ≡ elsewhere (same_future h f) (has_number k (numbers_at old h))
taken_out f old mid none others k h = by (same_future h f) refl
  where
    by : (b : Bool) → same_future h f ≡ b → has_number k (numbers_at mid h) ≡ elsewhere b (has_number k (numbers_at old h))
    by true e = ap (λ g. has_number k (numbers_at mid g)) (same_future_same h f e) ∙ ap (has_number k) none
    by false e = ap (has_number k) (others h (apart h f e))

-- and joined those of another
pub joined_in : (g : FutureShape) (ns : List ℕ) (mid new : Waiting) → ((k : ℕ) → has_number k (numbers_at new g) ≡ (has_number k ns || has_number k (numbers_at mid g))) → StayElsewhere g mid new
    → (k : ℕ) (h : FutureShape) → has_number k (numbers_at new h) ≡ gained (same_future h g) (has_number k ns) (has_number k (numbers_at mid h))
joined_in g ns mid new here others k h = by (same_future h g) refl
  where
    by : (b : Bool) → same_future h g ≡ b → has_number k (numbers_at new h) ≡ gained b (has_number k ns) (has_number k (numbers_at mid h))
    by true e = subst (λ q. has_number k (numbers_at new q) ≡ (has_number k ns || has_number k (numbers_at mid q))) (sym (same_future_same h g e)) (here k)
    by false e = ap (has_number k) (others h (apart h g e))

-- One who waits

pub one_waits : (n : ℕ) (f : FutureShape) (old new : Ranks) → IsRanked old n Rests → new.going ≡ old.going → new.needy ≡ old.needy → new.circling ≡ old.circling → ((k : ℕ) (h : FutureShape) → has_number k (numbers_at new.waiting h) ≡ gained (same_future h f) (has_number k (n ∷ [])) (has_number k (numbers_at old.waiting h))) → IsRanked new n (Waits f)
one_waits n f old new rests going needy circling waiting = record {
  going = ap (λ s. has_number n s.keys) going ∙ rests.going;
  needy = ap (λ s. has_number n s.keys) needy ∙ rests.needy;
  waiting = λ h. waiting n h ∙ (λ i. gained (same_future h f) (number_itself n i || false) (rests.waiting h i)) ∙ gained_here (same_future h f);
  circling = ap (λ s. has_number n s.keys) circling ∙ rests.circling;
}

pub others_wait_on : (n : ℕ) (f : FutureShape) (old new : Ranks) → new.going ≡ old.going → new.needy ≡ old.needy → new.circling ≡ old.circling → ((k : ℕ) (h : FutureShape) → has_number k (numbers_at new.waiting h) ≡ gained (same_future h f) (has_number k (n ∷ [])) (has_number k (numbers_at old.waiting h))) → OthersStay n old new
others_wait_on n f old new going needy circling waiting k x d r =
    let other : has_number k (n ∷ []) ≡ false = ap (λ b. b || false) (numbers_apart k n d) in
    record {
      going = ap (λ s. has_number k s.keys) going ∙ r.going;
      needy = ap (λ s. has_number k s.keys) needy ∙ r.needy;
      waiting = λ h. waiting k h ∙ ap (λ b. gained (same_future h f) b (has_number k (numbers_at old.waiting h))) other ∙ gained_not (same_future h f) (has_number k (numbers_at old.waiting h)) ∙ r.waiting h;
      circling = ap (λ s. has_number k s.keys) circling ∙ r.circling;
    }

-- Shifts to each place where one may stand

module _ (f : FutureShape) (ns : List ℕ) (old : Ranks) (mid : Waiting) (was : ns ≡ numbers_at old.waiting f) (none : numbers_at mid f ≡ []) (others : StayElsewhere f old.waiting mid) where
  pub all_go : (new : Ranks) → new.waiting ≡ mid → new.needy ≡ old.needy → new.circling ≡ old.circling → ((k : ℕ) → has_number k new.going.keys ≡ (has_number k ns || has_number k old.going.keys)) → AreShifted f Goes old new
  all_go new same needy circling going = are_shifted f Goes ns old new (record {
    waited = was;
    going = going;
    needy = λ k. ap (λ s. has_number k s.keys) needy;
    waiting = λ k h. ap (λ w. has_number k (numbers_at w h)) same ∙ taken_out f old.waiting mid none others k h;
    circling = λ k. ap (λ s. has_number k s.keys) circling;
  })

  pub all_need : (new : Ranks) → new.waiting ≡ mid → new.going ≡ old.going → new.circling ≡ old.circling → ((k : ℕ) → has_number k new.needy.keys ≡ (has_number k ns || has_number k old.needy.keys)) → AreShifted f HasNeed old new
  all_need new same going circling needy = are_shifted f HasNeed ns old new (record {
    waited = was;
    going = λ k. ap (λ s. has_number k s.keys) going;
    needy = needy;
    waiting = λ k h. ap (λ w. has_number k (numbers_at w h)) same ∙ taken_out f old.waiting mid none others k h;
    circling = λ k. ap (λ s. has_number k s.keys) circling;
  })

  pub all_rest : (new : Ranks) → new.waiting ≡ mid → new.going ≡ old.going → new.needy ≡ old.needy → new.circling ≡ old.circling → AreShifted f Rests old new
  all_rest new same going needy circling = are_shifted f Rests ns old new (record {
    waited = was;
    going = λ k. ap (λ s. has_number k s.keys) going;
    needy = λ k. ap (λ s. has_number k s.keys) needy;
    waiting = λ k h. ap (λ w. has_number k (numbers_at w h)) same ∙ taken_out f old.waiting mid none others k h;
    circling = λ k. ap (λ s. has_number k s.keys) circling;
  })

  pub all_circle : (new : Ranks) → new.waiting ≡ mid → new.going ≡ old.going → new.needy ≡ old.needy → ((k : ℕ) → has_number k new.circling.keys ≡ (has_number k ns || has_number k old.circling.keys)) → AreShifted f Circles old new
  all_circle new same going needy circling = are_shifted f Circles ns old new (record {
    waited = was;
    going = λ k. ap (λ s. has_number k s.keys) going;
    needy = λ k. ap (λ s. has_number k s.keys) needy;
    waiting = λ k h. ap (λ w. has_number k (numbers_at w h)) same ∙ taken_out f old.waiting mid none others k h;
    circling = circling;
  })

  pub all_wait : (g : FutureShape) (new : Ranks) → new.going ≡ old.going → new.needy ≡ old.needy → new.circling ≡ old.circling → ((k : ℕ) → has_number k (numbers_at new.waiting g) ≡ (has_number k ns || has_number k (numbers_at mid g))) → StayElsewhere g mid new.waiting → AreShifted f (Waits g) old new
  all_wait g new going needy circling here stay = are_shifted f (Waits g) ns old new (record {
    waited = was;
    going = λ k. ap (λ s. has_number k s.keys) going;
    needy = λ k. ap (λ s. has_number k s.keys) needy;
    waiting = λ k h. joined_in g ns mid new.waiting here stay k h ∙ ap (gained (same_future h g) (has_number k ns)) (taken_out f old.waiting mid none others k h);
    circling = λ k. ap (λ s. has_number k s.keys) circling;
  })

-- Who awaits

pub circles_awaits : (x : RankShape) → circles x ≡ true → awaits x ≡ true
circles_awaits Goes e = absurd (false≢true e)
circles_awaits HasNeed e = absurd (false≢true e)
circles_awaits (Waits f) e = refl
circles_awaits Circles e = refl
circles_awaits Rests e = absurd (false≢true e)

pub waits_awaits : (f : FutureShape) (x : RankShape) → waits_for f x ≡ true → awaits x ≡ true
waits_awaits f Goes e = absurd (false≢true e)
waits_awaits f HasNeed e = absurd (false≢true e)
waits_awaits f (Waits g) e = refl
waits_awaits f Circles e = refl
waits_awaits f Rests e = absurd (false≢true e)

pub none_awaits : (x : RankShape) → circles x ≡ false → ((f : FutureShape) → waits_for f x ≡ false) → awaits x ≡ false
none_awaits Goes e h = refl
none_awaits HasNeed e h = refl
none_awaits (Waits g) e h = absurd (false≢true (sym (h g) ∙ future_itself g))
none_awaits Circles e h = absurd (false≢true (sym e))
none_awaits Rests e h = refl
