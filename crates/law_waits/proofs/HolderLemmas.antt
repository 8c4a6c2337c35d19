-- Who has to answer an unfilled future, and where it stands there.
use Rattle.std.specs.Prelude.{◌≡◌, ◌+◌, ℕ, zero, suc, Bool, true, false, List, [], ◌∷◌, Option, Some, None, is_some, slice_get}
use Rattle.std.proofs.Common.{refl, sym, ap, subst, ◌∙◌, arith, inl, inr}
use Rattle.std.specs.FinMap.{find}
use Rattle.asp_model.specs.Names.{Name, FutureShape, name_cmp, future_cmp, same_future}
use Rattle.asp_model.specs.Configuration.{RequestShape, Configuration, or_none, requests_of}
use Rattle.asp_model.specs.Intent.{Numbered}
use Rattle.law_steps.specs.Reached.{IsThere}
use Rattle.law_steps.specs.Kept.{Stands, one_where, one_unless, is_served, pending_at, answers_at, filled_at, StandsOnce, IsBegun}
use Rattle.law_steps.specs.Sound.{IsSound}
use Rattle.law_chases.proofs.FutureLemmas.{no_some, some_is, none_true, futures_tied, future_itself}
use Rattle.law_steps.proofs.EntryLemmas.{In, entry_found, found_entry}
use Rattle.law_waits.specs.Waits.{Standing, request_for, receiver_of, standing_by, holder_of}
use Rattle.law_waits.specs.Laws.{StandsSo}

-- the future of this configuration that was begun stands once
pub stands_once : (c : Configuration) → IsSound c → (f : FutureShape) → IsBegun c f → StandsOnce c f
stands_once c s f b = by_index f.index refl
  where
    by_index : (i : ℕ) → f.index ≡ i → StandsOnce c f
    by_index zero e = absurd (omega (arith, b.0, e))
    by_index (suc i) e = subst (StandsOnce c) (λ j. record { by = f.by; index = sym e j }) (s.stand f.by i (omega (arith, b.1, e)))

-- Requests of one list

abbrev found_by : Bool → Numbered → Option Numbered → Option Numbered
found_by b x o = elim b [ true ↦ Some x | false ↦ o ]

-- the request at a place counted from k
abbrev StandsFrom : ℕ → List RequestShape → FutureShape → Numbered → Type 0
StandsFrom k rs f x = (j : ℕ) × (x.0 ≡ k + j) × (slice_get rs j ≡ Some x.1) × (x.1.future ≡ f)

request_is : (f : FutureShape) (k : ℕ) (rs : List RequestShape) (x : Numbered) → request_for f k rs ≡ Some x → StandsFrom k rs f x
request_is f k [] x h = no_some h
request_is f k (r ∷ rs) x h = elim (same_future f r.future) as (λ b. same_future f r.future ≡ b → found_by b (k, r) (request_for f (suc k) rs) ≡ Some x → StandsFrom k (r ∷ rs) f x) [
  | true ↦ λ e h.
      let y = some_is h in
      (0, sym (ap (λ z. z.0) y) ∙ (let a : k ≡ k + 0 = omega arith in a), ap (λ z. Some z.1) y, ap (λ z. z.1.future) (sym y) ∙ sym (futures_tied f r.future e))
  | false ↦ λ e h.
      let y = request_is f (suc k) rs x h in
      (suc y.0, (let a : x.0 ≡ k + suc y.0 = omega (arith, y.1) in a), y.2, y.3)
] refl h

request_there : (f : FutureShape) (k : ℕ) (rs : List RequestShape) (j : ℕ) (r : RequestShape) → slice_get rs j ≡ Some r → r.future ≡ f → is_some (request_for f k rs) ≡ true
request_there f k [] j r h e = no_some h
request_there f k (q ∷ rs) zero r h e = ap (λ b. is_some (found_by b (k, q) (request_for f (suc k) rs))) (ap (same_future f) (ap (λ z. z.future) (some_is h) ∙ e) ∙ future_itself f)
request_there f k (q ∷ rs) (suc j) r h e = elim (same_future f q.future) as (λ b. is_some (found_by b (k, q) (request_for f (suc k) rs)) ≡ true) [
  | true ↦ refl
  | false ↦ request_there f (suc k) rs j r h e
]

-- Receivers

abbrev received_by : Option Numbered → Name → Option (Name × Numbered) → Option (Name × Numbered)
received_by o m p = elim o [ None ↦ p | Some y ↦ Some (m, y) ]

receiver_is : (f : FutureShape) (es : List (Name × List RequestShape)) (z : Name × Numbered) → receiver_of f es ≡ Some z → (x : Name × List RequestShape) × In x es × (x.0 ≡ z.0) × (request_for f 0 x.1 ≡ Some z.1)
receiver_is f [] z h = no_some h
receiver_is f (x ∷ es) z h = elim (request_for f 0 x.1) as (λ o. request_for f 0 x.1 ≡ o → received_by o x.0 (receiver_of f es) ≡ Some z → (y : Name × List RequestShape) × In y (x ∷ es) × (y.0 ≡ z.0) × (request_for f 0 y.1 ≡ Some z.1)) [
  | None ↦ λ e h. let y = receiver_is f es z h in (y.0, inr y.1, y.2, y.3)
  | Some y ↦ λ e h. (x, inl refl, ap (λ u. u.0) (some_is h), e ∙ ap (λ u. Some u.1) (some_is h))
] refl h

receiver_there : (f : FutureShape) (es : List (Name × List RequestShape)) (x : Name × List RequestShape) → In x es → is_some (request_for f 0 x.1) ≡ true → is_some (receiver_of f es) ≡ true
receiver_there f [] x i h = absurd i
receiver_there f (y ∷ es) x (inl e) h = elim (request_for f 0 y.1) as (λ o. is_some o ≡ true → is_some (received_by o y.0 (receiver_of f es)) ≡ true) [
  | None ↦ λ h. none_true h
  | Some u ↦ λ h. refl
] (ap (λ u. is_some (request_for f 0 u.1)) (sym e) ∙ h)
receiver_there f (y ∷ es) x (inr i) h = elim (request_for f 0 y.1) as (λ o. is_some (received_by o y.0 (receiver_of f es)) ≡ true) [
  | None ↦ receiver_there f es x i h
  | Some u ↦ refl
]

module _ (c : Configuration) (s : IsSound c) (f : FutureShape) (b : IsBegun c f) where
  -- whom the lists tell of received it
  receives : (z : Name × Numbered) → receiver_of f c.received ≡ Some z → Stands c z.0 z.1.0 z.1.1 × (z.1.1.future ≡ f)
  receives z h =
      let x = receiver_is f c.received z h in
      let y = request_is f 0 x.0.1 z.1 x.3 in
      let at : requests_of c z.0 ≡ x.0.1 = ap (requests_of c) (sym x.2) ∙ ap or_none (entry_found c.received x.0 s.ordered.received x.1) in
      let k : z.1.0 ≡ y.0 = omega (arith, y.1) in
      (ap (λ rs. slice_get rs z.1.0) at ∙ ap (slice_get x.0.1) k ∙ y.2, y.3)

  is_received : is_some (receiver_of f c.received) ≡ true
  is_received =
      let once = stands_once c s f b in
      by_list once (find name_cmp once.target c.received) refl
    where
      by_list : (once : StandsOnce c f) (o : Option (List RequestShape)) → find name_cmp once.target c.received ≡ o → is_some (receiver_of f c.received) ≡ true
      by_list once None e = no_some (sym (ap (λ o. slice_get (or_none o) once.number) e) ∙ once.there)
      by_list once (Some rs) e =
          let x = found_entry c.received once.target rs e in
          let there : slice_get x.0.1 once.number ≡ Some once.request = ap (λ l. slice_get l once.number) x.3 ∙ sym (ap (λ o. slice_get (or_none o) once.number) e) ∙ once.there in
          receiver_there f c.received x.0 x.1 (request_there f 0 x.0.1 once.number once.request there once.is)

  module _ (unfilled : find future_cmp f c.futures ≡ None) where
    stands_so : (z : Name × Numbered) → Stands c z.0 z.1.0 z.1.1 → z.1.1.future ≡ f → (t : Bool) → is_served z.1.0 (find name_cmp z.0 c.activities) ≡ t → StandsSo c z.0 f (standing_by t z.1)
    stands_so z st is false e = (st, is, ap one_unless e)
    stands_so z st is true e =
        let once = stands_once c s f b in
        let same = once.alone z.0 z.1.0 z.1.1 st is in
        let none : filled_at c f ≡ 0 = ap (λ o. one_where (is_some o)) unfilled in
        let gone : pending_at c once.target once.number ≡ 0 = ap (λ m. pending_at c m once.number) (sym same.0) ∙ ap (pending_at c z.0) (sym same.1) ∙ ap one_unless e in
        let here : answers_at c z.0 f ≡ answers_at c once.target f = ap (λ m. answers_at c m f) same.0 in
        (st, is, omega (arith, once.once, none, gone, here))

    abbrev holder_by : Option (Name × Numbered) → Option (Name × Standing)
    holder_by o = elim o [ None ↦ None | Some x ↦ Some (x.0, standing_by (is_served x.1.0 (find name_cmp x.0 c.activities)) x.1) ]

    -- who has to answer it is there, and it stands so
    pub holder_is : (x : Name × Standing) → holder_of c f ≡ Some x → IsThere c x.0 × StandsSo c x.0 f x.1
    holder_is x h = by_found (receiver_of f c.received) refl h
      where
        by_found : (o : Option (Name × Numbered)) → receiver_of f c.received ≡ o → holder_by o ≡ Some x → IsThere c x.0 × StandsSo c x.0 f x.1
        by_found None e h = no_some h
        by_found (Some z) e h =
            let y = receives z e in
            subst (λ u. IsThere c u.0 × StandsSo c u.0 f u.1) (some_is h)
            ((s.requests z.0 z.1.0 z.1.1 y.0).received, stands_so z y.0 y.1 (is_served z.1.0 (find name_cmp z.0 c.activities)) refl)

    pub holder_there : (x : Name × Standing) × (holder_of c f ≡ Some x)
    holder_there = by_found (receiver_of f c.received) is_received refl
      where
        by_found : (o : Option (Name × Numbered)) → is_some o ≡ true → receiver_of f c.received ≡ o → (x : Name × Standing) × (holder_of c f ≡ Some x)
        by_found None h e = none_true h
        by_found (Some z) h e = (_, ap holder_by e)
