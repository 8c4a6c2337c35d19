-- A step keeps what reached configurations keep.
use Rattle.std.specs.Prelude.{◌≡◌, ◌≢◌, ℕ, zero, suc, ◌+◌, ◌<◌, ◌≤◌, ◌==◌, true, false, T, List, [], ◌∷◌, ◌++◌, Option, Some, None, length, is_some, slice_get}
use Rattle.std.proofs.Common.{refl, sym, ap, subst, ◌∙◌, arith, inl, inr, ⊎_elim, ◌⊎◌}
use Rattle.std.proofs.lemmas.Bool.{eqb-true, eqb-false, false_from_ne_true}
use Rattle.std.specs.FinMap.{find, put, is_sorted}
use Rattle.std.specs.FinMap.Entries.{is_sorted-put}
use Rattle.asp_model.specs.Names.{Name, FutureShape, name_cmp, future_cmp}
use Rattle.asp_model.specs.Parcel.{ParcelShape, has_place}
use Rattle.asp_model.specs.Configuration.{RequestShape, Activity, Configuration, or_none, requests_of}
use Rattle.asp_model.specs.Intent.{Effect, filling}
use Rattle.asp_model.specs.Step.{put_some, with_last, with_effect}
use Rattle.law_steps.specs.Kept.{Stands, mark, tally, one_where, one_unless}
use Rattle.law_steps.proofs.NameLemmas.{name_total, name_same, name_case, last_same}
use Rattle.law_chases.proofs.FutureLemmas.{future_total, future_same, future_case, no_some, some_is}
use Rattle.law_chases.proofs.MapLemmas as Maps
use Rattle.law_steps.proofs.OrderLemmas.{IsFresh, IsNew, KeysApart, sorted_some}
use Rattle.law_steps.proofs.FactLemmas.{Face, face_of, holds, IsMade, IsSent, Holding, as_before, serving, ending}
use Rattle.law_steps.proofs.SoundLemmas.{Sound, Took, at_name, in_map, Placed, IsLast, came, stays, longer_by, made_new, own_after, other_after, by_face, mark_same, mark_other, is_not, at_below}

-- Numbers that only rise

pub sends_grow : (c : Configuration) (n : Name) (e : Effect) → Took c n e → (q : Name) → (at_name c q).sends ≤ (at_name (with_effect n e c) q).sends
sends_grow c n e t q = by_face (λ k x. (at_name c k).sends ≤ x.sends) c n e t t.facts.more_sent q (omega arith)

pub creations_grow : (c : Configuration) (n : Name) (e : Effect) → Took c n e → (q : Name) → (at_name c q).creations ≤ (at_name (with_effect n e c) q).creations
creations_grow c n e t q = by_face (λ k x. (at_name c k).creations ≤ x.creations) c n e t t.facts.more_made q (omega arith)

-- Futures that are held, and filled, after a step were placed before it

own_held : (c : Configuration) (n : Name) (s : Sound c) (y : Face) (o : Option (FutureShape × ParcelShape)) → Holding (requests_of c n) (at_name c n) y o → (f : FutureShape) → 1 ≤ holds (mark f) y → Placed c n f
own_held c n s y o (as_before none same hold) f h = s.held n f (omega (arith, h, hold (mark f)))
own_held c n s y o (serving k r none st new same hold) f h = ⊎_elim
    (λ p. (k, r, st, sym p))
    (λ a. s.held n f (omega (arith, h, hold (mark f), mark_other f r.future a)))
    (future_case f r.future)
own_held c n s y o (ending p is same hold) f h = s.held n f (omega (arith, h, hold (mark f)))

held_before : (c : Configuration) (n : Name) (e : Effect) → Took c n e → (m : Name) (f : FutureShape) → 1 ≤ holds (mark f) (at_name (with_effect n e c) m) → Placed c m f
held_before c n e t m f = by_face (λ k x. 1 ≤ holds (mark f) x → Placed c k f) c n e t (own_held c n t.sound (face_of e.own) e.filled t.facts.holding f) m (t.sound.held m f)

has_more : (k j : ℕ) (js : List ℕ) → has_place k (j ∷ js) ≡ true → (k ≡ j) ⊎ (has_place k js ≡ true)
has_more k j js h = elim (k == j) as (λ b. (k == j) ≡ b → elim b [ true ↦ true | false ↦ has_place k js ] ≡ true → (k ≡ j) ⊎ (has_place k js ≡ true)) [ true ↦ λ p h. inl (eqb-true k j p) | false ↦ λ p h. inr h ] refl h

own_served : (c : Configuration) (n : Name) (s : Sound c) (y : Face) (o : Option (FutureShape × ParcelShape)) → Holding (requests_of c n) (at_name c n) y o → (k : ℕ) → has_place k y.served ≡ true → k < length (requests_of c n)
own_served c n s y o (as_before none same hold) k h = s.served n k (subst (λ l. has_place k l ≡ true) same h)
own_served c n s y o (serving j r none st new same hold) k h = ⊎_elim
    (λ p. subst (λ i. i < length (requests_of c n)) (sym p) (at_below (requests_of c n) j r st))
    (s.served n k)
    (has_more k j (at_name c n).served (subst (λ l. has_place k l ≡ true) same h))
own_served c n s y o (ending p is same hold) k h = s.served n k (subst (λ l. has_place k l ≡ true) same h)

served_before : (c : Configuration) (n : Name) (e : Effect) → Took c n e → (m : Name) (k : ℕ) → has_place k (at_name (with_effect n e c) m).served ≡ true → k < length (requests_of c m)
served_before c n e t m k = by_face (λ q x. has_place k x.served ≡ true → k < length (requests_of c q)) c n e t (own_served c n t.sound (face_of e.own) e.filled t.facts.holding k) m (t.sound.served m k)

-- what filling does to one future
fill_case : (f : FutureShape) (o : Option FutureShape) (p : ParcelShape) (es : List (FutureShape × ParcelShape)) → ((tally (mark f) o ≡ 0) × (find future_cmp f (put_some future_cmp (filling o p) es) ≡ find future_cmp f es)) ⊎ ((tally (mark f) o ≡ 1) × (find future_cmp f (put_some future_cmp (filling o p) es) ≡ Some p))
fill_case f None p es = inl (refl, refl)
fill_case f (Some g) p es = ⊎_elim
    (λ q. inr (mark_same f g q, ap (λ k. find future_cmp k (put future_cmp g p es)) q ∙ Maps.find_same future_cmp future_total future_same g p es))
    (λ a. inl (mark_other f g a, Maps.find_other future_cmp future_total future_same f g p es a))
    (future_case f g)

-- a step leaves a future's value, or fills it where it was held
fill_after : (c : Configuration) (n : Name) (s : Sound c) (y : Face) (o : Option (FutureShape × ParcelShape)) → Holding (requests_of c n) (at_name c n) y o → (f : FutureShape) → (find future_cmp f (put_some future_cmp o c.futures) ≡ find future_cmp f c.futures) ⊎ Placed c n f
fill_after c n s y o (as_before none same hold) f = inl (ap (λ z. find future_cmp f (put_some future_cmp z c.futures)) none)
fill_after c n s y o (serving k r none st new same hold) f = inl (ap (λ z. find future_cmp f (put_some future_cmp z c.futures)) none)
fill_after c n s y o (ending p is same hold) f = ⊎_elim
    (λ x. inl (ap (λ z. find future_cmp f (put_some future_cmp z c.futures)) is ∙ x.1))
    (λ x. inr (s.held n f (omega (arith, x.0))))
    (fill_case f (at_name c n).present p c.futures)

filled_before : (c : Configuration) (n : Name) (e : Effect) → Took c n e → (f : FutureShape) → is_some (find future_cmp f (with_effect n e c).futures) ≡ true → (m : Name) × Placed c m f
filled_before c n e t f h = ⊎_elim (λ x. t.sound.filled f (ap is_some (sym x) ∙ h)) (λ x. (n, x)) (fill_after c n t.sound (face_of e.own) e.filled t.facts.holding f)

-- What was sent

pub is_sent : (c : Configuration) (n : Name) (e : Effect) → Took c n e → (z : Name × RequestShape) → e.sent ≡ Some z → IsSent n (at_name c n) (face_of e.own) (Some z)
is_sent c n e t z p = subst (IsSent n (at_name c n) (face_of e.own)) p t.facts.sent

pub not_begun : (c : Configuration) (n : Name) (e : Effect) → Took c n e → (z : Name × RequestShape) → e.sent ≡ Some z → (m : Name) (k : ℕ) (r : RequestShape) → Stands c m k r → r.future ≢ z.1.future
not_begun c n e t z p m k r st q =
    let h : suc (at_name c n).sends ≤ (at_name c n).sends = subst (λ f. f.index ≤ (at_name c f.by).sends) (q ∙ (is_sent c n e t z p).0) (t.sound.begun m k r st) in
    omega (arith, h)

-- The clauses

begun_after : (c : Configuration) (n : Name) (e : Effect) → Took c n e → (m : Name) (k : ℕ) (r : RequestShape) → Stands (with_effect n e c) m k r → r.future.index ≤ (at_name (with_effect n e c) r.future.by).sends
begun_after c n e t m k r st = ⊎_elim
    (λ old. omega (arith, t.sound.begun m k r old, sends_grow c n e t r.future.by))
    (λ new.
    let x = is_sent c n e t new.sent new.is in
    let h : e.own.sends ≡ (at_name (with_effect n e c) n).sends = ap (λ y. y.sends) (sym (own_after c n e t)) in
    let le : suc (at_name c n).sends ≤ (at_name (with_effect n e c) n).sends = omega (arith, h, x.1) in
    subst (λ f. f.index ≤ (at_name (with_effect n e c) f.by).sends) (sym (ap (λ q. q.future) new.request ∙ x.0)) le)
    (came c n e m k r st)

apart_after : (c : Configuration) (n : Name) (e : Effect) → Took c n e → (m : Name) (k : ℕ) (r : RequestShape) (l : Name) (j : ℕ) (q : RequestShape) → Stands (with_effect n e c) m k r → Stands (with_effect n e c) l j q → r.future ≡ q.future → (m ≡ l) × (k ≡ j)
apart_after c n e t m k r l j q st su same = ⊎_elim
    (λ old. ⊎_elim
    (λ old2. t.sound.apart m k r l j q old old2 same)
    (λ new2. absurd (not_begun c n e t new2.sent new2.is m k r old (same ∙ ap (λ z. z.future) new2.request)))
    (came c n e l j q su))
    (λ new. ⊎_elim
    (λ old2. absurd (not_begun c n e t new.sent new.is l j q old2 (sym same ∙ ap (λ z. z.future) new.request)))
    (λ new2.
    let s = some_is (sym new.is ∙ new2.is) in
    let to = sym new.to ∙ ap (λ z. z.0) s ∙ new2.to in
    (to, new.place ∙ ap (λ z. length (requests_of c z)) to ∙ sym new2.place))
    (came c n e l j q su))
    (came c n e m k r st)

-- who is there after a step
pub there_by : (n : Name) (a : Activity) (o : Option (Name × Activity)) (es : List (Name × Activity)) (q : Name) → is_some (find name_cmp n es) ≡ true → is_some (find name_cmp q (put_some name_cmp o (put name_cmp n a es))) ≡ true → (is_some (find name_cmp q es) ≡ true) ⊎ ((z : Name × Activity) × (o ≡ Some z) × (z.0 ≡ q))
there_by n a None es q is h = ⊎_elim (λ p. inl (ap (λ k. is_some (find name_cmp k es)) p ∙ is)) (λ b. inl (ap is_some (sym (Maps.find_other name_cmp name_total name_same q n a es b)) ∙ h)) (name_case q n)
there_by n a (Some z) es q is h = ⊎_elim
    (λ p. inr (z, refl, sym p))
    (λ b. there_no n a z es q is b (ap is_some (sym (Maps.find_other name_cmp name_total name_same q z.0 z.1 (put name_cmp n a es) b)) ∙ h))
    (name_case q z.0)
  where
    there_no : (n : Name) (a : Activity) (z : Name × Activity) (es : List (Name × Activity)) (q : Name) → is_some (find name_cmp n es) ≡ true → q ≢ z.0 → is_some (find name_cmp q (put name_cmp n a es)) ≡ true → (is_some (find name_cmp q es) ≡ true) ⊎ ((x : Name × Activity) × (Some z ≡ Some x) × (x.0 ≡ q))
    there_no n a z es q is b h = ⊎_elim (λ p. inl (ap (λ k. is_some (find name_cmp k es)) p ∙ is)) (λ d. inl (ap is_some (sym (Maps.find_other name_cmp name_total name_same q n a es d)) ∙ h)) (name_case q n)

named_after : (c : Configuration) (n : Name) (e : Effect) → Took c n e → (m : Name) (k : ℕ) → is_some (find name_cmp (m ++ k ∷ []) (with_effect n e c).activities) ≡ true → k ≤ (at_name (with_effect n e c) m).creations
named_after c n e t m k h = ⊎_elim
    (λ old. omega (arith, t.sound.named m k old, creations_grow c n e t m))
    (λ new.
    let x : IsMade n (at_name c n) (face_of e.own) (Some new.0) = subst (IsMade n (at_name c n) (face_of e.own)) new.1 t.facts.made in
    let l = last_same k (suc (at_name c n).creations) m n (sym new.2 ∙ x.0) in
    let g : e.own.creations ≡ (at_name (with_effect n e c) m).creations = ap (λ y. y.creations) (sym (own_after c n e t)) ∙ ap (λ z. (at_name (with_effect n e c) z).creations) (sym l.0) in
    omega (arith, l.1, x.1, g))
    (there_by n e.own e.made c.activities (m ++ k ∷ []) t.there h)

-- Balance

own_balance : (c : Configuration) (n : Name) (s : Sound c) (y : Face) (o : Option (FutureShape × ParcelShape)) → Holding (requests_of c n) (at_name c n) y o → (k : ℕ) (r : RequestShape) → Stands c n k r → one_unless (has_place k y.served) + holds (mark r.future) y + in_map r.future (put_some future_cmp o c.futures) ≡ 1
own_balance c n s y o (as_before none same hold) k r st =
    let a : one_unless (has_place k y.served) ≡ one_unless (has_place k (at_name c n).served) = ap (λ l. one_unless (has_place k l)) same in
    let b : in_map r.future (put_some future_cmp o c.futures) ≡ in_map r.future c.futures = ap (λ z. in_map r.future (put_some future_cmp z c.futures)) none in
    omega (arith, a, b, hold (mark r.future), s.balanced n k r st)
own_balance c n s y o (serving j q none su new same hold) k r st =
    let b : in_map r.future (put_some future_cmp o c.futures) ≡ in_map r.future c.futures = ap (λ z. in_map r.future (put_some future_cmp z c.futures)) none in
    let a : one_unless (has_place k y.served) ≡ one_unless (has_place k (j ∷ (at_name c n).served)) = ap (λ l. one_unless (has_place k l)) same in
    elim (k == j) as (λ z. (k == j) ≡ z → one_unless (has_place k y.served) ≡ one_unless (elim z [ true ↦ true | false ↦ has_place k (at_name c n).served ]) → one_unless (has_place k y.served) + holds (mark r.future) y + in_map r.future (put_some future_cmp o c.futures) ≡ 1) [
      | true ↦ λ p a.
          let kj : k ≡ j = eqb-true k j p in
          let rq : r ≡ q = some_is (sym st ∙ ap (slice_get (requests_of c n)) kj ∙ su) in
          let w : one_unless (has_place k (at_name c n).served) ≡ 1 = ap (λ i. one_unless (has_place i (at_name c n).served)) kj ∙ ap one_unless new in
          let one : mark r.future q.future ≡ 1 = mark_same r.future q.future (ap (λ u. u.future) rq) in
          omega (arith, a, b, w, one, hold (mark r.future), s.balanced n k r st)
      | false ↦ λ p a.
          let zero : mark r.future q.future ≡ 0 = mark_other r.future q.future (λ u. eqb-false k j p (s.apart n k r n j q st su u).1) in
          omega (arith, a, b, zero, hold (mark r.future), s.balanced n k r st)
    ] refl a
own_balance c n s y o (ending p is same hold) k r st =
    let a : one_unless (has_place k y.served) ≡ one_unless (has_place k (at_name c n).served) = ap (λ l. one_unless (has_place k l)) same in
    let b : in_map r.future (put_some future_cmp o c.futures) ≡ in_map r.future (put_some future_cmp (filling (at_name c n).present p) c.futures) = ap (λ z. in_map r.future (put_some future_cmp z c.futures)) is in
    ⊎_elim
    (λ x. let d : in_map r.future (put_some future_cmp (filling (at_name c n).present p) c.futures) ≡ in_map r.future c.futures = ap (λ z. one_where (is_some z)) x.1 in omega (arith, a, b, d, x.0, hold (mark r.future), s.balanced n k r st))
    (λ x. let d : in_map r.future (put_some future_cmp (filling (at_name c n).present p) c.futures) ≡ 1 = ap (λ z. one_where (is_some z)) x.1 in omega (arith, a, b, d, x.0, hold (mark r.future), s.balanced n k r st))
    (fill_case r.future (at_name c n).present p c.futures)

other_balance : (c : Configuration) (n : Name) (e : Effect) → Took c n e → (m : Name) (k : ℕ) (r : RequestShape) → m ≢ n → Stands c m k r → one_unless (has_place k (at_name c m).served) + holds (mark r.future) (at_name c m) + in_map r.future (with_effect n e c).futures ≡ 1
other_balance c n e t m k r apart st = ⊎_elim
    (λ x. let b : in_map r.future (with_effect n e c).futures ≡ in_map r.future c.futures = ap (λ z. one_where (is_some z)) x in omega (arith, b, t.sound.balanced m k r st))
    (λ x. absurd (apart (t.sound.apart m k r n x.0 x.1 st x.2 (sym x.3)).0))
    (fill_after c n t.sound (face_of e.own) e.filled t.facts.holding r.future)

old_balance : (c : Configuration) (n : Name) (e : Effect) → Took c n e → (m : Name) (k : ℕ) (r : RequestShape) → Stands c m k r → one_unless (has_place k (at_name (with_effect n e c) m).served) + holds (mark r.future) (at_name (with_effect n e c) m) + in_map r.future (with_effect n e c).futures ≡ 1
old_balance c n e t m k r st = ⊎_elim
    (λ p. subst (λ x. one_unless (has_place k x.served) + holds (mark r.future) x + in_map r.future (with_effect n e c).futures ≡ 1) (sym (ap (at_name (with_effect n e c)) p ∙ own_after c n e t)) (own_balance c n t.sound (face_of e.own) e.filled t.facts.holding k r (subst (λ z. Stands c z k r) p st)))
    (λ a. subst (λ x. one_unless (has_place k x.served) + holds (mark r.future) x + in_map r.future (with_effect n e c).futures ≡ 1) (sym (other_after c n m e t a)) (other_balance c n e t m k r a st))
    (name_case m n)

small : (a : ℕ) → (1 ≤ a → ⊥) → a ≡ 0
small zero f = refl
small (suc a) f = absurd (f (omega arith))

new_balance : (c : Configuration) (n : Name) (e : Effect) → Took c n e → (m : Name) (k : ℕ) (r : RequestShape) → IsLast c e.sent m k r → one_unless (has_place k (at_name (with_effect n e c) m).served) + holds (mark r.future) (at_name (with_effect n e c) m) + in_map r.future (with_effect n e c).futures ≡ 1
new_balance c n e t m k r new =
    let never : (l : Name) → Placed c l r.future → ⊥ = λ l x. not_begun c n e t new.sent new.is l x.0 x.1 x.2 (x.3 ∙ ap (λ z. z.future) new.request) in
    let a : one_unless (has_place k (at_name (with_effect n e c) m).served) ≡ 1 = ap one_unless (false_from_ne_true (has_place k (at_name (with_effect n e c) m).served) (λ h. omega (arith, served_before c n e t m k h, new.place))) in
    let b : holds (mark r.future) (at_name (with_effect n e c) m) ≡ 0 = small (holds (mark r.future) (at_name (with_effect n e c) m)) (λ h. never m (held_before c n e t m r.future h)) in
    let d : in_map r.future (with_effect n e c).futures ≡ 0 = ap one_where (false_from_ne_true (is_some (find future_cmp r.future (with_effect n e c).futures)) (λ h. let x = filled_before c n e t r.future h in never x.0 x.1)) in
    omega (arith, a, b, d)

sorted_sent : {X : Type 0} (o : Option (Name × X)) (bs : List (Name × List X)) → T (is_sorted name_cmp bs) → T (is_sorted name_cmp (with_last o bs))
sorted_sent None bs h = h
sorted_sent (Some z) bs h = is_sorted-put name_cmp name_total z.0 (or_none (find name_cmp z.0 bs) ++ z.1 ∷ []) bs h

pub placed_after : (c : Configuration) (n : Name) (e : Effect) (m : Name) (f : FutureShape) → Placed c m f → Placed (with_effect n e c) m f
placed_after c n e m f x = (x.0, x.1, stays c n e m x.0 x.1 x.2, x.3)

pub sound_after : (c : Configuration) (n : Name) (e : Effect) → Took c n e → Sound (with_effect n e c)
sound_after c n e t = record {
  ordered = record {
    activities = sorted_some name_cmp name_total e.made (put name_cmp n e.own c.activities) (is_sorted-put name_cmp name_total n e.own c.activities t.sound.ordered.activities);
    received = sorted_sent e.sent c.received t.sound.ordered.received;
    logs = sorted_sent e.logged c.logs t.sound.ordered.logs;
    futures = sorted_some future_cmp future_total e.filled c.futures t.sound.ordered.futures;
  };
  named = named_after c n e t;
  begun = begun_after c n e t;
  apart = apart_after c n e t;
  served = λ m k h. omega (arith, served_before c n e t m k h, longer_by c e.sent m);
  balanced = λ m k r st. ⊎_elim (old_balance c n e t m k r) (new_balance c n e t m k r) (came c n e m k r st);
  held = λ m f h. placed_after c n e m f (held_before c n e t m f h);
  filled = λ f h. let x = filled_before c n e t f h in (x.0, placed_after c n e x.0 f x.1);
}

-- What is new

-- what is held is not filled
pub held_new : (c : Configuration) (n : Name) (s : Sound c) (g : FutureShape) → 1 ≤ holds (mark g) (at_name c n) → find future_cmp g c.futures ≡ None
held_new c n s g h =
    let x = s.held n g h in
    let b : one_unless (has_place x.0 (at_name c n).served) + holds (mark g) (at_name c n) + in_map g c.futures ≡ 1 = subst (λ f. one_unless (has_place x.0 (at_name c n).served) + holds (mark f) (at_name c n) + in_map f c.futures ≡ 1) x.3 (s.balanced n x.0 x.1 x.2) in
    is_not (find future_cmp g c.futures) (omega (arith, b, h))

-- what an effect fills is held
fills_held : (c : Configuration) (n : Name) (y : Face) (o : Option (FutureShape × ParcelShape)) → Holding (requests_of c n) (at_name c n) y o → (z : FutureShape × ParcelShape) → o ≡ Some z → 1 ≤ holds (mark z.0) (at_name c n)
fills_held c n y o (as_before none same hold) z e = no_some (sym none ∙ e)
fills_held c n y o (serving k r none st new same hold) z e = no_some (sym none ∙ e)
fills_held c n y o (ending p is same hold) z e = omega (arith, hold (mark z.0), present_of (at_name c n).present p z (sym is ∙ e))
  where
    present_of : (v : Option FutureShape) (p : ParcelShape) (z : FutureShape × ParcelShape) → filling v p ≡ Some z → 1 ≤ tally (mark z.0) v
    present_of None p z e = no_some e
    present_of (Some f) p z e = omega (arith, mark_same z.0 f (ap (λ u. u.0) (sym (some_is e))))

new_by : (c : Configuration) (o : Option (FutureShape × ParcelShape)) → ((z : FutureShape × ParcelShape) → o ≡ Some z → find future_cmp z.0 c.futures ≡ None) → IsNew future_cmp o c.futures
new_by c None h = tt
new_by c (Some z) h = h z refl

pub fresh : (c : Configuration) (n : Name) (e : Effect) → Took c n e → IsFresh c e
fresh c n e t = record { made = made_new c n e t; filled = new_by c e.filled (λ z p. held_new c n t.sound z.0 (fills_held c n (face_of e.own) e.filled t.facts.holding z p)) }

-- two activities make and fill apart

keys_apart : {K X : Type 0} → (o p : Option (K × X)) → ((x y : K × X) → o ≡ Some x → p ≡ Some y → x.0 ≢ y.0) → KeysApart o p
keys_apart None p h = tt
keys_apart (Some x) None h = tt
keys_apart (Some x) (Some y) h = h x y refl refl

pub made_apart : (c : Configuration) (n m : Name) (e d : Effect) → n ≢ m → Took c n e → Took c m d → KeysApart e.made d.made
made_apart c n m e d apart t u = keys_apart e.made d.made (λ x y p q same.
    let a : IsMade n (at_name c n) (face_of e.own) (Some x) = subst (IsMade n (at_name c n) (face_of e.own)) p t.facts.made in
    let b : IsMade m (at_name c m) (face_of d.own) (Some y) = subst (IsMade m (at_name c m) (face_of d.own)) q u.facts.made in
    apart (last_same (suc (at_name c n).creations) (suc (at_name c m).creations) n m (sym a.0 ∙ same ∙ b.0)).0)

pub filled_apart : (c : Configuration) (n m : Name) (e d : Effect) → n ≢ m → Took c n e → Took c m d → KeysApart e.filled d.filled
filled_apart c n m e d apart t u = keys_apart e.filled d.filled (λ x y p q same.
    let a = t.sound.held n x.0 (fills_held c n (face_of e.own) e.filled t.facts.holding x p) in
    let b = t.sound.held m y.0 (fills_held c m (face_of d.own) d.filled u.facts.holding y q) in
    apart (t.sound.apart n a.0 a.1 m b.0 b.1 a.2 b.2 (a.3 ∙ same ∙ sym b.3)).0)
