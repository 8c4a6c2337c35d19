-- What every reached configuration keeps, by positions of requests.
use Rattle.std.specs.Prelude.{◌≡◌, ◌≢◌, ℕ, zero, suc, ◌+◌, ◌<◌, ◌≤◌, true, List, [], ◌∷◌, ◌++◌, Option, Some, None, length, is_some, slice_get}
use Rattle.std.proofs.Common.{refl, sym, ap, subst, ◌∙◌, arith, inl, inr, ⊎_elim, ◌⊎◌}
use Rattle.std.specs.FinMap.{find, put}
use Rattle.asp_model.specs.Names.{Name, FutureShape, name_cmp, future_cmp}
use Rattle.asp_model.specs.Parcel.{ParcelShape, has_place}
use Rattle.asp_model.specs.Configuration.{RequestShape, Activity, Configuration, or_none, requests_of}
use Rattle.asp_model.specs.Intent.{Effect}
use Rattle.asp_model.specs.Step.{put_some, with_last, with_effect}
use Rattle.law_steps.specs.Kept.{IsOrdered, Stands, mark, one_where, one_unless}
use Rattle.law_steps.proofs.NameLemmas.{name_total, name_same, name_case, not_some}
use Rattle.law_chases.proofs.FutureLemmas.{future_itself, futures_apart, no_some, some_is, true_false}
use Rattle.law_chases.proofs.MapLemmas as Maps
use Rattle.law_steps.proofs.FactLemmas.{Face, face, face_of, holds, IsMade, Facts}
use Rattle.law_steps.proofs.OrderLemmas.{IsNew}

abbrev pub at_name : Configuration → Name → Face
at_name c n = face (find name_cmp n c.activities)

-- whether a future is filled, as a number
abbrev pub in_map : FutureShape → List (FutureShape × ParcelShape) → ℕ
in_map f values = one_where (is_some (find future_cmp f values))

abbrev pub Placed : Configuration → Name → FutureShape → Type 0
Placed c m f = (k : ℕ) × (r : RequestShape) × Stands c m k r × (r.future ≡ f)

-- each future that was begun stands in one requests_of, and is waiting, held by that activity or filled, one of the three
pub record Sound (c : Configuration) : Type 0 where
  pub ordered : IsOrdered c
  pub named : (n : Name) (k : ℕ) → is_some (find name_cmp (n ++ k ∷ []) c.activities) ≡ true → k ≤ (at_name c n).creations
  pub begun : (m : Name) (k : ℕ) (r : RequestShape) → Stands c m k r → r.future.index ≤ (at_name c r.future.by).sends
  pub apart : (m : Name) (k : ℕ) (r : RequestShape) (l : Name) (j : ℕ) (q : RequestShape) → Stands c m k r → Stands c l j q → r.future ≡ q.future → (m ≡ l) × (k ≡ j)
  pub served : (m : Name) (k : ℕ) → has_place k (at_name c m).served ≡ true → k < length (requests_of c m)
  pub balanced : (m : Name) (k : ℕ) (r : RequestShape) → Stands c m k r → one_unless (has_place k (at_name c m).served) + holds (mark r.future) (at_name c m) + in_map r.future c.futures ≡ 1
  pub held : (m : Name) (f : FutureShape) → 1 ≤ holds (mark f) (at_name c m) → Placed c m f
  pub filled : (f : FutureShape) → is_some (find future_cmp f c.futures) ≡ true → (m : Name) × Placed c m f

-- a step from a sound configuration
pub record Took (c : Configuration) (n : Name) (e : Effect) : Type 0 where
  pub sound : Sound c
  pub there : is_some (find name_cmp n c.activities) ≡ true
  pub facts : Facts (requests_of c n) n (at_name c n) e

-- Marks

pub mark_same : (f g : FutureShape) → f ≡ g → mark f g ≡ 1
mark_same f g e = ap (λ g. mark f g) (sym e) ∙ ap one_where (future_itself f)

pub mark_other : (f g : FutureShape) → f ≢ g → mark f g ≡ 0
mark_other f g a = ap one_where (futures_apart f g a)

pub is_not : {A : Type 0} (o : Option A) → one_where (is_some o) ≡ 0 → o ≡ None
is_not None h = refl
is_not (Some x) h = absurd (omega (arith, h))

-- Requests

pub at_front : (rs qs : List RequestShape) (k : ℕ) (r : RequestShape) → slice_get rs k ≡ Some r → slice_get (rs ++ qs) k ≡ Some r
at_front [] qs k r e = no_some e
at_front (x ∷ rs) qs zero r e = e
at_front (x ∷ rs) qs (suc k) r e = at_front rs qs k r e

pub at_more : (rs : List RequestShape) (q : RequestShape) (k : ℕ) (r : RequestShape) → slice_get (rs ++ q ∷ []) k ≡ Some r → (slice_get rs k ≡ Some r) ⊎ ((k ≡ length rs) × (r ≡ q))
at_more [] q zero r e = inr (refl, sym (some_is e))
at_more [] q (suc k) r e = no_some e
at_more (x ∷ rs) q zero r e = inl e
at_more (x ∷ rs) q (suc k) r e = ⊎_elim (λ h. inl h) (λ h. inr (ap suc h.0, h.1)) (at_more rs q k r e)

pub at_below : (rs : List RequestShape) (k : ℕ) (r : RequestShape) → slice_get rs k ≡ Some r → k < length rs
at_below [] k r e = no_some e
at_below (x ∷ rs) zero r e = omega arith
at_below (x ∷ rs) (suc k) r e = omega (arith, at_below rs k r e)

-- the requests_of of m after what was sent
pub box_sent : {X : Type 0} (z : Name × X) (bs : List (Name × List X)) (m : Name) → ((z.0 ≡ m) × (or_none (find name_cmp m (with_last (Some z) bs)) ≡ or_none (find name_cmp m bs) ++ z.1 ∷ [])) ⊎ (or_none (find name_cmp m (with_last (Some z) bs)) ≡ or_none (find name_cmp m bs))
box_sent z bs m = ⊎_elim
    (λ e. inl (sym e, ap (λ k. or_none (find name_cmp k (with_last (Some z) bs))) e ∙ ap or_none (Maps.find_same name_cmp name_total name_same z.0 (or_none (find name_cmp z.0 bs) ++ z.1 ∷ []) bs) ∙ ap (λ k. or_none (find name_cmp k bs) ++ z.1 ∷ []) (sym e)))
    (λ a. inr (ap or_none (Maps.find_other name_cmp name_total name_same m z.0 (or_none (find name_cmp z.0 bs) ++ z.1 ∷ []) bs a)))
    (name_case m z.0)

-- a request after a step stood there, or it is the one that was sent
pub record IsLast (c : Configuration) (o : Option (Name × RequestShape)) (m : Name) (k : ℕ) (r : RequestShape) : Type 0 where
  pub sent : Name × RequestShape
  pub is : o ≡ Some sent
  pub to : sent.0 ≡ m
  pub place : k ≡ length (requests_of c m)
  pub request : r ≡ sent.1

came_by : (c : Configuration) (o : Option (Name × RequestShape)) (m : Name) (k : ℕ) (r : RequestShape) → slice_get (or_none (find name_cmp m (with_last o c.received))) k ≡ Some r → Stands c m k r ⊎ IsLast c o m k r
came_by c None m k r h = inl h
came_by c (Some z) m k r h = ⊎_elim
    (λ x. ⊎_elim (λ old. inl old) (λ new. inr (record { sent = z; is = refl; to = x.0; place = new.0; request = new.1 })) (at_more (requests_of c m) z.1 k r (subst (λ b. slice_get b k ≡ Some r) x.1 h)))
    (λ x. inl (subst (λ b. slice_get b k ≡ Some r) x h))
    (box_sent z c.received m)

pub came : (c : Configuration) (n : Name) (e : Effect) (m : Name) (k : ℕ) (r : RequestShape) → Stands (with_effect n e c) m k r → Stands c m k r ⊎ IsLast c e.sent m k r
came c n e m k r h = came_by c e.sent m k r h

stays_by : (c : Configuration) (o : Option (Name × RequestShape)) (m : Name) (k : ℕ) (r : RequestShape) → Stands c m k r → slice_get (or_none (find name_cmp m (with_last o c.received))) k ≡ Some r
stays_by c None m k r h = h
stays_by c (Some z) m k r h = ⊎_elim (λ x. subst (λ b. slice_get b k ≡ Some r) (sym x.1) (at_front (requests_of c m) (z.1 ∷ []) k r h)) (λ x. subst (λ b. slice_get b k ≡ Some r) (sym x) h) (box_sent z c.received m)

pub stays : (c : Configuration) (n : Name) (e : Effect) (m : Name) (k : ℕ) (r : RequestShape) → Stands c m k r → Stands (with_effect n e c) m k r
stays c n e m k r h = stays_by c e.sent m k r h

pub length_more : (rs : List RequestShape) (q : RequestShape) → length (rs ++ q ∷ []) ≡ suc (length rs)
length_more [] q = refl
length_more (x ∷ rs) q = ap suc (length_more rs q)

pub longer_by : (c : Configuration) (o : Option (Name × RequestShape)) (m : Name) → length (requests_of c m) ≤ length (or_none (find name_cmp m (with_last o c.received)))
longer_by c None m = omega arith
longer_by c (Some z) m = ⊎_elim (λ x. subst (λ b. length (requests_of c m) ≤ length b) (sym x.1) (omega (arith, length_more (requests_of c m) z.1))) (λ x. subst (λ b. length (requests_of c m) ≤ length b) (sym x) (omega arith)) (box_sent z c.received m)

-- Activities

-- what is made is new
new_name : (c : Configuration) (n : Name) (x y : Face) (o : Option (Name × Activity)) → Sound c → x ≡ at_name c n → IsMade n x y o → IsNew name_cmp o c.activities
new_name c n x y None s is m = tt
new_name c n x y (Some z) s is m = not_some (find name_cmp z.0 c.activities) (λ h. omega (arith, s.named n (suc x.creations) (subst (λ k. is_some (find name_cmp k c.activities) ≡ true) m.0 h), subst (λ u. x.creations ≡ u.creations) is refl))

pub made_new : (c : Configuration) (n : Name) (e : Effect) → Took c n e → IsNew name_cmp e.made c.activities
made_new c n e t = new_name c n (at_name c n) (face_of e.own) e.made t.sound refl t.facts.made

pub own_by : (n : Name) (o : Option (Name × Activity)) (a : Activity) (es : List (Name × Activity)) → is_some (find name_cmp n es) ≡ true → IsNew name_cmp o es → find name_cmp n (put_some name_cmp o (put name_cmp n a es)) ≡ Some a
own_by n None a es is new = Maps.find_same name_cmp name_total name_same n a es
own_by n (Some z) a es is new = Maps.find_other name_cmp name_total name_same n z.0 z.1 (put name_cmp n a es) (λ p. true_false (is_some (find name_cmp n es)) is (ap (λ k. is_some (find name_cmp k es)) p ∙ ap is_some new)) ∙ Maps.find_same name_cmp name_total name_same n a es

pub own_after : (c : Configuration) (n : Name) (e : Effect) → Took c n e → at_name (with_effect n e c) n ≡ face_of e.own
own_after c n e t = ap face (own_by n e.made e.own c.activities t.there (made_new c n e t))

other_by : (n m : Name) (x y : Face) (o : Option (Name × Activity)) (a : Activity) (es : List (Name × Activity)) → m ≢ n → IsNew name_cmp o es → IsMade n x y o → face (find name_cmp m (put_some name_cmp o (put name_cmp n a es))) ≡ face (find name_cmp m es)
other_by n m x y None a es apart new made = ap face (Maps.find_other name_cmp name_total name_same m n a es apart)
other_by n m x y (Some z) a es apart new made = ⊎_elim
    (λ p. ap (λ k. face (find name_cmp k (put name_cmp z.0 z.1 (put name_cmp n a es)))) p ∙ ap face (Maps.find_same name_cmp name_total name_same z.0 z.1 (put name_cmp n a es)) ∙ made.2 ∙ ap face (sym new) ∙ ap (λ k. face (find name_cmp k es)) (sym p))
    (λ q. ap face (Maps.find_other name_cmp name_total name_same m z.0 z.1 (put name_cmp n a es) q) ∙ ap face (Maps.find_other name_cmp name_total name_same m n a es apart))
    (name_case m z.0)

pub other_after : (c : Configuration) (n m : Name) (e : Effect) → Took c n e → m ≢ n → at_name (with_effect n e c) m ≡ at_name c m
other_after c n m e t apart = other_by n m (at_name c n) (face_of e.own) e.made e.own c.activities apart (made_new c n e t) t.facts.made

-- what holds of the own face after the step, and of each other's as it was, holds of each
pub by_face : (P : Name → Face → Type 0) (c : Configuration) (n : Name) (e : Effect) → Took c n e → P n (face_of e.own) → (m : Name) → P m (at_name c m) → P m (at_name (with_effect n e c) m)
by_face P c n e t own m was = ⊎_elim
    (λ p. subst (λ k. P k (at_name (with_effect n e c) k)) (sym p) (subst (P n) (sym (own_after c n e t)) own))
    (λ a. subst (P m) (sym (other_after c n m e t a)) was)
    (name_case m n)
