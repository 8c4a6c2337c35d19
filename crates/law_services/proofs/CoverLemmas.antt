-- What one run does, a run that ends stuck does too, where no service can tell them apart.
use Rattle.std.specs.Prelude.{◌≡◌, ◌≢◌, ℕ, zero, suc, ◌<◌, ◌≤◌, ◌==◌, Bool, true, false, List, [], ◌∷◌, ◌++◌, Option, Some, None, length, is_some, slice_get, filter}
use Rattle.std.proofs.Common.{refl, sym, ap, subst, ◌∙◌, arith, inl, inr, ⊎_elim, ◌⊎◌}
use Rattle.std.proofs.lemmas.List.{append-nil}
use Rattle.std.proofs.lemmas.List.Elements.{filter-append}
use Rattle.std.proofs.lemmas.Bool.{eqb-true, false_from_ne_true}
use Rattle.std.specs.FinMap.{find, put}
use Rattle.asp_model.specs.Names.{Name, FutureShape, Text, name_cmp, future_cmp, same_name}
use Rattle.asp_model.specs.Parcel.{ParcelShape, has_place}
use Rattle.asp_model.specs.Chase.{chase}
use Rattle.asp_model.specs.Configuration.{RequestShape, Activity, Configuration, or_none, requests_of}
use Rattle.asp_model.specs.Intent.{Effect, Acts, intent}
use Rattle.asp_model.specs.Step.{intent_in, put_some, with_last, with_effect, step}
use Rattle.law_steps.specs.Reached.{IsAt, HasValue}
use Rattle.law_steps.specs.Steps.{IsPoll}
use Rattle.law_steps.proofs.NameLemmas.{name_total, name_same, name_case, name_itself, names_apart, names_tied}
use Rattle.law_chases.proofs.FutureLemmas.{no_some, some_is, future_total, future_same, future_case, true_false}
use Rattle.law_chases.proofs.MapLemmas as Maps
use Rattle.law_steps.proofs.PersistLemmas.{KeepsValues}
use Rattle.law_steps.proofs.StepLemmas.{Takes, step_taken, takes_step}
use Rattle.law_steps.proofs.FactLemmas.{Face, face, face_of, IsMade, IsSent, Holding, as_before, serving, ending}
use Rattle.law_steps.proofs.SoundLemmas.{Sound, Took, at_name, own_by, made_new, at_below}
use Rattle.law_steps.proofs.OrderLemmas.{IsNew}
use Rattle.law_steps.proofs.CommuteLemmas.{took, intended_is}
use Rattle.law_steps.proofs.LinkedLemmas.{acting, step_on}
use Rattle.law_steps.proofs.NamesLaws.{requests_on, sends_at}
use Rattle.law_steps.proofs.ReachedLemmas.{Right}
use Rattle.law_services.specs.Services.{has_one_of, arrivals_within, set_at}
use Rattle.law_services.proofs.PickLemmas.{Begins, take_if, begins_filter, filter_both, sent_by, from, told_order, futures_at, AreApart, first_but, first_begins, match_told}
use Rattle.law_services.proofs.BothLemmas.{Alike, Found, acts_too, acts_both}
use Rattle.law_services.proofs.SameLemmas.{Same, same_back, same_beside, futures_stay, Grows, values_keep, Run, right_at, linked_at, grows_to, next_to}

-- no two requests that an activity received have one future
apart_in : (c : Configuration) (n : Name) → Sound c → AreApart (requests_of c n)
apart_in c n s i j r q at too same = (s.apart n i r n j q at too same).1

-- what is found for a set, by the futures of what was served
found_is : (c : Configuration) (n : Name) (a : Activity) (labels : List Text) → Sound c → Found a (requests_of c n) labels ≡ first_but (futures_at (requests_of c n) a.served) (filter (has_one_of labels) (requests_of c n))
found_is c n a labels s = match_told labels a.served (requests_of c n) (apart_in c n s)

none_from : (n : Name) (rs : List RequestShape) → ((k : ℕ) (q : RequestShape) → slice_get rs k ≡ Some q → same_name n q.sender ≡ true → ⊥) → from n rs ≡ []
none_from n [] h = refl
none_from n (r ∷ rs) h = ap (λ b. take_if b r (from n rs)) (false_from_ne_true (same_name n r.sender) (h 0 r refl)) ∙ none_from n rs (λ k q at. h (suc k) q at)

-- who is not there has sent nothing
absent_sends : (c : Configuration) → Right c → (n m : Name) → find name_cmp n c.activities ≡ None → from n (requests_of c m) ≡ []
absent_sends c r n m none = none_from n (requests_of c m) (λ k q at h.
    let x = requests_on c m k q r at in
    let e : q.sender ≡ n = sym (names_tied n q.sender h) in
    let none_sent : (at_name c n).sends ≡ 0 = ap (λ o. (face o).sends) none in
    let some_sent : (at_name c q.sender).sends ≡ (at_name c n).sends = ap (λ z. (at_name c z).sends) e in
    let last : q.future.index ≤ (at_name c q.sender).sends = subst (λ j. q.future.index ≤ j) (sends_at c q.sender) x.last in
    omega (arith, x.first, last, some_sent, none_sent))

-- What is received after a step

has_more : (k j : ℕ) (js : List ℕ) → has_place k (j ∷ js) ≡ true → (k ≡ j) ⊎ (has_place k js ≡ true)
has_more k j js h = elim (k == j) as (λ b. (k == j) ≡ b → elim b [ true ↦ true | false ↦ has_place k js ] ≡ true → (k ≡ j) ⊎ (has_place k js ≡ true)) [ true ↦ λ p h. inl (eqb-true k j p) | false ↦ λ p h. inr h ] refl h

own_served : (c : Configuration) (n : Name) (s : Sound c) (y : Face) (o : Option (FutureShape × ParcelShape)) → Holding (requests_of c n) (at_name c n) y o → (k : ℕ) → has_place k y.served ≡ true → k < length (requests_of c n)
own_served c n s y o (as_before none same hold) k h = s.served n k (subst (λ l. has_place k l ≡ true) same h)
own_served c n s y o (serving j r none st new same hold) k h = ⊎_elim
    (λ e. subst (λ i. i < length (requests_of c n)) (sym e) (at_below (requests_of c n) j r st))
    (λ l. s.served n k l)
    (has_more k j (at_name c n).served (subst (λ l. has_place k l ≡ true) same h))
own_served c n s y o (ending p is same hold) k h = s.served n k (subst (λ l. has_place k l ≡ true) same h)

abbrev sent_to : Name → Option (Name × RequestShape) → List RequestShape
sent_to m None = []
sent_to m (Some z) = take_if (same_name m z.0) z.1 []

received_by : (m : Name) (o : Option (Name × RequestShape)) (bs : List (Name × List RequestShape)) → or_none (find name_cmp m (with_last o bs)) ≡ or_none (find name_cmp m bs) ++ sent_to m o
received_by m None bs = sym (append-nil _)
received_by m (Some z) bs =
    let rs : List RequestShape = or_none (find name_cmp z.0 bs) ++ z.1 ∷ [] in
    ⊎_elim
    (λ e. ap (λ k. or_none (find name_cmp k (put name_cmp z.0 rs bs))) e ∙ ap or_none (Maps.find_same name_cmp name_total name_same z.0 rs bs)
    ∙ ap (λ k. or_none (find name_cmp k bs) ++ z.1 ∷ []) (sym e)
    ∙ ap (λ b. or_none (find name_cmp m bs) ++ take_if b z.1 []) (sym (ap (same_name m) (sym e) ∙ name_itself m)))
    (λ apart. ap or_none (Maps.find_other name_cmp name_total name_same m z.0 rs bs apart) ∙ sym (append-nil _)
    ∙ ap (λ b. or_none (find name_cmp m bs) ++ take_if b z.1 []) (sym (names_apart m z.0 apart)))
    (name_case m z.0)

from_after : (c : Configuration) (n m q : Name) (e : Effect) → from q (requests_of (with_effect n e c) m) ≡ from q (requests_of c m) ++ from q (sent_to m e.sent)
from_after c n m q e = ap (from q) (received_by m e.sent c.received) ∙ filter-append (sent_by q) (requests_of c m) (sent_to m e.sent)

-- what was served stands at its number still
served_after : (c : Configuration) (n : Name) (e : Effect) (t : Took c n e) → futures_at (requests_of (with_effect n e c) n) e.own.served ≡ futures_at (requests_of c n) e.own.served
served_after c n e t =
    ap (λ rs. futures_at rs e.own.served) (received_by n e.sent c.received)
    ∙ futures_stay (requests_of c n) (sent_to n e.sent) e.own.served (own_served c n t.sound (face_of e.own) e.filled t.facts.holding)

-- Steps of both

-- the steppers stand alike after steps that do alike
own_same : (c x : Configuration) (n : Name) (e f : Effect) → Same c x n → (t : Took c n e) → (u : Took x n f) → Alike (requests_of c n) (requests_of x n) e f → Same (with_effect n e c) (with_effect n f x) n
own_same c x n e f s t u k = record {
  here = e.own;
  there = f.own;
  at = own_by n e.made e.own c.activities t.there (made_new c n e t);
  at_too = own_by n f.made f.own x.activities u.there (made_new x n f u);
  alike = k.own;
  served = served_after c n e t ∙ k.served ∙ sym (served_after x n f u);
  sent = λ m. from_after c n m n e ∙ (λ i. s.sent m i ++ from n (sent_to m (k.sent i))) ∙ sym (from_after x n m n f);
}

none_of_one : (q : Name) (b : Bool) (r : RequestShape) → same_name q r.sender ≡ false → from q (take_if b r []) ≡ []
none_of_one q false r h = refl
none_of_one q true r h = ap (λ b. take_if b r []) h

-- who is made received nothing, and has sent nothing
made_absent : (c : Configuration) (n : Name) (e : Effect) (z : Name × Activity) → Right c → (t : Took c n e) → e.made ≡ Some z → (m : Name) → from z.0 (requests_of (with_effect n e c) m) ≡ []
made_absent c n e z r t is m =
    let none : find name_cmp z.0 c.activities ≡ None = subst (λ o. IsNew name_cmp o c.activities) is (made_new c n e t) in
    from_after c n m z.0 e
    ∙ (λ i. absent_sends c r z.0 m none i ++ from z.0 (sent_to m e.sent))
    ∙ by_sent e.sent t.facts.sent none
  where
    by_sent : (o : Option (Name × RequestShape)) → IsSent n (at_name c n) (face_of e.own) o → find name_cmp z.0 c.activities ≡ None → from z.0 (sent_to m o) ≡ []
    by_sent None s none = refl
    by_sent (Some y) s none = none_of_one z.0 (same_name m y.0) y.1 (ap (same_name z.0) s.2 ∙ names_apart z.0 n (λ p. true_false (is_some (find name_cmp n c.activities)) t.there (ap (λ k. is_some (find name_cmp k c.activities)) (sym p) ∙ ap is_some none)))

none_served : (x : Activity) → face (Some x) ≡ face None → x.served ≡ []
none_served x e = ap (λ y. y.served) e

found_made : (n : Name) (a : Activity) (z : Name × Activity) (es : List (Name × Activity)) (o : Option (Name × Activity)) → o ≡ Some z → find name_cmp z.0 (put_some name_cmp o (put name_cmp n a es)) ≡ Some z.1
found_made n a z es o is = ap (λ o. find name_cmp z.0 (put_some name_cmp o (put name_cmp n a es))) is ∙ Maps.find_same name_cmp name_total name_same z.0 z.1 (put name_cmp n a es)

made_same : (c x : Configuration) (n : Name) (e f : Effect) (z : Name × Activity) → Right c → Right x → (t : Took c n e) → (u : Took x n f) → e.made ≡ Some z → f.made ≡ Some z → Same (with_effect n e c) (with_effect n f x) z.0
made_same c x n e f z r q t u is too =
    let made : IsMade n (at_name c n) (face_of e.own) (Some z) = subst (IsMade n (at_name c n) (face_of e.own)) is t.facts.made in
    let none : z.1.served ≡ [] = none_served z.1 made.2 in
    record {
      here = z.1;
      there = z.1;
      at = found_made n e.own z c.activities e.made is;
      at_too = found_made n f.own z x.activities f.made too;
      alike = refl;
      served = ap (futures_at (requests_of (with_effect n e c) z.0)) none ∙ sym (ap (futures_at (requests_of (with_effect n f x) z.0)) none);
      sent = λ m. made_absent c n e z r t is m ∙ sym (made_absent x n f z q u too m);
    }

-- Covered

-- each activity stands as it stood somewhere in a run up to the L-th step, and the values are values there
pub record Covered (B : ℕ → Configuration) (L : ℕ) (c : Configuration) : Type 0 where
  pub same : (n : Name) (a : Activity) → IsAt c n a → (j : ℕ) × (j ≤ L) × Same c (B j) n
  pub values : (f : FutureShape) (p : ParcelShape) → HasValue c f p → HasValue (B L) f p

module _ (A B : ℕ → Configuration) (ra : Run A) (rb : Run B) (K L : ℕ)
    (still : (n : Name) → step None (B L) n ≡ None)
    (told : (k j : ℕ) (n : Name) (a b : Activity) (labels : List Text) → k ≤ K → j ≤ L → IsAt (A k) n a → set_at a ≡ Some labels → IsAt (B j) n b → set_at b ≡ Some labels → arrivals_within labels (A K) n ≡ arrivals_within labels (B L) n)
    (calm : (k : ℕ) (n : Name) (e : Effect) → suc k ≤ K → Takes None (A k) n e → with_effect n e (A k) ≡ A (suc k) → IsPoll n e → ⊥) where
  abbrev d : Configuration
  d = B L

  to_end : (j : ℕ) → j ≤ L → Grows (B j) d
  to_end j le = grows_to B rb j L le

  -- what an activity sent so far begins what it sent in the end
  boxes : (c : Configuration) → Right c → Covered B L c → (n m : Name) → Begins (from n (requests_of c m)) (from n (requests_of d m))
  boxes c r v n m = by_entry (find name_cmp n c.activities) refl
    where
      by_entry : (o : Option Activity) → find name_cmp n c.activities ≡ o → Begins (from n (requests_of c m)) (from n (requests_of d m))
      by_entry None is = subst (λ l. Begins l (from n (requests_of d m))) (sym (absent_sends c r n m is)) (from n (requests_of d m), refl)
      by_entry (Some a) is =
          let s = v.same n a is in
          subst (λ l. Begins l (from n (requests_of d m))) (sym (s.2.sent m)) (begins_filter (sent_by n) _ _ ((to_end s.0 s.1).requests m))

  -- so the requests that a set of labels finds begin those that it finds in the end
  order : (k : ℕ) → k ≤ K → Covered B L (A k) → (n : Name) (labels : List Text) → arrivals_within labels (A K) n ≡ arrivals_within labels d n → Begins (filter (has_one_of labels) (requests_of (A k) n)) (filter (has_one_of labels) (requests_of d n))
  order k le v n labels e =
      told_order (filter (has_one_of labels) (requests_of (A k) n)) (filter (has_one_of labels) (requests_of (A K) n)) (filter (has_one_of labels) (requests_of d n))
      (begins_filter (has_one_of labels) _ _ ((grows_to A ra k K le).requests n)) e
      (λ m. subst (λ l. Begins l (from m (filter (has_one_of labels) (requests_of d n)))) (sym (filter_both (sent_by m) (has_one_of labels) (requests_of (A k) n)))
      (subst (Begins (filter (has_one_of labels) (from m (requests_of (A k) n)))) (sym (filter_both (sent_by m) (has_one_of labels) (requests_of d n)))
      (begins_filter (has_one_of labels) _ _ (boxes (A k) (right_at A ra k) v m n))))

  -- what a service takes is what it finds in the end, over what was served
  found_end : (k j : ℕ) (n : Name) → k ≤ K → j ≤ L → Covered B L (A k) → (s : Same (A k) (B j) n) → (labels : List Text) (r : RequestShape) → set_at s.here ≡ Some labels → Found s.here (requests_of (A k) n) labels ≡ Some r
      → first_but (futures_at (requests_of (A k) n) s.here.served) (filter (has_one_of labels) (requests_of d n)) ≡ Some r
  found_end k j n le lj v s labels r at h =
      let e = told k j n s.here s.there labels le lj s.at at s.at_too (sym (ap set_at s.alike) ∙ at) in
      first_begins (futures_at (requests_of (A k) n) s.here.served) _ _ r (order k le v n labels e) (sym (found_is (A k) n s.here labels (right_at A ra k).sound) ∙ h)

  found_there : (k j : ℕ) (n : Name) → j ≤ L → (s : Same (A k) (B j) n) → (labels : List Text) (r : RequestShape) → Found s.there (requests_of (B j) n) labels ≡ Some r
      → first_but (futures_at (requests_of (A k) n) s.here.served) (filter (has_one_of labels) (requests_of d n)) ≡ Some r
  found_there k j n lj s labels r h =
      ap (λ fs. first_but fs (filter (has_one_of labels) (requests_of d n))) s.served
      ∙ first_begins (futures_at (requests_of (B j) n) s.there.served) _ _ r (begins_filter (has_one_of labels) _ _ ((to_end j lj).requests n)) (sym (found_is (B j) n s.there labels (right_at B rb j).sound) ∙ h)

  keeps_a : (c : Configuration) → Covered B L c → KeepsValues (chase c.futures) (chase d.futures)
  keeps_a c v = values_keep c.futures d.futures v.values (right_at B rb L).sound.ordered.futures

  keeps_b : (j : ℕ) → j ≤ L → KeepsValues (chase (B j).futures) (chase d.futures)
  keeps_b j le = values_keep (B j).futures d.futures (to_end j le).values (right_at B rb L).sound.ordered.futures

  -- who acts in the one run, and stands so in the end of the other, could act there
  pub none_left : (k : ℕ) → k ≤ K → Covered B L (A k) → (n : Name) (e : Effect) → intent_in (A k) n ≡ Acts e → (IsPoll n e → ⊥) → Same (A k) d n → ⊥
  none_left k le v n e h quiet s =
      let ia : intent (chase (A k).futures) (requests_of (A k) n) n s.here ≡ Acts e = sym (intended_is (A k) n s.here s.at) ∙ h in
      let f = acts_too (chase (A k).futures) (chase d.futures) (keeps_a (A k) v) n s.here s.there s.alike (requests_of (A k) n) (requests_of d n) e ia quiet
      (λ labels r at found. found_is d n s.there labels (right_at B rb L).sound ∙ ap (λ fs. first_but fs (filter (has_one_of labels) (requests_of d n))) (sym s.served) ∙ found_end k L n le (omega arith) v s labels r at found) in
      no_some (sym (still n) ∙ step_on d n f.0 (right_at B rb L) (linked_at B rb L) (intended_is d n s.there s.at_too ∙ f.1))

  -- two steps from states that are alike do alike
  both_do : (k i : ℕ) → k ≤ K → i ≤ L → Covered B L (A k) → (n : Name) (e f : Effect) → intent_in (A k) n ≡ Acts e → intent_in (B i) n ≡ Acts f → (IsPoll n e → ⊥) → (s : Same (A k) (B i) n) → Alike (requests_of (A k) n) (requests_of (B i) n) e f
  both_do k i le li v n e f h g quiet s =
      acts_both (chase (A k).futures) (chase (B i).futures) (chase d.futures) (keeps_a (A k) v) (keeps_b i li) n s.here s.there s.alike (requests_of (A k) n) (requests_of (B i) n) e f
      (sym (intended_is (A k) n s.here s.at) ∙ h) (sym (intended_is (B i) n s.there s.at_too) ∙ g) quiet
      (λ labels r q at x y. some_is (sym (found_end k i n le li v s labels r at x) ∙ found_there k i n li s labels q y))
      s.served

  value_step : (o : Option (FutureShape × ParcelShape)) (vs : List (FutureShape × ParcelShape)) → ((z : FutureShape × ParcelShape) → o ≡ Some z → HasValue d z.0 z.1) → ((f : FutureShape) (p : ParcelShape) → find future_cmp f vs ≡ Some p → HasValue d f p) → (f : FutureShape) (p : ParcelShape) → find future_cmp f (put_some future_cmp o vs) ≡ Some p → HasValue d f p
  value_step None vs new old f p h = old f p h
  value_step (Some z) vs new old f p h = ⊎_elim
      (λ e. ap (λ g. find future_cmp g d.futures) e ∙ new z refl ∙ sym (Maps.find_same future_cmp future_total future_same z.0 z.1 vs) ∙ ap (λ g. find future_cmp g (put future_cmp z.0 z.1 vs)) (sym e) ∙ h)
      (λ apart. old f p (sym (Maps.find_other future_cmp future_total future_same f z.0 z.1 vs apart) ∙ h))
      (future_case f z.0)

  abbrev Somewhere : Configuration → Name → Type 0
  Somewhere c q = (j : ℕ) × (j ≤ L) × Same c (B j) q

  -- one step of the covered run
  module _ (k i : ℕ) (le : k ≤ K) (li : suc i ≤ L) (v : Covered B L (A k)) (n : Name) (e f : Effect) (x : Takes None (A k) n e) (y : Takes None (B i) n f) (to : with_effect n f (B i) ≡ B (suc i)) (quiet : IsPoll n e → ⊥) (s : Same (A k) (B i) n) where
    abbrev t : Took (A k) n e
    t = took None (A k) n e (right_at A ra k).sound x

    abbrev u : Took (B i) n f
    u = took None (B i) n f (right_at B rb i).sound y

    w : Alike (requests_of (A k) n) (requests_of (B i) n) e f
    w = both_do k i le (omega (arith, li)) v n e f x.intends y.intends quiet s

    own_there : Somewhere (with_effect n e (A k)) n
    own_there = (suc i, li, subst (λ z. Same (with_effect n e (A k)) z n) to (own_same (A k) (B i) n e f s t u w))

    made_there : (z : Name × Activity) → e.made ≡ Some z → Somewhere (with_effect n e (A k)) z.0
    made_there z is = (suc i, li, subst (λ c. Same (with_effect n e (A k)) c z.0) to (made_same (A k) (B i) n e f z (right_at A ra k) (right_at B rb i) t u is (sym w.made ∙ is)))

    other_there : (q : Name) (b : Activity) → q ≢ n → IsAt (A k) q b → Somewhere (with_effect n e (A k)) q
    other_there q b apart at =
        let o = v.same q b at in
        (o.0, o.1, same_back (B o.0) (with_effect n e (A k)) q (same_beside (B o.0) (A k) (with_effect n e (A k)) n q (right_at A ra k) (takes_step None (A k) n e x) apart (same_back (A k) (B o.0) q o.2)))

    by_made : (o : Option (Name × Activity)) → e.made ≡ o → (q : Name) (b : Activity) → q ≢ n → find name_cmp q (put_some name_cmp o (put name_cmp n e.own (A k).activities)) ≡ Some b → Somewhere (with_effect n e (A k)) q
    by_made None is q b apart at = other_there q b apart (sym (Maps.find_other name_cmp name_total name_same q n e.own (A k).activities apart) ∙ at)
    by_made (Some z) is q b apart at = ⊎_elim
        (λ p. subst (Somewhere (with_effect n e (A k))) (sym p) (made_there z is))
        (λ new. other_there q b apart (sym (Maps.find_other name_cmp name_total name_same q n e.own (A k).activities apart) ∙ sym (Maps.find_other name_cmp name_total name_same q z.0 z.1 (put name_cmp n e.own (A k).activities) new) ∙ at))
        (name_case q z.0)

    filled_there : (z : FutureShape × ParcelShape) → e.filled ≡ Some z → HasValue d z.0 z.1
    filled_there z is = (to_end (suc i) li).values z.0 z.1 (ap (λ c. find future_cmp z.0 c.futures) (sym to)
        ∙ ap (λ o. find future_cmp z.0 (put_some future_cmp o (B i).futures)) (sym w.filled ∙ is) ∙ Maps.find_same future_cmp future_total future_same z.0 z.1 (B i).futures)

    pub step_covered : Covered B L (with_effect n e (A k))
    step_covered = record {
      same = λ q b at. ⊎_elim
          (λ p. subst (Somewhere (with_effect n e (A k))) (sym p) own_there)
          (λ apart. by_made e.made refl q b apart at)
          (name_case q n);
      values = value_step e.filled (A k).futures filled_there v.values;
    }

  covers_step : (k : ℕ) → suc k ≤ K → Covered B L (A k) → (n : Name) → step None (A k) n ≡ Some (A (suc k)) → Covered B L (A (suc k))
  covers_step k le v n h =
      let x = step_taken None (A k) n (A (suc k)) h in
      let a = acting (A k) n x.0 x.1.intends in
      let o = v.same n a.0 a.1 in
      let quiet = calm k n x.0 le x.1 x.2 in
      ⊎_elim
      (λ s. absurd (none_left k (omega (arith, le)) v n x.0 x.1.intends quiet s))
      (λ s.
      let y = step_taken None (B s.0) n (B (suc s.0)) s.4 in
      subst (Covered B L) x.2 (step_covered k s.0 (omega (arith, le)) s.2 v n x.0 y.0 x.1 y.1 y.2 quiet s.3))
      (next_to B rb (A k) n o.0 L o.1 o.2)

  pub covers : (k : ℕ) → k ≤ K → Covered B L (A 0) → Covered B L (A k)
  covers zero le v = v
  covers (suc k) le v =
      let w = covers k (omega (arith, le)) v in
      ⊎_elim (λ p. subst (Covered B L) (sym p) w) (λ x. covers_step k le w x.0 x.1) (ra.goes k)
