-- Steps of configurations that are alike.
use Rattle.std.specs.Prelude.{◌≡◌, ◌≢◌, ◌&&◌, ℕ, true, List, [], ◌∷◌, ◌++◌, Option, Some, None, length, is_some}
use Rattle.std.proofs.Common.{refl, sym, ap, subst, ◌∙◌, ⊎_elim}
use Rattle.std.proofs.lemmas.Bool.{and_parts}
use Rattle.std.specs.FinMap.{find, put}
use Rattle.asp_model.specs.Names.{Name, Text, name_cmp, future_cmp}
use Rattle.asp_model.specs.Term.{Tree}
use Rattle.asp_model.specs.Parcel.{has_place}
use Rattle.asp_model.specs.Chase.{chase}
use Rattle.asp_model.specs.Configuration.{RequestShape, ReceptionShape, Activity, Configuration, or_none, requests_of}
use Rattle.asp_model.specs.Intent.{Effect, Intent, Acts, Rests, Done, intent}
use Rattle.asp_model.specs.Status.{status_of, status_of_intent}
use Rattle.asp_model.specs.Step.{intent_in, with_effect, with_last, put_some, may_log}
use Rattle.law_steps.specs.Reached.{IsReached}
use Rattle.law_chases.proofs.FutureLemmas.{no_some, some_is}
use Rattle.law_chases.proofs.MapLemmas as Maps
use Rattle.law_steps.proofs.NameLemmas.{name_total, name_same, name_case}
use Rattle.law_steps.proofs.StepLemmas.{Takes, step_taken, takes_step}
use Rattle.law_steps.proofs.FactLemmas.{face, acts_is, no_acts}
use Rattle.law_steps.proofs.SoundLemmas.{Sound, Took, made_new, own_by, other_after}
use Rattle.law_steps.proofs.CommuteLemmas.{took, intended_is}
use Rattle.law_steps.proofs.LinkedLemmas.{acting}
use Rattle.law_steps.proofs.ReachedLemmas.{reached_right}
use Rattle.law_services.specs.Correct.{bare, bare_of}
use Rattle.law_classes.specs.Alike.{AreSameBoxes, served_of, served_at, AreAlike, asked_of, asked_at, class_of, AreOneClass, AsksInClass}
use Rattle.law_classes.specs.Complete.{AlikeSteps, AlikeStatuses}
use Rattle.law_classes.proofs.BoxLemmas.{OneClass, AreBelow, boxes_more, boxes_served, same_first}
use Rattle.law_classes.proofs.IntentLemmas.{asked, AreServed, none, one, AreAlikeEffects, AreAlikeIntents, SameNext, intents_alike, with_served}

-- What stands at a name

pub served_face : (o : Option Activity) → served_of o ≡ (face o).served
served_face None = refl
served_face (Some a) = refl

-- the same activity but for what it served
pub record IsBeside (a : Activity) (o : Option Activity) : Type 0 where
  pub served : List ℕ
  pub is : o ≡ Some (with_served a served)

pub beside : (a : Activity) (o : Option Activity) → bare_of (Some a) ≡ bare_of o → IsBeside a o
beside a None h = no_some (sym h)
beside a (Some b) h =
    let e : bare a ≡ bare b = some_is h in
    record { served = b.served; is = λ i. Some (record (sym e i) { served = b.served }) }

-- Activities after an effect

both_put : (n : Name) (a b : Activity) (es fs : List (Name × Activity)) → bare a ≡ bare b → ((m : Name) → bare_of (find name_cmp m es) ≡ bare_of (find name_cmp m fs)) → (m : Name) → bare_of (find name_cmp m (put name_cmp n a es)) ≡ bare_of (find name_cmp m (put name_cmp n b fs))
both_put n a b es fs e h m = ⊎_elim
    (λ p. ap (λ k. bare_of (find name_cmp k (put name_cmp n a es))) p ∙ ap (bare_of) (Maps.find_same name_cmp name_total name_same n a es) ∙ ap Some e ∙ sym (ap (λ k. bare_of (find name_cmp k (put name_cmp n b fs))) p ∙ ap (bare_of) (Maps.find_same name_cmp name_total name_same n b fs)))
    (λ apart. ap (bare_of) (Maps.find_other name_cmp name_total name_same m n a es apart) ∙ h m ∙ sym (ap (bare_of) (Maps.find_other name_cmp name_total name_same m n b fs apart)))
    (name_case m n)

both_made : (o : Option (Name × Activity)) (es fs : List (Name × Activity)) → ((m : Name) → bare_of (find name_cmp m es) ≡ bare_of (find name_cmp m fs)) → (m : Name) → bare_of (find name_cmp m (put_some name_cmp o es)) ≡ bare_of (find name_cmp m (put_some name_cmp o fs))
both_made None es fs h = h
both_made (Some z) es fs h = both_put z.0 z.1 z.1 es fs refl h

-- Requests after an effect

abbrev pub sent_to : Option (Name × RequestShape) → Configuration → Name → List RequestShape
sent_to o c m = or_none (find name_cmp m (with_last o c.received))

pub target_box : (z : Name × RequestShape) (c : Configuration) → sent_to (Some z) c z.0 ≡ requests_of c z.0 ++ z.1 ∷ []
target_box z c = ap or_none (Maps.find_same name_cmp name_total name_same z.0 (requests_of c z.0 ++ z.1 ∷ []) c.received)

pub other_box : (z : Name × RequestShape) (c : Configuration) (m : Name) → m ≢ z.0 → sent_to (Some z) c m ≡ requests_of c m
other_box z c m apart = ap or_none (Maps.find_other name_cmp name_total name_same m z.0 (requests_of c z.0 ++ z.1 ∷ []) c.received apart)

-- the requests of both after the same was sent
boxes_sent : (K : Text → ℕ) (o : Option (Name × RequestShape)) (c d : Configuration) (m : Name) (s t : List ℕ) → AreBelow s (length (requests_of c m)) → AreBelow t (length (requests_of d m)) → AreSameBoxes K (requests_of c m) s (requests_of d m) t → AreSameBoxes K (sent_to o c m) s (sent_to o d m) t
boxes_sent K None c d m s t below other b = b
boxes_sent K (Some z) c d m s t below other b = ⊎_elim
    (λ p.
    let left : sent_to (Some z) c m ≡ requests_of c m ++ z.1 ∷ [] = ap (sent_to (Some z) c) p ∙ target_box z c ∙ ap (λ k. requests_of c k ++ z.1 ∷ []) (sym p) in
    let right : sent_to (Some z) d m ≡ requests_of d m ++ z.1 ∷ [] = ap (sent_to (Some z) d) p ∙ target_box z d ∙ ap (λ k. requests_of d k ++ z.1 ∷ []) (sym p) in
    subst (λ l. AreSameBoxes K l s (sent_to (Some z) d m) t) (sym left) (subst (λ l. AreSameBoxes K (requests_of c m ++ z.1 ∷ []) s l t) (sym right) (boxes_more K (requests_of c m) s (requests_of d m) t z.1 below other b)))
    (λ apart. subst (λ l. AreSameBoxes K l s (sent_to (Some z) d m) t) (sym (other_box z c m apart)) (subst (λ l. AreSameBoxes K (requests_of c m) s l t) (sym (other_box z d m apart)) b))
    (name_case m z.0)

-- The step

below_at : (c : Configuration) → Sound c → (m : Name) → AreBelow (served_at c m) (length (requests_of c m))
below_at c s m k h = s.served m k (subst (λ l. has_place k l ≡ true) (served_face (find name_cmp m c.activities)) h)

own_served : (c : Configuration) (n : Name) (e : Effect) → Took c n e → served_at (with_effect n e c) n ≡ e.own.served
own_served c n e t = ap served_of (own_by n e.made e.own c.activities t.there (made_new c n e t))

other_served : (c : Configuration) (n m : Name) (e : Effect) → Took c n e → m ≢ n → served_at (with_effect n e c) m ≡ served_at c m
other_served c n m e t apart = served_face (find name_cmp m (with_effect n e c).activities) ∙ ap (λ f. f.served) (other_after c n m e t apart) ∙ sym (served_face (find name_cmp m c.activities))

abbrev BoxesAt : (Text → ℕ) → (c d : Configuration) → Name → Type 0
BoxesAt K c d m = AreSameBoxes K (requests_of c m) (served_at c m) (requests_of d m) (served_at d m)

pub same_boxes : (K : Text → ℕ) (rs qs : List RequestShape) (s s' t t' : List ℕ) → s ≡ s' → t ≡ t' → AreSameBoxes K rs s' qs t' → AreSameBoxes K rs s qs t
same_boxes K rs qs s s' t t' p q b = subst (λ x. AreSameBoxes K rs x qs t) (sym p) (subst (λ y. AreSameBoxes K rs s' qs y) (sym q) b)

module _ (K : Text → ℕ) (c d : Configuration) (n : Name) (e f : Effect) (alike : AreAlike K c d) (te : Took c n e) (tf : Took d n f) (a : Activity) (at : find name_cmp n c.activities ≡ Some a) (t : List ℕ) (is : find name_cmp n d.activities ≡ Some (with_served a t)) (class : AsksInClass K c n) (x : AreAlikeEffects a (requests_of c n) t (requests_of d n) e f) where
  class_at : (b : Activity) → find name_cmp n c.activities ≡ Some b → OneClass K (class_of K (asked b)) (asked b)
  class_at b h = subst (λ o. AreOneClass K (asked_of o)) h class

  box_before : AreSameBoxes K (requests_of c n) a.served (requests_of d n) t
  box_before = same_boxes K (requests_of c n) (requests_of d n) a.served (served_at c n) t (served_at d n) (sym (ap served_of at)) (sym (ap served_of is)) (alike.boxes n)

  below_c : AreBelow a.served (length (requests_of c n))
  below_c = subst (λ s. AreBelow s (length (requests_of c n))) (ap served_of at) (below_at c te.sound n)

  below_d : AreBelow t (length (requests_of d n))
  below_d = subst (λ s. AreBelow s (length (requests_of d n))) (ap served_of is) (below_at d tf.sound n)

  own_box : AreServed a (requests_of c n) t (requests_of d n) e f → AreSameBoxes K (sent_to e.sent c n) e.own.served (sent_to e.sent d n) f.own.served
  own_box (none p q) = same_boxes K (sent_to e.sent c n) (sent_to e.sent d n) e.own.served a.served f.own.served t p q (boxes_sent K e.sent c d n a.served t below_c below_d box_before)
  own_box (one u v m w p q none_sent none_logged) =
      same_boxes K (sent_to e.sent c n) (sent_to e.sent d n) e.own.served (u.0 ∷ a.served) f.own.served (v.0 ∷ t) p q
      (subst (λ o. AreSameBoxes K (sent_to o c n) (u.0 ∷ a.served) (sent_to o d n) (v.0 ∷ t)) (sym none_sent)
      (boxes_served K (class_of K (asked a)) (asked a) (requests_of c n) a.served (requests_of d n) t u v (class_at a at) m w box_before))

  sent_alike : (m : Name) → BoxesAt K (with_effect n e c) (with_effect n f d) m
  sent_alike m = ⊎_elim
      (λ p. subst (BoxesAt K (with_effect n e c) (with_effect n f d)) (sym p)
      (same_boxes K (requests_of (with_effect n e c) n) (requests_of (with_effect n f d) n) (served_at (with_effect n e c) n) e.own.served (served_at (with_effect n f d) n) f.own.served (own_served c n e te) (own_served d n f tf)
      (subst (λ o. AreSameBoxes K (sent_to e.sent c n) e.own.served (sent_to o d n) f.own.served) x.sent (own_box x.served))))
      (λ apart.
      same_boxes K (requests_of (with_effect n e c) m) (requests_of (with_effect n f d) m) (served_at (with_effect n e c) m) (served_at c m) (served_at (with_effect n f d) m) (served_at d m) (other_served c n m e te apart) (other_served d n m f tf apart)
      (subst (λ o. AreSameBoxes K (sent_to e.sent c m) (served_at c m) (sent_to o d m) (served_at d m)) x.sent
      (boxes_sent K e.sent c d m (served_at c m) (served_at d m) (below_at c te.sound m) (below_at d tf.sound m) (alike.boxes m))))
      (name_case m n)

  effects_alike : AreAlike K (with_effect n e c) (with_effect n f d)
  effects_alike = record {
    activities = λ m. both_made e.made (put name_cmp n e.own c.activities) (put name_cmp n f.own d.activities) (both_put n e.own f.own c.activities d.activities x.own alike.activities) m
        ∙ ap (λ o. bare_of (find name_cmp m (put_some name_cmp o (put name_cmp n f.own d.activities)))) x.made;
    futures = ap (λ o. put_some future_cmp o c.futures) x.filled ∙ ap (put_some future_cmp f.filled) alike.futures;
    boxes = sent_alike;
  }

acts_alike : (K : Text → ℕ) (c d : Configuration) (n : Name) (a : Activity) (t : List ℕ) (p q : Intent) → (e : Effect) → p ≡ Acts e → AreAlikeIntents (chase c.futures) (requests_of c n) t (requests_of d n) n a p q → (f : Effect) × (q ≡ Acts f) × AreAlikeEffects a (requests_of c n) t (requests_of d n) e f
acts_alike K c d n a t (Acts g) (Acts f) e is x = (f, refl, subst (λ h. AreAlikeEffects a (requests_of c n) t (requests_of d n) h f) (acts_is is) x)
acts_alike K c d n a t (Acts g) (Rests s) e is x = absurd x
acts_alike K c d n a t (Rests s) (Acts f) e is x = absurd x
acts_alike K c d n a t (Rests s) (Rests u) e is x = no_acts is

some_bare : (o : Option Activity) → is_some (bare_of o) ≡ is_some o
some_bare None = refl
some_bare (Some a) = refl

may_alike : (K : Text → ℕ) (c d : Configuration) (o : Option (Name × ReceptionShape)) → AreAlike K c d → may_log None c o ≡ true → may_log None d o ≡ true
may_alike K c d None alike h = refl
may_alike K c d (Some z) alike h =
    let same : is_some (find name_cmp z.0 d.activities) ≡ is_some (find name_cmp z.0 c.activities) = sym (some_bare (find name_cmp z.0 d.activities)) ∙ ap is_some (sym (alike.activities z.0)) ∙ some_bare (find name_cmp z.0 c.activities) in
    ap (λ b. b && true) (same ∙ (and_parts (is_some (find name_cmp z.0 c.activities)) true h).0)

-- what is asked for is the same
asked_bare : (o : Option Activity) → asked_of (bare_of o) ≡ asked_of o
asked_bare None = refl
asked_bare (Some a) = refl

pub asked_alike : (K : Text → ℕ) (c d : Configuration) (n : Name) → AreAlike K c d → asked_at c n ≡ asked_at d n
asked_alike K c d n alike = sym (asked_bare (find name_cmp n c.activities)) ∙ ap asked_of (alike.activities n) ∙ asked_bare (find name_cmp n d.activities)

next_alike : (K : Text → ℕ) (c d : Configuration) (n : Name) (a : Activity) (t : List ℕ) → AreAlike K c d → AsksInClass K c n → find name_cmp n c.activities ≡ Some a → find name_cmp n d.activities ≡ Some (with_served a t) → SameNext (chase c.futures) (requests_of c n) t (requests_of d n) n a
next_alike K c d n a t alike class at is =
    same_first K (class_of K (asked a)) (asked a) (requests_of c n) a.served (requests_of d n) t (subst (λ o. AreOneClass K (asked_of o)) at class)
    (same_boxes K (requests_of c n) (requests_of d n) a.served (served_at c n) t (served_at d n) (sym (ap served_of at)) (sym (ap served_of is)) (alike.boxes n))

-- the same step, from the other configuration
pub record TakesAlike (K : Text → ℕ) (c d : Configuration) (n : Name) (e : Effect) : Type 0 where
  pub effect : Effect
  pub takes : Takes None d n effect
  pub sent : e.sent ≡ effect.sent
  pub logged : e.logged ≡ effect.logged
  pub alike : AreAlike K (with_effect n e c) (with_effect n effect d)

pub takes_alike : (K : Text → ℕ) (program : Tree) (c d : Configuration) (n : Name) (e : Effect) → IsReached program c → IsReached program d → AreAlike K c d → AsksInClass K c n → Takes None c n e → TakesAlike K c d n e
takes_alike K program c d n e reached other alike class can =
    let te = took None c n e (reached_right program c reached).sound can in
    let a = acting c n e can.intends in
    let b = beside a.0 (find name_cmp n d.activities) (ap (bare_of) (sym a.1) ∙ alike.activities n) in
    let next = next_alike K c d n a.0 b.served alike class a.1 b.is in
    let v = acts_alike K c d n a.0 b.served (intent (chase c.futures) (requests_of c n) n a.0) (intent (chase c.futures) (requests_of d n) n (with_served a.0 b.served)) e a.2 (intents_alike (chase c.futures) (requests_of c n) b.served (requests_of d n) n a.0 next) in
    let intends : intent_in d n ≡ Acts v.0 = intended_is d n (with_served a.0 b.served) b.is ∙ ap (λ y. intent (chase y) (requests_of d n) n (with_served a.0 b.served)) (sym alike.futures) ∙ v.1 in
    let takes : Takes None d n v.0 = record { intends = intends; may = subst (λ o. may_log None d o ≡ true) v.2.logged (may_alike K c d e.logged alike can.may) } in
    let tf = took None d n v.0 (reached_right program d other).sound takes in
    record { effect = v.0; takes = takes; sent = v.2.sent; logged = v.2.logged; alike = effects_alike K c d n e v.0 alike te tf a.0 a.1 b.served b.is class v.2 }

pub alike_steps : AlikeSteps
alike_steps K program c d x n reached other alike class st =
    let u = step_taken None c n x st in
    let v = takes_alike K program c d n u.0 reached other alike class u.1 in
    (with_effect n v.effect d, takes_step None d n v.effect v.takes, subst (λ y. AreAlike K y (with_effect n v.effect d)) u.2 v.alike)

-- Statuses

by_intents : (K : Text → ℕ) (c d : Configuration) (n : Name) (a : Activity) (t : List ℕ) (p q : Intent) → AreAlikeIntents (chase c.futures) (requests_of c n) t (requests_of d n) n a p q → status_of_intent p ≡ status_of_intent q
by_intents K c d n a t (Acts e) (Acts f) x = refl
by_intents K c d n a t (Acts e) (Rests s) x = absurd x
by_intents K c d n a t (Rests s) (Acts f) x = absurd x
by_intents K c d n a t (Rests s) (Rests u) x = x

absent : (o : Option Activity) → bare_of None ≡ bare_of o → o ≡ None
absent None h = refl
absent (Some b) h = no_some h

pub alike_statuses : AlikeStatuses
alike_statuses K c d n alike class = by_entry (find name_cmp n c.activities) refl
  where
    by_entry : (o : Option Activity) → find name_cmp n c.activities ≡ o → status_of c n ≡ status_of d n
    by_entry None is =
        let none_d = absent (find name_cmp n d.activities) (ap (bare_of) (sym is) ∙ alike.activities n) in
        ap (λ o. status_of_intent (elim o [ None ↦ Rests Done | Some a ↦ intent (chase c.futures) (requests_of c n) n a ])) is
        ∙ sym (ap (λ o. status_of_intent (elim o [ None ↦ Rests Done | Some a ↦ intent (chase d.futures) (requests_of d n) n a ])) none_d)
    by_entry (Some a) is =
        let b = beside a (find name_cmp n d.activities) (ap (bare_of) (sym is) ∙ alike.activities n) in
        let next = next_alike K c d n a b.served alike class is b.is in
        ap status_of_intent (intended_is c n a is)
        ∙ by_intents K c d n a b.served (intent (chase c.futures) (requests_of c n) n a) (intent (chase c.futures) (requests_of d n) n (with_served a b.served)) (intents_alike (chase c.futures) (requests_of c n) b.served (requests_of d n) n a next)
        ∙ sym (ap status_of_intent (intended_is d n (with_served a b.served) b.is ∙ ap (λ y. intent (chase y) (requests_of d n) n (with_served a b.served)) (sym alike.futures)))

pub alike_back : (K : Text → ℕ) (c d : Configuration) → AreAlike K c d → AreAlike K d c
alike_back K c d h = record {
  activities = λ m. sym (h.activities m);
  futures = sym h.futures;
  boxes = λ m. record { received = λ κ. sym ((h.boxes m).received κ); waits = λ κ. sym ((h.boxes m).waits κ) };
}
