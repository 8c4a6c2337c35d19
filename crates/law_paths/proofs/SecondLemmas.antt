-- Where two configurations agree and an activity can step in one, it can take the same step in the other.
use Rattle.std.specs.Prelude.{◌≡◌, ℕ, suc, ◌&&◌, Bool, true, false, List, [], ◌∷◌, ◌++◌, Option, Some, None, length, is_some, slice_get}
use Rattle.std.proofs.Common.{refl, sym, ap, subst, ◌∙◌, ⊎_elim}
use Rattle.std.specs.FinMap.{find, put}
use Rattle.asp_model.specs.Names.{Name, FutureShape, name_cmp, future_cmp}
use Rattle.asp_model.specs.Store.{Store}
use Rattle.asp_model.specs.Parcel.{ParcelShape}
use Rattle.asp_model.specs.Chase.{Values, Chase, Unfilled, lead_of, walk_end, chase}
use Rattle.asp_model.specs.Configuration.{RequestShape, ReceptionShape, Activity, Configuration, or_none, requests_of, log_of}
use Rattle.asp_model.specs.Intent.{Intent, Acts, Rests, Effect, intent, Done}
use Rattle.asp_model.specs.Step.{ListsShape, intent_in, put_some, with_last, with_effect, reception_at, is_reception, is_next, may_log, step}
use Rattle.asp_model.specs.Status.{status_of_intent, status_of}
use Rattle.law_steps.specs.Linked.{Each}
use Rattle.law_steps.specs.Reached.{IsAt}
use Rattle.law_steps.specs.Closed.{AreBelow, IsClosedActivity, IsClosedParcel, IsClosed, IsClosedStore}
use Rattle.law_steps.proofs.NameLemmas.{name_total, name_same, name_case}
use Rattle.law_chases.proofs.FutureLemmas.{no_some, some_is, future_total, future_same, future_case, true_false}
use Rattle.law_chases.proofs.MapLemmas as Maps
use Rattle.law_chases.proofs.ChaseLemmas.{walk_by, chase_by}
use Rattle.law_steps.proofs.StepLemmas.{Takes, step_taken, takes_step}
use Rattle.law_steps.proofs.LinkedLemmas.{acting}
use Rattle.law_steps.proofs.ClosedLaws.{effect_closed, closed_after}
use Rattle.def_paths.specs.Places.{side_by, AreReadAlike, value_by, name_by}
use Rattle.def_paths.specs.Agree.{Pairs, no_pair, pair, MayBoth, neither, both, roots_of, ActivitiesAgree, ParcelsAgree, RequestsAgree, Agrees}
use Rattle.law_paths.specs.Agreeing.{EffectsAgree, IntentsAgree, both_act, both_rest}
use Rattle.law_paths.proofs.FitLemmas.{IsFit, SecondFit, StatusesFit}
use Rattle.law_paths.proofs.PairLemmas.{pairs_more}
use Rattle.law_paths.proofs.ActivityLemmas.{roots_below, agree_linked, OnePathOf}
use Rattle.law_paths.proofs.StatusLemmas.{ValuesClosed, side_closed}
use Rattle.law_paths.proofs.StillLemmas.{PendingAgree}
use Rattle.law_paths.proofs.IntentLemmas.{IsFresh, intends_agree}
use Rattle.law_paths.proofs.FillingLemmas.{filled_alike}

-- Lists of which something holds at each number

each_at : {X : Type 0} (P : X → Type 0) (xs : List X) → ((k : ℕ) (x : X) → slice_get xs k ≡ Some x → P x) → Each P xs
each_at P [] h = tt
each_at P (x ∷ xs) h = (h 0 x refl, each_at P xs (λ k. h (suc k)))

pairs_with : {A B : Type 0} (R S : A → B → Type 0) (P : A → Type 0) (Q : B → Type 0) → ((x : A) (y : B) → R x y → P x → Q y → S x y) → (xs : List A) (ys : List B) → Pairs R xs ys → Each P xs → Each Q ys → Pairs S xs ys
pairs_with R S P Q to _ _ no_pair p q = no_pair
pairs_with R S P Q to _ _ (pair r rs) p q = pair (to _ _ r p.0 q.0) (pairs_with R S P Q to _ _ rs p.1 q.1)

requests_closed : (c : Configuration) → IsClosed c → (n : Name) → Each (λ r. IsClosedParcel r.arguments) (requests_of c n)
requests_closed c h n = each_at (λ r. IsClosedParcel r.arguments) (requests_of c n) (h.arguments n)

-- Configurations that agree under given chases

pub record AgreeUnder (k l : FutureShape → Chase) (c d : Configuration) : Type 0 where
  pub activities : (n : Name) → MayBoth (ActivitiesAgree k l) (find name_cmp n c.activities) (find name_cmp n d.activities)
  pub requests : (n : Name) → Pairs (RequestsAgree k l) (requests_of c n) (requests_of d n)
  pub logs : (n : Name) → log_of c n ≡ log_of d n
  pub values : (f : FutureShape) → MayBoth (ParcelsAgree k l) (find future_cmp f c.futures) (find future_cmp f d.futures)

-- entries that are put on both sides
put_both : {X : Type 0} (R : X → X → Type 0) (n : Name) (a b : X) (es fs : List (Name × X)) → R a b → ((m : Name) → MayBoth R (find name_cmp m es) (find name_cmp m fs)) → (m : Name) → MayBoth R (find name_cmp m (put name_cmp n a es)) (find name_cmp m (put name_cmp n b fs))
put_both R n a b es fs r to m = ⊎_elim
    (λ same. subst (λ z. MayBoth R (find name_cmp z (put name_cmp n a es)) (find name_cmp z (put name_cmp n b fs))) (sym same)
    (subst (λ o. MayBoth R o (find name_cmp n (put name_cmp n b fs))) (sym (Maps.find_same name_cmp name_total name_same n a es)) (subst (MayBoth R (Some a)) (sym (Maps.find_same name_cmp name_total name_same n b fs)) (both r))))
    (λ apart. subst (λ o. MayBoth R o (find name_cmp m (put name_cmp n b fs))) (sym (Maps.find_other name_cmp name_total name_same m n a es apart)) (subst (MayBoth R (find name_cmp m es)) (sym (Maps.find_other name_cmp name_total name_same m n b fs apart)) (to m)))
    (name_case m n)

fill_both : (R : ParcelShape → ParcelShape → Type 0) (f : FutureShape) (v w : ParcelShape) (es fs : Values) → R v w → ((x : FutureShape) → MayBoth R (find future_cmp x es) (find future_cmp x fs)) → (x : FutureShape) → MayBoth R (find future_cmp x (put future_cmp f v es)) (find future_cmp x (put future_cmp f w fs))
fill_both R f v w es fs r to x = ⊎_elim
    (λ same. subst (λ z. MayBoth R (find future_cmp z (put future_cmp f v es)) (find future_cmp z (put future_cmp f w fs))) (sym same)
    (subst (λ o. MayBoth R o (find future_cmp f (put future_cmp f w fs))) (sym (Maps.find_same future_cmp future_total future_same f v es)) (subst (MayBoth R (Some v)) (sym (Maps.find_same future_cmp future_total future_same f w fs)) (both r))))
    (λ apart. subst (λ o. MayBoth R o (find future_cmp x (put future_cmp f w fs))) (sym (Maps.find_other future_cmp future_total future_same x f v es apart)) (subst (MayBoth R (find future_cmp x es)) (sym (Maps.find_other future_cmp future_total future_same x f w fs apart)) (to x)))
    (future_case x f)

module _ (k l : FutureShape → Chase) where
  made_both : (o p : Option (Name × Activity)) → MayBoth {A = Name × Activity} {B = Name × Activity} (λ x y. (x.0 ≡ y.0) × ActivitiesAgree k l x.1 y.1) o p → (es fs : List (Name × Activity)) → ((m : Name) → MayBoth (ActivitiesAgree k l) (find name_cmp m es) (find name_cmp m fs))
      → (m : Name) → MayBoth (ActivitiesAgree k l) (find name_cmp m (put_some name_cmp o es)) (find name_cmp m (put_some name_cmp p fs))
  made_both _ _ neither es fs to m = to m
  made_both _ _ (both {x = x} {y = y} r) es fs to m = subst (λ z. MayBoth (ActivitiesAgree k l) (find name_cmp m (put name_cmp x.0 x.1 es)) (find name_cmp m (put name_cmp z y.1 fs))) r.0 (put_both (ActivitiesAgree k l) x.0 x.1 y.1 es fs r.1 to m)

  filled_both : (o p : Option (FutureShape × ParcelShape)) → MayBoth {A = FutureShape × ParcelShape} {B = FutureShape × ParcelShape} (λ x y. (x.0 ≡ y.0) × ParcelsAgree k l x.1 y.1) o p → (es fs : Values) → ((x : FutureShape) → MayBoth (ParcelsAgree k l) (find future_cmp x es) (find future_cmp x fs))
      → (x : FutureShape) → MayBoth (ParcelsAgree k l) (find future_cmp x (put_some future_cmp o es)) (find future_cmp x (put_some future_cmp p fs))
  filled_both _ _ neither es fs to x = to x
  filled_both _ _ (both {x = y} {y = z} r) es fs to x = subst (λ g. MayBoth (ParcelsAgree k l) (find future_cmp x (put future_cmp y.0 y.1 es)) (find future_cmp x (put future_cmp g z.1 fs))) r.0 (fill_both (ParcelsAgree k l) y.0 y.1 z.1 es fs r.1 to x)

  -- the requests of an activity when one is sent
  sent_same : (z y : Name × RequestShape) → z.0 ≡ y.0 → RequestsAgree k l z.1 y.1 → (bs cs : List (Name × List RequestShape)) → ((m : Name) → Pairs (RequestsAgree k l) (or_none (find name_cmp m bs)) (or_none (find name_cmp m cs)))
      → (m : Name) → Pairs (RequestsAgree k l) (or_none (find name_cmp m (with_last (Some z) bs))) (or_none (find name_cmp m (with_last (Some y) cs)))
  sent_same z y e r bs cs to m =
      let rs = or_none (find name_cmp z.0 bs) ++ z.1 ∷ [] in
      let ss = or_none (find name_cmp y.0 cs) ++ y.1 ∷ [] in
      ⊎_elim
      (λ same.
      let left : find name_cmp m (with_last (Some z) bs) ≡ Some rs = ap (λ x. find name_cmp x (put name_cmp z.0 rs bs)) same ∙ Maps.find_same name_cmp name_total name_same z.0 rs bs in
      let right : find name_cmp m (with_last (Some y) cs) ≡ Some ss = ap (λ x. find name_cmp x (put name_cmp y.0 ss cs)) (same ∙ e) ∙ Maps.find_same name_cmp name_total name_same y.0 ss cs in
      subst (λ o. Pairs (RequestsAgree k l) (or_none o) (or_none (find name_cmp m (with_last (Some y) cs)))) (sym left) (subst (λ o. Pairs (RequestsAgree k l) rs (or_none o)) (sym right)
      (pairs_more (RequestsAgree k l) _ _ _ _ (subst (λ x. Pairs (RequestsAgree k l) (or_none (find name_cmp z.0 bs)) (or_none (find name_cmp x cs))) e (to z.0)) (pair r no_pair))))
      (λ apart. subst (λ o. Pairs (RequestsAgree k l) (or_none o) (or_none (find name_cmp m (with_last (Some y) cs)))) (sym (Maps.find_other name_cmp name_total name_same m z.0 rs bs apart))
      (subst (λ o. Pairs (RequestsAgree k l) (or_none (find name_cmp m bs)) (or_none o)) (sym (Maps.find_other name_cmp name_total name_same m y.0 ss cs (λ d. apart (d ∙ sym e)))) (to m)))
      (name_case m z.0)

  sent_both : (o p : Option (Name × RequestShape)) → MayBoth {A = Name × RequestShape} {B = Name × RequestShape} (λ x y. (x.0 ≡ y.0) × RequestsAgree k l x.1 y.1) o p → (bs cs : List (Name × List RequestShape)) → ((m : Name) → Pairs (RequestsAgree k l) (or_none (find name_cmp m bs)) (or_none (find name_cmp m cs)))
      → (m : Name) → Pairs (RequestsAgree k l) (or_none (find name_cmp m (with_last o bs))) (or_none (find name_cmp m (with_last p cs)))
  sent_both _ _ neither bs cs to m = to m
  sent_both _ _ (both {x = z} {y = y} r) bs cs to m = sent_same z y r.0 r.1 bs cs to m

  -- the logs when one reception more is noted
  logged_same : (o : Option (Name × ReceptionShape)) (bs cs : List (Name × List ReceptionShape)) → ((m : Name) → or_none (find name_cmp m bs) ≡ or_none (find name_cmp m cs))
      → (m : Name) → or_none (find name_cmp m (with_last o bs)) ≡ or_none (find name_cmp m (with_last o cs))
  logged_same None bs cs to m = to m
  logged_same (Some z) bs cs to m =
      let rs = or_none (find name_cmp z.0 bs) ++ z.1 ∷ [] in
      let ss = or_none (find name_cmp z.0 cs) ++ z.1 ∷ [] in
      ⊎_elim
      (λ same. ap (λ x. or_none (find name_cmp x (put name_cmp z.0 rs bs))) same ∙ ap or_none (Maps.find_same name_cmp name_total name_same z.0 rs bs)
      ∙ ap (λ l. l ++ z.1 ∷ []) (to z.0)
      ∙ sym (ap (λ x. or_none (find name_cmp x (put name_cmp z.0 ss cs))) same ∙ ap or_none (Maps.find_same name_cmp name_total name_same z.0 ss cs)))
      (λ apart. ap or_none (Maps.find_other name_cmp name_total name_same m z.0 rs bs apart) ∙ to m ∙ sym (ap or_none (Maps.find_other name_cmp name_total name_same m z.0 ss cs apart)))
      (name_case m z.0)

  -- effects that agree, on configurations that do
  effects_under : (c d : Configuration) (n : Name) (e e' : Effect) → EffectsAgree k l e e' → AgreeUnder k l c d → AgreeUnder k l (with_effect n e c) (with_effect n e' d)
  effects_under c d n e e' x g = record {
    activities = made_both e.made e'.made x.made _ _ (put_both (ActivitiesAgree k l) n e.own e'.own c.activities d.activities x.own g.activities);
    requests = sent_both e.sent e'.sent x.sent c.received d.received g.requests;
    logs = λ m. logged_same e.logged c.logs d.logs g.logs m ∙ ap (λ o. or_none (find name_cmp m (with_last o d.logs))) x.logged;
    values = filled_both e.filled e'.filled x.filled c.futures d.futures g.values;
  }

-- A filled future

module _ (c d : Configuration) (k l k' l' : FutureShape → Chase) (hc : IsClosed c) (hd : IsClosed d)
    (reads : (s t : Store) → IsClosedStore s → IsClosedStore t → (ps qs : List ℕ) → AreBelow (length s) ps → AreBelow (length t) qs → AreReadAlike (side_by k s) (side_by l t) ps qs → AreReadAlike (side_by k' s) (side_by l' t) ps qs) where
  reread : (a b : Activity) → IsClosedActivity a → IsClosedActivity b → ActivitiesAgree k l a b → ActivitiesAgree k' l' a b
  reread a b ha hb x = record {
    term = x.term;
    services = x.services;
    reading = reads a.store b.store ha.store hb.store (roots_of a) (roots_of b) (roots_below a ha) (roots_below b hb) x.reading;
    present = x.present;
    sends = x.sends;
    creations = x.creations;
    reductions = x.reductions;
    lines = x.lines;
    served = x.served;
  }

  activities_reread : (n : Name) (o p : Option Activity) → find name_cmp n c.activities ≡ o → find name_cmp n d.activities ≡ p → MayBoth (ActivitiesAgree k l) o p → MayBoth (ActivitiesAgree k' l') o p
  activities_reread n _ _ e g neither = neither
  activities_reread n _ _ e g (both {x = a} {y = b} x) = both (reread a b (hc.activities n a e) (hd.activities n b g) x)

  parcels_reread : (p q : ParcelShape) → IsClosedParcel p → IsClosedParcel q → ParcelsAgree k l p q → ParcelsAgree k' l' p q
  parcels_reread p q hp hq x = reads p.cells q.cells hp.cells hq.cells p.roots q.roots hp.roots hq.roots x

  values_reread : (f : FutureShape) (o p : Option ParcelShape) → find future_cmp f c.futures ≡ o → find future_cmp f d.futures ≡ p → MayBoth (ParcelsAgree k l) o p → MayBoth (ParcelsAgree k' l') o p
  values_reread f _ _ e g neither = neither
  values_reread f _ _ e g (both {x = p} {y = q} x) = both (parcels_reread p q (hc.values f p e).closed (hd.values f q g).closed x)

  request_reread : (r s : RequestShape) → RequestsAgree k l r s → IsClosedParcel r.arguments → IsClosedParcel s.arguments → RequestsAgree k' l' r s
  request_reread r s x hr hs = record { label = x.label; sender = x.sender; future = x.future; arguments = parcels_reread r.arguments s.arguments hr hs x.arguments }

  pub under_reread : AgreeUnder k l c d → AgreeUnder k' l' c d
  under_reread g = record {
    activities = λ n. activities_reread n _ _ refl refl (g.activities n);
    requests = λ n. pairs_with (RequestsAgree k l) (RequestsAgree k' l') (λ r. IsClosedParcel r.arguments) (λ r. IsClosedParcel r.arguments) request_reread _ _ (g.requests n) (requests_closed c hc n) (requests_closed d hd n);
    logs = g.logs;
    values = λ f. values_reread f _ _ refl refl (g.values f);
  }

-- Steps

under_agrees : (c d : Configuration) → AgreeUnder (chase c.futures) (chase d.futures) c d → Agrees c d
under_agrees c d g = record { activities = g.activities; requests = g.requests; logs = g.logs; values = g.values }

agrees_under : (c d : Configuration) → Agrees c d → AgreeUnder (chase c.futures) (chase d.futures) c d
agrees_under c d g = record { activities = g.activities; requests = g.requests; logs = g.logs; values = g.values }

module _ (c d : Configuration) (fc : IsFit c) (fd : IsFit d) (g : Agrees c d) (n : Name) where
  abbrev k : FutureShape → Chase
  k = chase c.futures

  abbrev l : FutureShape → Chase
  l = chase d.futures

  pending : Pairs (PendingAgree k l) (requests_of c n) (requests_of d n)
  pending = pairs_with (RequestsAgree k l) (PendingAgree k l) (λ r. IsClosedParcel r.arguments) (λ r. IsClosedParcel r.arguments) (λ r s x p q. (x, p, q)) _ _ (g.requests n) (requests_closed c fc.closed n) (requests_closed d fd.closed n)

  chase_new : (vs : Values) (f : FutureShape) → find future_cmp f vs ≡ None → chase vs f ≡ Unfilled f
  chase_new vs f e = ap (chase_by vs f) (ap (λ o. walk_by (lead_of o) (walk_end (length vs) vs) f) e)

  fresh : (a b : Activity) → IsAt c n a → IsAt d n b → a.sends ≡ b.sends → IsFresh k l (record { by = n; index = suc a.sends })
  fresh a b at at' e =
      let f : FutureShape = record { by = n; index = suc a.sends } in
      let x = chase_new c.futures f (fc.unsent n a at) in
      let y = chase_new d.futures f (ap (λ m. find future_cmp (record { by = n; index = suc m }) d.futures) e ∙ fd.unsent n b at') in
      record { none = ap value_by x; none_too = ap value_by y; same = ap name_by x ∙ sym (ap name_by y) }

  both_intent : (a b : Activity) → IsAt c n a → IsAt d n b → ActivitiesAgree k l a b → IntentsAgree k l (intent k (requests_of c n) n a) (intent l (requests_of d n) n b)
  both_intent a b at at' x =
      let ha = fc.closed.activities n a at in
      let hb = fd.closed.activities n b at' in
      let sa = side_closed c.futures fc.closed.values a.store ha.store in
      let sb = side_closed d.futures fd.closed.values b.store hb.store in
      intends_agree k l n a b (OnePathOf k l a b x ha hb sa sb) (agree_linked k l a b x ha hb sa sb) (fresh a b at at' x.sends) (fc.active n a at) (fd.active n b at') (requests_of c n) (requests_of d n) pending

  -- the intent of the one, and that of the other
  module _ (e : Effect) (intends : intent_in c n ≡ Acts e) where
    acts_too : (p q : Intent) → p ≡ Acts e → IntentsAgree k l p q → (e' : Effect) × (q ≡ Acts e') × EffectsAgree k l e e'
    acts_too _ _ is (both_act {e = e0} {d = e1} x) = (e1, refl, subst (λ z. EffectsAgree k l z e1) (acts_is is) x)
      where
        acts_is : {x y : Effect} → Acts x ≡ Acts y → x ≡ y
        acts_is {x = x} e = ap (λ p. elim p [ Acts z ↦ z | Rests s ↦ x ]) e
    acts_too _ _ is (both_rest status) = absurd (true_false true refl (sym (ap acts is)))
      where
        acts : Intent → Bool
        acts (Acts z) = true
        acts (Rests s) = false

    intended : (b : Activity) → IsAt d n b → intent_in d n ≡ intent l (requests_of d n) n b
    intended b at = by (find name_cmp n d.activities) at
      where
        by : (o : Option Activity) → o ≡ Some b → elim o [ None ↦ Rests Done | Some a ↦ intent l (requests_of d n) n a ] ≡ intent l (requests_of d n) n b
        by None e = no_some e
        by (Some a) e = ap (intent l (requests_of d n) n) (some_is e)

    both_found : (a : Activity) → IsAt c n a → (o p : Option Activity) → find name_cmp n c.activities ≡ o → find name_cmp n d.activities ≡ p → MayBoth (ActivitiesAgree k l) o p → (b : Activity) × IsAt d n b × ActivitiesAgree k l a b
    both_found a at _ _ is is' neither = no_some (sym is ∙ at)
    both_found a at _ _ is is' (both {x = x} {y = b} r) = (b, is', subst (λ z. ActivitiesAgree k l z b) (some_is (sym is ∙ at)) r)

    pub follows : (e' : Effect) × (intent_in d n ≡ Acts e') × EffectsAgree k l e e'
    follows =
        let a = acting c n e intends in
        let b = both_found a.0 a.1 _ _ refl refl (g.activities n) in
        let x = acts_too _ _ a.2 (both_intent a.0 b.0 a.1 b.1 b.2) in
        (x.0, intended b.0 b.1 ∙ x.1, x.2)

  status_same : (p q : Intent) → IntentsAgree k l p q → status_of_intent p ≡ status_of_intent q
  status_same _ _ (both_act x) = refl
  status_same _ _ (both_rest status) = refl

  abbrev intent_or : (FutureShape → Chase) → List RequestShape → Option Activity → Intent
  intent_or h rs o = elim o [ None ↦ Rests Done | Some a ↦ intent h rs n a ]

  statuses_by : (o p : Option Activity) → find name_cmp n c.activities ≡ o → find name_cmp n d.activities ≡ p → MayBoth (ActivitiesAgree k l) o p → status_of_intent (intent_or k (requests_of c n) o) ≡ status_of_intent (intent_or l (requests_of d n) p)
  statuses_by _ _ e e' neither = refl
  statuses_by _ _ e e' (both {x = a} {y = b} x) = status_same _ _ (both_intent a b e e' x)

  pub statuses_alike : status_of c n ≡ status_of d n
  statuses_alike = statuses_by _ _ refl refl (g.activities n)

  -- who may send in the one may send in the other
  may_too : (lists : Option ListsShape) (o : Option (Name × ReceptionShape)) → may_log lists c o ≡ may_log lists d o
  may_too lists None = refl
  may_too lists (Some x) = λ i. there x.0 i && next lists i
    where
      is_there_too : (o p : Option Activity) → MayBoth (ActivitiesAgree k l) o p → is_some o ≡ is_some p
      is_there_too _ _ neither = refl
      is_there_too _ _ (both x) = refl

      there : (m : Name) → is_some (find name_cmp m c.activities) ≡ is_some (find name_cmp m d.activities)
      there m = is_there_too _ _ (g.activities m)

      next : (lists : Option ListsShape) → is_next lists c x.0 x.1 ≡ is_next lists d x.0 x.1
      next None = refl
      next (Some ls) = ap (λ ys. is_reception x.1 (reception_at (or_none (find name_cmp x.0 ls)) (length ys))) (g.logs x.0)

  module _ (e e' : Effect) (intends : intent_in c n ≡ Acts e) (intends' : intent_in d n ≡ Acts e') (x : EffectsAgree k l e e') where
    abbrev c1 : Configuration
    c1 = with_effect n e c

    abbrev d1 : Configuration
    d1 = with_effect n e' d

    closed : IsClosed c1
    closed = closed_after c n e fc.closed (effect_closed c n e fc.closed intends)

    closed' : IsClosed d1
    closed' = closed_after d n e' fd.closed (effect_closed d n e' fd.closed intends')

    under : AgreeUnder k l c1 d1
    under = effects_under k l c d n e e' x (agrees_under c d g)

    -- nothing is filled
    unfilled_result : e.filled ≡ None → e'.filled ≡ None → Agrees c1 d1
    unfilled_result is is' = under_agrees c1 d1
        (subst (λ vs. AgreeUnder (chase vs) (chase d1.futures) c1 d1) (sym (ap (λ o. put_some future_cmp o c.futures) is))
        (subst (λ vs. AgreeUnder k (chase vs) c1 d1) (sym (ap (λ o. put_some future_cmp o d.futures) is')) under))

    -- ENDSERVICE
    filled_result : (f : FutureShape) (v w : ParcelShape) → e.filled ≡ Some (f, v) → e'.filled ≡ Some (f, w) → ParcelsAgree k l v w → Agrees c1 d1
    filled_result f v w is is' r =
        let p : c1.futures ≡ put future_cmp f v c.futures = ap (λ o. put_some future_cmp o c.futures) is in
        let q : d1.futures ≡ put future_cmp f w d.futures = ap (λ o. put_some future_cmp o d.futures) is' in
        let hv = (effect_closed c n e fc.closed intends).filled (f, v) is in
        let hw = (effect_closed d n e' fd.closed intends').filled (f, w) is' in
        let values : ValuesClosed (put future_cmp f v c.futures) = subst ValuesClosed p closed.values in
        let values' : ValuesClosed (put future_cmp f w d.futures) = subst ValuesClosed q closed'.values in
        under_agrees c1 d1
        (subst (λ vs. AgreeUnder (chase vs) (chase d1.futures) c1 d1) (sym p)
        (subst (λ vs. AgreeUnder (chase (put future_cmp f v c.futures)) (chase vs) c1 d1) (sym q)
        (under_reread c1 d1 k l (chase (put future_cmp f v c.futures)) (chase (put future_cmp f w d.futures)) closed closed'
        (filled_alike c.futures d.futures fc.ordered.futures fd.ordered.futures fc.closed.values fd.closed.values g.values f (fc.unfilled n e (f, v) intends is) (fd.unfilled n e' (f, w) intends' is') v w hv hw r values values') under)))

    result_by : (o p : Option (FutureShape × ParcelShape)) → e.filled ≡ o → e'.filled ≡ p → MayBoth {A = FutureShape × ParcelShape} {B = FutureShape × ParcelShape} (λ x y. (x.0 ≡ y.0) × ParcelsAgree k l x.1 y.1) o p → Agrees c1 d1
    result_by _ _ is is' neither = unfilled_result is is'
    result_by _ _ is is' (both {x = y} {y = z} r) = filled_result y.0 y.1 z.1 is (is' ∙ ap (λ f. Some (f, z.1)) (sym r.0)) r.1

  -- the results agree
  results : (e e' : Effect) → intent_in c n ≡ Acts e → intent_in d n ≡ Acts e' → EffectsAgree k l e e' → Agrees (with_effect n e c) (with_effect n e' d)
  results e e' intends intends' x = result_by e e' intends intends' x _ _ refl refl x.filled

  steps_too : (lists : Option ListsShape) (e : Effect) → Takes lists c n e → (d' : Configuration) × (step lists d n ≡ Some d') × Agrees (with_effect n e c) d'
  steps_too lists e t =
      let f = follows e t.intends in
      (with_effect n f.0 d, takes_step lists d n f.0 (record { intends = f.1; may = sym (may_too lists e.logged ∙ ap (may_log lists d) f.2.logged) ∙ t.may }), results e f.0 t.intends f.1 f.2)

pub second_law : SecondFit
second_law c d c' lists n fc fd g is =
    let x = step_taken lists c n c' is in
    let y = steps_too c d fc fd g n lists x.0 x.1 in
    (y.0, y.1, subst (λ z. Agrees z y.0) x.2 y.2)

pub statuses_agree : StatusesFit
statuses_agree c d fc fd g n = statuses_alike c d fc fd g n
