-- What moves keep of two configurations that differ in what was served alone.
use Rattle.std.specs.Prelude.{◌≡◌, ◌≢◌, ◌⊎◌, ℕ, ◌++◌, ◌&&◌, false, List, [], ◌∷◌, Option, Some, None, is_some, length, map, slice_get}
use Rattle.std.proofs.Common.{refl, sym, ap, subst, ◌∙◌, arith, inl, inr, ⊎_elim}
use Rattle.std.proofs.lemmas.Bool.{false_from_ne_true}
use Rattle.std.specs.declared.cmp.Ordering.{Ordering}
use Rattle.std.specs.declared.cmp.Ordering.TheVariants.{Less, Equal, Greater}
use Rattle.std.specs.FinMap.{find, put}
use Rattle.std.specs.FinMap.Entries.{by_order}
use Rattle.asp_model.specs.Names.{Name, FutureShape, name_cmp, future_cmp}
use Rattle.asp_model.specs.Parcel.{ParcelShape, has_place, unpack_at}
use Rattle.asp_model.specs.Store.{Store, cell}
use Rattle.asp_model.specs.Chase.{chase}
use Rattle.asp_model.specs.Configuration.{RequestShape, ReceptionShape, Activity, Configuration, or_none, requests_of, log_of}
use Rattle.asp_model.specs.Intent.{Effect, Intent, Acts, Rests}
use Rattle.asp_model.specs.Step.{ListsShape, intent_in, put_some, with_last, with_effect, is_next, may_log, reception_at, is_reception, step}
use Rattle.def_journals.specs.Deliveries.{with_store, unpack_each, holders_from, at_holders, at_place, value_needed, edge_delivered, need_delivered}
use Rattle.def_journals.specs.Edges.{home_of, homes_in}
use Rattle.law_chases.proofs.FutureLemmas.{no_some, some_is}
use Rattle.law_chases.proofs.MapLemmas as Maps
use Rattle.law_steps.specs.Reached.{Steps, Edges, Needs}
use Rattle.law_steps.specs.Sound.{IsSound}
use Rattle.law_steps.proofs.NameLemmas.{name_total, name_same, name_case}
use Rattle.law_steps.proofs.ListLemmas.{with_name, find_mapped}
use Rattle.law_steps.proofs.FactLemmas.{face}
use Rattle.law_steps.proofs.SoundLemmas.{Took, IsLast, own_after, other_after, came, stays}
use Rattle.law_steps.proofs.StepLemmas.{Takes, step_taken, takes_step}
use Rattle.law_steps.proofs.CommuteLemmas.{took}
use Rattle.law_steps.proofs.DeliveryLemmas.{edge_done}
use Rattle.law_steps.proofs.WholeLemmas.{moves_keep_sound, right_of}
use Rattle.law_journals.specs.Runs.{IsHome}
use Rattle.law_journals.proofs.RunLemmas.{first_holders_are}
use Rattle.law_services.specs.Correct.{bare, bare_of}
use Rattle.law_frozen.specs.Pending.{waiting}
use Rattle.law_frozen.specs.Same.{SamePending, SameIsEquivalence, MovesKeepSame, served_by, queue_of, bare_entry}
use Rattle.law_frozen.proofs.PendingLemmas.{waits_last}
use Rattle.law_frozen.proofs.IntentLemmas.{SameEffects, SameIntents, intents_in_same}

-- Activities

named_bare : (q : Name) (o : Option Activity) → with_name (λ x. bare x.1) q o ≡ bare_of o
named_bare q None = refl
named_bare q (Some a) = refl

pub found_bare : (q : Name) (es : List (Name × Activity)) → find name_cmp q (map bare_entry es) ≡ bare_of (find name_cmp q es)
found_bare q es = find_mapped (λ x. bare x.1) q es ∙ named_bare q (find name_cmp q es)

pub bare_put : (k : Name) (a : Activity) (es : List (Name × Activity)) → map bare_entry (put name_cmp k a es) ≡ put name_cmp k (bare a) (map bare_entry es)
bare_put k a [] = refl
bare_put k a (e ∷ es) = by (name_cmp k e.0) (bare_put k a es)
  where
    by : (o : Ordering) → map bare_entry (put name_cmp k a es) ≡ put name_cmp k (bare a) (map bare_entry es)
        → map bare_entry (by_order o ((k, a) ∷ e ∷ es) ((e.0, a) ∷ es) (e ∷ put name_cmp k a es))
        ≡ by_order o ((k, bare a) ∷ bare_entry e ∷ map bare_entry es) ((e.0, bare a) ∷ map bare_entry es) (bare_entry e ∷ put name_cmp k (bare a) (map bare_entry es))
    by Less next = refl
    by Equal next = refl
    by Greater next = ap (λ l. bare_entry e ∷ l) next

abbrev bare_made : Option (Name × Activity) → Option (Name × Activity)
bare_made None = None
bare_made (Some z) = Some (bare_entry z)

bare_put_some : (o : Option (Name × Activity)) (es : List (Name × Activity)) → map bare_entry (put_some name_cmp o es) ≡ put_some name_cmp (bare_made o) (map bare_entry es)
bare_put_some None es = refl
bare_put_some (Some z) es = bare_put z.0 z.1 es

bare_after : (n : Name) (e : Effect) (c : Configuration) → map bare_entry (with_effect n e c).activities ≡ put_some name_cmp (bare_made e.made) (put name_cmp n (bare e.own) (map bare_entry c.activities))
bare_after n e c = bare_put_some e.made (put name_cmp n e.own c.activities) ∙ ap (put_some name_cmp (bare_made e.made)) (bare_put n e.own c.activities)

served_face : (o : Option Activity) → served_by o ≡ (face o).served
served_face None = refl
served_face (Some a) = refl

-- Boxes

boxes_same : {X : Type 0} (o : Option (Name × X)) (bs cs : List (Name × List X)) → ((m : Name) → or_none (find name_cmp m bs) ≡ or_none (find name_cmp m cs))
    → (m : Name) → or_none (find name_cmp m (with_last o bs)) ≡ or_none (find name_cmp m (with_last o cs))
boxes_same None bs cs h m = h m
boxes_same (Some z) bs cs h m = ⊎_elim
    (λ p. subst (λ k. or_none (find name_cmp k (with_last (Some z) bs)) ≡ or_none (find name_cmp k (with_last (Some z) cs))) (sym p)
    (ap or_none (Maps.find_same name_cmp name_total name_same z.0 (or_none (find name_cmp z.0 bs) ++ z.1 ∷ []) bs)
    ∙ ap (λ l. l ++ z.1 ∷ []) (h z.0)
    ∙ sym (ap or_none (Maps.find_same name_cmp name_total name_same z.0 (or_none (find name_cmp z.0 cs) ++ z.1 ∷ []) cs))))
    (λ a. ap or_none (Maps.find_other name_cmp name_total name_same m z.0 (or_none (find name_cmp z.0 bs) ++ z.1 ∷ []) bs a)
    ∙ h m
    ∙ sym (ap or_none (Maps.find_other name_cmp name_total name_same m z.0 (or_none (find name_cmp z.0 cs) ++ z.1 ∷ []) cs a)))
    (name_case m z.0)

-- Homes

pub some_same : {A : Type 0} (x y : Option A) → ((a : A) → x ≡ Some a → y ≡ Some a) → ((a : A) → y ≡ Some a → x ≡ Some a) → x ≡ y
some_same None None h k = refl
some_same None (Some b) h k = k b refl
some_same (Some a) y h k = sym (h a refl)

pub holders : (c : Configuration) → IsSound c → (f : FutureShape) (m : Name) → IsHome c f m → home_of f (homes_in c) ≡ Some m
holders c s f m h = subst (λ g. home_of g (homes_in c) ≡ Some m) h.3 ((first_holders_are c s).requests m h.0 h.1 h.2)

pub homes_same : (c d : Configuration) → IsSound c → IsSound d → ((f : FutureShape) (m : Name) → IsHome c f m → IsHome d f m) → ((f : FutureShape) (m : Name) → IsHome d f m → IsHome c f m)
    → (f : FutureShape) → home_of f (homes_in c) ≡ home_of f (homes_in d)
homes_same c d s q h k f = some_same _ _
    (λ m p. holders d q f m (h f m ((first_holders_are c s).homes f m p)))
    (λ m p. holders c s f m (k f m ((first_holders_are d q).homes f m p)))

pub home_there : (c d : Configuration) → IsSound c → IsSound d → ((f : FutureShape) → home_of f (homes_in c) ≡ home_of f (homes_in d)) → (f : FutureShape) (m : Name) → IsHome c f m → IsHome d f m
home_there c d s q h f m x = (first_holders_are d q).homes f m (sym (h f) ∙ holders c s f m x)

-- It is an equivalence

pub same_back : (c d : Configuration) → SamePending c d → SamePending d c
same_back c d s = record { activities = sym s.activities; pending = λ n. sym (s.pending n); logs = λ n. sym (s.logs n); futures = sym s.futures; homes = λ f. sym (s.homes f) }

same_on : (c d e : Configuration) → SamePending c d → SamePending d e → SamePending c e
same_on c d e s t = record {
  activities = s.activities ∙ t.activities;
  pending = λ n. s.pending n ∙ t.pending n;
  logs = λ n. s.logs n ∙ t.logs n;
  futures = s.futures ∙ t.futures;
  homes = λ f. s.homes f ∙ t.homes f;
}

pub same_is_equivalence : SameIsEquivalence
same_is_equivalence = (
  λ c. record { activities = refl; pending = λ n. refl; logs = λ n. refl; futures = refl; homes = λ f. refl },
  same_back,
  same_on,
)

pub bare_found : (c d : Configuration) → SamePending c d → (n : Name) → bare_of (find name_cmp n c.activities) ≡ bare_of (find name_cmp n d.activities)
bare_found c d s n = sym (found_bare n c.activities) ∙ ap (find name_cmp n) s.activities ∙ found_bare n d.activities

pub intents_of_same : (c d : Configuration) → SamePending c d → (n : Name)
    → SameIntents (served_by (find name_cmp n c.activities)) (served_by (find name_cmp n d.activities)) (requests_of c n) (requests_of d n) (intent_in c n) (intent_in d n)
intents_of_same c d s n = intents_in_same c d n s.futures (bare_found c d s n) (s.pending n)

-- Steps

last_one : (rs : List RequestShape) (q : RequestShape) → slice_get (rs ++ q ∷ []) (length rs) ≡ Some q
last_one [] q = refl
last_one (x ∷ rs) q = last_one rs q

module _ (c : Configuration) (n : Name) (e : Effect) (t : Took c n e) where
  own_served : served_by (find name_cmp n (with_effect n e c).activities) ≡ e.own.served
  own_served = served_face (find name_cmp n (with_effect n e c).activities) ∙ ap (λ x. x.served) (own_after c n e t)

  other_served : (m : Name) → m ≢ n → served_by (find name_cmp m (with_effect n e c).activities) ≡ served_by (find name_cmp m c.activities)
  other_served m apart = served_face (find name_cmp m (with_effect n e c).activities) ∙ ap (λ x. x.served) (other_after c n m e t apart) ∙ sym (served_face (find name_cmp m c.activities))

  -- who serves nothing has served the same
  all_served : e.own.served ≡ served_by (find name_cmp n c.activities) → (m : Name) → served_by (find name_cmp m (with_effect n e c).activities) ≡ served_by (find name_cmp m c.activities)
  all_served h m = ⊎_elim
      (λ p. subst (λ k. served_by (find name_cmp k (with_effect n e c).activities) ≡ served_by (find name_cmp k c.activities)) (sym p) (own_served ∙ h))
      (other_served m)
      (name_case m n)

  -- a number that nothing has is served by nobody
  none_served : (m : Name) → has_place (length (requests_of c m)) (served_by (find name_cmp m c.activities)) ≡ false
  none_served m = false_from_ne_true _ (λ h. omega (arith, t.sound.served m (length (requests_of c m)) (ap (has_place (length (requests_of c m))) (sym (served_face (find name_cmp m c.activities))) ∙ h)))

  -- a home after a step was one before, or the request was sent
  home_came : (f : FutureShape) (m : Name) → IsHome (with_effect n e c) f m → IsHome c f m ⊎ ((z : Name × RequestShape) × (e.sent ≡ Some z) × (z.0 ≡ m) × (z.1.future ≡ f))
  home_came f m h = ⊎_elim
      (λ old. inl (h.0, h.1, old, h.3))
      (λ (x : IsLast c e.sent m h.0 h.1). inr (x.sent, x.is, x.to, ap (λ r. r.future) (sym x.request) ∙ h.3))
      (came c n e m h.0 h.1 h.2)

  home_stays : (f : FutureShape) (m : Name) → IsHome c f m → IsHome (with_effect n e c) f m
  home_stays f m h = (h.0, h.1, stays c n e m h.0 h.1 h.2, h.3)

  home_sent : (z : Name × RequestShape) → e.sent ≡ Some z → IsHome (with_effect n e c) z.1.future z.0
  home_sent z is =
      let grown : requests_of (with_effect n e c) z.0 ≡ requests_of c z.0 ++ z.1 ∷ [] =
      ap (λ o. or_none (find name_cmp z.0 (with_last o c.received))) is ∙ ap or_none (Maps.find_same name_cmp name_total name_same z.0 (requests_of c z.0 ++ z.1 ∷ []) c.received) in
      (length (requests_of c z.0), z.1, ap (λ rs. slice_get rs (length (requests_of c z.0))) grown ∙ last_one (requests_of c z.0) z.1, refl)

module _ (c d : Configuration) (n : Name) (e x : Effect) (t : Took c n e) (u : Took d n x) (s : SamePending c d)
    (same : SameEffects (served_by (find name_cmp n c.activities)) (served_by (find name_cmp n d.activities)) (requests_of c n) (requests_of d n) e x) where
  abbrev after : Configuration
  after = with_effect n e c

  abbrev after_too : Configuration
  after_too = with_effect n x d

  quiet_pending : e.sent ≡ None → (m : Name) → queue_of after m ≡ queue_of after_too m
  quiet_pending none m =
      let had : requests_of after m ≡ requests_of c m = ap (λ o. or_none (find name_cmp m (with_last o c.received))) none in
      let had_too : requests_of after_too m ≡ requests_of d m = ap (λ o. or_none (find name_cmp m (with_last o d.received))) (sym same.sent ∙ none) in
      ⊎_elim
      (λ p. (λ i. waiting (served_at c e t m p i) (had i)) ∙ subst (λ k. waiting e.own.served (requests_of c k) ≡ waiting x.own.served (requests_of d k)) (sym p) same.waits ∙ sym (λ i. waiting (served_at d x u m p i) (had_too i)))
      (λ a. (λ i. waiting (other_served c n e t m a i) (had i)) ∙ s.pending m ∙ sym (λ i. waiting (other_served d n x u m a i) (had_too i)))
      (name_case m n)
    where
      served_at : (c : Configuration) (e : Effect) (t : Took c n e) (m : Name) → m ≡ n → served_by (find name_cmp m (with_effect n e c).activities) ≡ e.own.served
      served_at c e t m p = subst (λ k. served_by (find name_cmp k (with_effect n e c).activities) ≡ e.own.served) (sym p) (own_served c n e t)

  sent_pending : (z : Name × RequestShape) → e.sent ≡ Some z → e.own.served ≡ served_by (find name_cmp n c.activities) → x.own.served ≡ served_by (find name_cmp n d.activities)
      → (m : Name) → queue_of after m ≡ queue_of after_too m
  sent_pending z is h k m = ⊎_elim
      (λ p. (λ i. waiting (all_served c n e t h m i) (more c e is m p i)) ∙ waits_last _ (requests_of c m) z.1 (none_served c n e t m)
      ∙ ap (λ l. l ++ z.1 ∷ []) (s.pending m)
      ∙ sym ((λ i. waiting (all_served d n x u k m i) (more d x is_too m p i)) ∙ waits_last _ (requests_of d m) z.1 (none_served d n x u m)))
      (λ a. (λ i. waiting (all_served c n e t h m i) (others c e is m a i)) ∙ s.pending m ∙ sym (λ i. waiting (all_served d n x u k m i) (others d x is_too m a i)))
      (name_case m z.0)
    where
      is_too : x.sent ≡ Some z
      is_too = sym same.sent ∙ is

      more : (c : Configuration) (e : Effect) → e.sent ≡ Some z → (m : Name) → m ≡ z.0 → requests_of (with_effect n e c) m ≡ requests_of c m ++ z.1 ∷ []
      more c e is m p = subst (λ k. requests_of (with_effect n e c) k ≡ requests_of c k ++ z.1 ∷ []) (sym p)
          (ap (λ o. or_none (find name_cmp z.0 (with_last o c.received))) is ∙ ap or_none (Maps.find_same name_cmp name_total name_same z.0 (requests_of c z.0 ++ z.1 ∷ []) c.received))

      others : (c : Configuration) (e : Effect) → e.sent ≡ Some z → (m : Name) → m ≢ z.0 → requests_of (with_effect n e c) m ≡ requests_of c m
      others c e is m a = ap (λ o. or_none (find name_cmp m (with_last o c.received))) is ∙ ap or_none (Maps.find_other name_cmp name_total name_same m z.0 (requests_of c z.0 ++ z.1 ∷ []) c.received a)

  pending_after : (m : Name) → queue_of after m ≡ queue_of after_too m
  pending_after m = ⊎_elim (λ none. quiet_pending none m) (λ kept. by e.sent refl kept) same.keeps
    where
      by : (o : Option (Name × RequestShape)) → e.sent ≡ o → (e.own.served ≡ served_by (find name_cmp n c.activities)) × (x.own.served ≡ served_by (find name_cmp n d.activities)) → queue_of after m ≡ queue_of after_too m
      by None is kept = quiet_pending is m
      by (Some z) is kept = sent_pending z is kept.0 kept.1 m

  homes_after : (h : (f : FutureShape) (m : Name) → IsHome c f m → IsHome d f m) → (f : FutureShape) (m : Name) → IsHome after f m → IsHome after_too f m
  homes_after h f m i = ⊎_elim
      (λ old. home_stays d n x u f m (h f m old))
      (λ y. subst (λ g. IsHome after_too g m) y.3 (subst (IsHome after_too y.0.1.future) y.2 (home_sent d n x u y.0 (sym same.sent ∙ y.1))))
      (home_came c n e t f m i)

effects_back : (s t : List ℕ) (rs qs : List RequestShape) (e x : Effect) → SameEffects s t rs qs e x → SameEffects t s qs rs x e
effects_back s t rs qs e x h = record {
  own = sym h.own;
  sent = sym h.sent;
  logged = sym h.logged;
  made = sym h.made;
  filled = sym h.filled;
  waits = sym h.waits;
  keeps = ⊎_elim (λ none. inl (sym h.sent ∙ none)) (λ kept. inr (kept.1, kept.0)) h.keeps;
}

same_after : (c d : Configuration) (n : Name) (e x : Effect) → IsSound c → IsSound d → IsSound (with_effect n e c) → IsSound (with_effect n x d) → Took c n e → Took d n x → SamePending c d
    → SameEffects (served_by (find name_cmp n c.activities)) (served_by (find name_cmp n d.activities)) (requests_of c n) (requests_of d n) e x
    → SamePending (with_effect n e c) (with_effect n x d)
same_after c d n e x sc sd sa sb t u s same = record {
  activities = bare_after n e c ∙ (λ i. put_some name_cmp (bare_made (same.made i)) (put name_cmp n (same.own i) (s.activities i))) ∙ sym (bare_after n x d);
  pending = pending_after c d n e x t u s same;
  logs = λ m. boxes_same e.logged c.logs d.logs s.logs m ∙ ap (λ o. or_none (find name_cmp m (with_last o d.logs))) same.logged;
  futures = (λ i. put_some future_cmp (same.filled i) (s.futures i));
  homes = homes_same (with_effect n e c) (with_effect n x d) sa sb
      (homes_after c d n e x t u s same (home_there c d sc sd s.homes))
      (homes_after d c n x e u t (same_back c d s) (effects_back _ _ _ _ e x same) (home_there d c sd sc (λ f. sym (s.homes f))));
}

pub there_same : (o p : Option Activity) → bare_of o ≡ bare_of p → is_some o ≡ is_some p
there_same None None h = refl
there_same None (Some b) h = no_some h
there_same (Some a) None h = no_some (sym h)
there_same (Some a) (Some b) h = refl

next_same : (lists : Option ListsShape) (c d : Configuration) (m : Name) (x : ReceptionShape) → log_of c m ≡ log_of d m → is_next lists c m x ≡ is_next lists d m x
next_same None c d m x h = refl
next_same (Some lists) c d m x h = ap (λ log. is_reception x (reception_at (or_none (find name_cmp m lists)) (length log))) h

may_same : (lists : Option ListsShape) (c d : Configuration) (o : Option (Name × ReceptionShape)) → SamePending c d → may_log lists c o ≡ may_log lists d o
may_same lists c d None s = refl
may_same lists c d (Some z) s = λ i. there_same _ _ (bare_found c d s z.0) i && next_same lists c d z.0 z.1 (s.logs z.0) i

acts_too : (s t : List ℕ) (rs qs : List RequestShape) (e : Effect) (p : Intent) → SameIntents s t rs qs (Acts e) p → (x : Effect) × (p ≡ Acts x) × SameEffects s t rs qs e x
acts_too s t rs qs e (Acts x) h = (x, refl, h)
acts_too s t rs qs e (Rests status) h = absurd h

steps_same : (lists : Option ListsShape) (n : Name) (c d e : Configuration) → IsSound c → IsSound d → SamePending c d → step lists c n ≡ Some e → (x : Configuration) × (step lists d n ≡ Some x) × SamePending e x
steps_same lists n c d e sc sd s h =
    let y = step_taken lists c n e h in
    let told = subst (λ p. SameIntents (served_by (find name_cmp n c.activities)) (served_by (find name_cmp n d.activities)) (requests_of c n) (requests_of d n) p (intent_in d n)) y.1.intends (intents_of_same c d s n) in
    let z = acts_too (served_by (find name_cmp n c.activities)) (served_by (find name_cmp n d.activities)) (requests_of c n) (requests_of d n) y.0 (intent_in d n) told in
    let takes : Takes lists d n z.0 = record { intends = z.1; may = ap (may_log lists d) (sym z.2.logged) ∙ sym (may_same lists c d y.0.logged s) ∙ y.1.may } in
    let goes : step lists d n ≡ Some (with_effect n z.0 d) = takes_step lists d n z.0 takes in
    let went : step lists c n ≡ Some (with_effect n y.0 c) = takes_step lists c n y.0 y.1 in (
      with_effect n z.0 d,
      goes,
      subst (λ k. SamePending k (with_effect n z.0 d)) y.2
          (same_after c d n y.0 z.0 sc sd (moves_keep_sound (Steps lists n) c _ sc went) (moves_keep_sound (Steps lists n) d _ sd goes)
          (took lists c n y.0 (right_of c sc).sound y.1) (took lists d n z.0 (right_of d sd).sound takes) s z.2),
    )

-- Deliveries

served_stored : (c : Configuration) (to : Name) (a : Activity) (v : Store) (m : Name) → find name_cmp to c.activities ≡ Some a → served_by (find name_cmp m (with_store c to a v).activities) ≡ served_by (find name_cmp m c.activities)
served_stored c to a v m at = ⊎_elim
    (λ p. subst (λ k. served_by (find name_cmp k (with_store c to a v).activities) ≡ served_by (find name_cmp k c.activities)) (sym p)
    (ap served_by (Maps.find_same name_cmp name_total name_same to (record a { store = v }) c.activities) ∙ sym (ap served_by at)))
    (λ apart. ap served_by (Maps.find_other name_cmp name_total name_same m to (record a { store = v }) c.activities apart))
    (name_case m to)

stored_same : (c d : Configuration) (to : Name) (a b : Activity) (v w : Store) → SamePending c d → find name_cmp to c.activities ≡ Some a → find name_cmp to d.activities ≡ Some b → bare a ≡ bare b → v ≡ w
    → SamePending (with_store c to a v) (with_store d to b w)
stored_same c d to a b v w s at at_too alike same = record {
  activities = bare_put to (record a { store = v }) c.activities ∙ (λ i. put name_cmp to (record (alike i) { store = same i }) (s.activities i)) ∙ sym (bare_put to (record b { store = w }) d.activities);
  pending = λ m. ap (λ l. waiting l (requests_of c m)) (served_stored c to a v m at) ∙ s.pending m ∙ sym (ap (λ l. waiting l (requests_of d m)) (served_stored d to b w m at_too));
  logs = s.logs;
  futures = s.futures;
  homes = s.homes;
}

same_there : (o : Option Activity) (a : Activity) → bare_of (Some a) ≡ bare_of o → (b : Activity) × (o ≡ Some b) × (bare a ≡ bare b)
same_there None a h = no_some (sym h)
same_there (Some b) a h = (b, refl, some_is h)

edges_same : (f : FutureShape) (to : Name) (c d e : Configuration) → SamePending c d → edge_delivered c f to ≡ Some e → (x : Configuration) × (edge_delivered d f to ≡ Some x) × SamePending e x
edges_same f to c d e s h =
    let y = edge_done c f to e h in
    let b = same_there (find name_cmp to d.activities) y.receiver (ap bare_of (sym y.at) ∙ bare_found c d s to) in
    let filled : find future_cmp f d.futures ≡ Some y.value = ap (find future_cmp f) (sym s.futures) ∙ y.filled in
    let store : Store = unpack_each b.0.store (holders_from 0 f b.0.store) y.value in (
      with_store d to b.0 store,
      ap (λ o. elim o [ None ↦ None | Some a ↦ at_holders d f to a (find future_cmp f d.futures) ]) b.1 ∙ ap (at_holders d f to b.0) filled,
      subst (λ k. SamePending k (with_store d to b.0 store)) (sym y.result)
          (stored_same c d to y.receiver b.0 _ store s y.at b.1 b.2 (ap (λ a. unpack_each a.store (holders_from 0 f a.store) y.value) b.2)),
    )

abbrev needed_at : FutureShape → ℕ → Configuration → Activity → Option ParcelShape
needed_at f place x a = value_needed (chase x.futures) f (cell a.store place)

needs_same : (f : FutureShape) (to : Name) (place : ℕ) (c d e : Configuration) → SamePending c d → need_delivered c f to place ≡ Some e → (x : Configuration) × (need_delivered d f to place ≡ Some x) × SamePending e x
needs_same f to place c d e s h = by (find name_cmp to c.activities) refl h
  where
    by_value : (a : Activity) → find name_cmp to c.activities ≡ Some a → (o : Option ParcelShape) → needed_at f place c a ≡ o → at_place c to place a o ≡ Some e → (x : Configuration) × (need_delivered d f to place ≡ Some x) × SamePending e x
    by_value a at None is h = no_some h
    by_value a at (Some p) is h =
        let b = same_there (find name_cmp to d.activities) a (ap bare_of (sym at) ∙ bare_found c d s to) in
        let there : needed_at f place d b.0 ≡ Some p = sym (λ i. value_needed (chase (s.futures i)) f (cell (b.2 i).store place)) ∙ is in (
          with_store d to b.0 (unpack_at b.0.store place p),
          ap (λ o. elim o [ None ↦ None | Some a ↦ at_place d to place a (needed_at f place d a) ]) b.1 ∙ ap (at_place d to place b.0) there,
          subst (λ k. SamePending k (with_store d to b.0 (unpack_at b.0.store place p))) (some_is h)
              (stored_same c d to a b.0 _ _ s at b.1 b.2 (ap (λ a. unpack_at a.store place p) b.2)),
        )

    by : (o : Option Activity) → find name_cmp to c.activities ≡ o → elim o [ None ↦ None | Some a ↦ at_place c to place a (needed_at f place c a) ] ≡ Some e → (x : Configuration) × (need_delivered d f to place ≡ Some x) × SamePending e x
    by None at h = no_some h
    by (Some a) at h = by_value a at (needed_at f place c a) refl h

pub moves_keep_same : MovesKeepSame
moves_keep_same (Steps lists n) c d e sc sd s h = steps_same lists n c d e sc sd s h
moves_keep_same (Edges f to) c d e sc sd s h = edges_same f to c d e s h
moves_keep_same (Needs f to place) c d e sc sd s h = needs_same f to place c d e s h
