-- Entries in different logs by classes commute, but for the order between classes.
use Rattle.std.specs.Prelude.{◌≡◌, ◌≢◌, ◌<◌, ◌&&◌, ◌==◌, ℕ, true, false, T, List, [], ◌∷◌, ◌++◌, Option, Some, None, length, is_some}
use Rattle.std.proofs.Common.{refl, sym, ap, subst, ◌∙◌, arith, inl, inr, ⊎_elim, ◌⊎◌, length-append, append_assoc}
use Rattle.std.proofs.lemmas.Bool.{and_parts, eqb-true}
use Rattle.std.proofs.lemmas.List.{append-nil}
use Rattle.std.specs.FinMap.{find, put, is_sorted}
use Rattle.std.specs.FinMap.Entries.{is_sorted-put}
use Rattle.asp_model.specs.Names.{Name, FutureShape, Text, name_cmp, future_cmp}
use Rattle.asp_model.specs.Parcel.{has_place, ParcelShape}
use Rattle.asp_model.specs.Chase.{Chase, chase}
use Rattle.asp_model.specs.Configuration.{RequestShape, ReceptionShape, Poll, Activity, Configuration, or_none, requests_of}
use Rattle.asp_model.specs.Intent.{Effect, Intent, Acts, Rests, intent}
use Rattle.asp_model.specs.Step.{intent_in, with_effect, with_last, put_some, may_log}
use Rattle.law_steps.specs.Steps.{IsPoll}
use Rattle.law_steps.specs.Waking.{labels_wanted}
use Rattle.law_chases.proofs.FutureLemmas.{future_total, future_same, no_some}
use Rattle.law_chases.proofs.MapLemmas as Maps
use Rattle.law_steps.proofs.NameLemmas.{name_total, name_same, name_case}
use Rattle.law_steps.proofs.PersistLemmas.{GoesOn, intent_on}
use Rattle.law_steps.proofs.OrderLemmas.{IsNew, KeysApart, own_kept, swap_some}
use Rattle.law_steps.proofs.StepLemmas.{Takes}
use Rattle.law_steps.proofs.FactLemmas.{Face, face, face_of, Holding, as_before, serving, ending, IsLogged, no_acts, acts_is, acts_facts}
use Rattle.law_steps.proofs.SoundLemmas.{Sound, Took, at_name, at_below, own_after, other_after}
use Rattle.law_steps.proofs.KeptLemmas.{fresh, made_apart, filled_apart}
use Rattle.law_steps.proofs.ExactLemmas.{here_after}
use Rattle.law_steps.proofs.CommuteLemmas.{took, acts_after, acts_still, intended_is, values_kept}
use Rattle.law_steps.proofs.LinkedLemmas.{acting}
use Rattle.law_services.specs.Correct.{bare_of}
use Rattle.law_classes.specs.Alike.{in_class, waiting, AreSameBoxes, served_of, served_at, AreAlike, asked_of, asked_at, class_of, AreOneClass, AsksInClass}
use Rattle.law_classes.specs.Runs.{entered, entry_of}
use Rattle.law_classes.proofs.BoxLemmas.{OneClass, AreBelow, class_more, waits_more, first_kept}
use Rattle.law_classes.proofs.IntentLemmas.{asked, AreServed, none, one, AreAlikeEffects, AreAlikeIntents, intents_alike}
use Rattle.law_classes.proofs.AlikeLemmas.{served_face, sent_to, target_box, other_box, same_boxes}
use Rattle.law_classes.proofs.EntryLemmas.{EntriesApart, entries_back, ClassApart, class_apart, poll_apart}

-- Activities and futures, as where no two send to one

key_apart : (n : Name) (o : Option (Name × Activity)) (a : Activity) (es : List (Name × Activity)) → is_some (find name_cmp n es) ≡ true → IsNew name_cmp o es → KeysApart (Some (n, a)) o
key_apart n None a es is new = tt
key_apart n (Some x) a es is new = λ e. subst T (sym is ∙ ap (λ k. is_some (find name_cmp k es)) e ∙ ap is_some new) tt

swap_acts : (n m : Name) (a b : Activity) (o p : Option (Name × Activity)) (es : List (Name × Activity)) → T (is_sorted name_cmp es) → n ≢ m → KeysApart (Some (n, a)) p → KeysApart (Some (m, b)) o → KeysApart o p → put_some name_cmp o (put name_cmp n a (put_some name_cmp p (put name_cmp m b es))) ≡ put_some name_cmp p (put name_cmp m b (put_some name_cmp o (put name_cmp n a es)))
swap_acts n m a b o p es h apart np mo op =
    let sm = is_sorted-put name_cmp name_total m b es h in
    let sn = is_sorted-put name_cmp name_total n a es h in
    ap (put_some name_cmp o) (swap_some name_cmp name_total name_same (Some (n, a)) p (put name_cmp m b es) sm np)
    ∙ swap_some name_cmp name_total name_same o p (put name_cmp n a (put name_cmp m b es)) (is_sorted-put name_cmp name_total n a _ sm) op
    ∙ ap (λ x. put_some name_cmp p (put_some name_cmp o x)) (Maps.put_put name_cmp name_total name_same n m a b es h apart)
    ∙ ap (put_some name_cmp p) (sym (swap_some name_cmp name_total name_same (Some (m, b)) o (put name_cmp n a es) sn mo))

-- What was served stood there before

has_more : (k j : ℕ) (js : List ℕ) → has_place k (j ∷ js) ≡ true → (k ≡ j) ⊎ (has_place k js ≡ true)
has_more k j js h = elim (k == j) as (λ b. (k == j) ≡ b → elim b [ true ↦ true | false ↦ has_place k js ] ≡ true → (k ≡ j) ⊎ (has_place k js ≡ true)) [ true ↦ λ p h. inl (eqb-true k j p) | false ↦ λ p h. inr h ] refl h

held_below : (c : Configuration) (n : Name) (s : Sound c) (y : Face) (o : Option (FutureShape × ParcelShape)) → Holding (requests_of c n) (at_name c n) y o → AreBelow y.served (length (requests_of c n))
held_below c n s y o (as_before nothing same hold) k h = s.served n k (subst (λ l. has_place k l ≡ true) same h)
held_below c n s y o (serving j r nothing st new same hold) k h = ⊎_elim
    (λ p. subst (λ i. i < length (requests_of c n)) (sym p) (at_below (requests_of c n) j r st))
    (s.served n k)
    (has_more k j (at_name c n).served (subst (λ l. has_place k l ≡ true) same h))
held_below c n s y o (ending p is same hold) k h = s.served n k (subst (λ l. has_place k l ≡ true) same h)

below_after : (c : Configuration) (n : Name) (e : Effect) → Took c n e → (q : Name) → AreBelow (at_name (with_effect n e c) q).served (length (requests_of c q))
below_after c n e t q = ⊎_elim
    (λ p. subst (λ k. AreBelow (at_name (with_effect n e c) k).served (length (requests_of c k))) (sym p) (subst (λ f. AreBelow f.served (length (requests_of c n))) (sym (own_after c n e t)) (held_below c n t.sound (face_of e.own) e.filled t.facts.holding)))
    (λ apart. subst (λ f. AreBelow f.served (length (requests_of c q))) (sym (other_after c n q e t apart)) (t.sound.served q))
    (name_case q n)

-- Two requests more, in either order

pair_class : (K : Text → ℕ) (κ : ℕ) (r q : RequestShape) → (K r.label ≡ K q.label → ⊥) → in_class K κ (r ∷ []) ++ in_class K κ (q ∷ []) ≡ in_class K κ (q ∷ []) ++ in_class K κ (r ∷ [])
pair_class K κ r q apart = elim (K r.label == κ) as (λ b. (K r.label == κ) ≡ b → elim b [ true ↦ r ∷ [] | false ↦ [] ] ++ in_class K κ (q ∷ []) ≡ in_class K κ (q ∷ []) ++ elim b [ true ↦ r ∷ [] | false ↦ [] ]) [
  | true ↦ λ e. elim (K q.label == κ) as (λ b. (K q.label == κ) ≡ b → (r ∷ []) ++ elim b [ true ↦ q ∷ [] | false ↦ [] ] ≡ elim b [ true ↦ q ∷ [] | false ↦ [] ] ++ r ∷ []) [
    | true ↦ λ f. absurd (apart (eqb-true (K r.label) κ e ∙ sym (eqb-true (K q.label) κ f)))
    | false ↦ λ f. refl
  ] refl
  | false ↦ λ e. sym (append-nil (in_class K κ (q ∷ [])))
] refl

two_more : (K : Text → ℕ) (κ : ℕ) (rs : List RequestShape) (r q : RequestShape) → (K r.label ≡ K q.label → ⊥) → in_class K κ ((rs ++ r ∷ []) ++ q ∷ []) ≡ in_class K κ ((rs ++ q ∷ []) ++ r ∷ [])
two_more K κ rs r q apart =
    let is : (u v : RequestShape) → in_class K κ ((rs ++ u ∷ []) ++ v ∷ []) ≡ in_class K κ rs ++ (in_class K κ (u ∷ []) ++ in_class K κ (v ∷ [])) = λ u v.
    class_more K κ (rs ++ u ∷ []) v ∙ ap (λ l. l ++ in_class K κ (v ∷ [])) (class_more K κ rs u) ∙ append_assoc (in_class K κ rs) (in_class K κ (u ∷ [])) (in_class K κ (v ∷ [])) in
    is r q ∙ ap (λ l. in_class K κ rs ++ l) (pair_class K κ r q apart) ∙ sym (is q r)

two_wait : (s : List ℕ) (rs : List RequestShape) (r q : RequestShape) → AreBelow s (length rs) → waiting s 0 ((rs ++ r ∷ []) ++ q ∷ []) ≡ (waiting s 0 rs ++ r ∷ []) ++ q ∷ []
two_wait s rs r q below =
    waits_more s 0 (rs ++ r ∷ []) q (λ k h. omega (arith, below k h, length-append rs (r ∷ [])))
    ∙ ap (λ l. l ++ q ∷ []) (waits_more s 0 rs r (λ k h. omega (arith, below k h)))

boxes_swap : (K : Text → ℕ) (rs : List RequestShape) (s : List ℕ) (r q : RequestShape) → AreBelow s (length rs) → (K r.label ≡ K q.label → ⊥) → AreSameBoxes K ((rs ++ r ∷ []) ++ q ∷ []) s ((rs ++ q ∷ []) ++ r ∷ []) s
boxes_swap K rs s r q below apart = record {
  received = λ κ. two_more K κ rs r q apart;
  waits = λ κ. ap (in_class K κ) (two_wait s rs r q below) ∙ two_more K κ (waiting s 0 rs) r q apart ∙ sym (ap (in_class K κ) (two_wait s rs q r below));
}

same_box : (K : Text → ℕ) (rs qs : List RequestShape) (s : List ℕ) → rs ≡ qs → AreSameBoxes K rs s qs s
same_box K rs qs s p = record { received = λ κ. ap (in_class K κ) p; waits = λ κ. ap (λ l. in_class K κ (waiting s 0 l)) p }

abbrev sent_twice : Option (Name × RequestShape) → Option (Name × RequestShape) → Configuration → Name → List RequestShape
sent_twice o p c q = or_none (find name_cmp q (with_last o (with_last p c.received)))

again_box : (x : Name × RequestShape) (p : Option (Name × RequestShape)) (c : Configuration) → sent_twice (Some x) p c x.0 ≡ sent_to p c x.0 ++ x.1 ∷ []
again_box x p c = ap or_none (Maps.find_same name_cmp name_total name_same x.0 (sent_to p c x.0 ++ x.1 ∷ []) (with_last p c.received))

again_other : (x : Name × RequestShape) (p : Option (Name × RequestShape)) (c : Configuration) (q : Name) → q ≢ x.0 → sent_twice (Some x) p c q ≡ sent_to p c q
again_other x p c q apart = ap or_none (Maps.find_other name_cmp name_total name_same q x.0 (sent_to p c x.0 ++ x.1 ∷ []) (with_last p c.received) apart)

boxes_twice : (K : Text → ℕ) (o p : Option (Name × RequestShape)) (c : Configuration) (q : Name) (s : List ℕ) → AreBelow s (length (requests_of c q)) → ClassApart K o p → AreSameBoxes K (sent_twice p o c q) s (sent_twice o p c q) s
boxes_twice K None p c q s below apart = same_box K (sent_twice p None c q) (sent_twice None p c q) s (plain p)
  where
    plain : (p : Option (Name × RequestShape)) → sent_twice p None c q ≡ sent_to p c q
    plain None = refl
    plain (Some y) = refl
boxes_twice K (Some x) None c q s below apart = same_box K (sent_to (Some x) c q) (sent_twice (Some x) None c q) s refl
boxes_twice K (Some x) (Some y) c q s below apart = ⊎_elim
    (λ u. ⊎_elim (λ v. both u v) (λ v. same_box K _ _ s (again_other y (Some x) c q v ∙ sym (ends u v))) (name_case q y.0))
    (λ u. same_box K _ _ s (⊎_elim (λ v. first u v) (λ v. again_other y (Some x) c q v ∙ other_box x c q u ∙ sym (again_other x (Some y) c q u ∙ other_box y c q v)) (name_case q y.0)))
    (name_case q x.0)
  where
    at_x : q ≡ x.0 → (p : Option (Name × RequestShape)) → sent_twice (Some x) p c q ≡ sent_to p c q ++ x.1 ∷ []
    at_x u p = ap (sent_twice (Some x) p c) u ∙ again_box x p c ∙ ap (λ k. sent_to p c k ++ x.1 ∷ []) (sym u)

    at_y : q ≡ y.0 → (p : Option (Name × RequestShape)) → sent_twice (Some y) p c q ≡ sent_to p c q ++ y.1 ∷ []
    at_y v p = ap (sent_twice (Some y) p c) v ∙ again_box y p c ∙ ap (λ k. sent_to p c k ++ y.1 ∷ []) (sym v)

    one_x : q ≡ x.0 → sent_to (Some x) c q ≡ requests_of c q ++ x.1 ∷ []
    one_x u = ap (sent_to (Some x) c) u ∙ target_box x c ∙ ap (λ k. requests_of c k ++ x.1 ∷ []) (sym u)

    one_y : q ≡ y.0 → sent_to (Some y) c q ≡ requests_of c q ++ y.1 ∷ []
    one_y v = ap (sent_to (Some y) c) v ∙ target_box y c ∙ ap (λ k. requests_of c k ++ y.1 ∷ []) (sym v)

    ends : q ≡ x.0 → q ≢ y.0 → sent_twice (Some x) (Some y) c q ≡ sent_to (Some x) c q
    ends u v = at_x u (Some y) ∙ ap (λ l. l ++ x.1 ∷ []) (other_box y c q v) ∙ sym (one_x u)

    first : q ≢ x.0 → q ≡ y.0 → sent_twice (Some y) (Some x) c q ≡ sent_twice (Some x) (Some y) c q
    first u v = at_y v (Some x) ∙ ap (λ l. l ++ y.1 ∷ []) (other_box x c q u) ∙ sym (again_other x (Some y) c q u ∙ one_y v)

    both : q ≡ x.0 → q ≡ y.0 → AreSameBoxes K (sent_twice (Some y) (Some x) c q) s (sent_twice (Some x) (Some y) c q) s
    both u v = subst (λ l. AreSameBoxes K l s (sent_twice (Some x) (Some y) c q) s) (sym (at_y v (Some x) ∙ ap (λ l. l ++ y.1 ∷ []) (one_x u)))
        (subst (λ l. AreSameBoxes K ((requests_of c q ++ x.1 ∷ []) ++ y.1 ∷ []) s l s) (sym (at_x u (Some y) ∙ ap (λ l. l ++ x.1 ∷ []) (one_y v)))
        (boxes_swap K (requests_of c q) s x.1 y.1 below (apart (sym u ∙ v))))

-- What is asked for

pub asked_kept : (c : Configuration) (n m : Name) (e : Effect) → n ≢ m → Took c m e → is_some (find name_cmp n c.activities) ≡ true → asked_at (with_effect m e c) n ≡ asked_at c n
asked_kept c n m e apart t there = ap asked_of (own_kept c n m e apart (fresh c m e t) there)

-- A poll, where another class has one request more

alike_acts : (chases : FutureShape → Chase) (rs : List RequestShape) (t : List ℕ) (qs : List RequestShape) (n : Name) (a : Activity) (p q : Intent) (e : Effect) → p ≡ Acts e → AreAlikeIntents chases rs t qs n a p q → (f : Effect) × (q ≡ Acts f) × AreAlikeEffects a rs t qs e f
alike_acts chases rs t qs n a (Acts g) (Acts f) e is x = (f, refl, subst (λ h. AreAlikeEffects a rs t qs h f) (acts_is is) x)
alike_acts chases rs t qs n a (Acts g) (Rests s) e is x = absurd x
alike_acts chases rs t qs n a (Rests s) q e is x = no_acts is

same_served : (a : Activity) (rs qs : List RequestShape) (e f : Effect) (n : Name) → e.logged ≡ Some (n, Poll) → AreServed a rs a.served qs e f → e.own.served ≡ f.own.served
same_served a rs qs e f n poll (none p q) = p ∙ sym q
same_served a rs qs e f n poll (one x y m w p q sent logged) = no_some (sym logged ∙ poll)

same_effect : (a : Activity) (rs qs : List RequestShape) (e f : Effect) (n : Name) → e.logged ≡ Some (n, Poll) → AreAlikeEffects a rs a.served qs e f → e ≡ f
same_effect a rs qs e f n poll x =
    let s = same_served a rs qs e f n poll x.served in
    λ i. record { own = record (x.own i) { served = s i }; sent = x.sent i; logged = x.logged i; made = x.made i; filled = x.filled i }

-- futures that are filled change no intent that acts
filled_still : (c : Configuration) (m : Name) (d : Effect) → (t : Took c m d) → (rs : List RequestShape) (n : Name) (a : Activity) (e : Effect) → intent (chase c.futures) rs n a ≡ Acts e → intent (chase (with_effect m d c).futures) rs n a ≡ Acts e
filled_still c m d t rs n a e acts =
    let g = chase (with_effect m d c).futures in
    let holds : FutureShape → FutureShape → Type 0 = λ h k. Unit {0} in
    let on = subst (λ p. GoesOn (chase c.futures) g (values_kept c m d t) holds rs [] n a (labels_wanted a) p (intent g (rs ++ []) n a)) acts (intent_on (chase c.futures) g (values_kept c m d t) holds rs [] n a) in
    ap (λ l. intent g l n a) (sym (append-nil rs)) ∙ ⊎_elim (λ p. p) (λ y. absurd (y.4 refl)) on

poll_still : (K : Text → ℕ) (c : Configuration) (n m : Name) (e d : Effect) (z : Name × RequestShape) → n ≢ m → Took c m d → d.sent ≡ Some z → n ≡ z.0 → intent_in c n ≡ Acts e → IsPoll n e → AsksInClass K c n → (class_of K (asked_at c n) ≡ K z.1.label → ⊥) → intent_in (with_effect m d c) n ≡ Acts e
poll_still K c n m e d z apart t sent here intends poll asks class =
    let a = acting c n e intends in
    let rs = requests_of c n in
    let g = chase (with_effect m d c).futures in
    let ls = asked a.0 in
    let one : OneClass K (class_of K ls) ls = subst (λ o. AreOneClass K (asked_of o)) a.1 asks in
    let away : K z.1.label ≡ class_of K ls → ⊥ = λ p. class (ap (λ o. class_of K (asked_of o)) a.1 ∙ sym p) in
    let below : AreBelow a.0.served (length rs) = λ k h. t.sound.served n k (subst (λ l. has_place k l ≡ true) (sym (ap (λ o. (face o).served) a.1)) h) in
    let now = filled_still c m d t rs n a.0 e a.2 in
    let x = alike_acts g rs a.0.served (rs ++ z.1 ∷ []) n a.0 (intent g rs n a.0) (intent g (rs ++ z.1 ∷ []) n a.0) e now (intents_alike g rs a.0.served (rs ++ z.1 ∷ []) n a.0 (first_kept K (class_of K ls) ls rs a.0.served z.1 one below away)) in
    let own : find name_cmp n (with_effect m d c).activities ≡ Some a.0 = own_kept c n m d apart (fresh c m d t) (ap is_some a.1) ∙ a.1 in
    let box : requests_of (with_effect m d c) n ≡ rs ++ z.1 ∷ [] = ap (λ o. sent_to o c n) sent ∙ ap (sent_to (Some z) c) here ∙ target_box z c ∙ ap (λ k. requests_of c k ++ z.1 ∷ []) (sym here) in
    intended_is (with_effect m d c) n a.0 own ∙ ap (λ l. intent g l n a.0) box ∙ x.1 ∙ ap Acts (sym (same_effect a.0 rs (rs ++ z.1 ∷ []) e x.0 n poll x.2))

-- Both orders

-- who can step can when another has stepped and entered something elsewhere
pub free_still : (K : Text → ℕ) (c : Configuration) (n m : Name) (e d : Effect) → n ≢ m → Took c m d → IsLogged m d.sent d.logged → Takes None c n e → AsksInClass K c n → EntriesApart (entry_of K c n e) (entry_of K c m d) → Takes None (with_effect m d c) n e
free_still K c n m e d apart t logged x asks entries = record { intends = by_sent d.sent refl; may = kept e.logged x.may }
  where
    kept : (o : Option (Name × ReceptionShape)) → may_log None c o ≡ true → may_log None (with_effect m d c) o ≡ true
    kept None h = refl
    kept (Some z) h = ap (λ b. b && true) (here_after c m d z.0 (and_parts (is_some (find name_cmp z.0 c.activities)) true h).0)

    polled : (z : Name × RequestShape) → d.sent ≡ Some z → n ≡ z.0 → IsPoll n e → intent_in (with_effect m d c) n ≡ Acts e
    polled z is here poll = poll_still K c n m e d z apart t is here x.intends poll asks
        (poll_apart K (asked_at c n) (asked_at c m) n m e.sent z e.logged d.logged poll (acts_facts c n e x.intends).1.logged (subst (λ o. IsLogged m o d.logged) is logged) (subst (λ o. EntriesApart (entry_of K c n e) (entered K (asked_at c m) o d.logged)) is entries) here)

    at_home : (z : Name × RequestShape) → d.sent ≡ Some z → n ≡ z.0 → intent_in (with_effect m d c) n ≡ Acts e
    at_home z is here = ⊎_elim (λ p. p) (λ y. polled z is here y.0) (acts_after c n m e d apart t x.intends)

    by_sent : (o : Option (Name × RequestShape)) → d.sent ≡ o → intent_in (with_effect m d c) n ≡ Acts e
    by_sent None is = acts_still c n m e d apart t (λ poll. ap (λ o. sent_to o c n) is) x.intends
    by_sent (Some z) is = ⊎_elim
        (at_home z is)
        (λ away. acts_still c n m e d apart t (λ poll. ap (λ o. sent_to o c n) is ∙ other_box z c n away) x.intends)
        (name_case n z.0)

module _ (K : Text → ℕ) (c : Configuration) (n m : Name) (e d : Effect) (s : Sound c) (apart : n ≢ m) (x : Takes None c n e) (y : Takes None c m d) (asks : AsksInClass K c m) (entries : EntriesApart (entry_of K c n e) (entry_of K c m d)) where
  abbrev t : Took c n e
  t = took None c n e s x

  abbrev u : Took c m d
  u = took None c m d s y

  classes : ClassApart K e.sent d.sent
  classes = class_apart K (asked_at c n) (asked_at c m) n m e.sent d.sent e.logged d.logged t.facts.logged u.facts.logged entries

  abbrev after_n : Configuration
  after_n = with_effect n e c

  abbrev after_m : Configuration
  after_m = with_effect m d c

  acts : (with_effect m d after_n).activities ≡ (with_effect n e after_m).activities
  acts = sym (swap_acts n m e.own d.own e.made d.made c.activities s.ordered.activities apart (key_apart n d.made e.own c.activities t.there (fresh c m d u).made) (key_apart m e.made d.own c.activities u.there (fresh c n e t).made) (made_apart c n m e d apart t u))

  -- what an activity has served at the end, it has served after one of the two
  below_end : Sound after_n → (q : Name) → AreBelow (served_at (with_effect m d after_n) q) (length (requests_of c q))
  below_end sn q =
      let v : Took after_n m d = took None after_n m d sn (free_still K c m n d e (λ p. apart (sym p)) t t.facts.logged y asks (entries_back (entry_of K c n e) (entry_of K c m d) entries)) in
      subst (λ l. AreBelow l (length (requests_of c q))) (sym (served_face (find name_cmp q (with_effect m d after_n).activities)))
      (⊎_elim
      (λ p. subst (λ k. AreBelow (at_name (with_effect m d after_n) k).served (length (requests_of c k))) (sym p) (subst (λ f. AreBelow f.served (length (requests_of c m))) (sym (own_after after_n m d v)) (held_below c m s (face_of d.own) d.filled u.facts.holding)))
      (λ other. subst (λ f. AreBelow f.served (length (requests_of c q))) (sym (other_after after_n m q d v other)) (below_after c n e t q))
      (name_case q m))

  pub both_alike : Sound after_n → AreAlike K (with_effect m d after_n) (with_effect n e after_m)
  both_alike sn = record {
    activities = λ q. ap (λ es. bare_of (find name_cmp q es)) acts;
    futures = sym (swap_some future_cmp future_total future_same e.filled d.filled c.futures s.ordered.futures (filled_apart c n m e d apart t u));
    boxes = λ q.
        let same : served_at (with_effect m d after_n) q ≡ served_at (with_effect n e after_m) q = ap (λ es. served_of (find name_cmp q es)) acts in
        same_boxes K (requests_of (with_effect m d after_n) q) (requests_of (with_effect n e after_m) q) (served_at (with_effect m d after_n) q) (served_at (with_effect m d after_n) q) (served_at (with_effect n e after_m) q) (served_at (with_effect m d after_n) q) refl (sym same)
        (boxes_twice K e.sent d.sent c q (served_at (with_effect m d after_n) q) (below_end sn q) classes);
  }
