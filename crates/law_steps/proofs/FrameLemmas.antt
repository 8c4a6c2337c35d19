-- What a step leaves of the others.
use Rattle.std.specs.Prelude.{◌≡◌, ◌≢◌, suc, List, [], ◌∷◌, ◌++◌, Option, Some, None, is_some}
use Rattle.std.proofs.Common.{refl, sym, ap, subst, ◌∙◌, inl, inr, ⊎_elim, ◌⊎◌}
use Rattle.std.specs.declared.cmp.Ordering.{Ordering}
use Rattle.std.specs.FinMap.{find, put}
use Rattle.asp_model.specs.Names.{Name, FutureShape, name_cmp, future_cmp, created_name}
use Rattle.asp_model.specs.Parcel.{ParcelShape}
use Rattle.asp_model.specs.Configuration.{RequestShape, Activity, Configuration, or_none, requests_of}
use Rattle.asp_model.specs.Intent.{Acts, Effect}
use Rattle.asp_model.specs.Step.{ListsShape, intent_in, step, put_some, with_last}
use Rattle.law_steps.specs.Reached.{IsAt}
use Rattle.law_steps.specs.Steps.{FillsOne, IsNewTo, ListedIsFree, StepsCount, OthersStay, OneIsMade, RequestsGrow, FuturesFill, IsPoll, IntentsStay, PollsStay, EffectsAreNew}
use Rattle.law_steps.proofs.NameLemmas.{name_total, name_same, name_case, is_there}
use Rattle.law_chases.proofs.FutureLemmas.{no_some}
use Rattle.law_chases.proofs.MapLemmas as Maps
use Rattle.law_steps.proofs.StepLemmas.{step_taken, listed_is_free}
use Rattle.law_steps.proofs.OrderLemmas.{IsNew, own_kept}
use Rattle.law_steps.proofs.FactLemmas.{Face, face, face_of, IsMade, IsSent, acts_facts}
use Rattle.law_steps.proofs.SoundLemmas.{Sound, Took, at_name, made_new, own_by, box_sent}
use Rattle.law_steps.proofs.KeptLemmas.{fresh, not_begun}
use Rattle.law_steps.proofs.CommuteLemmas.{took, acts_after, acts_still}
use Rattle.law_steps.proofs.ReachedLemmas.{reached_sound}

pub listed_steps : ListedIsFree
listed_steps lists c d n h = listed_is_free lists c n d h

pub steps_count : StepsCount
steps_count program c d n s =
    let x = step_taken s.lists c n d s.steps in
    let t = took s.lists c n x.0 (reached_sound program c s.reached) x.1 in
    let a = is_there (find name_cmp n c.activities) t.there in
    (a.0, x.0.own, a.1, ap (λ z. find name_cmp n z.activities) (sym x.2) ∙ own_by n x.0.made x.0.own c.activities t.there (made_new c n x.0 t), t.facts.counted ∙ ap (λ o. suc (face o).reductions) a.1)

pub others_on : (lists : Option ListsShape) (c d : Configuration) (n m : Name) (a : Activity) → Sound c → step lists c n ≡ Some d → m ≢ n → IsAt c m a → IsAt d m a
others_on lists c d n m a sound steps apart is =
    let x = step_taken lists c n d steps in
    let t = took lists c n x.0 sound x.1 in
    ap (λ z. find name_cmp m z.activities) (sym x.2) ∙ own_kept c m n x.0 apart (fresh c n x.0 t) (ap is_some is) ∙ is

pub others_stay : OthersStay
others_stay program c d n m a s apart is = others_on s.lists c d n m a (reached_sound program c s.reached) s.steps apart is

not_new : (c : Configuration) (n m : Name) (own a b : Activity) → find name_cmp n c.activities ≡ Some a → find name_cmp m c.activities ≡ None → find name_cmp m (put name_cmp n own c.activities) ≡ Some b → ⊥
not_new c n m own a b is none there = ⊎_elim
    (λ p. no_some (sym none ∙ ap (λ k. find name_cmp k c.activities) p ∙ is))
    (λ q. no_some (sym none ∙ sym (Maps.find_other name_cmp name_total name_same m n own c.activities q) ∙ there))
    (name_case m n)

made_is : (c : Configuration) (n m : Name) (own a b : Activity) (y : Face) (o : Option (Name × Activity)) → find name_cmp n c.activities ≡ Some a → IsMade n (face_of a) y o → find name_cmp m c.activities ≡ None → find name_cmp m (put_some name_cmp o (put name_cmp n own c.activities)) ≡ Some b → m ≡ created_name n (suc a.creations)
made_is c n m own a b y None is made none there = absurd (not_new c n m own a b is none there)
made_is c n m own a b y (Some z) is made none there = ⊎_elim
    (λ p. p ∙ made.0)
    (λ q. absurd (not_new c n m own a b is none (sym (Maps.find_other name_cmp name_total name_same m z.0 z.1 (put name_cmp n own c.activities) q) ∙ there)))
    (name_case m z.0)

pub one_is_made : OneIsMade
one_is_made program c d n m a b s is none there =
    let x = step_taken s.lists c n d s.steps in
    let t = took s.lists c n x.0 (reached_sound program c s.reached) x.1 in
    made_is c n m x.0.own a b (face_of x.0.own) x.0.made is (subst (λ o. IsMade n (face o) (face_of x.0.own) x.0.made) is t.facts.made) none (ap (λ z. find name_cmp m z.activities) x.2 ∙ there)

grows_by : (c : Configuration) (n m : Name) (o : Option (Name × RequestShape)) → ((z : Name × RequestShape) → o ≡ Some z → z.1.sender ≡ n)
    → (or_none (find name_cmp m (with_last o c.received)) ≡ requests_of c m) ⊎ ((r : RequestShape) × (or_none (find name_cmp m (with_last o c.received)) ≡ requests_of c m ++ r ∷ []) × (r.sender ≡ n))
grows_by c n m None by = inl refl
grows_by c n m (Some z) by = ⊎_elim (λ x. inr (z.1, x.1, by z refl)) (λ x. inl x) (box_sent z c.received m)

pub sender_of : (n : Name) (x y : Face) (o : Option (Name × RequestShape)) → IsSent n x y o → (z : Name × RequestShape) → o ≡ Some z → z.1.sender ≡ n
sender_of n x y o s z p = (subst (IsSent n x y) p s).2

pub requests_grow : RequestsGrow
requests_grow lists c d n m h =
    let x = step_taken lists c n d h in
    let facts = (acts_facts c n x.0 x.1.intends).1 in
    subst (λ z. (requests_of z m ≡ requests_of c m) ⊎ ((r : RequestShape) × (requests_of z m ≡ requests_of c m ++ r ∷ []) × (r.sender ≡ n))) x.2
    (grows_by c n m x.0.sent (sender_of n (at_name c n) (face_of x.0.own) x.0.sent facts.sent))

fills_by : (values : List (FutureShape × ParcelShape)) (o : Option (FutureShape × ParcelShape)) → IsNew future_cmp o values
    → (put_some future_cmp o values ≡ values) ⊎ ((f : FutureShape) × (value : ParcelShape) × (find future_cmp f values ≡ None) × (put_some future_cmp o values ≡ put future_cmp f value values))
fills_by values None new = inl refl
fills_by values (Some z) new = inr (z.0, z.1, new, refl)

pub fills_on : (lists : Option ListsShape) (c d : Configuration) (n : Name) → Sound c → step lists c n ≡ Some d → (d.futures ≡ c.futures) ⊎ FillsOne c d
fills_on lists c d n sound steps =
    let x = step_taken lists c n d steps in
    let t = took lists c n x.0 sound x.1 in
    subst (λ z. (z.futures ≡ c.futures) ⊎ ((f : FutureShape) × (value : ParcelShape) × (find future_cmp f c.futures ≡ None) × (z.futures ≡ put future_cmp f value c.futures))) x.2
    (fills_by c.futures x.0.filled (fresh c n x.0 t).filled)

pub futures_fill : FuturesFill
futures_fill program c d n s = fills_on s.lists c d n (reached_sound program c s.reached) s.steps

pub intents_on : (lists : Option ListsShape) (c d : Configuration) (n m : Name) (e : Effect) → Sound c → step lists c n ≡ Some d → m ≢ n → (IsPoll m e → requests_of d m ≡ requests_of c m) → intent_in c m ≡ Acts e → intent_in d m ≡ Acts e
intents_on lists c d n m e sound steps apart quiet intends =
    let x = step_taken lists c n d steps in
    let t = took lists c n x.0 sound x.1 in
    ap (λ z. intent_in z m) (sym x.2) ∙ acts_still c m n e x.0 apart t (λ poll. ap (λ z. requests_of z m) x.2 ∙ quiet poll) intends

pub polls_on : (lists : Option ListsShape) (c d : Configuration) (n m : Name) (e : Effect) → Sound c → step lists c n ≡ Some d → m ≢ n → IsPoll m e → intent_in c m ≡ Acts e → (x : Effect) × (intent_in d m ≡ Acts x) × IsPoll m x
polls_on lists c d n m e sound steps apart poll intends =
    let x = step_taken lists c n d steps in
    let t = took lists c n x.0 sound x.1 in
    ⊎_elim
    (λ p. (e, ap (λ z. intent_in z m) (sym x.2) ∙ p, poll))
    (λ y. (y.1, ap (λ z. intent_in z m) (sym x.2) ∙ y.2, y.3))
    (acts_after c m n e x.0 apart t intends)

pub intends_stay : IntentsStay
intends_stay program c d n m e s apart quiet intends = intents_on s.lists c d n m e (reached_sound program c s.reached) s.steps apart quiet intends

pub polls_stay : PollsStay
polls_stay program c d n m e s apart poll intends = polls_on s.lists c d n m e (reached_sound program c s.reached) s.steps apart poll intends

new_key : {K X : Type 0} (R : K → K → Ordering) (o : Option (K × X)) (es : List (K × X)) → IsNew R o es → (z : K × X) → o ≡ Some z → find R z.0 es ≡ None
new_key R o es new z is = subst (λ o. IsNew R o es) is new

pub effects_on : (c : Configuration) (n : Name) (e : Effect) → Sound c → intent_in c n ≡ Acts e → IsNewTo c e
effects_on c n e sound intends =
    let p = acts_facts c n e intends in
    let t : Took c n e = record { sound = sound; there = p.0; facts = p.1 } in
    let new = fresh c n e t in
    record {
      made = new_key name_cmp e.made c.activities new.made;
      sent = λ z is m k r st. not_begun c n e t z is m k r st;
      filled = new_key future_cmp e.filled c.futures new.filled;
    }

pub effects_are_new : EffectsAreNew
effects_are_new program c n e reached intends = effects_on c n e (reached_sound program c reached) intends
