-- What wakes an activity that rests.
use Rattle.std.specs.Prelude.{◌≡◌, ◌≢◌, ◌&&◌, Bool, true, false, List, [], ◌++◌, Option, Some, None, is_some}
use Rattle.std.proofs.Common.{refl, sym, ap, subst, ◌∙◌}
use Rattle.std.proofs.lemmas.Bool.{and_right}
use Rattle.std.proofs.lemmas.List.{append_cancel_left}
use Rattle.std.specs.FinMap.{find}
use Rattle.asp_model.specs.Names.{Name, FutureShape, name_cmp, future_cmp}
use Rattle.asp_model.specs.Chase.{chase}
use Rattle.asp_model.specs.Parcel.{ParcelShape}
use Rattle.asp_model.specs.Configuration.{RequestShape, Activity, Configuration, requests_of}
use Rattle.asp_model.specs.Intent.{StatusShape, Done, Serving, Running, Awaits, Faulted, Intent, Acts, Rests, Effect, intent}
use Rattle.asp_model.specs.Step.{ListsShape, intent_in, put_some, with_effect, may_log, is_next, step}
use Rattle.asp_model.specs.Status.{status_of_intent, status_of, is_running}
use Rattle.law_steps.specs.Reached.{IsFilled}
use Rattle.law_steps.specs.Waking.{labels_wanted, has_wanted, NoneRestsRunning, DoneStays, FaultStays, ServingStays, AwaitingStays, OthersStayNext, CyclesStay}
use Rattle.law_chases.proofs.FutureLemmas.{none_true, no_some}
use Rattle.law_steps.proofs.StepLemmas.{Takes, step_taken, held_back, holds_back}
use Rattle.law_chases.proofs.ChaseLemmas.{chase_unfilled}
use Rattle.law_chases.proofs.EndLemmas.{chase_cycle}
use Rattle.law_steps.proofs.PersistLemmas.{GoesOn, KeepsLack, KeepsValues, intent_on}
use Rattle.law_steps.proofs.OrderLemmas.{fills_extend, fills_longer}
use Rattle.law_steps.proofs.SoundLemmas.{Sound, Took}
use Rattle.law_steps.proofs.KeptLemmas.{fresh}
use Rattle.law_steps.proofs.CommuteLemmas.{took, intent_beside, values_kept, next_same}
use Rattle.law_steps.proofs.ReachedLemmas.{reached_sound}
use Rattle.law_steps.proofs.FrameLemmas.{intends_stay}

-- an intent with a status other than Running rests
rests : (p : Intent) (status : StatusShape) → is_running status ≡ false → status_of_intent p ≡ status → p ≡ Rests status
rests (Acts e) status not h = none_true (sym (ap is_running h ∙ not))
rests (Rests s) status not h = ap Rests h

-- it is done
abbrev IsDone : Intent → Type 0
IsDone (Rests Done) = Unit {0}
IsDone p = ⊥

never_running : (c : Configuration) (n : Name) (o : Option Activity) → elim o [ None ↦ Rests Done | Some a ↦ intent (chase c.futures) (requests_of c n) n a ] ≡ Rests Running → ⊥
never_running c n None h = subst IsDone h tt
never_running c n (Some a) h =
    let f = chase c.futures in
    let keeps : KeepsValues f f = λ x y p q. q in
    subst (λ p. GoesOn f f keeps (λ x y. Unit {0}) (requests_of c n) [] n a (labels_wanted a) p (intent f (requests_of c n ++ []) n a)) h (intent_on f f keeps (λ x y. Unit {0}) (requests_of c n) [] n a)

pub none_rests_running : NoneRestsRunning
none_rests_running c n h = never_running c n (find name_cmp n c.activities) h

-- the other's intent after a step, where this is what may come of lacks
module _ (lists : Option ListsShape) (c d : Configuration) (n m : Name) (a : Activity) (s : Sound c) (h : step lists c n ≡ Some d) (apart : m ≢ n) (is : find name_cmp m c.activities ≡ Some a) where
  abbrev stepped : (e : Effect) × Takes lists c n e × (with_effect n e c ≡ d)
  stepped = step_taken lists c n d h

  abbrev it_took : Took c n stepped.0
  it_took = took lists c n stepped.0 s stepped.1

  -- a status that others cannot change
  pub kept_status : (status : StatusShape) → is_running status ≡ false → ((p : Intent) (qs : List RequestShape) → GoesOn (chase c.futures) (chase (with_effect n stepped.0 c).futures) (values_kept c n stepped.0 it_took) (λ x y. Unit {0}) (requests_of c m) qs m a (labels_wanted a) (Rests status) p → p ≡ Rests status) → status_of c m ≡ status → status_of d m ≡ status
  kept_status status not goes st =
      let x = intent_beside c m n stepped.0 a (λ x y. Unit {0}) apart it_took is in
      let p = intent_in (with_effect n stepped.0 c) m in
      let on = subst (λ q. GoesOn (chase c.futures) (chase (with_effect n stepped.0 c).futures) (values_kept c n stepped.0 it_took) (λ x y. Unit {0}) (requests_of c m) x.0 m a (labels_wanted a) q p) (rests (intent_in c m) status not st) x.2 in
      ap (λ z. status_of z m) (sym stepped.2) ∙ ap status_of_intent (goes p x.0 on)

  pub served_status : (more : List RequestShape) → requests_of d m ≡ requests_of c m ++ more → has_wanted (labels_wanted a) more ≡ false → status_of c m ≡ Serving → status_of d m ≡ Serving
  served_status more grown none st =
      let x = intent_beside c m n stepped.0 a (λ x y. Unit {0}) apart it_took is in
      let p = intent_in (with_effect n stepped.0 c) m in
      let on = subst (λ q. GoesOn (chase c.futures) (chase (with_effect n stepped.0 c).futures) (values_kept c n stepped.0 it_took) (λ x y. Unit {0}) (requests_of c m) x.0 m a (labels_wanted a) q p) (rests (intent_in c m) Serving refl st) x.2 in
      let same : x.0 ≡ more = append_cancel_left (requests_of c m) x.0 more (sym x.1 ∙ ap (λ z. requests_of z m) stepped.2 ∙ grown) in
      ap (λ z. status_of z m) (sym stepped.2) ∙ ap status_of_intent (on (ap (has_wanted (labels_wanted a)) same ∙ none))

  -- where what is lacked comes to a future for which this holds
  pub awaited_status : (holds : FutureShape → FutureShape → Type 0) (f : FutureShape) → KeepsLack (chase c.futures) (chase (with_effect n stepped.0 c).futures) holds f → status_of c m ≡ Awaits f → (g : FutureShape) × (status_of d m ≡ Awaits g) × holds f g
  awaited_status holds f lack st =
      let x = intent_beside c m n stepped.0 a holds apart it_took is in
      let p = intent_in (with_effect n stepped.0 c) m in
      let on = subst (λ q. GoesOn (chase c.futures) (chase (with_effect n stepped.0 c).futures) (values_kept c n stepped.0 it_took) holds (requests_of c m) x.0 m a (labels_wanted a) q p) (rests (intent_in c m) (Awaits f) refl st) x.2 in
      let z = on lack in
      (z.0, ap (λ z. status_of z m) (sym stepped.2) ∙ ap status_of_intent z.1, z.2)

pub done_stays : DoneStays
done_stays program c d n m a s apart is st = kept_status s.lists c d n m a (reached_sound program c s.reached) s.steps apart is Done refl (λ p qs on. on) st

pub fault_stays : FaultStays
fault_stays program c d n m a fault s apart is st = kept_status s.lists c d n m a (reached_sound program c s.reached) s.steps apart is (Faulted fault) refl (λ p qs on. on) st

pub serving_stays : ServingStays
serving_stays program c d n m a more s apart is grown none st = served_status s.lists c d n m a (reached_sound program c s.reached) s.steps apart is more grown none st

-- who was unfilled before
unfilled_before : (c : Configuration) (n : Name) (e : Effect) → Took c n e → (f : FutureShape) (o : Option ParcelShape) → find future_cmp f c.futures ≡ o → find future_cmp f (put_some future_cmp e.filled c.futures) ≡ None → find future_cmp f c.futures ≡ None
unfilled_before c n e t f None is none = is
unfilled_before c n e t f (Some p) is none = no_some (sym none ∙ fills_extend e.filled c.futures (fresh c n e t).filled f p is)

pub awaiting_stays : AwaitingStays
awaiting_stays program c d n m a f s apart is none st =
    let sound = reached_sound program c s.reached in
    let x = step_taken s.lists c n d s.steps in
    let t = took s.lists c n x.0 sound x.1 in
    let after : find future_cmp f (with_effect n x.0 c).futures ≡ None = ap (λ z. find future_cmp f z.futures) x.2 ∙ none in
    let before = unfilled_before c n x.0 t f (find future_cmp f c.futures) refl after in
    let more = fills_extend x.0.filled c.futures (fresh c n x.0 t).filled in
    let longer = fills_longer x.0.filled c.futures sound.ordered.futures in
    let z = awaited_status s.lists c d n m a sound s.steps apart is (λ f g. f ≡ g) f (λ y w. (f, chase_unfilled c.futures (with_effect n x.0 c).futures more longer y f before after w, refl)) st in
    z.1 ∙ ap Awaits (sym z.2)

and_second : (a b : Bool) → a ≡ true → (a && b) ≡ false → b ≡ false
and_second true b p h = h
and_second false b p h = none_true p

pub others_stay_next : OthersStayNext
others_stay_next program lists c d n m e x s apart intends logged there same quiet none =
    let before : may_log lists c (Some x) ≡ false = ap (may_log lists c) (sym logged) ∙ held_back lists c m e intends none in
    let next : is_next lists c x.0 x.1 ≡ false = and_second (is_some (find name_cmp x.0 c.activities)) (is_next lists c x.0 x.1) there before in
    let after : may_log lists d (Some x) ≡ false = and_right (is_some (find name_cmp x.0 d.activities)) (is_next lists d x.0 x.1) (next_same lists c d x.0 x.1 same ∙ next) in
    holds_back lists d m e (intends_stay program c d n m e s apart quiet intends) (ap (may_log lists d) logged ∙ after)

pub cycles_stay : CyclesStay
cycles_stay program c d n m a f s apart is filled st =
    let sound = reached_sound program c s.reached in
    let x = step_taken s.lists c n d s.steps in
    let t = took s.lists c n x.0 sound x.1 in
    let e = with_effect n x.0 c in
    let more = fills_extend x.0.filled c.futures (fresh c n x.0 t).filled in
    let z = awaited_status s.lists c d n m a sound s.steps apart is (λ f g. IsFilled e g) f (λ y w. chase_cycle c.futures e.futures more sound.ordered.futures y f filled w) st in
    (z.0, subst (λ b. IsFilled b z.0) x.2 z.2, z.1)
