-- A step as an intent that acts, and its effect.
use Rattle.std.specs.Prelude.{◌≡◌, ◌&&◌, Bool, true, false, Option, Some, None, is_some}
use Rattle.std.proofs.Common.{refl, sym, ap, ◌∙◌}
use Rattle.std.proofs.lemmas.Bool.{and_parts, false_from_ne_true}
use Rattle.std.specs.FinMap.{find}
use Rattle.asp_model.specs.Names.{Name, name_cmp}
use Rattle.asp_model.specs.Configuration.{ReceptionShape, Configuration}
use Rattle.asp_model.specs.Intent.{Intent, Acts, Rests, Effect}
use Rattle.asp_model.specs.Step.{ListsShape, intent_in, with_effect, may_log, is_next, step}
use Rattle.law_chases.proofs.FutureLemmas.{no_some, some_is}

-- an activity takes a step with this effect
pub record Takes (lists : Option ListsShape) (c : Configuration) (n : Name) (e : Effect) : Type 0 where
  pub intends : intent_in c n ≡ Acts e
  pub may : may_log lists c e.logged ≡ true

abbrev pub step_by : Option ListsShape → Configuration → Name → Intent → Option Configuration
step_by lists c n (Rests status) = None
step_by lists c n (Acts e) = elim (may_log lists c e.logged) [ true ↦ Some (with_effect n e c) | false ↦ None ]

abbrev if_may : Bool → Configuration → Option Configuration
if_may true d = Some d
if_may false d = None

pub step_is : (lists : Option ListsShape) (c : Configuration) (n : Name) → step lists c n ≡ step_by lists c n (intent_in c n)
step_is lists c n = elim (intent_in c n) as (λ p. elim p [ Rests status ↦ None | Acts e ↦ elim (may_log lists c e.logged) [ true ↦ Some (with_effect n e c) | false ↦ None ] ] ≡ step_by lists c n p) [ Rests status ↦ refl | Acts e ↦ refl ]

if_taken : (b : Bool) (x d : Configuration) → elim b [ true ↦ Some x | false ↦ None ] ≡ Some d → (b ≡ true) × (x ≡ d)
if_taken true x d h = (refl, some_is h)
if_taken false x d h = no_some h

taken_by : (lists : Option ListsShape) (c : Configuration) (n : Name) (d : Configuration) (p : Intent) → intent_in c n ≡ p → step_by lists c n p ≡ Some d → (e : Effect) × Takes lists c n e × (with_effect n e c ≡ d)
taken_by lists c n d (Rests status) is h = no_some h
taken_by lists c n d (Acts e) is h = let x = if_taken (may_log lists c e.logged) (with_effect n e c) d h in (e, record { intends = is; may = x.0 }, x.1)

-- the effect of a step
pub step_taken : (lists : Option ListsShape) (c : Configuration) (n : Name) (d : Configuration) → step lists c n ≡ Some d → (e : Effect) × Takes lists c n e × (with_effect n e c ≡ d)
step_taken lists c n d h = taken_by lists c n d (intent_in c n) refl (sym (step_is lists c n) ∙ h)

-- the step of an effect
pub takes_step : (lists : Option ListsShape) (c : Configuration) (n : Name) (e : Effect) → Takes lists c n e → step lists c n ≡ Some (with_effect n e c)
takes_step lists c n e t = step_is lists c n ∙ ap (step_by lists c n) t.intends ∙ ap (λ b. elim b [ true ↦ Some (with_effect n e c) | false ↦ None ]) t.may

free_log : (lists : Option ListsShape) (c : Configuration) (o : Option (Name × ReceptionShape)) → may_log lists c o ≡ true → may_log None c o ≡ true
free_log lists c None h = refl
free_log lists c (Some x) h = ap (λ b. b && true) (and_parts (is_some (find name_cmp x.0 c.activities)) (is_next lists c x.0 x.1) h).0

pub takes_freely : (lists : Option ListsShape) (c : Configuration) (n : Name) (e : Effect) → Takes lists c n e → Takes None c n e
takes_freely lists c n e t = record { intends = t.intends; may = free_log lists c e.logged t.may }

-- a step with lists is one without
pub listed_is_free : (lists : Option ListsShape) (c : Configuration) (n : Name) (d : Configuration) → step lists c n ≡ Some d → step None c n ≡ Some d
listed_is_free lists c n d h =
    let x = step_taken lists c n d h in
    takes_step None c n x.0 (takes_freely lists c n x.0 x.1) ∙ ap Some x.2

-- who intends to act and may send steps; so who does not step may not
pub held_back : (lists : Option ListsShape) (c : Configuration) (n : Name) (e : Effect) → intent_in c n ≡ Acts e → step lists c n ≡ None → may_log lists c e.logged ≡ false
held_back lists c n e intends none = false_from_ne_true (may_log lists c e.logged) (λ may. no_some (sym none ∙ takes_step lists c n e (record { intends = intends; may = may })))

pub holds_back : (lists : Option ListsShape) (c : Configuration) (n : Name) (e : Effect) → intent_in c n ≡ Acts e → may_log lists c e.logged ≡ false → step lists c n ≡ None
holds_back lists c n e intends may = step_is lists c n ∙ ap (step_by lists c n) intends ∙ ap (λ b. elim b [ true ↦ Some (with_effect n e c) | false ↦ None ]) may
