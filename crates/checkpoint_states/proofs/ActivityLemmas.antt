-- Activities that are made one by one.
use Rattle.std.proofs.Common.{◌≡◌, List, [], ◌∷◌, ◌++◌, map, reverse, sym, subst}
use Rattle.std.specs.Option.{option_map}
use Rattle.asp_model.specs.Shapes.{reception_shape, tree_of}
use Rattle.asp_model.specs.Configuration.{ServiceShape}
use Rattle.law_steps.specs.Linked.{Each}
use Rattle.law_programs.specs.Proper.{IsProperContext}
use Rattle.law_frozen.specs.Frozen.{FrozenActivity}
use Rattle.code_laws.specs.Splitting.{AreContexts}
use Rattle.code_table.specs.Cells.{held_future}
use Rattle.code_table.specs.declared.code.Node.{Node}
use Rattle.activity_step.specs.Advances.{Stands}
use Rattle.checkpoint_parts.specs.declared.parts.ActivityText.{ActivityText}
use Rattle.checkpoint_parts.specs.declared.parts.ServiceText.{ServiceText}
use Rattle.checkpoint_parts.specs.Shapes.{activity_shape, service_shape}
use Rattle.checkpoint_makes.specs.Parcels.{AreMadeRequests}
use Rattle.checkpoint_makes.specs.Terms.{RunsAs, WaitsAs}
use Rattle.checkpoint_makes.proofs.MadeLemmas.{grows_none, grows_on, later_on}
use Rattle.checkpoint_makes.proofs.RunningLemmas.{term_runs, term_waits}
use Rattle.checkpoint_states.specs.Activities.{AreMadeActivities, IsMadeActivity, MayBeMade, StandAs, StandsAs}
use Rattle.checkpoint_states.specs.States.{IsMadeState}
use Rattle.checkpoint_states.specs.declared.activities.MadeActivity.{MadeActivity}

-- What is asked of it

pub runs : (a : ActivityText) → MayBeMade (activity_shape a) → RunsAs (map tree_of a.parts.work.state.terms.items)
runs a h = term_runs (map tree_of a.parts.work.state.terms.items) h.proper.term

all_wait : (vs : List ServiceText) → Each (λ (v : ServiceShape). AreContexts v.contexts) (map service_shape vs) → Each (λ (v : ServiceShape). Each IsProperContext v.contexts) (map service_shape vs)
    → Each (λ (s : ServiceText). WaitsAs (map tree_of s.terms.items)) vs
all_wait [] are proper = tt
all_wait (v ∷ vs) are proper = (term_waits (map tree_of v.terms.items) are.0 proper.0, all_wait vs are.1 proper.1)

pub waits : (a : ActivityText) → MayBeMade (activity_shape a) → Each (λ (s : ServiceText). WaitsAs (map tree_of s.terms.items)) a.parts.work.services.items
waits a h = all_wait a.parts.work.services.items h.contexts h.proper.services

-- What is made of it

pub activity_made : (n0 n1 n2 : List Node) (a : ActivityText) (m : MadeActivity) → (let x : FrozenActivity = activity_shape a in
    m.name ≡ x.name → IsMadeState n0 n1 m.state x.activity.term x.activity.services x.activity.store x.activity.lines → AreMadeRequests n1 n2 m.queue.items x.queue
    → option_map held_future m.present ≡ x.activity.present → m.active ≡ x.activity.active → m.reductions ≡ x.activity.reductions → m.sends ≡ x.activity.sends → m.creations ≡ x.activity.creations
    → map reception_shape m.log.items ≡ x.log → IsMadeActivity n0 n2 m x)
activity_made n0 n1 n2 a m name state queue present active reductions sends creations log =
    let x : FrozenActivity = activity_shape a in
    record {
      grows = grows_on n0 n1 n2 state.grows queue.grows;
      made = λ added sound. record {
        name = name;
        state = later_on (λ k. Stands k m.state x.activity.term (reverse x.activity.services) x.activity.store x.activity.lines) n1 n2 queue.grows state.made added sound;
        active = active;
        present = present;
        reductions = reductions;
        sends = sends;
        creations = creations;
        log = log;
        queue = queue.made added sound;
      };
    }

-- Lists

stand_last : (k : List Node) (all : List MadeActivity) (xs : List FrozenActivity) (m : MadeActivity) (x : FrozenActivity) → StandAs k all xs → StandsAs k m x → StandAs k (all ++ m ∷ []) (xs ++ x ∷ [])
stand_last k [] [] m x h is = (is, tt)
stand_last k [] (y ∷ xs) m x h is = absurd h
stand_last k (n ∷ all) [] m x h is = absurd h
stand_last k (n ∷ all) (y ∷ xs) m x h is = (h.0, stand_last k all xs m x h.1 is)

pub no_activity : (ns : List Node) (all : List MadeActivity) → all ≡ [] → AreMadeActivities ns ns all []
no_activity ns all e = record { grows = grows_none ns; made = λ added sound. subst (λ ms. StandAs (ns ++ added) ms []) (sym e) tt }

pub one_more_activity : (ns ms ks : List Node) (all : List MadeActivity) (m : MadeActivity) (xs : List FrozenActivity) (x : FrozenActivity) → AreMadeActivities ns ms all xs → IsMadeActivity ms ks m x
    → AreMadeActivities ns ks (all ++ m ∷ []) (xs ++ x ∷ [])
one_more_activity ns ms ks all m xs x from one = record {
  grows = grows_on ns ms ks from.grows one.grows;
  made = λ added sound. stand_last (ks ++ added) all xs m x (later_on (λ k. StandAs k all xs) ms ks one.grows from.made added sound) (one.made added sound);
}

-- A list in other words

pub activities_as : (ns ms : List Node) (all more : List MadeActivity) (xs ys : List FrozenActivity) → more ≡ all → ys ≡ xs → AreMadeActivities ns ms all xs → AreMadeActivities ns ms more ys
activities_as ns ms all more xs ys e q h = subst (λ zs. AreMadeActivities ns ms zs ys) (sym e) (subst (AreMadeActivities ns ms all) (sym q) h)
