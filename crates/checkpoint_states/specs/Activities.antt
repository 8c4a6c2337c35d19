-- Activities of a checkpoint, and what is made of them.
use Rattle.std.specs.Prelude.{◌≡◌, List, [], ◌∷◌, map, reverse}
use Rattle.std.specs.Option.{option_map}
use Rattle.asp_model.specs.Shapes.{reception_shape}
use Rattle.law_steps.specs.Linked.{Each}
use Rattle.law_programs.specs.Proper.{IsProperActivity}
use Rattle.law_frozen.specs.Frozen.{FrozenActivity}
use Rattle.code_compiler.specs.Compiled.{Grows}
use Rattle.code_laws.specs.Splitting.{AreContexts}
use Rattle.code_table.specs.Cells.{held_future}
use Rattle.code_table.specs.declared.code.Node.{Node}
use Rattle.activity_step.specs.Advances.{Stands}
use Rattle.checkpoint_makes.specs.Later.{Later}
use Rattle.checkpoint_makes.specs.Parcels.{IsProperRequest, request_by}
use Rattle.checkpoint_states.specs.declared.activities.MadeActivity.{MadeActivity}

-- its terms, contexts and objects are proper, and so are the arguments of its requests
pub record MayBeMade (x : FrozenActivity) : Type 0 where
  pub proper : IsProperActivity x.activity
  pub contexts : Each (λ v. AreContexts v.contexts) x.activity.services
  pub queue : Each IsProperRequest x.queue

-- by this code it stands for an activity, but for what that has served
pub record StandsAs (k : List Node) (m : MadeActivity) (x : FrozenActivity) : Type 0 where
  pub name : m.name ≡ x.name
  pub state : Stands k m.state x.activity.term (reverse x.activity.services) x.activity.store x.activity.lines
  pub active : m.active ≡ x.activity.active
  pub present : option_map held_future m.present ≡ x.activity.present
  pub reductions : m.reductions ≡ x.activity.reductions
  pub sends : m.sends ≡ x.activity.sends
  pub creations : m.creations ≡ x.activity.creations
  pub log : map reception_shape m.log.items ≡ x.log
  pub queue : map (request_by k) m.queue.items ≡ x.queue

pub record IsMadeActivity (ns ms : List Node) (m : MadeActivity) (x : FrozenActivity) : Type 0 where
  pub grows : Grows ns ms
  pub made : Later ms (λ k. StandsAs k m x)

abbrev pub StandAs : List Node → List MadeActivity → List FrozenActivity → Type 0
StandAs k [] [] = Unit {0}
StandAs k [] (x ∷ xs) = ⊥
StandAs k (m ∷ ms) [] = ⊥
StandAs k (m ∷ ms) (x ∷ xs) = StandsAs k m x × StandAs k ms xs

pub record AreMadeActivities (ns ms : List Node) (all : List MadeActivity) (xs : List FrozenActivity) : Type 0 where
  pub grows : Grows ns ms
  pub made : Later ms (λ k. StandAs k all xs)
