-- Activities with their pending requests, as they stand where a run goes on.
use Rattle.std.specs.Prelude.{◌≡◌, List, [], ◌∷◌}
use Rattle.std.specs.Global.{Box}
use Rattle.asp_model.specs.Names.{Name}
use Rattle.code_table.specs.declared.code.Node.{Node}
use Rattle.law_frozen.specs.Frozen.{FrozenActivity, FrozenShape, received_by, thawed_activity}
use Rattle.step_activity.specs.declared.actor.Actor.{Actor}
use Rattle.step_activity.specs.Actors.{Stands, code_of, log_in}

-- of this code, it stands for what is thawed of an activity, with what that received
pub record IsActorOf (k : List Node) (f : FrozenShape) (x : FrozenActivity) (e : Name × Box Actor) : Type 0 where
  pub name : e.0 ≡ x.name
  pub stands : Stands e.1.value (thawed_activity f x) (received_by f x)
  pub logged : log_in e.1.value ≡ x.log
  pub coded : code_of e.1.value ≡ k

abbrev pub AreActorsOf : List Node → FrozenShape → List FrozenActivity → List (Name × Box Actor) → Type 0
AreActorsOf k f [] [] = Unit {0}
AreActorsOf k f [] (e ∷ es) = ⊥
AreActorsOf k f (x ∷ xs) [] = ⊥
AreActorsOf k f (x ∷ xs) (e ∷ es) = IsActorOf k f x e × AreActorsOf k f xs es
