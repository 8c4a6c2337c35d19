-- What was made of a checkpoint stands in what is thawed of it.
use Rattle.std.specs.Prelude.{◌≡◌, List, [], ◌∷◌, Some, map}
use Rattle.std.proofs.Common.{refl, sym, ap, subst, ◌∙◌, inl, inr}
use Rattle.std.specs.Arc.{arc_value}
use Rattle.std.specs.FinMap.{find}
use Rattle.std.specs.Global.{Box}
use Rattle.asp_model.specs.Names.{Name, name_cmp}
use Rattle.asp_model.specs.Configuration.{or_none}
use Rattle.asp_model.specs.Term.{Tree}
use Rattle.law_steps.proofs.EntryLemmas.{In}
use Rattle.law_frozen.specs.Frozen.{FrozenActivity, FrozenShape, received_by, thawed, thawed_activity, thawed_first}
use Rattle.law_checkpoints.specs.Lookups.{activity_of}
use Rattle.law_checkpoints.specs.Sound.{IsSoundFrozen}
use Rattle.law_checkpoints.proofs.LookLemmas.{found_each, there_activity, with_each}
use Rattle.code_table.specs.declared.code.Node.{Node}
use Rattle.step_activity.specs.declared.actor.Actor.{Actor}
use Rattle.step_activity.specs.Actors.{Stands, log_in}
use Rattle.checkpoint_actors.specs.Actors.{AreActorsOf, IsActorOf}
use Rattle.checkpoint_actors.specs.Parts.{ArePartsOf}
use Rattle.checkpoint_actors.specs.declared.parts.Parts.{Parts}
use Rattle.asp_core.specs.Frozen.{AreFrozenIn, IsFrozenAt, StandsIn}
use Rattle.asp_core.specs.declared.freezing.Frozen.{Frozen}
use Rattle.checkpoint_thaws.proofs.HomeLemmas.{homes_are}

names_are : (k : List Node) (f : FrozenShape) (xs : List FrozenActivity) (es : List (Name × Box Actor)) → AreActorsOf k f xs es → map (λ e. e.0) es ≡ map (λ x. x.name) xs
names_are k f [] [] h = refl
names_are k f [] (e ∷ es) h = absurd h
names_are k f (x ∷ xs) [] h = absurd h
names_are k f (x ∷ xs) (e ∷ es) h = λ i. h.0.name i ∷ names_are k f xs es h.1 i

module _ (k : List Node) (f : FrozenShape) (h : IsSoundFrozen f) where
  frozen_at : (x : FrozenActivity) (e : Name × Box Actor) → In x f.activities → IsActorOf k f x e → IsFrozenAt k (thawed f) e.0 e.1.value
  frozen_at x e there is =
      let found : activity_of x.name f.activities ≡ Some x = there_activity f.activities x h.names.once there in
      subst (λ n. IsFrozenAt k (thawed f) n e.1.value) (sym is.name) (record {
        activity = thawed_activity f x;
        there = found_each (thawed_activity f) x.name f.activities ∙ ap (with_each (thawed_activity f)) found;
        stands = subst (Stands e.1.value (thawed_activity f x)) (sym (ap or_none (found_each (received_by f) x.name f.activities ∙ ap (with_each (received_by f)) found))) is.stands;
        logged = is.logged ∙ sym (ap or_none (found_each (λ y. y.log) x.name f.activities ∙ ap (with_each (λ y. y.log)) found));
        coded = is.coded;
      })

  all_frozen : (xs : List FrozenActivity) (es : List (Name × Box Actor)) → ((x : FrozenActivity) → In x xs → In x f.activities) → AreActorsOf k f xs es → AreFrozenIn k (thawed f) es
  all_frozen [] [] there is = tt
  all_frozen [] (e ∷ es) there is = absurd is
  all_frozen (x ∷ xs) [] there is = absurd is
  all_frozen (x ∷ xs) (e ∷ es) there is = (frozen_at x e (there x (inl refl)) is.0, all_frozen xs es (λ y i. there y (inr i)) is.1)

-- the parts, as what was frozen
abbrev pub frozen_parts : Parts → Frozen
frozen_parts p = record { code = p.code; homes = p.homes; futures = p.futures; activities = p.actors }

pub parts_stand : (f : FrozenShape) (program : Tree) (p : Parts) → IsSoundFrozen f → ArePartsOf f program p → StandsIn (frozen_parts p) (thawed_first f)
parts_stand f program p h is = record {
  homes = is.homes ∙ homes_are f h;
  futures = is.values;
  values = is.coded;
  names = names_are (arc_value p.code) f f.activities p.actors.items is.actors;
  activities = all_frozen (arc_value p.code) f h f.activities p.actors.items (λ x i. i) is.actors;
}
