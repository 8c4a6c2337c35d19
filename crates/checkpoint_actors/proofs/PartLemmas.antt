-- What is made of a sound checkpoint.
use Rattle.std.specs.Prelude.{◌≡◌, List, [], ◌∷◌, ◌++◌, length, map}
use Rattle.std.proofs.Common.{sym, ap, subst, ◌∙◌}
use Rattle.std.specs.Arc.{arc_value}
use Rattle.asp_model.specs.Configuration.{RequestShape}
use Rattle.asp_model.specs.Names.{FutureShape, Name}
use Rattle.asp_model.specs.Parcel.{ParcelShape}
use Rattle.asp_model.specs.Term.{Tree}
use Rattle.law_steps.specs.Linked.{Each}
use Rattle.law_frozen.specs.Frozen.{FrozenActivity, FrozenShape}
use Rattle.law_checkpoints.specs.Sound.{IsSoundActivity, IsSoundFrozen, IsSoundRequest, IsSoundValue}
use Rattle.code_compiler.specs.Compiled.{Grows, IsPrelude, IsRoot}
use Rattle.code_compiler.proofs.ProgramLemmas.{sound_program}
use Rattle.code_table.specs.Sound.{IsSound}
use Rattle.code_table.specs.declared.code.Node.{Node}
use Rattle.checkpoint_makes.proofs.MadeLemmas.{grows_on}
use Rattle.checkpoint_makes.specs.Later.{Later}
use Rattle.checkpoint_makes.specs.Parcels.{IsProperRequest}
use Rattle.checkpoint_states.specs.Activities.{AreMadeActivities, MayBeMade, StandAs}
use Rattle.checkpoint_actors.specs.Parts.{IsMadeFrom, root_tree}
use Rattle.checkpoint_actors.specs.Values.{AreMadeValues, HasOneRoot, IsProperValue, value_by}
use Rattle.checkpoint_actors.specs.declared.parts.Made.{Made}
use Rattle.checkpoint_actors.specs.declared.values.MadeValue.{MadeValue}

-- What making asks for

requests_proper : (f : FrozenShape) (n : Name) (rs : List RequestShape) → Each (IsSoundRequest f n) rs → Each IsProperRequest rs
requests_proper f n [] h = tt
requests_proper f n (r ∷ rs) h = (h.0.arguments.proper.cells, requests_proper f n rs h.1)

may_be_made : (f : FrozenShape) (xs : List FrozenActivity) → Each (IsSoundActivity f) xs → Each MayBeMade xs
may_be_made f [] h = tt
may_be_made f (x ∷ xs) h = (record { proper = h.0.proper; contexts = h.0.contexts; queue = requests_proper f x.name x.queue h.0.queue }, may_be_made f xs h.1)

values_proper : (f : FrozenShape) (vs : List (FutureShape × ParcelShape)) → Each (λ v. IsSoundValue f v.0 v.1) vs → Each IsProperValue vs
values_proper f [] h = tt
values_proper f (v ∷ vs) h = (h.0.parcel.proper.cells, values_proper f vs h.1)

pub activities_may : (f : FrozenShape) → IsSoundFrozen f → Each MayBeMade f.activities
activities_may f h = may_be_made f f.activities h.activities

pub values_may : (f : FrozenShape) → IsSoundFrozen f → Each IsProperValue f.filled
values_may f h = values_proper f f.filled h.filled

-- By whole code

pub at_last : (P : List Node → Type 0) (ns ms : List Node) → Grows ns ms → Later ns P → IsSound ms → P ms
at_last P ns ms g later sound = subst P (sym g.grown) (later g.added (subst IsSound g.grown sound))

roots_by : (k : List Node) (f : FrozenShape) (ms : List MadeValue) → Each (λ v. IsSoundValue f v.0 v.1) (map (value_by k) ms) → Each HasOneRoot ms
roots_by k f [] h = tt
roots_by k f (m ∷ ms) h = (ap length h.0.closed.root, roots_by k f ms h.1)

pub one_roots : (k : List Node) (f : FrozenShape) (ms : List MadeValue) → map (value_by k) ms ≡ f.filled → IsSoundFrozen f → Each HasOneRoot ms
one_roots k f ms e h = roots_by k f ms (subst (Each (λ v. IsSoundValue f v.0 v.1)) (sym e) h.filled)

-- the code of a checkpoint and its program
pub code_sound : (n0 n1 n2 n3 : List Node) (t : Tree) → IsPrelude n0 → Grows n0 n1 → Grows n1 n2 → Grows n2 n3 → IsRoot n3 t → IsSound n3
code_sound n0 n1 n2 n3 t prelude values activities program root = sound_program n0 n3 t prelude (grows_on n0 n2 n3 (grows_on n0 n1 n2 values activities) program) root

pub made_from : (n0 n1 n2 n3 : List Node) (vs : List (FutureShape × ParcelShape)) (xs : List FrozenActivity) (t : Tree) (m : Made) → AreMadeValues n0 n1 m.values.items vs → AreMadeActivities n1 n2 m.activities.items xs → Grows n2 n3
    → IsRoot n3 t → IsSound n3 → arc_value m.code ≡ n3 → IsMadeFrom vs xs t m
made_from n0 n1 n2 n3 vs xs t m values activities program root sound is = record {
  values = ap (λ k. map (value_by k) m.values.items) is ∙ at_last (λ k. map (value_by k) m.values.items ≡ vs) n1 n3 (grows_on n1 n2 n3 activities.grows program) values.made sound;
  activities = subst (λ k. StandAs k m.activities.items xs) (sym is) (at_last (λ k. StandAs k m.activities.items xs) n2 n3 program activities.made sound);
  program = ap root_tree is ∙ root.term;
}
