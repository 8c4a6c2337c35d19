-- Activities with their pending requests.
use Rattle.std.proofs.Common.{◌≡◌, ℕ, zero, suc, ◌+◌, ◌<◌, get_or, List, [], ◌∷◌, ◌++◌, Some, length, map, take, slice_get, reverse, refl, sym, ap, subst, ◌∙◌, arith, length-append}
use Rattle.std.proofs.lemmas.List.{length-map}
use Rattle.std.specs.Arc.{arc_value}
use Rattle.std.specs.Global.{Box}
use Rattle.std.specs.Option.{option_map}
use Rattle.asp_model.specs.Configuration.{Activity, RequestShape}
use Rattle.asp_model.specs.Names.{Name}
use Rattle.law_chases.proofs.FutureLemmas.{some_is}
use Rattle.asp_model.specs.Shapes.{reception_shape}
use Rattle.law_frozen.specs.Frozen.{FrozenActivity, FrozenShape, answered, numbers_to, received_by, spent, thawed_activity}
use Rattle.law_frozen.proofs.FrozenLemmas.{length_spent}
use Rattle.code_table.specs.declared.code.Node.{Node}
use Rattle.request_queue.specs.Pending.{QueueView}
use Rattle.code_table.specs.Cells.{held_future}
use Rattle.activity_step.specs.Activities.{StandsFor}
use Rattle.activity_step.specs.Advances.{Stands as StateStands}
use Rattle.activity_step.specs.declared.activity.Activity.{Activity as Own}
use Rattle.step_activity.specs.declared.actor.Actor.{Actor}
use Rattle.step_activity.specs.Actors.{HoldsQueue, Stands, code_of, log_in}
use Rattle.checkpoint_makes.specs.Parcels.{request_by}
use Rattle.checkpoint_states.specs.Activities.{StandAs, StandsAs}
use Rattle.checkpoint_states.specs.declared.activities.MadeActivity.{MadeActivity}
use Rattle.checkpoint_actors.specs.Actors.{AreActorsOf, IsActorOf}
use Rattle.checkpoint_actors.specs.Counts.{answered_count}
use Rattle.checkpoint_actors.proofs.MapLemmas.{take_whole}

-- its queue holds all that it received, of which the first were served
pub received_held : (k : List Node) (f : FrozenShape) (x : FrozenActivity) (m : MadeActivity) (n : ℕ) (q : QueueView) → StandsAs k m x → n ≡ answered_count f x
    → ((rs : List RequestShape) → length rs ≡ n → HoldsQueue k q (numbers_to n) (rs ++ map (request_by k) m.queue.items))
    → HoldsQueue k q (numbers_to (answered_count f x)) (received_by f x)
received_held k f x m n q made e h =
    let front : length (map spent (answered f x)) ≡ n = length_spent (answered f x) ∙ sym e in
    subst (λ j. HoldsQueue k q (numbers_to j) (received_by f x)) e (subst (λ rs. HoldsQueue k q (numbers_to n) (map spent (answered f x) ++ rs)) made.queue (h (map spent (answered f x)) front))

-- an activity that was restored so, with this queue, stands for what is thawed
pub actor_of : (j k : List Node) (f : FrozenShape) (x : FrozenActivity) (m : MadeActivity) (n : ℕ) (q : QueueView) (own : Own) (y : Actor) (e : Name × Box Actor) → StandsAs k m x → n ≡ answered_count f x → j ≡ k
    → ((rs : List RequestShape) → length rs ≡ n → HoldsQueue k q (numbers_to n) (rs ++ map (request_by k) m.queue.items))
    → ((b : Activity) → StateStands j m.state b.term (reverse b.services) b.store b.lines → option_map held_future m.present ≡ b.present → m.active ≡ b.active → m.reductions ≡ b.reductions → StandsFor own b)
    → arc_value own.code ≡ j
    → ((b : Activity) (rs : List RequestShape) → StandsFor own b → m.sends ≡ b.sends → m.creations ≡ b.creations → HoldsQueue (arc_value own.code) q b.served rs → Stands y b rs)
    → log_in y ≡ map reception_shape m.log.items → code_of y ≡ arc_value own.code → e.0 ≡ m.name → e.1.value ≡ y → IsActorOf k f x e
actor_of j k f x m n q own y e made count same queue activity coded actor log code name value =
    let a : Activity = thawed_activity f x in
    let state : StateStands j m.state x.activity.term (reverse x.activity.services) x.activity.store x.activity.lines
    = subst (λ i. StateStands i m.state x.activity.term (reverse x.activity.services) x.activity.store x.activity.lines) (sym same) made.state in
    let holds : HoldsQueue (arc_value own.code) q a.served (received_by f x)
    = subst (λ i. HoldsQueue i q a.served (received_by f x)) (sym (coded ∙ same)) (received_held k f x m n q made count queue) in
    record {
      name = name ∙ made.name;
      stands = subst (λ z. Stands z a (received_by f x)) (sym value) (actor a (received_by f x) (activity a state made.present made.active made.reductions) made.sends made.creations holds);
      logged = ap log_in value ∙ log ∙ made.log;
      coded = ap code_of value ∙ code ∙ coded ∙ same;
    }

-- One by one

-- the activity of a number, and its count
pub record IsNext (k : List Node) (f : FrozenShape) (n : ℕ) (m : MadeActivity) (xs : List FrozenActivity) : Type 0 where
  pub activity : FrozenActivity
  pub more : take (suc n) xs ≡ take n xs ++ activity ∷ []
  pub stands : StandsAs k m activity
  pub count : slice_get (map (answered_count f) xs) n ≡ Some (answered_count f activity)

pub next_stands : (k : List Node) (f : FrozenShape) (before : List MadeActivity) (m : MadeActivity) (rest : List MadeActivity) (xs : List FrozenActivity) → StandAs k (before ++ (m ∷ rest)) xs → IsNext k f (length before) m xs
next_stands k f [] m rest [] h = absurd h
next_stands k f [] m rest (x ∷ xs) h = record { activity = x; more = refl; stands = h.0; count = refl }
next_stands k f (b ∷ before) m rest [] h = absurd h
next_stands k f (b ∷ before) m rest (x ∷ xs) h =
    let r = next_stands k f before m rest xs h.1 in
    record { activity = r.activity; more = ap (λ l. x ∷ l) r.more; stands = r.stands; count = r.count }

pub actors_last : (k : List Node) (f : FrozenShape) (xs : List FrozenActivity) (es : List (Name × Box Actor)) (x : FrozenActivity) (e : Name × Box Actor) → AreActorsOf k f xs es → IsActorOf k f x e → AreActorsOf k f (xs ++ x ∷ []) (es ++ e ∷ [])
actors_last k f [] [] x e h is = (is, tt)
actors_last k f [] (g ∷ es) x e h is = absurd h
actors_last k f (y ∷ xs) [] x e h is = absurd h
actors_last k f (y ∷ xs) (g ∷ es) x e h is = (h.0, actors_last k f xs es x e h.1 is)

pub stand_length : (k : List Node) (ms : List MadeActivity) (xs : List FrozenActivity) → StandAs k ms xs → length ms ≡ length xs
stand_length k [] [] h = refl
stand_length k [] (x ∷ xs) h = absurd h
stand_length k (m ∷ ms) [] h = absurd h
stand_length k (m ∷ ms) (x ∷ xs) h = ap suc (stand_length k ms xs h.1)

-- one activity more, behind as many requests as its number says
pub actors_more : (k : List Node) (before : List MadeActivity) (m : MadeActivity) (rest all : List MadeActivity) (es more : List (Name × Box Actor)) (e : Name × Box Actor) (ns : List ℕ) (n : ℕ) → all ≡ before ++ (m ∷ rest) → more ≡ es ++ e ∷ []
    → slice_get ns (length before) ≡ Some n
    → ((f : FrozenShape) (xs : List FrozenActivity) → StandAs k all xs → ns ≡ map (answered_count f) xs → AreActorsOf k f (take (length before) xs) es)
    → ((f : FrozenShape) (x : FrozenActivity) → StandsAs k m x → n ≡ answered_count f x → IsActorOf k f x e)
    → (f : FrozenShape) (xs : List FrozenActivity) → StandAs k all xs → ns ≡ map (answered_count f) xs → AreActorsOf k f (take (length (before ++ m ∷ [])) xs) more
actors_more k before m rest all es more e ns n whole are at old one f xs stand counts =
    let next : IsNext k f (length before) m xs = next_stands k f before m rest xs (subst (λ l. StandAs k l xs) whole stand) in
    let number : n ≡ answered_count f next.activity = some_is (sym at ∙ ap (λ l. slice_get l (length before)) counts ∙ next.count) in
    let size : length (before ++ m ∷ []) ≡ suc (length before) = (let both : length (before ++ m ∷ []) ≡ length before + 1 = length-append before (m ∷ []) in omega (arith, both)) in
    subst (λ l. AreActorsOf k f (take l xs) more) (sym size) (subst (λ l. AreActorsOf k f l more) (sym next.more) (subst (AreActorsOf k f (take (length before) xs ++ next.activity ∷ [])) (sym are)
    (actors_last k f (take (length before) xs) es next.activity e (old f xs stand counts) (one f next.activity next.stands number))))

pub actors_none : (k : List Node) (f : FrozenShape) (xs : List FrozenActivity) (es : List (Name × Box Actor)) → es ≡ [] → AreActorsOf k f (take 0 xs) es
actors_none k f xs es e = subst (AreActorsOf k f []) (sym e) tt

pub actors_whole : (k : List Node) (f : FrozenShape) (n : ℕ) (all : List MadeActivity) (xs : List FrozenActivity) (es : List (Name × Box Actor)) → StandAs k all xs → n ≡ length all → AreActorsOf k f (take n xs) es → AreActorsOf k f xs es
actors_whole k f n all xs es stand e h = subst (λ l. AreActorsOf k f l es) (take_whole n xs (e ∙ stand_length k all xs stand)) h

pub numbers_fit : (k : List Node) (f : FrozenShape) (ms : List MadeActivity) (xs : List FrozenActivity) (ns : List ℕ) → StandAs k ms xs → ns ≡ map (answered_count f) xs → length ns ≡ length ms
numbers_fit k f ms xs ns stand e = ap length e ∙ length-map xs (answered_count f) ∙ sym (stand_length k ms xs stand)

slice_at : (ns : List ℕ) (i : ℕ) → i < length ns → slice_get ns i ≡ Some (get_or ns i 0)
slice_at [] i lt = absurd (omega (arith, lt))
slice_at (n ∷ ns) zero lt = refl
slice_at (n ∷ ns) (suc i) lt = slice_at ns i (omega (arith, lt))

pub slice_here : (ns : List ℕ) (i j : ℕ) → j ≡ i → i < length ns → slice_get ns i ≡ Some (get_or ns j 0)
slice_here ns i j same lt = slice_at ns i lt ∙ ap (λ k. Some (get_or ns k 0)) (sym same)
