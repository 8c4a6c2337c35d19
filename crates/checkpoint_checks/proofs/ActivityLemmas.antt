-- Activities that fit are sound.
use Rattle.std.specs.Prelude.{◌≡◌, ℕ, ◌<◌, ◌&&◌, not, nat_lt, true, List, [], ◌∷◌, Option, Some, None, is_some, length, map}
use Rattle.std.specs.List.{list_all}
use Rattle.std.specs.Option.{option_map}
use Rattle.std.proofs.Common.{refl, ap}
use Rattle.asp_model.specs.declared.term.Term.{Term}
use Rattle.asp_model.specs.Names.{Name, FutureShape}
use Rattle.asp_model.specs.Shapes.{future_shape, tree_of}
use Rattle.asp_model.specs.Store.{CellShape, Number, Object, Reference, Future, Group, cell}
use Rattle.asp_model.specs.Configuration.{ServiceShape}
use Rattle.law_chases.proofs.FutureLemmas.{none_true}
use Rattle.law_steps.specs.Linked.{Each}
use Rattle.law_steps.specs.Closed.{ContextsBelow}
use Rattle.law_programs.specs.Proper.{IsProperContext}
use Rattle.code_laws.specs.Splitting.{AreContexts}
use Rattle.law_frozen.specs.Frozen.{FrozenShape}
use Rattle.law_checkpoints.specs.Sound.{AnswersAreRight, IsAnsweredAt, IsObject, IsSoundActivity, IsSoundRequest}
use Rattle.checkpoint_reading.specs.Cells.{cell_shape, request_shape}
use Rattle.checkpoint_parts.specs.declared.parts.ActivityText.{ActivityText}
use Rattle.checkpoint_parts.specs.declared.parts.ServiceText.{ServiceText}
use Rattle.checkpoint_parts.specs.Shapes.{activity_shape, service_shape}
use Rattle.checkpoint_checks.specs.Cells.{request_fits}
use Rattle.checkpoint_checks.specs.Activities.{activity_fits, answer_fits, answers_fit, has_object, is_object, service_fits, service_future}
use Rattle.checkpoint_checks.proofs.SameLemmas.{Same, same_as, same_both, same_each, same_lt, same_true}
use Rattle.checkpoint_checks.proofs.BareLemmas.{HasBare, IsBare, below_bare, term_bare}
use Rattle.checkpoint_checks.proofs.CallLemmas.{first_in}
use Rattle.checkpoint_checks.proofs.HomeLemmas.{home_at}
use Rattle.checkpoint_checks.proofs.PartLemmas.{same_cells, same_place, same_request}
use Rattle.checkpoint_checks.proofs.RunLemmas.{running, waiting}

-- Terms

all_below : (ts : List Term) → Each HasBare (map tree_of ts)
all_below [] = tt
all_below (t ∷ ts) = (below_bare t, all_below ts)

all_bare : (ts : List Term) → Each IsBare (map tree_of ts)
all_bare [] = tt
all_bare (t ∷ ts) = (term_bare t, all_bare ts)

-- Lists that were mapped

each_map : {X Y : Type 0} (P : Y → Type 0) (f : X → Y) (xs : List X) → Each (λ x. P (f x)) xs → Each P (map f xs)
each_map P f [] h = tt
each_map P f (x ∷ xs) h = (h.0, each_map P f xs h.1)

map_each : {X Y : Type 0} (P : Y → Type 0) (f : X → Y) (xs : List X) → Each P (map f xs) → Each (λ x. P (f x)) xs
map_each P f [] h = tt
map_each P f (x ∷ xs) h = (h.0, map_each P f xs h.1)

-- Services

abbrev IsSoundService : ℕ → ServiceShape → Type 0
IsSoundService k v = (Each IsProperContext v.contexts × ContextsBelow k v.contexts) × AreContexts v.contexts

same_services : (k : ℕ) (vs : List ServiceText) → Same (list_all (service_fits k) vs) (Each (λ v. IsSoundService k (service_shape v)) vs)
same_services k [] = same_true
same_services k (v ∷ vs) = same_both (service_fits k v) (list_all (service_fits k) vs) (IsSoundService k (service_shape v)) (Each (λ u. IsSoundService k (service_shape u)) vs)
    (waiting k (map tree_of v.terms.items) (all_below v.terms.items))
    (same_services k vs)

-- the same, point by point
record AreSound (k : ℕ) (vs : List ServiceShape) : Type 0 where
  proper : Each (λ v. Each IsProperContext v.contexts) vs
  below : Each (λ v. ContextsBelow k v.contexts) vs
  wait : Each (λ v. AreContexts v.contexts) vs

points : (k : ℕ) (vs : List ServiceShape) → Each (IsSoundService k) vs → AreSound k vs
points k [] h = record { proper = tt; below = tt; wait = tt }
points k (v ∷ vs) h =
    let r = points k vs h.1 in
    record { proper = (h.0.0.0, r.proper); below = (h.0.0.1, r.below); wait = (h.0.1, r.wait) }

of_points : (k : ℕ) (vs : List ServiceShape) → AreSound k vs → Each (IsSoundService k) vs
of_points k [] r = tt
of_points k (v ∷ vs) r = (
  ((r.proper.0, r.below.0), r.wait.0),
  of_points k vs (record { proper = r.proper.1; below = r.below.1; wait = r.wait.1 }),
)

-- Stores

same_object : (c : CellShape) → Same (is_object c) (IsObject c)
same_object (Object fields methods) = same_true
same_object (Number n) = record { to = λ e. none_true e; of = λ h. absurd h }
same_object (Reference n) = record { to = λ e. none_true e; of = λ h. absurd h }
same_object (Future g) = record { to = λ e. none_true e; of = λ h. absurd h }
same_object (Group ns) = record { to = λ e. none_true e; of = λ h. absurd h }

same_active : (cs : List CellShape) (n : ℕ) → Same (has_object cs n) ((n < length cs) × IsObject (cell cs n))
same_active cs n = same_both (nat_lt n (length cs)) (is_object (cell cs n)) (n < length cs) (IsObject (cell cs n)) (same_lt n (length cs)) (same_object (cell cs n))

-- Answers

module _ (f : FrozenShape) where
  same_answer : (n : Name) (o : Option FutureShape) → Same (answer_fits (home_at f) n o) (IsAnsweredAt f n o)
  same_answer n None = same_true
  same_answer n (Some g) = same_place f n g

  same_suspended : (n : Name) (vs : List ServiceText) → Same (list_all (answer_fits (home_at f) n) (map service_future vs)) (Each (λ v. IsAnsweredAt f n v.future) (map service_shape vs))
  same_suspended n [] = same_true
  same_suspended n (v ∷ vs) = same_both (answer_fits (home_at f) n (service_future v)) (list_all (answer_fits (home_at f) n) (map service_future vs)) (IsAnsweredAt f n (service_future v)) (Each (λ u. IsAnsweredAt f n u.future) (map service_shape vs))
      (same_answer n (service_future v)) (same_suspended n vs)

  is_none : {A : Type 0} (o : Option A) → not (is_some o) ≡ true → o ≡ None
  is_none None e = refl
  is_none (Some x) e = none_true e

  same_none : {A : Type 0} (o : Option A) → Same (not (is_some o)) (o ≡ None)
  same_none o = record { to = is_none o; of = λ e. ap (λ p. not (is_some p)) e }

  same_others : (vs : List ServiceText) → Same (list_all (λ g. is_some g) (map service_future vs)) (Each (λ u. is_some u.future ≡ true) (map service_shape vs))
  same_others [] = same_true
  same_others (v ∷ vs) = same_both (is_some (service_future v)) (list_all (λ g. is_some g) (map service_future vs)) (is_some (service_future v) ≡ true) (Each (λ u. is_some u.future ≡ true) (map service_shape vs))
      (record { to = λ e. e; of = λ e. e }) (same_others vs)

  same_answers : (present : Option FutureShape) (vs : List ServiceText) → Same (answers_fit present (map service_future vs)) (AnswersAreRight present (map service_shape vs))
  same_answers present [] = same_none present
  same_answers present (v ∷ vs) = same_as _ _ _
      (same_both (is_some present) (not (is_some (service_future v)) && list_all (λ g. is_some g) (map service_future vs)) (is_some present ≡ true) ((service_future v ≡ None) × Each (λ u. is_some u.future ≡ true) (map service_shape vs))
      (record { to = λ e. e; of = λ e. e })
      (same_both (not (is_some (service_future v))) (list_all (λ g. is_some g) (map service_future vs)) (service_future v ≡ None) (Each (λ u. is_some u.future ≡ true) (map service_shape vs)) (same_none (service_future v)) (same_others vs)))
      (λ h. (h.0, h.1.0, h.1.1))
      (λ h. (h.0, (h.1, h.2)))

  -- The whole

  pub same_activity : (a : ActivityText) → Same (activity_fits (first_in f.activities) (home_at f) a) (IsSoundActivity f (activity_shape a))
  same_activity a =
      let x = activity_shape a in
      let terms = a.parts.work.state.terms.items in
      let services = a.parts.work.services.items in
      let cells = map cell_shape a.parts.work.state.store.items in
      let k : ℕ = length cells in
      let present = option_map future_shape a.parts.work.present in
      let queue = same_each (request_fits (first_in f.activities) (home_at f) a.name) (IsSoundRequest f a.name) (same_request f a.name) (map request_shape a.parts.queue.items) in
      let state = same_both _ _ _ _ (running k (map tree_of terms) (all_below terms) (all_bare terms)) (same_both _ _ _ _ (same_cells f cells) (same_active cells a.parts.work.state.active)) in
      let answers = same_both _ _ _ _ (same_answer a.name present) (same_both _ _ _ _ (same_suspended a.name services) (same_answers present services)) in
      same_as _ _ _ (same_both _ _ _ _ queue (same_both _ _ _ _ state (same_both _ _ _ _ (same_services k services) answers)))
      (λ h.
      let s = h.1.0 in
      let v = points k x.activity.services (each_map (IsSoundService k) service_shape services h.1.1.0) in
      record {
        closed = record { term = s.0.1; services = v.below; store = s.1.0.below; active = s.1.1.0 };
        proper = record { term = s.0.0; services = v.proper; store = s.1.0.proper };
        contexts = v.wait;
        object = s.1.1.1;
        known = s.1.0.known;
        queue = h.0;
        present = h.1.1.1.0;
        suspended = h.1.1.1.1.0;
        answers = h.1.1.1.1.1;
      })
      (λ s. (
        s.queue,
        (
          (
            (s.proper.term, s.closed.term),
            (record { below = s.closed.store; proper = s.proper.store; known = s.known }, (s.closed.active, s.object)),
          ),
          (
            map_each (IsSoundService k) service_shape services (of_points k x.activity.services (record { proper = s.proper.services; below = s.closed.services; wait = s.contexts })),
            (s.present, (s.suspended, s.answers)),
          ),
        ),
      ))
