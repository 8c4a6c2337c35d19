-- What reached configurations have is one fact that moves keep: it is what is sound, exact, tidy and linked.
use Rattle.std.specs.Prelude.{◌≡◌, ℕ, zero, suc, ◌+◌, ◌<◌, ◌≤◌, true, [], ◌∷◌, ◌++◌, Option, Some, None, is_some, length}
use Rattle.std.proofs.Common.{refl, sym, ap, subst, ◌∙◌, arith, inl, inr, ⊎_elim}
use Rattle.std.specs.FinMap.{find}
use Rattle.asp_model.specs.Names.{Name, FutureShape, name_cmp, main_name}
use Rattle.asp_model.specs.Parcel.{has_place}
use Rattle.asp_model.specs.Configuration.{RequestShape, Activity, Configuration, requests_of}
use Rattle.law_steps.specs.Kept.{creations_of, sends_of, Stands, AreDistinct, mark, one_unless, answers_of, answers_at, is_served, IsBegun, StandsOnce}
use Rattle.law_steps.specs.Sound.{IsSound, StartIsSound, MovesKeepSound, ReachedAreSound, StartIsClosed, MovesKeepClosed, SoundIntents, SoundSteps}
use Rattle.law_steps.proofs.NameLemmas.{name_case, last_same}
use Rattle.law_chases.proofs.FutureLemmas.{none_true}
use Rattle.law_steps.proofs.FactLemmas.{face, holds}
use Rattle.law_steps.proofs.SoundLemmas.{Sound, at_name, in_map, Placed}
use Rattle.law_steps.proofs.ReachedLemmas.{Right, move_right, start_right, reached_right}
use Rattle.law_steps.proofs.FrameLemmas.{others_on, intents_on, polls_on, fills_on, effects_on}
use Rattle.law_steps.proofs.NamesLaws.{creations_at, sends_at, answers_by, served_by, names_on, requests_on, served_on, stand_on, begun_on}
use Rattle.law_steps.proofs.LinkedLemmas.{linked_start, move_linked, cells_are_linked, targets_on, awaited_on, step_on, stuck_on}
use Rattle.law_steps.specs.Linked.{IsLinked}
use Rattle.law_steps.proofs.ClosedLaws.{closed_start, move_closed}

pub sound_from : (c : Configuration) → Right c → IsLinked c → IsSound c
sound_from c r l = record {
  ordered = r.sound.ordered;
  there = λ n. (names_on c n r).0;
  created = λ n. (names_on c n r).1;
  requests = λ m k q st. requests_on c m k q r st;
  served = λ m a is. served_on c m a r is;
  stand = λ n i le. stand_on c n i r le;
  begun = λ f h. begun_on c f r h;
  linked = l;
  quiet = r.tidy.quiet;
}

-- And back

module _ (c : Configuration) (s : IsSound c) where
  -- the one place of a future that was begun
  stands : (f : FutureShape) → IsBegun c f → StandsOnce c f
  stands f b = by_index f.index refl
    where
      by_index : (i : ℕ) → f.index ≡ i → StandsOnce c f
      by_index zero e = absurd (omega (arith, b.0, e))
      by_index (suc i) e = subst (StandsOnce c) (λ j. record { by = f.by; index = sym e j }) (s.stand f.by i (omega (arith, b.1, e)))

  placed : (f : FutureShape) → (x : StandsOnce c f) → Placed c x.target f
  placed f x = (x.number, x.request, x.there, x.is)

  begun_request : (m : Name) (k : ℕ) (r : RequestShape) → Stands c m k r → IsBegun c r.future
  begun_request m k r st =
      let x = s.requests m k r st in
      (x.first, subst (λ n. r.future.index ≤ sends_of c n) x.by x.last)

  named : (n : Name) (k : ℕ) → is_some (find name_cmp (n ++ k ∷ []) c.activities) ≡ true → k ≤ (at_name c n).creations
  named n k h = ⊎_elim
      (λ main. let e : k ≡ 0 = (last_same k 0 n [] main).1 in omega (arith, e))
      (λ x.
      let y = last_same k (suc x.1) n x.0 x.2 in
      let at : (at_name c n).creations ≡ creations_of c x.0 = ap (λ m. (at_name c m).creations) y.0 ∙ sym (creations_at c x.0) in
      omega (arith, y.1, at, x.3))
      (s.there (n ++ k ∷ []) h)

  served_in : (m : Name) (o : Option Activity) → find name_cmp m c.activities ≡ o → (k : ℕ) → has_place k (face o).served ≡ true → k < length (requests_of c m)
  served_in m None is k h = none_true h
  served_in m (Some a) is k h = (s.served m a is).1 k h

  distinct_in : (m : Name) (o : Option Activity) → find name_cmp m c.activities ≡ o → AreDistinct (face o).served
  distinct_in m None is = tt
  distinct_in m (Some a) is = (s.served m a is).0

  balanced : (m : Name) (k : ℕ) (r : RequestShape) → Stands c m k r → one_unless (has_place k (at_name c m).served) + holds (mark r.future) (at_name c m) + in_map r.future c.futures ≡ 1
  balanced m k r st =
      let x = stands r.future (begun_request m k r st) in
      let y = x.alone m k r st refl in
      let at = find name_cmp m c.activities in
      let once : one_unless (is_served k at) + answers_of r.future at + in_map r.future c.futures ≡ 1 =
      (λ i. one_unless (is_served (y.1 i) (find name_cmp (y.0 i) c.activities)) + answers_of r.future (find name_cmp (y.0 i) c.activities) + in_map r.future c.futures) ∙ x.once in
      (λ i. one_unless (sym (served_by k at) i) + sym (answers_by r.future at) i + in_map r.future c.futures) ∙ once

  held : (m : Name) (f : FutureShape) → 1 ≤ holds (mark f) (at_name c m) → Placed c m f
  held m f h =
      let answers : 1 ≤ answers_at c m f = subst (λ j. 1 ≤ j) (sym (answers_by f (find name_cmp m c.activities))) h in
      let x = stands f (s.begun f (inr (m, answers))) in
      ⊎_elim
      (λ same. subst (λ n. Placed c n f) (sym same) (placed f x))
      (λ apart. absurd (let none = x.nowhere m apart in omega (arith, answers, none)))
      (name_case m x.target)

  is_sound : Sound c
  is_sound = record {
    ordered = s.ordered;
    named = named;
    begun = λ m k r st. let b = begun_request m k r st in omega (arith, b.1, sends_at c r.future.by);
    apart = λ m k r l j q st st' e.
        let x = stands r.future (begun_request m k r st) in
        let y = x.alone m k r st refl in
        let z = x.alone l j q st' (sym e) in
        (y.0 ∙ sym z.0, y.1 ∙ sym z.1);
    served = λ m k h. served_in m (find name_cmp m c.activities) refl k h;
    balanced = balanced;
    held = held;
    filled = λ f h. let x = stands f (s.begun f (inl h)) in (x.target, placed f x);
  }

  pub right_of : Right c
  right_of = record {
    sound = is_sound;
    exact = record {
      known = λ q h. ⊎_elim (λ p. inl p) (λ k. inr (k.0, k.1, k.2, subst (λ j. suc k.1 ≤ j) (creations_at c k.0) k.3)) (s.there q h);
      made = λ n k le. s.created (n ++ suc k ∷ []) (inr (n, k, refl, subst (λ j. suc k ≤ j) (sym (creations_at c n)) le));
      sent = λ n k le. let x = s.stand n k (subst (λ j. suc k ≤ j) (sym (sends_at c n)) le) in (x.target, placed (record { by = n; index = suc k }) x);
      positive = λ m k r st. (s.requests m k r st).first;
    };
    tidy = record {
      main = s.created main_name (inl refl);
      housed = λ m k r st. (s.requests m k r st).received;
      by = λ m k r st. (s.requests m k r st).by;
      distinct = λ m. distinct_in m (find name_cmp m c.activities) refl;
      quiet = s.quiet;
    };
  }

-- The laws

pub start_is_sound : StartIsSound
start_is_sound program = sound_from _ (start_right program) (linked_start program)

pub moves_keep_sound : MovesKeepSound
moves_keep_sound move c d s h =
    let r = right_of c s in
    sound_from d (move_right move c d h r) (move_linked move c d h r s.linked)

pub reached_are_sound : ReachedAreSound
reached_are_sound program c reached = sound_from c (reached_right program c reached) (cells_are_linked program c reached)

pub start_is_closed : StartIsClosed
start_is_closed program none = closed_start program none

pub moves_keep_closed : MovesKeepClosed
moves_keep_closed move c d closed h = move_closed move c d h closed

pub sound_intents : SoundIntents
sound_intents c s =
    let r = right_of c s in
    let stuck = stuck_on c r s.linked in
    record {
      targets = λ n e x is sent. targets_on c n e x r s.linked is sent;
      awaited = λ n f is. awaited_on c n f r s.linked is;
      step = λ n e is. step_on c n e r s.linked is;
      effects = λ n e is. effects_on c n e r.sound is;
      stuck = stuck.0;
      still = stuck.1;
    }

pub sound_steps : SoundSteps
sound_steps lists c d n s h =
    let r = (right_of c s).sound in
    record {
      others = λ m a apart is. others_on lists c d n m a r h apart is;
      intents = λ m e apart quiet is. intents_on lists c d n m e r h apart quiet is;
      polls = λ m e apart poll is. polls_on lists c d n m e r h apart poll is;
      fills = fills_on lists c d n r h;
    }
