-- Configurations that differ in what was served alone show the same.
use Rattle.std.specs.Prelude.{◌≡◌, ℕ, List, [], ◌∷◌, map}
use Rattle.std.proofs.Common.{refl, sym, ap, ◌∙◌}
use Rattle.asp_model.specs.Names.{Name}
use Rattle.asp_model.specs.Configuration.{RequestShape, ReceptionShape, Activity, Configuration, log_of, requests_of}
use Rattle.asp_model.specs.Intent.{StatusShape, Intent, Acts, Rests}
use Rattle.asp_model.specs.Status.{status_of, status_of_intent, verdict_among, verdict_of}
use Rattle.asp_model.specs.Step.{intent_in}
use Rattle.def_paths.specs.Snapshots.{snapshot_of}
use Rattle.def_paths.specs.Outcomes.{EndShape, end_of}
use Rattle.law_frozen.specs.Same.{SamePending, SameShowsSame, ShowsSame, bare_entry}
use Rattle.law_frozen.proofs.IntentLemmas.{SameIntents}
use Rattle.law_frozen.proofs.SameLemmas.{intents_of_same}

rests_same : (s t : List ℕ) (rs qs : List RequestShape) (p q : Intent) → SameIntents s t rs qs p q → status_of_intent p ≡ status_of_intent q
rests_same s t rs qs (Acts e) (Acts x) h = refl
rests_same s t rs qs (Rests a) (Rests b) h = h
rests_same s t rs qs (Acts e) (Rests b) h = absurd h
rests_same s t rs qs (Rests a) (Acts x) h = absurd h

-- what is told of an activity, by statuses and logs
abbrev told : (Name → StatusShape) → (Name → List ReceptionShape) → Name × Activity → EndShape
told status log x = record { report = record { name = x.0; count = x.1.reductions; status = status x.0; senders = log x.0; lines = x.1.lines }; snapshot = snapshot_of x.1 }

mapped_bare : {X : Type 0} (g : Name × Activity → X) → ((x : Name × Activity) → g (bare_entry x) ≡ g x) → (es : List (Name × Activity)) → map g es ≡ map g (map bare_entry es)
mapped_bare g h [] = refl
mapped_bare g h (e ∷ es) = λ i. sym (h e) i ∷ mapped_bare g h es i

module _ (c d : Configuration) (s : SamePending c d) where
  statuses_same : status_of c ≡ status_of d
  statuses_same = λ i n. rests_same _ _ (requests_of c n) (requests_of d n) (intent_in c n) (intent_in d n) (intents_of_same c d s n) i

  logs_same : log_of c ≡ log_of d
  logs_same = λ i n. s.logs n i

  mapped_same : {X : Type 0} (g : Name × Activity → X) → ((x : Name × Activity) → g (bare_entry x) ≡ g x) → map g c.activities ≡ map g d.activities
  mapped_same g h = mapped_bare g h c.activities ∙ ap (map g) s.activities ∙ sym (mapped_bare g h d.activities)

  verdict_same : verdict_of c ≡ verdict_of d
  verdict_same = ap verdict_among (mapped_same (λ x. status_of c x.0) (λ x. refl) ∙ (λ i. map (λ x. statuses_same i x.0) d.activities))

  ends_same : map (end_of c) c.activities ≡ map (end_of d) d.activities
  ends_same = mapped_same (told (status_of c) (log_of c)) (λ x. refl) ∙ (λ i. map (told (statuses_same i) (logs_same i)) d.activities)

  pub shows_same : ShowsSame c d
  shows_same = record {
    outcomes = (λ i. record { verdict = verdict_same i; ends = ends_same i; futures = s.futures i });
    logs = mapped_same (λ x. (x.0, log_of c x.0)) (λ x. refl) ∙ (λ i. map (λ x. (x.0, logs_same i x.0)) d.activities);
    counts = mapped_same (λ x. (x.0, x.1.reductions)) (λ x. refl);
  }

pub same_shows_same : SameShowsSame
same_shows_same c d s = shows_same c d s
