-- Two replays that no service can tell apart end alike.
use Rattle.std.specs.Prelude.{◌≡◌, ℕ, zero, suc, ◌+◌, ◌-◌, ◌≤◌, true, false, List, [], ◌∷◌, ◌++◌, Option, Some, None}
use Rattle.std.proofs.Common.{refl, sym, ap, subst, ◌∙◌, arith, inl, inr, ⊎_elim, ◌⊎◌}
use Rattle.std.specs.FinMap.{find}
use Rattle.std.specs.FinMap.Entries.{same_entries}
use Rattle.asp_model.specs.Names.{Name, FutureShape, Text, name_cmp, future_cmp}
use Rattle.asp_model.specs.Term.{Tree}
use Rattle.asp_model.specs.Parcel.{ParcelShape}
use Rattle.asp_model.specs.Configuration.{ReceptionShape, From, Poll, Activity, Configuration, or_none, start, requests_of, log_of}
use Rattle.asp_model.specs.Chase.{chase}
use Rattle.asp_model.specs.Intent.{Effect, Acts, Rests, Done, intent}
use Rattle.asp_model.specs.Step.{ListsShape, intent_in, with_last, with_effect, step}
use Rattle.asp_model.specs.Status.{IsStuck, status_of_intent, status_of}
use Rattle.asp_model.specs.Replay.{CountsShape, count_in, total, replay, steps_from}
use Rattle.law_steps.specs.Reached.{IsAt}
use Rattle.law_chases.proofs.FutureLemmas.{no_some, none_true, true_false, future_total, future_same}
use Rattle.law_steps.proofs.CommuteLemmas.{intended_is}
use Rattle.law_steps.proofs.LinkedLemmas.{linked_start, step_on, stuck_on}
use Rattle.law_steps.proofs.StepLemmas.{Takes, step_taken, listed_is_free}
use Rattle.law_steps.specs.Steps.{IsPoll}
use Rattle.law_steps.proofs.ListLemmas.{grown_by, logged_list}
use Rattle.law_steps.proofs.ReachedLemmas.{start_right}
use Rattle.law_steps.proofs.ReplayLemmas.{least_picks, next_by}
use Rattle.law_services.proofs.BothLemmas.{status_alike}
use Rattle.law_services.specs.Services.{AreServedAlike, has_poll, replayed_to, set_at, arrivals_within}
use Rattle.law_services.specs.Correct.{EndAlike, ServedAlikeEndAlike, bare_of}
use Rattle.law_services.proofs.SameLemmas.{Same, same_back, Run, right_at, linked_at, next_to}
use Rattle.law_services.proofs.CoverLemmas.{Covered, covers, none_left}

-- one step more
abbrev pub one_more : Option Configuration → Configuration → Configuration
one_more o c = elim o [ None ↦ c | Some d ↦ d ]

pub more_steps : (lists : Option ListsShape) (count : Name → ℕ) (k : ℕ) (c : Configuration) → steps_from (suc k) lists count c ≡ one_more (next_by lists count (steps_from k lists count c)) (steps_from k lists count c)
more_steps lists count zero c = refl
more_steps lists count (suc k) c = elim (next_by lists count c) as (λ o. next_by lists count c ≡ o
    → let d : Configuration = elim o [ None ↦ c | Some d ↦ steps_from k lists count d ] in
    elim o [ None ↦ c | Some d ↦ steps_from (suc k) lists count d ] ≡ one_more (next_by lists count d) d) [
      | None ↦ λ e. sym (ap (λ o. one_more o c) e)
      | Some d ↦ λ e. more_steps lists count k d
    ] refl

-- the replay as a run
module _ (program : Tree) (lists : ListsShape) (counts : CountsShape) where
  abbrev R : ℕ → Configuration
  R = replayed_to program lists counts

  goes_by : (k : ℕ) (o : Option Configuration) → next_by (Some lists) (count_in counts) (R k) ≡ o → (R (suc k) ≡ R k) ⊎ ((n : Name) × (step None (R k) n ≡ Some (R (suc k))))
  goes_by k None e = inl (more_steps (Some lists) (count_in counts) k (start program) ∙ ap (λ o. one_more o (R k)) e)
  goes_by k (Some d) e =
      let to : R (suc k) ≡ d = more_steps (Some lists) (count_in counts) k (start program) ∙ ap (λ o. one_more o (R k)) e in
      let x = least_picks (Some lists) (count_in counts) (R k) d (R k).activities e in
      inr (x.0.0, listed_is_free (Some lists) (R k) x.0.0 d x.2 ∙ ap Some (sym to))

  pub replay_run : Run R
  replay_run = record {
    right = start_right program;
    linked = linked_start program;
    goes = λ k. goes_by k (next_by (Some lists) (count_in counts) (R k)) refl;
  }

-- Polls stay in logs

has_more : (xs ys : List ReceptionShape) → has_poll xs ≡ true → has_poll (xs ++ ys) ≡ true
has_more [] ys h = none_true h
has_more (Poll ∷ xs) ys h = refl
has_more (From n ∷ xs) ys h = has_more xs ys h

has_last : (xs : List ReceptionShape) → has_poll (xs ++ Poll ∷ []) ≡ true
has_last [] = refl
has_last (Poll ∷ xs) = refl
has_last (From n ∷ xs) = has_last xs

poll_logged : (c : Configuration) (n : Name) (e : Effect) → IsPoll n e → has_poll (log_of (with_effect n e c) n) ≡ true
poll_logged c n e poll = ap (λ o. has_poll (or_none (find name_cmp n (with_last o c.logs)))) poll ∙ ap has_poll (logged_list (n, Poll) c) ∙ has_last (log_of c n)

module _ (R : ℕ → Configuration) (run : Run R) where
  polled_on : (m j : ℕ) (n : Name) → has_poll (log_of (R j) n) ≡ true → has_poll (log_of (R (m + j)) n) ≡ true
  polled_on zero j n h = subst (λ k. has_poll (log_of (R k) n) ≡ true) (omega arith) h
  polled_on (suc m) j n h =
      let e : suc (m + j) ≡ suc m + j = omega arith in
      let was = polled_on m j n h in
      subst (λ k. has_poll (log_of (R k) n) ≡ true) e (⊎_elim
      (λ p. subst (λ z. has_poll (log_of z n) ≡ true) (sym p) was)
      (λ x.
      let y = step_taken None (R (m + j)) x.0 (R (suc (m + j))) x.1 in
      let g = grown_by y.0.logged (R (m + j)) n in
      subst (λ z. has_poll (log_of z n) ≡ true) y.2 (subst (λ l. has_poll l ≡ true) g.1 (has_more (log_of (R (m + j)) n) g.0 was)))
      (run.goes (m + j)))

  never_polled : (j k : ℕ) → j ≤ k → (n : Name) → has_poll (log_of (R j) n) ≡ true → has_poll (log_of (R k) n) ≡ false → ⊥
  never_polled j k le n h none =
      let e : (k - j) + j ≡ k = omega (arith, le) in
      true_false (has_poll (log_of (R k) n)) (subst (λ i. has_poll (log_of (R i) n) ≡ true) e (polled_on (k - j) j n h)) none

-- Both replays

module _ (program : Tree) (lists : ListsShape) (counts : CountsShape) (others : ListsShape) (other_counts : CountsShape)
    (stuck : IsStuck (replay program lists counts)) (stuck_too : IsStuck (replay program others other_counts))
    (alike : AreServedAlike program lists counts others other_counts) where
  abbrev A : ℕ → Configuration
  A = replayed_to program lists counts

  abbrev B : ℕ → Configuration
  B = replayed_to program others other_counts

  abbrev K : ℕ
  K = total counts

  abbrev L : ℕ
  L = total other_counts

  ra : Run A
  ra = replay_run program lists counts

  rb : Run B
  rb = replay_run program others other_counts

  still : (n : Name) → step None (A K) n ≡ None
  still = (stuck_on (A K) (right_at A ra K) (linked_at A ra K)).0 stuck

  still_too : (n : Name) → step None (B L) n ≡ None
  still_too = (stuck_on (B L) (right_at B rb L) (linked_at B rb L)).0 stuck_too

  there : (k j : ℕ) (n : Name) (a b : Activity) (labels : List Text) → k ≤ K → j ≤ L → IsAt (A k) n a → set_at a ≡ Some labels → IsAt (B j) n b → set_at b ≡ Some labels → arrivals_within labels (A K) n ≡ arrivals_within labels (B L) n
  there k j n a b labels le lj at is too is_too = alike.arrivals n labels (k, a, at, is)

  back : (k j : ℕ) (n : Name) (a b : Activity) (labels : List Text) → k ≤ L → j ≤ K → IsAt (B k) n a → set_at a ≡ Some labels → IsAt (A j) n b → set_at b ≡ Some labels → arrivals_within labels (B L) n ≡ arrivals_within labels (A K) n
  back k j n a b labels le lj at is too is_too = sym (alike.arrivals n labels (j, b, too, is_too))

  calm : (k : ℕ) (n : Name) (e : Effect) → suc k ≤ K → Takes None (A k) n e → with_effect n e (A k) ≡ A (suc k) → IsPoll n e → ⊥
  calm k n e le t to poll = never_polled A ra (suc k) K le n (subst (λ z. has_poll (log_of z n) ≡ true) to (poll_logged (A k) n e poll)) (alike.unpolled n)

  calm_too : (k : ℕ) (n : Name) (e : Effect) → suc k ≤ L → Takes None (B k) n e → with_effect n e (B k) ≡ B (suc k) → IsPoll n e → ⊥
  calm_too k n e le t to poll = never_polled B rb (suc k) L le n (subst (λ z. has_poll (log_of z n) ≡ true) to (poll_logged (B k) n e poll)) (alike.unpolled_too n)

  at_start : Covered B L (A 0)
  at_start = record {
    same = λ n a at. (0, omega arith, record { here = a; there = a; at = at; at_too = at; alike = refl; served = refl; sent = λ m. refl });
    values = λ f p h. no_some h;
  }

  at_start_too : Covered A K (B 0)
  at_start_too = record {
    same = λ n a at. (0, omega arith, record { here = a; there = a; at = at; at_too = at; alike = refl; served = refl; sent = λ m. refl });
    values = λ f p h. no_some h;
  }

  covered : (k : ℕ) → k ≤ K → Covered B L (A k)
  covered k le = covers A B ra rb K L still_too there calm k le at_start

  covered_too : (k : ℕ) → k ≤ L → Covered A K (B k)
  covered_too k le = covers B A rb ra L K still back calm_too k le at_start_too

  same_end : (n : Name) (a : Activity) → IsAt (A K) n a → Same (A K) (B L) n
  same_end n a at =
      let o = (covered K (omega arith)).same n a at in
      ⊎_elim (λ s. s)
      (λ s.
      let y = step_taken None (B s.0) n (B (suc s.0)) s.4 in
      absurd (none_left B A rb ra L K still back calm_too s.0 (omega (arith, s.2)) (covered_too s.0 (omega (arith, s.2))) n y.0 y.1.intends (calm_too s.0 n y.0 s.2 y.1 y.2) (same_back (A K) (B s.0) n s.3)))
      (next_to B rb (A K) n o.0 L o.1 o.2)

  same_end_too : (n : Name) (a : Activity) → IsAt (B L) n a → Same (B L) (A K) n
  same_end_too n a at =
      let o = (covered_too L (omega arith)).same n a at in
      ⊎_elim (λ s. s)
      (λ s.
      let y = step_taken None (A s.0) n (A (suc s.0)) s.4 in
      absurd (none_left A B ra rb K L still_too there calm s.0 (omega (arith, s.2)) (covered s.0 (omega (arith, s.2))) n y.0 y.1.intends (calm s.0 n y.0 s.2 y.1 y.2) (same_back (B L) (A s.0) n s.3)))
      (next_to A ra (B L) n o.0 K o.1 o.2)

  activities_alike : (n : Name) → bare_of (find name_cmp n (A K).activities) ≡ bare_of (find name_cmp n (B L).activities)
  activities_alike n = by_entries (find name_cmp n (A K).activities) (find name_cmp n (B L).activities) refl refl
    where
      by_entries : (o p : Option Activity) → find name_cmp n (A K).activities ≡ o → find name_cmp n (B L).activities ≡ p → bare_of (find name_cmp n (A K).activities) ≡ bare_of (find name_cmp n (B L).activities)
      by_entries (Some a) p is too = let s = same_end n a is in ap bare_of s.at ∙ ap Some s.alike ∙ sym (ap bare_of s.at_too)
      by_entries None (Some b) is too = let s = same_end_too n b too in ap bare_of s.at_too ∙ sym (ap Some s.alike) ∙ sym (ap bare_of s.at)
      by_entries None None is too = ap bare_of is ∙ sym (ap bare_of too)

  value_alike : (f : FutureShape) → find future_cmp f (A K).futures ≡ find future_cmp f (B L).futures
  value_alike f = by_entries (find future_cmp f (A K).futures) (find future_cmp f (B L).futures) refl refl
    where
      by_entries : (o p : Option ParcelShape) → find future_cmp f (A K).futures ≡ o → find future_cmp f (B L).futures ≡ p → find future_cmp f (A K).futures ≡ find future_cmp f (B L).futures
      by_entries (Some v) p is too = is ∙ sym ((covered K (omega arith)).values f v is)
      by_entries None (Some v) is too = (covered_too L (omega arith)).values f v too ∙ sym too
      by_entries None None is too = is ∙ sym too

  futures_alike : (A K).futures ≡ (B L).futures
  futures_alike = same_entries future_cmp future_total future_same (A K).futures (B L).futures (right_at A ra K).sound.ordered.futures (right_at B rb L).sound.ordered.futures value_alike

  no_act : (R : ℕ → Configuration) (run : Run R) (k : ℕ) → ((n : Name) → step None (R k) n ≡ None) → (n : Name) (e : Effect) → intent_in (R k) n ≡ Acts e → ⊥
  no_act R run k none n e h = no_some (sym (none n) ∙ step_on (R k) n e (right_at R run k) (linked_at R run k) h)

  statuses_alike : (n : Name) → status_of (A K) n ≡ status_of (B L) n
  statuses_alike n = by_entries (find name_cmp n (A K).activities) (find name_cmp n (B L).activities) refl refl
    where
      by_same : Same (A K) (B L) n → status_of (A K) n ≡ status_of (B L) n
      by_same s =
          let x = intended_is (A K) n s.here s.at in
          let y = intended_is (B L) n s.there s.at_too ∙ ap (λ vs. intent (chase vs) (requests_of (B L) n) n s.there) (sym futures_alike) in
          ap status_of_intent x
          ∙ status_alike (chase (A K).futures) n s.here s.there s.alike (requests_of (A K) n) (requests_of (B L) n)
          (λ e h. no_act A ra K still n e (x ∙ h)) (λ e h. no_act B rb L still_too n e (y ∙ h))
          ∙ sym (ap status_of_intent y)

      by_entries : (o p : Option Activity) → find name_cmp n (A K).activities ≡ o → find name_cmp n (B L).activities ≡ p → status_of (A K) n ≡ status_of (B L) n
      by_entries (Some a) p is too = by_same (same_end n a is)
      by_entries None (Some b) is too = by_same (same_back (B L) (A K) n (same_end_too n b too))
      by_entries None None is too =
          ap (λ o. status_of_intent (elim o [ None ↦ Rests Done | Some a ↦ intent (chase (A K).futures) (requests_of (A K) n) n a ])) is
          ∙ sym (ap (λ o. status_of_intent (elim o [ None ↦ Rests Done | Some a ↦ intent (chase (B L).futures) (requests_of (B L) n) n a ])) too)

  pub ends_alike : EndAlike (A K) (B L)
  ends_alike = record { activities = activities_alike; futures = futures_alike; statuses = statuses_alike }

pub served_alike_end_alike : ServedAlikeEndAlike
served_alike_end_alike program lists counts others other_counts stuck stuck_too alike = ends_alike program lists counts others other_counts stuck stuck_too alike
