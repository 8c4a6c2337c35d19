-- One step that is redone.
use Rattle.std.proofs.Common.{◌≡◌, ◌≢◌, ◌++◌, ◌∷◌, [], ℕ, suc, Bool, true, false, List, Option, Some, None, is_some, refl, sym, ap, subst, ◌∙◌, ⊎_elim, inl, inr, ◌⊎◌, append-nil, arith}
use Rattle.std.specs.Prelude.{◌||◌}
use Rattle.std.specs.FinMap.{find, put}
use Rattle.asp_model.specs.Names.{FutureShape, Name, name_cmp}
use Rattle.asp_model.specs.Term.{Tree}
use Rattle.asp_model.specs.Chase.{Chase, chase}
use Rattle.asp_model.specs.Configuration as model
use Rattle.asp_model.specs.Configuration.{Configuration, RequestShape, requests_of}
use Rattle.asp_model.specs.Intent as intents
use Rattle.asp_model.specs.Intent.{Acts, Done, Effect, Intent, StatusShape, intent}
use Rattle.asp_model.specs.Status.{is_running, status_of, status_of_intent}
use Rattle.asp_model.specs.Step.{intent_in, put_some, step, with_effect}
use Rattle.def_journals.specs.Communications.{communicates_next, is_communication}
use Rattle.def_journals.specs.Journals.{number_of}
use Rattle.def_journals.specs.Owed.{need_of, need_to}
use Rattle.law_chases.proofs.FutureLemmas.{no_some, some_is, none_true}
use Rattle.law_chases.proofs.MapLemmas.{find_same, find_other}
use Rattle.law_core.specs.Commits.{made_by, with_activity}
use Rattle.law_journals.proofs.LocalLemmas.{steps_are_local}
use Rattle.law_redo.proofs.AskingLemmas.{needers_ask}
use Rattle.law_steps.specs.Reached.{IsAt, IsThere, Steps}
use Rattle.law_steps.specs.Sound.{IsSound}
use Rattle.law_steps.proofs.ExactLemmas.{here_after}
use Rattle.law_steps.proofs.FactLemmas.{IsMade, IsSent, acts_facts, face, face_of}
use Rattle.law_steps.proofs.FrameLemmas.{effects_are_new}
use Rattle.law_steps.proofs.LinkedLemmas.{acting, intends_step}
use Rattle.law_steps.proofs.NameLemmas.{name_case, name_same, name_total, not_some, is_there}
use Rattle.law_steps.proofs.ReachedLemmas.{moves_go_on}
use Rattle.law_steps.proofs.WakeLemmas.{none_rests_running}
use Rattle.law_steps.proofs.WholeLemmas.{reached_are_sound}
use Rattle.step_activity.specs.Stances.{stance_by, stance_of}
use Rattle.step_parts.specs.Stances.{StanceShape, Goes, Needs, Rests}
use Rattle.replay_population.specs.declared.population.Population.{Population}
use Rattle.replay_population.specs.Giving.{CanHandOn}
use Rattle.replay_population.specs.Population.{IsClosedBySome, IsPopulation}
use Rattle.replay_population.proofs.EndLemmas.{reached_closed}
use Rattle.replay_population.proofs.GivingLemmas.{reached_hand_on}
use Rattle.replay_parts.proofs.RosterLemmas.{number_front, number_other}
use Rattle.journal_runs.specs.Reducing.{SameThere}
use Rattle.journal_runs.specs.Stepping.{IsActed, IsActing, IsAfter, IsNeeding, IsReducing, IsResting, IsStepped, MayFollow, gives}

-- Stances

abbrev by_need : Option (FutureShape × ℕ) → StanceShape → StanceShape
by_need o x = elim o [ Some y ↦ Needs y.0 y.1 | None ↦ x ]

abbrev goes_so : StanceShape → Bool
goes_so (Goes b) = b
goes_so x = false

goes_by : (o : Option (FutureShape × ℕ)) (b w : Bool) (p : Intent) → Goes w ≡ by_need o (stance_by b p) → (b ≡ w) × ((e : Effect) × (p ≡ Acts e))
goes_by (Some y) b w p h = absurd cc
goes_by None b w (Acts e) h = (ap goes_so (sym h), (e, refl))
goes_by None b w (intents.Rests status) h = absurd cc

needs_by : (o : Option (FutureShape × ℕ)) (b : Bool) (p : Intent) (f : FutureShape) (place : ℕ) → Needs f place ≡ by_need o (stance_by b p) → (x : FutureShape × ℕ) × (o ≡ Some x)
needs_by (Some y) b p f place h = (y, refl)
needs_by None b (Acts e) f place h = absurd cc
needs_by None b (intents.Rests status) f place h = absurd cc

rests_by : (o : Option (FutureShape × ℕ)) (b : Bool) (p : Intent) (status : StatusShape) → Rests status ≡ by_need o (stance_by b p) → (t : StatusShape) × (p ≡ intents.Rests t)
rests_by (Some y) b p status h = absurd cc
rests_by None b (Acts e) status h = absurd cc
rests_by None b (intents.Rests t) status h = (t, refl)

module _ (c : Configuration) (n : Name) (a : model.Activity) (at : IsAt c n a) where
  intends_is : intent_in c n ≡ intent (chase c.futures) (requests_of c n) n a
  intends_is = ap (λ (o : Option model.Activity). elim o [ None ↦ intents.Rests Done | Some b ↦ intent (chase c.futures) (requests_of c n) n b ]) at

  asks_is : communicates_next c n ≡ is_communication (chase c.futures) a
  asks_is = ap (λ (o : Option model.Activity). elim o [ None ↦ false | Some b ↦ is_communication (chase c.futures) b ]) at

  need_is : need_to c n ≡ need_of (chase c.futures) a
  need_is = ap (λ (o : Option model.Activity). elim o [ None ↦ None | Some b ↦ need_of (chase c.futures) b ]) at

  pub next_goes : (w : Bool) → Goes w ≡ stance_of (chase c.futures) (requests_of c n) n a → (communicates_next c n ≡ w) × IsActing c n
  next_goes w h =
      let x = goes_by (need_of (chase c.futures) a) (is_communication (chase c.futures) a) w (intent (chase c.futures) (requests_of c n) n a) h in
      (asks_is ∙ x.0, (x.1.0, intends_is ∙ x.1.1))

  pub next_needs : (f : FutureShape) (place : ℕ) → Needs f place ≡ stance_of (chase c.futures) (requests_of c n) n a → IsNeeding c n
  next_needs f place h =
      let x = needs_by (need_of (chase c.futures) a) (is_communication (chase c.futures) a) (intent (chase c.futures) (requests_of c n) n a) f place h in
      (x.0, need_is ∙ x.1)

  pub next_rests : (status : StatusShape) → Rests status ≡ stance_of (chase c.futures) (requests_of c n) n a → IsResting c n
  next_rests status h =
      let x = rests_by (need_of (chase c.futures) a) (is_communication (chase c.futures) a) (intent (chase c.futures) (requests_of c n) n a) status h in
      (x.0, intends_is ∙ x.1)

  -- who needs a value asks others exactly if its step gives them something
  pub needing_asks : (e : Effect) → IsNeeding c n → intent_in c n ≡ Acts e → communicates_next c n ≡ gives e
  needing_asks e needs intends = asks_is ∙ needers_ask (chase c.futures) (requests_of c n) n a e needs.0 (sym need_is ∙ needs.1) (sym intends_is ∙ intends)

-- Who is there

-- who is written where somebody was changes nobody's being there
pub same_put : (c : Configuration) (n : Name) (b : model.Activity) → IsThere c n → SameThere c (with_activity n b c)
same_put c n b there m = ⊎_elim
    (λ same. ap (λ k. is_some (find name_cmp k (put name_cmp n b c.activities))) same ∙ ap is_some (find_same name_cmp name_total name_same n b c.activities) ∙ sym there ∙ ap (λ k. is_some (find name_cmp k c.activities)) (sym same))
    (λ apart. ap is_some (find_other name_cmp name_total name_same m n b c.activities apart))
    (name_case m n)

pub same_both : (c d e : Configuration) → SameThere c d → SameThere d e → SameThere c e
same_both c d e x y m = y m ∙ x m

-- A step that is no communication makes nobody

not_more : (k : ℕ) → k ≡ suc k → ⊥
not_more k e = omega (arith, e)

module _ (program : Tree) (c : Configuration) (n : Name) (e : Effect) (sound : IsSound c) (steps : step None c n ≡ Some (with_effect n e c)) (intends : intent_in c n ≡ Acts e) (new : (z : Name × model.Activity) → e.made ≡ Some z → find name_cmp z.0 c.activities ≡ None) where
  own_there : (z : Name × model.Activity) → e.made ≡ Some z → find name_cmp n (with_effect n e c).activities ≡ Some e.own
  own_there z is =
      let a = acting c n e intends in
      let apart : n ≢ z.0 = λ same. no_some (sym (new z is) ∙ ap (λ m. find name_cmp m c.activities) (sym same) ∙ a.1) in
      ap (λ (o : Option (Name × model.Activity)). find name_cmp n (put_some name_cmp o (put name_cmp n e.own c.activities))) is
      ∙ find_other name_cmp name_total name_same n z.0 z.1 (put name_cmp n e.own c.activities) apart
      ∙ find_same name_cmp name_total name_same n e.own c.activities

  made_quiet : communicates_next c n ≡ false → (o : Option (Name × model.Activity)) → e.made ≡ o → o ≡ None
  made_quiet quiet None is = refl
  made_quiet quiet (Some z) is =
      let l = steps_are_local c (with_effect n e c) n steps quiet in
      let own : l.1 ≡ e.own = some_is (sym l.2.there ∙ own_there z is) in
      let made = subst (IsMade n (face (find name_cmp n c.activities)) (face_of e.own)) is (acts_facts c n e intends).1.made in
      let was : (face (find name_cmp n c.activities)).creations ≡ l.0.creations = ap (λ o. (face o).creations) l.2.here in
      absurd (not_more l.0.creations (sym l.2.creations ∙ ap (λ (b : model.Activity). b.creations) own ∙ made.1 ∙ ap suc was))

  pub quiet_makes_none : communicates_next c n ≡ false → e.made ≡ None
  quiet_makes_none quiet = made_quiet quiet e.made refl

  sent_quiet : communicates_next c n ≡ false → (o : Option (Name × RequestShape)) → e.sent ≡ o → o ≡ None
  sent_quiet quiet None is = refl
  sent_quiet quiet (Some z) is =
      let l = steps_are_local c (with_effect n e c) n steps quiet in
      let there : find name_cmp n (with_effect n e c).activities ≡ Some e.own =
      ap (λ (o : Option (Name × model.Activity)). find name_cmp n (put_some name_cmp o (put name_cmp n e.own c.activities))) (quiet_makes_none quiet)
      ∙ find_same name_cmp name_total name_same n e.own c.activities in
      let own : l.1 ≡ e.own = some_is (sym l.2.there ∙ there) in
      let sent = subst (IsSent n (face (find name_cmp n c.activities)) (face_of e.own)) is (acts_facts c n e intends).1.sent in
      let was : (face (find name_cmp n c.activities)).sends ≡ l.0.sends = ap (λ o. (face o).sends) l.2.here in
      absurd (not_more l.0.sends (sym l.2.sends ∙ ap (λ (b : model.Activity). b.sends) own ∙ sent.1 ∙ ap suc was))

  -- and it gives nothing
  pub quiet_gives : communicates_next c n ≡ false → gives e ≡ false
  quiet_gives quiet = λ i. is_some (sent_quiet quiet e.sent refl i) || is_some (quiet_makes_none quiet i)

  -- so the same are there
  pub quiet_same : communicates_next c n ≡ false → SameThere c (with_effect n e c)
  quiet_same quiet m =
      ap (λ (o : Option (Name × model.Activity)). is_some (find name_cmp m (put_some name_cmp o (put name_cmp n e.own c.activities)))) (quiet_makes_none quiet)
      ∙ same_put c n e.own (ap is_some (acting c n e intends).1) m

-- A step that is taken

module _ (p : Population) (program : Tree) (c : Configuration) (number : ℕ) (n : Name) (r : IsReducing p program c number n) where
  pub reducing_closed : IsClosedBySome p
  reducing_closed = (c, reached_closed p program c r.reached)

  pub reducing_there : IsThere c n
  reducing_there = r.there n number r.named

  pub reducing_sound : IsSound c
  reducing_sound = reached_are_sound program c r.reached.reached

  module _ (e : Effect) (intends : intent_in c n ≡ Acts e) where
    pub step_is : step None c n ≡ Some (with_effect n e c)
    step_is = intends_step program c n e r.reached.reached intends

    pub effect_free : CanHandOn c e
    effect_free = reached_hand_on program c n e r.reached.bare r.reached.reached intends

    pub made_absent : (z : Name × model.Activity) → e.made ≡ Some z → find name_cmp z.0 c.activities ≡ None
    made_absent = (effects_are_new program c n e r.reached.reached intends).made

    -- whom it makes has no number
    pub made_unnumbered : (z : Name × model.Activity) → e.made ≡ Some z → number_of z.0 p.roster ≡ None
    made_unnumbered z is = by (number_of z.0 p.roster) refl
      where
        by : (o : Option ℕ) → number_of z.0 p.roster ≡ o → o ≡ None
        by None h = refl
        by (Some k) h = none_true (ap is_some (sym (made_absent z is)) ∙ r.there z.0 k h)

    there_after : (o : Option (Name × model.Activity)) → e.made ≡ o → (m : Name) (k : ℕ) → number_of m (p.roster ++ made_by o) ≡ Some k → IsThere (with_effect n e c) m
    there_after None is m k h = here_after c n e m (r.there m k (ap (number_of m) (sym (append-nil p.roster)) ∙ h))
    there_after (Some z) is m k h = ⊎_elim
        (λ same. ap (λ (o : Option (Name × model.Activity)). is_some (find name_cmp m (put_some name_cmp o (put name_cmp n e.own c.activities)))) is
        ∙ ap (λ w. is_some (find name_cmp w (put name_cmp z.0 z.1 (put name_cmp n e.own c.activities)))) same
        ∙ ap is_some (find_same name_cmp name_total name_same z.0 z.1 (put name_cmp n e.own c.activities)))
        (λ apart. here_after c n e m (r.there m k (sym (number_other p.roster z.0 m apart) ∙ h)))
        (name_case m z.0)

    pub is_after : (q : Population) → IsPopulation q (with_effect n e c) → q.roster ≡ p.roster ++ made_by e.made → IsAfter q program p.roster c number n e
    is_after q pop names = record {
      reducing = record {
        reached = record { bare = r.reached.bare; reached = moves_go_on program c (with_effect n e c) (Steps None n) r.reached.reached step_is; population = pop };
        named = ap (number_of n) names ∙ number_front p.roster (made_by e.made) n number r.named;
        there = λ m k h. there_after e.made refl m k (ap (number_of m) (sym names) ∙ h);
      };
      names = names;
    }

    -- what may follow

    not_quiet : gives e ≡ true → communicates_next c n ≡ false → ⊥
    not_quiet g quiet = none_true (sym (quiet_gives program c n e reducing_sound step_is intends made_absent quiet) ∙ g)

    asks_so : gives e ≡ true → (communicates_next c n ≡ false) ⊎ IsNeeding c n → communicates_next c n ≡ true
    asks_so g why =
        let a = is_there (find name_cmp n c.activities) reducing_there in
        ⊎_elim (λ quiet. absurd (not_quiet g quiet)) (λ needs. needing_asks c n a.0 a.1 e needs intends ∙ g) why

    quiet_so : gives e ≡ false → (communicates_next c n ≡ false) ⊎ IsNeeding c n → communicates_next c n ≡ false
    quiet_so g why =
        let a = is_there (find name_cmp n c.activities) reducing_there in
        ⊎_elim (λ quiet. quiet) (λ needs. needing_asks c n a.0 a.1 e needs intends ∙ g) why

    pub acted_stepped : (q : Population) (more b : Bool) → (more ≡ true → (communicates_next c n ≡ false) ⊎ IsNeeding c n) → IsActed q program p.roster c number n e more b → IsStepped q program p.roster c number n more b
    acted_stepped q more true may h = (e, intends, h.0, λ m. quiet_so (h.1 m) (may m))
    acted_stepped q more false may h = inr (h.0, asks_so h.1 (may h.0))

-- Who can step

module _ (c : Configuration) (n : Name) where
  pub acting_if : is_running (status_of c n) ≡ true → IsActing c n
  acting_if h = by (intent_in c n) refl h
    where
      by : (p : Intent) → intent_in c n ≡ p → is_running (status_of_intent p) ≡ true → IsActing c n
      by (Acts e) is h = (e, is)
      by (intents.Rests intents.Running) is h = absurd (none_rests_running c n is)
      by (intents.Rests Done) is h = none_true h
      by (intents.Rests intents.Serving) is h = none_true h
      by (intents.Rests (intents.Awaits f)) is h = none_true h
      by (intents.Rests (intents.Faulted x)) is h = none_true h

  pub resting_if : is_running (status_of c n) ≡ false → IsResting c n
  resting_if h = by (intent_in c n) refl h
    where
      by : (p : Intent) → intent_in c n ≡ p → is_running (status_of_intent p) ≡ false → IsResting c n
      by (Acts e) is h = none_true (sym h)
      by (intents.Rests status) is h = (status, is)
