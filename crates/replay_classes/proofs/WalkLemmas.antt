-- A walk goes on: a reduction that sends nothing, and one that sends.
use Rattle.std.specs.Prelude.{◌≡◌, ◌<◌, ℕ, Bool, true, false, List, [], ◌∷◌, ◌++◌, Option, Some, None, length}
use Rattle.std.proofs.Common.{refl, sym, ap, subst, ◌∙◌, ◌⊎◌, inl, inr, ⊎_elim}
use Rattle.std.specs.FinMap.{find}
use Rattle.asp_model.specs.Names.{Name, Text, name_cmp}
use Rattle.asp_model.specs.Configuration.{RequestShape, ReceptionShape, From, Poll, Configuration, or_none, start, requests_of, log_of}
use Rattle.asp_model.specs.Intent.{Effect, Intent, Acts, Rests}
use Rattle.asp_model.specs.Step.{intent_in, with_effect, with_last}
use Rattle.asp_model.specs.Term.{Tree, locations}
use Rattle.def_journals.specs.Journals.{number_of}
use Rattle.law_chases.proofs.FutureLemmas.{no_some, some_is}
use Rattle.law_steps.specs.Reached.{IsReached, RunsTo, Steps}
use Rattle.law_steps.specs.Steps.{IsPoll}
use Rattle.law_steps.proofs.FactLemmas.{IsLogged, acts_facts}
use Rattle.law_steps.proofs.LinkedLemmas.{intends_step}
use Rattle.law_steps.proofs.ListLemmas.{logged_by}
use Rattle.law_steps.proofs.ReachedLemmas.{leads_on, moves_go_on, start_is_reached}
use Rattle.law_services.specs.Services.{has_poll}
use Rattle.law_classes.specs.Requests.{NobodyPolled, request_logs}
use Rattle.law_classes.specs.Alike.{asked_at}
use Rattle.law_classes.specs.Runs.{entered, entry_of, with_entry}
use Rattle.class_search.specs.declared.ends.Sending.{Sending}
use Rattle.step_activity.specs.Outlook.{IsTo}
use Rattle.replay_population.specs.declared.population.Population.{Population}
use Rattle.replay_population.specs.Giving.{CanStepNow}
use Rattle.replay_population.specs.Population.{IsPopulation}
use Rattle.replay_population.specs.Reached.{IsReachedPopulation}
use Rattle.replay_population.proofs.EndLemmas.{reached_closed}
use Rattle.replay_population.proofs.GivingLemmas.{reached_hand_on}
use Rattle.replay_classes.specs.declared.looks.Look.{Look}
use Rattle.replay_classes.specs.declared.looks.Look.TheVariants as look
use Rattle.replay_classes.specs.declared.walks.Walk.{Walk}
use Rattle.replay_classes.specs.Looks.{IsLook, Sends}
use Rattle.replay_classes.specs.Sendings.{logs_from, entry_of as entry_sent}
use Rattle.replay_classes.specs.Walks.{IsSomeWalk, IsWalk, GoesOn}
use Rattle.replay_classes.proofs.RequestLemmas.{logs_after}
use Rattle.replay_classes.proofs.SendingLemmas.{sent_last}

-- A step from where a program leads

pub reached_on : (p q : Population) (program : Tree) (c : Configuration) (n : Name) (e : Effect) → IsReachedPopulation p program c → intent_in c n ≡ Acts e → IsPopulation q (with_effect n e c) → IsReachedPopulation q program (with_effect n e c)
reached_on p q program c n e h intends then = record {
  bare = h.bare;
  reached = moves_go_on program c (with_effect n e c) (Steps None n) h.reached (intends_step program c n e h.reached intends);
  population = then;
}

pub can_step : (p : Population) (number : ℕ) (program : Tree) (c : Configuration) (n : Name) (e : Effect) → IsReachedPopulation p program c → number_of n p.roster ≡ Some number → intent_in c n ≡ Acts e → CanStepNow p number
can_step p number program c n e h is intends = (n, is, c, e, reached_closed p program c h, intends, reached_hand_on program c n e h.bare h.reached intends)

-- What is logged is not a poll

poll_last : (xs : List ReceptionShape) (n : Name) → has_poll (xs ++ From n ∷ []) ≡ has_poll xs
poll_last [] n = refl
poll_last (Poll ∷ xs) n = refl
poll_last (From m ∷ xs) n = poll_last xs n

abbrev IsNoPoll : Option (Name × ReceptionShape) → Type 0
IsNoPoll None = Unit {0}
IsNoPoll (Some z) = (m : Name) × (z.1 ≡ From m)

unpolled_by : (c : Configuration) (o : Option (Name × ReceptionShape)) (m : Name) → IsNoPoll o → has_poll (log_of c m) ≡ false → has_poll (or_none (find name_cmp m (with_last o c.logs))) ≡ false
unpolled_by c None m calm h = h
unpolled_by c (Some z) m calm h = ⊎_elim
    (λ x. ap has_poll (x.1 ∙ ap (λ r. log_of c m ++ r ∷ []) calm.1) ∙ poll_last (log_of c m) calm.0 ∙ h)
    (λ x. ap has_poll x ∙ h)
    (logged_by z c m)

pub unpolled_on : (c : Configuration) (n : Name) (e : Effect) → IsNoPoll e.logged → NobodyPolled c → NobodyPolled (with_effect n e c)
unpolled_on c n e calm h m = unpolled_by c e.logged m calm (h m)

module _ (K : Text → ℕ) (program : Tree) (p q : Population) (ss : List Sending) (c : Configuration) (n : Name) (e : Effect) (h : IsWalk K program p ss c) (intends : intent_in c n ≡ Acts e) (then : IsPopulation q (with_effect n e c)) where
  no_poll : IsNoPoll e.logged → IsPoll n e → ⊥
  no_poll calm poll = by_logged e.logged calm poll
    where
      by_logged : (o : Option (Name × ReceptionShape)) → IsNoPoll o → o ≡ Some (n, Poll) → ⊥
      by_logged None calm is = no_some is
      by_logged (Some z) calm is =
          let f : From calm.0 ≡ Poll = sym calm.1 ∙ ap (λ (x : Name × ReceptionShape). x.1) (some_is is) in
          absurd cc

  run_on : RunsTo None (start program) (h.names ++ n ∷ []) (with_effect n e c)
  run_on = leads_on _ h.names (n ∷ []) (start program) c (with_effect n e c) h.run (with_effect n e c, intends_step program c n e h.reached.reached intends, refl)

  walk_on : (ts : List Sending) → IsNoPoll e.logged → ((m : Name) (κ : ℕ) → logs_from ts m κ ≡ with_entry (entry_of K c n e) (request_logs K c) m κ) → IsWalk K program q ts (with_effect n e c)
  walk_on ts calm logs = record {
    reached = reached_on p q program c n e h.reached intends then;
    names = h.names ++ n ∷ [];
    run = run_on;
    unpolled = unpolled_on c n e calm h.unpolled;
    logs = λ m κ. logs m κ ∙ ap (λ l. l m κ) (logs_after K c n e intends (no_poll calm));
  }

  -- it sends nothing
  pub quiet_on : e.sent ≡ None → e.logged ≡ None → IsWalk K program q ss (with_effect n e c)
  quiet_on sent logged = walk_on ss
      (subst IsNoPoll (sym logged) tt)
      (λ m κ. h.logs m κ ∙ ap (λ o. with_entry o (request_logs K c) m κ) (sym (none_entered e.logged logged)))
    where
      none_entered : (l : Option (Name × ReceptionShape)) → l ≡ None → entered K (asked_at c n) e.sent l ≡ None
      none_entered l is = ap (λ o. entered K (asked_at c n) e.sent o) is ∙ by_sent e.sent
        where
          by_sent : (s : Option (Name × RequestShape)) → entered K (asked_at c n) s None ≡ None
          by_sent None = refl
          by_sent (Some z) = refl

  -- it sends
  pub sent_on : (s : Sending) → Sends e → entry_of K c n e ≡ entry_sent s → IsWalk K program q (ss ++ s ∷ []) (with_effect n e c)
  sent_on s sends entry = walk_on (ss ++ s ∷ [])
      (by_facts e.sent e.logged sends (acts_facts c n e intends).1.logged)
      (λ m κ. sent_last ss s m κ ∙ ap (λ l. with_entry (entry_sent s) l m κ) same ∙ ap (λ o. with_entry o (request_logs K c) m κ) (sym entry))
    where
      same : logs_from ss ≡ request_logs K c
      same = λ i m κ. h.logs m κ i

      by_facts : (o : Option (Name × RequestShape)) (l : Option (Name × ReceptionShape)) → (o ≡ None → ⊥) → IsLogged n o l → IsNoPoll l
      by_facts None l sends logged = absurd (sends refl)
      by_facts (Some z) l sends logged = subst IsNoPoll (sym logged) (n, refl)

-- What is told of an activity

pub look_steps : (n : Name) (i : Intent) → IsLook n i look.Steps → (e : Effect) × (i ≡ Acts e) × (e.sent ≡ None) × (e.logged ≡ None)
look_steps n (Acts e) h = (e, refl, h.0, h.1)
look_steps n (Rests s) h = absurd h

pub look_sends : (n m : Name) (i : Intent) → IsLook n i (look.Sends m) → (e : Effect) × (i ≡ Acts e) × Sends e
look_sends n m (Acts e) h = (e, refl, λ none. to_some e.sent h none)
  where
    to_some : (o : Option (Name × RequestShape)) → IsTo o m → o ≡ None → ⊥
    to_some None h none = h
    to_some (Some z) h none = no_some (sym none)
look_sends n m (Rests s) h = absurd h

pub goes_not : (K : Text → ℕ) (w : Walk) → GoesOn K w w
goes_not K w program c h = (c, h)

pub goes_both : (K : Text → ℕ) (a b d : Walk) → GoesOn K a b → GoesOn K b d → GoesOn K a d
goes_both K a b d f g program c h = let x = f program c h in g program x.0 x.1

-- another population that stands for the same
pub settled : (K : Text → ℕ) (program : Tree) (p q : Population) (ss : List Sending) (c : Configuration) → IsWalk K program p ss c → IsPopulation q c → IsWalk K program q ss c
settled K program p q ss c h then = record {
  reached = record { bare = h.reached.bare; reached = h.reached.reached; population = then };
  names = h.names;
  run = h.run;
  unpolled = h.unpolled;
  logs = h.logs;
}

-- at the start nothing was sent
pub walk_start : (K : Text → ℕ) (program : Tree) (p : Population) → locations program ≡ [] → IsPopulation p (start program) → IsWalk K program p [] (start program)
walk_start K program p bare then = record {
  reached = record { bare = bare; reached = start_is_reached program; population = then };
  names = [];
  run = refl;
  unpolled = λ n. refl;
  logs = λ q κ. refl;
}

pub some_on : (K : Text → ℕ) (a b : Walk) → IsSomeWalk K a → GoesOn K a b → IsSomeWalk K b
some_on K a b h g = let d = g h.0 h.1 h.2 in (h.0, d.0, d.1)
