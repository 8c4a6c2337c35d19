-- Rounds and runs of the machine.
use Rattle.std.proofs.Common.{◌≡◌, ◌≢◌, ◌≤◌, ◌<◌, ◌+◌, ◌++◌, [], ℕ, zero, suc, true, false, List, Option, Some, None, is_some, map, refl, sym, ap, subst, ◌∙◌, inl, inr, ◌⊎◌, ⊎_elim, arith}
use Rattle.std.proofs.lemmas.Bool.{false_from_ne_true}
use Rattle.std.proofs.lemmas.List.{append_assoc}
use Rattle.std.specs.FinMap.{find}
use Rattle.asp_model.specs.Names.{Name, FutureShape, Text, future_cmp, name_cmp}
use Rattle.asp_model.specs.Term.{Tree, has_text}
use Rattle.asp_model.specs.Configuration.{Activity, Configuration, ReceptionShape}
use Rattle.asp_model.specs.Intent.{Acts, Effect, Intent, Rests, StatusShape, Awaits, Serving}
use Rattle.asp_model.specs.Chase.{chase}
use Rattle.asp_model.specs.Step.{ListsShape, intent_in, put_some, with_effect}
use Rattle.asp_model.specs.Status.{is_awaiting, is_running, status_of, status_of_intent}
use Rattle.asp_model.specs.Replay.{least_step, steps_from}
use Rattle.def_journals.specs.Journals.{number_of}
use Rattle.law_steps.specs.Reached.{IsAt, IsReached, IsThere, Steps}
use Rattle.law_steps.specs.Waking.{labels_wanted}
use Rattle.law_steps.proofs.CommuteLemmas.{values_kept}
use Rattle.law_steps.proofs.FactLemmas.{acts_facts}
use Rattle.law_steps.proofs.KeptLemmas.{fresh}
use Rattle.law_chases.proofs.MapLemmas.{find_other, find_same}
use Rattle.law_steps.proofs.NameLemmas.{name_case, name_same, name_total}
use Rattle.law_chases.proofs.FutureLemmas.{future_total, future_same, no_some, none_true, some_is, true_false}
use Rattle.law_steps.proofs.OrderLemmas.{own_kept}
use Rattle.law_steps.proofs.ReachedLemmas.{moves_go_on, reached_sound}
use Rattle.law_steps.proofs.SoundLemmas.{Took}
use Rattle.law_schedules.specs.Schedules.{IsFilledBy, IsScheduled, RestsIn}
use Rattle.law_schedules.proofs.LeastLemmas.{least_steps, notes_leave, resters_leave}
use Rattle.law_schedules.specs.Watches.{IsWatched, IsWatchedAt, Watches}
use Rattle.law_schedules.proofs.WokenLemmas.{called_are_scheduled}
use Rattle.replay_parts.specs.declared.bounds.Bounds.{Bounds}
use Rattle.replay_population.specs.declared.population.Population.{Population}
use Rattle.replay_one.specs.declared.round.Machine.{Machine}
use Rattle.replay_parts.specs.Roster.{IsRoster, Leads}
use Rattle.replay_parts.specs.declared.bounds.Bounds.TheVariants as bounds
use Rattle.replay_parts.specs.Bounds.{IsNumbered, count_within, lists_within}
use Rattle.replay_parts.proofs.RosterLemmas.{leads_both}
use Rattle.step_reads.proofs.PassedLemmas.{passed_still}
use Rattle.step_reads.specs.declared.strict.Strict.TheVariants as strict
use Rattle.step_activity.specs.Passing.{HasPassed}
use Rattle.step_activity.proofs.PassingLemmas.{first_passed}
use Rattle.replay_population.specs.Population.{ArePassed, HasPassedIn, IsForgotten, IsPassing, IsPopulation, IsRunIn, KeepsPassed, or_zero, passed_in, with_activity}
use Rattle.replay_population.specs.Reached.{IsReachedPopulation}
use Rattle.replay_one.specs.declared.schedule.Schedule.{Schedule}
use Rattle.replay_one.specs.Schedule.{IsForNobody, IsMoreReady, IsNoted, IsTaken, IsWatching, Seen, seen, asks_in, noted_in, ready_in, sends_in, watches_in}
use Rattle.replay_one.specs.Round.{CanStep, IsHandedOn, IsRunAt, IsRunBut, IsRunLess, IsRunWith, LeadsTo, Leaves, LogsTo, next_by, seen_in}
use Rattle.replay_parts.specs.Listening.{IsDeafToLines}
use Rattle.replay_parts.specs.Notes.{NoteShape, notes_of}
use Rattle.replay_one.specs.Told.{notes_by}
use Rattle.replay_one.proofs.LocalLemmas.{local_runs_go_on}
use Rattle.replay_one.proofs.NoteLemmas.{least_noted, notes_more, one_noted}
use Rattle.replay_parts.proofs.NoteLemmas.{AreLines, told_lines, told_quiet}
use Rattle.replay_population.proofs.PopulationLemmas.{absent_nowhere, still_none}

pub reached_population : (b : Bounds) (p : Population) (s : Seen) (program : Tree) (c : Configuration) → IsRunWith b p s program c → IsReachedPopulation p program c
reached_population b p s program c h = record { bare = h.bare; reached = h.reached; population = h.population }

-- the names that had numbers have them still
pub numbered_on : (b : Bounds) (ns ms : List Name) → IsNumbered b ns → Leads ns ms → IsNumbered b ms
numbered_on (bounds.Budget n) ns ms h l = tt
numbered_on (bounds.Listed lists counts) ns ms h l = leads_both (map (λ x. x.0) lists.now.entries.items) ns ms h l

awaits_is : (f g : FutureShape) → Awaits f ≡ Awaits g → f ≡ g
awaits_is f g e = ap (awaited f) e
  where
    awaited : FutureShape → StatusShape → FutureShape
    awaited f (Awaits g) = g
    awaited f s = f

pub but_reached : (b : Bounds) (m : Machine) (n : Name) (program : Tree) (c : Configuration) → IsRunBut b m n program c → IsReachedPopulation m.population program c
but_reached b m n program c h = reached_population b m.population h.before program c h.run

acts_is : (e g : Effect) → Acts e ≡ Acts g → e ≡ g
acts_is e g h = ap (λ (p : Intent). elim p [ Acts f ↦ f | Rests s ↦ e ]) h

-- Members that are passed

pub kept_passed : (p q : Population) (c : Configuration) → KeepsPassed p q → ArePassed p c → ArePassed q c
kept_passed p q c keeps h = λ n k is. h n k (keeps n k is)

-- it is not the one of whom nothing is noted
other_than : (p : Population) (n m : Name) (k : ℕ) → passed_in p n ≡ None → passed_in p m ≡ Some k → m ≢ n
other_than p n m k alone is same = no_some (sym alone ∙ ap (passed_in p) (sym same) ∙ is)

-- an activity that is not noted goes on alone
ran_passed : (c : Configuration) (n : Name) (p q : Population) (b : Activity) → KeepsPassed p q → passed_in p n ≡ None → ArePassed p c → ArePassed q (with_activity n b c)
ran_passed c n p q b same alone h = kept_passed p q (with_activity n b c) same (λ m k is.
    let x = h m k is in
    (x.0, find_other name_cmp name_total name_same m n b c.activities (other_than p n m k alone is) ∙ x.1, x.2))

-- or takes a step
stepped_passed : (program : Tree) (c : Configuration) (n : Name) (p q : Population) (e : Effect) → IsReached program c → intent_in c n ≡ Acts e → KeepsPassed p q → passed_in p n ≡ None → ArePassed p c → ArePassed q (with_effect n e c)
stepped_passed program c n p q e reached intends same alone h =
    let facts = acts_facts c n e intends in
    let t : Took c n e = record { sound = reached_sound program c reached; there = facts.0; facts = facts.1 } in
    kept_passed p q (with_effect n e c) same (λ m k is.
    let x = h m k is in (
      x.0,
      own_kept c m n e (other_than p n m k alone is) (fresh c n e t) (ap is_some x.1) ∙ x.1,
      (λ cs i at. passed_still (chase c.futures) (chase (with_effect n e c).futures) (values_kept c n e t) x.0.store (strict.Members i) k (x.2 cs i at)),
    ))

-- where what is noted of members that are passed changes alone
still_there : (p q : Population) (c : Configuration) → q ≡ record p { passed = q.passed } → IsPopulation p c → IsPopulation q c
still_there p q c same h = subst (λ (r : Population). IsPopulation r c) (sym same) (record { roster = h.roster; activities = h.activities; logs = h.logs; futures = h.futures; code = h.code; actors = h.actors; values = h.values })

still_numbered : (b : Bounds) (p q : Population) → q ≡ record p { passed = q.passed } → IsNumbered b p.roster → IsNumbered b q.roster
still_numbered b p q same h = subst (λ (r : Population). IsNumbered b r.roster) (sym same) h

-- what is noted of one is forgotten
pub forgotten_run : (b : Bounds) (program : Tree) (c : Configuration) (p : Population) (s : Seen) (n : Name) (q : Population) → IsRunWith b p s program c → IsForgotten p n q → IsRunWith b q s program c
forgotten_run b program c p s n q h f = record {
  bare = h.bare;
  reached = h.reached;
  population = still_there p q c f.same h.population;
  numbered = still_numbered b p q f.same h.numbered;
  scheduled = h.scheduled;
  watched = h.watched;
  passed = λ m' k is. h.passed m' k (f.noted m' k is).1;
}

-- what one has passed is noted
pub passing_run : (b : Bounds) (program : Tree) (c : Configuration) (p : Population) (s : Seen) (n : Name) (a : Activity) (k : ℕ) (q : Population) → IsRunWith b p s program c → IsPassing p n k q → IsAt c n a → HasPassed (chase c.futures) a k → IsRunWith b q s program c
passing_run b program c p s n a k q h f at has = record {
  bare = h.bare;
  reached = h.reached;
  population = still_there p q c f.same h.population;
  numbered = still_numbered b p q f.same h.numbered;
  scheduled = h.scheduled;
  watched = h.watched;
  passed = λ m' j is. ⊎_elim
      (λ was. h.passed m' j was)
      (λ here. (a, ap (λ (k : Name). find name_cmp k c.activities) here.0 ∙ at, subst (HasPassed (chase c.futures) a) (sym here.1) has))
      (f.noted m' j is);
}

-- the population is another that stands for the same
pub settled_run : (b : Bounds) (program : Tree) (c : Configuration) (p : Population) (s : Seen) (q : Population) → IsRunWith b p s program c → IsPopulation q c → q.roster ≡ p.roster → KeepsPassed p q → IsRunWith b q s program c
settled_run b program c p s q h population roster keeps = record { bare = h.bare; reached = h.reached; population = population; numbered = subst (IsNumbered b) (sym roster) h.numbered; scheduled = h.scheduled; watched = h.watched; passed = kept_passed p q c keeps h.passed }

module _ (b : Bounds) (program : Tree) (c : Configuration) (n : Name) (p : Population) (old : Seen) where
  -- who leaves is noted by what it waits for, and the others stay noted
  watched_but : (new : Seen) (w : Watches) → IsWatched w (count_within b) c (ready_in old) → ((m : Name) → m ≢ n → ready_in new m ≡ ready_in old m)
      → ((m : Name) (l : Text) → m ≢ n → w.asks m l ≡ true → asks_in new m l ≡ true) → ((m k : Name) → m ≢ n → w.sends m k ≡ true → sends_in new m k ≡ true)
      → IsWatchedAt (watches_in new) (count_within b) c n → IsWatched (watches_in new) (count_within b) c (ready_in new)
  watched_but new w h others asks sends own m not = ⊎_elim
      (λ same. subst (IsWatchedAt (watches_in new) (count_within b) c) (sym same) own)
      (λ apart.
      let was : IsWatchedAt w (count_within b) c m = h m (sym (others m apart) ∙ not) in
      record {
        serving = λ a l is below st has. asks m l apart (was.serving a l is below st has);
        sending = λ a e x is below intends sent. sends m x.0 apart (was.sending a e x is below intends sent);
      })
      (name_case m n)

  -- who rests leaves
  pub leaves_round : (new : Seen) → IsRunWith b p old program c → IsTaken old n new → Leaves (lists_within b) (count_within b) c n → IsRunWith b p new program c
  leaves_round new h t l' = record {
    bare = h.bare;
    reached = h.reached;
    population = h.population;
    numbered = h.numbered;
    scheduled = resters_leave (lists_within b) (count_within b) c n (noted_in old) (noted_in new) (ready_in old) (ready_in new) h.scheduled l'.rests t.others (λ f m k. ap (λ g. g f m) t.noted ∙ k) (λ f a at below w. absurd (l'.waits f a at below w));
    watched = watched_but new (watches_in old) h.watched t.others (λ m l d a. ap (λ (w : Watches). w.asks m l) t.watches ∙ a) (λ m k d a. ap (λ (w : Watches). w.sends m k) t.watches ∙ a) (record {
      serving = λ a l is below st has. absurd (l'.serves a is below st);
      sending = λ a e x is below intends sent. absurd (l'.sends a x.0 is below (e, intends, x.1, sent));
    });
    passed = h.passed;
  }

  pub awaits_round : (f : FutureShape) (mid new : Seen) → IsRunWith b p old program c → IsTaken old n mid → IsNoted mid f n new → RestsIn (lists_within b) (count_within b) c n → status_of c n ≡ Awaits f → IsRunWith b p new program c
  awaits_round f mid new h t k rests s = record {
    bare = h.bare;
    reached = h.reached;
    population = h.population;
    numbered = h.numbered;
    scheduled = resters_leave (lists_within b) (count_within b) c n (noted_in old) (noted_in new) (ready_in old) (ready_in new) h.scheduled rests
        (λ m d. ready_by m ∙ t.others m d)
        (λ g m is. k.noted g m (ap (λ r. r g m) t.noted ∙ is))
        (λ g a at below w. ap (λ r. noted_in new r n) (awaits_is g f (sym w.0 ∙ s)) ∙ k.here);
    watched = watched_but new (watches_in old) h.watched (λ m d. ready_by m ∙ t.others m d)
        (λ m l d a. ap (λ (w : Watches). w.asks m l) (k.watches ∙ t.watches) ∙ a) (λ m j d a. ap (λ (w : Watches). w.sends m j) (k.watches ∙ t.watches) ∙ a) (record {
          serving = λ a l is below st has. none_true (ap is_awaiting (sym st ∙ s));
          sending = λ a e x is below intends sent. none_true (ap is_running (sym s ∙ ap status_of_intent intends));
        });
    passed = h.passed;
  }
    where
      ready_by : (m : Name) → ready_in new m ≡ ready_in mid m
      ready_by m = ap (λ r. r m) k.ready

  -- it rests, and waits for no future
  quiet_round : (mid new : Seen) → IsRunWith b p old program c → IsTaken old n mid → IsWatching mid n new → RestsIn (lists_within b) (count_within b) c n → is_awaiting (status_of c n) ≡ false → IsWatchedAt (watches_in new) (count_within b) c n
      → IsRunWith b p new program c
  quiet_round mid new h t k rests not own = record {
    bare = h.bare;
    reached = h.reached;
    population = h.population;
    numbered = h.numbered;
    scheduled = resters_leave (lists_within b) (count_within b) c n (noted_in old) (noted_in new) (ready_in old) (ready_in new) h.scheduled rests
        (λ m d. ready_by m ∙ t.others m d)
        (λ g m is. ap (λ r. r g m) (k.noted ∙ t.noted) ∙ is)
        (λ g a at below w. none_true (sym not ∙ ap is_awaiting w.0));
    watched = watched_but new (watches_in old) h.watched (λ m d. ready_by m ∙ t.others m d)
        (λ m l d a. k.asks m l d ∙ ap (λ (w : Watches). w.asks m l) t.watches ∙ a) (λ m j d a. k.sends m j d ∙ ap (λ (w : Watches). w.sends m j) t.watches ∙ a) own;
    passed = h.passed;
  }
    where
      ready_by : (m : Name) → ready_in new m ≡ ready_in mid m
      ready_by m = ap (λ r. r m) k.ready

  -- a server rests
  pub serves_round : (mid new : Seen) (labels : List Text) → IsRunWith b p old program c → IsTaken old n mid → IsWatching mid n new → ((l : Text) → asks_in new n l ≡ has_text l labels) → ((a : Activity) → IsAt c n a → labels ≡ labels_wanted a)
      → RestsIn (lists_within b) (count_within b) c n → status_of c n ≡ Serving → IsRunWith b p new program c
  serves_round mid new labels h t k asks wanted rests st = quiet_round mid new h t k rests (ap is_awaiting st) (record {
    serving = λ a l is below s has. asks l ∙ ap (has_text l) (wanted a is) ∙ has;
    sending = λ a e x is below intends sent. none_true (ap is_running (sym st ∙ ap status_of_intent intends));
  })

  -- a sender or a poller is held
  pub holds_round : (mid new : Seen) (to : Name) → IsRunWith b p old program c → IsTaken old n mid → IsWatching mid n new → sends_in new n to ≡ true → RestsIn (lists_within b) (count_within b) c n → LogsTo c n to → IsRunWith b p new program c
  holds_round mid new to h t k sends rests s = quiet_round mid new h t k rests (ap is_awaiting (ap status_of_intent s.1)) (record {
    serving = λ a l is below st has. none_true (ap is_running (sym st ∙ ap status_of_intent s.1));
    sending = λ a e x is below intends sent.
        let same : e ≡ s.0 = acts_is e s.0 (sym intends ∙ s.1) in
        let target : Some x ≡ Some (to, s.2) = sym sent ∙ ap (λ (y : Effect). y.logged) same ∙ s.3 in
        ap (sends_in new n) (ap (λ (z : Name × ReceptionShape). z.0) (some_is target)) ∙ sends;
  })

  -- a step is taken
  pub steps_round : (q : Population) (mid given new : Seen) (x : CanStep (lists_within b) (count_within b) c n) → IsRunWith b p old program c → IsTaken old n mid → IsPopulation q (with_effect n x.effect c) → IsHandedOn (lists_within b) c n x.effect mid given → IsMoreReady given None new → ready_in new n ≡ true → IsNumbered b q.roster → KeepsPassed p q → passed_in p n ≡ None
      → (d : Configuration) × (next_by b c ≡ Some d) × IsRunWith b q new program d
  steps_round q mid given new x h t population handed more woken numbered same alone =
      let lists = lists_within b in
      let count = count_within b in
      let e = x.effect in
      let d : Configuration = with_effect n e c in
      let reached = moves_go_on program c d (Steps lists n) h.reached x.steps in
      let now : (m : Name) → ready_in old m ≡ true → ready_in new m ≡ true = λ m r. ⊎_elim
      (λ q. ap (ready_in new) q ∙ woken)
      (λ k. more.ready m (handed.ready m (t.others m k ∙ r)))
      (name_case m n) in
      let before : IsScheduled lists count c (ready_in old) (noted_in mid) = subst (λ r. IsScheduled lists count c (ready_in old) r) (sym t.noted) h.scheduled in
      let after : IsScheduled lists count d (ready_in new) (noted_in mid) × IsWatched (watches_in mid) count d (ready_in new) =
      called_are_scheduled program lists count c n e (noted_in mid) (watches_in mid) (ready_in old) (ready_in new) h.reached x.intends x.steps before (subst (λ (w : Watches). IsWatched w count c (ready_in old)) (sym t.watches) h.watched) now (record {
        stepper = woken;
        made = λ m a is. more.ready m (handed.made m a is);
        target = λ m r is a. more.ready m (handed.target m r is a);
        next = λ m q is i a. more.ready q (handed.next m q is i a);
        filled = λ f q is i. more.ready q (handed.filled f q is i);
      }) in
      let unwoken : (m : Name) → ready_in new m ≡ false → ready_in given m ≡ false = λ m not. false_from_ne_true (ready_in given m) (λ r. true_false (ready_in new m) (more.ready m r) not) in
      let unfilled : (f : FutureShape) → find future_cmp f d.futures ≡ None → IsFilledBy e f → ⊥ = λ f none is. no_some (sym none ∙ ap (λ o. find future_cmp f (put_some future_cmp o c.futures)) is.1 ∙ find_same future_cmp future_total future_same f is.0 c.futures) in (
        d,
        least_steps program lists count c d n x.activity (ready_in old) (noted_in old) h.reached h.scheduled t.least x.there x.below x.steps,
        record {
          bare = h.bare;
          reached = reached;
          population = population;
          numbered = numbered;
          scheduled = notes_leave lists count d (ready_in new) (noted_in mid) (noted_in new) after.0 (λ f m none is. more.noted f m no_some (handed.noted f m (unfilled f none) is));
          watched = λ m not.
              let was : IsWatchedAt (watches_in mid) count d m = after.1 m not in
              record {
                serving = λ a l is below st has. more.asks m l not (handed.asks m l (unwoken m not) (was.serving a l is below st has));
                sending = λ a g z is below intends sent. more.sends m z.0 not (handed.sends m z.0 (unwoken m not) (was.sending a g z is below intends sent));
              };
          passed = stepped_passed program c n p q e h.reached x.intends same alone h.passed;
        },
      )

-- Runs

pub goes_on : (k : ℕ) (lists : Option ListsShape) (count : Name → ℕ) (c d : Configuration) → least_step lists count c c.activities ≡ Some d → steps_from (suc k) lists count c ≡ steps_from k lists count d
goes_on k lists count c d h = ap (λ (o : Option Configuration). elim o [ None ↦ c | Some d ↦ steps_from k lists count d ]) h

pub has_ended : (k : ℕ) (lists : Option ListsShape) (count : Name → ℕ) (c : Configuration) → least_step lists count c c.activities ≡ None → steps_from k lists count c ≡ c
has_ended zero lists count c h = refl
has_ended (suc k) lists count c h = ap (λ (o : Option Configuration). elim o [ None ↦ c | Some d ↦ steps_from k lists count d ]) h

-- Reductions that need no other

-- who is in the schedule is ready again
pub woken_run : (b : Bounds) (program : Tree) (c : Configuration) (n : Name) (q : Population) (old mid new : Seen) → IsRunWith b q old program c → IsTaken old n mid → IsMoreReady mid None new → ready_in new n ≡ true → IsRunWith b q new program c
woken_run b program c n q old mid new h t more woken =
    let now : (m : Name) → ready_in old m ≡ true → ready_in new m ≡ true = λ m r. ⊎_elim
    (λ e. ap (ready_in new) e ∙ woken)
    (λ k. more.ready m (t.others m k ∙ r))
    (name_case m n) in
    let was : (m : Name) → ready_in new m ≡ false → ready_in old m ≡ false = λ m not. false_from_ne_true (ready_in old m) (λ r. true_false (ready_in new m) (now m r) not) in
    record {
      bare = h.bare;
      reached = h.reached;
      population = h.population;
      numbered = h.numbered;
      scheduled = record {
        rest = λ m there not. h.scheduled.rest m there (was m not);
        waiting = λ m f a is below not w. more.noted f m no_some (ap (λ g. g f m) t.noted ∙ h.scheduled.waiting m f a is below (was m not) w);
      };
      watched = λ m not.
          let before : IsWatchedAt (watches_in old) (count_within b) c m = h.watched m (was m not) in
          record {
            serving = λ a l is below st has. more.asks m l not (ap (λ (w : Watches). w.asks m l) t.watches ∙ before.serving a l is below st has);
            sending = λ a g z is below intends sent. more.sends m z.0 not (ap (λ (w : Watches). w.sends m z.0) t.watches ∙ before.sending a g z is below intends sent);
          };
      passed = h.passed;
    }

-- reductions that need no other are steps of the run
pub ran : (b : Bounds) (program : Tree) (c : Configuration) (n : Name) (p : Population) (s : Seen) (q : Population) (mid : Seen) (most k : ℕ) → IsRunWith b p s program c → IsTaken s n mid → IsRunIn q c n most (count_within b n) k → q.roster ≡ p.roster → KeepsPassed p q → passed_in p n ≡ None
    → (d : Configuration) × LeadsTo b k c d × IsRunWith b q s program d × (k ≤ most) × AreLines (notes_by b k c)
ran b program c n p s q mid most k h t (inl r) roster same alone =
    let g = local_runs_go_on program (lists_within b) (count_within b) (ready_in s) (noted_in s) (watches_in s) c n k r.activity r.end h.reached h.scheduled h.watched t.ready t.least r.there r.run r.below in
    (with_activity n r.end c, g.steps, record { bare = h.bare; reached = g.reached; population = r.population; numbered = subst (IsNumbered b) (sym roster) h.numbered; scheduled = g.scheduled; watched = g.watched; passed = ran_passed c n p q r.end same alone h.passed }, r.within, g.lines)
ran b program c n p s q mid most k h t (inr e) roster same alone =
    let none : k ≡ 0 = e.0 in
    (c, (λ j. let all : k + j ≡ j = omega (arith, none) in ap (λ i. steps_from i (lists_within b) (count_within b) c) all), settled_run b program c p s q h e.1 roster same, omega (arith, none), subst (λ i. AreLines (notes_by b i c)) (sym none) tt)

-- where the least of those ready has taken its reductions that need no other
pub record Ran (b : Bounds) (program : Tree) (c : Configuration) (n : Name) (number : ℕ) (m : Machine) (q : Population) (most k : ℕ) : Type 0 where
  pub then : Configuration
  pub leads : LeadsTo b k c then
  pub within : k ≤ most
  pub has : number_of n q.roster ≡ Some number
  pub but : IsRunBut b (record { population = q; schedule = m.schedule }) n program then
  pub lines : AreLines (notes_by b k c)

pub ran_on : (b : Bounds) (program : Tree) (c : Configuration) (n : Name) (number : ℕ) (m : Machine) (p q : Population) (most count k : ℕ) → IsRunLess b m n program c → number_of n m.population.roster ≡ Some number → IsForgotten m.population n p → (IsPopulation p c → number_of n p.roster ≡ Some number → IsRunIn q c n most count k)
    → (IsRoster m.population.roster → IsNumbered b m.population.roster → number_of n m.population.roster ≡ Some number → count ≡ count_within b n) → q.roster ≡ p.roster → KeepsPassed p q → passed_in p n ≡ None → Ran b program c n number m q most k
ran_on b program c n number m p q most count k h has f runs bound roster same alone =
    let s : Seen = h.before in
    let h2 = forgotten_run b program c m.population s n p h.run f in
    let names : p.roster ≡ m.population.roster = ap (λ (r : Population). r.roster) f.same in
    let run = subst (λ j. IsRunIn q c n most j k) (bound h.run.population.roster h.run.numbered has) (runs h2.population (ap (number_of n) names ∙ has)) in
    let r = ran b program c n p s q (seen_in m) most k h2 h.taken run roster same alone in
    let taken : IsTaken s n (seen q.roster m.schedule) = subst (λ (ns : List Name). IsTaken s n (seen ns m.schedule)) (sym (roster ∙ names)) h.taken in
    record {
      then = r.0;
      leads = r.1;
      within = r.3;
      has = ap (number_of n) (roster ∙ names) ∙ has;
      but = record { before = s; run = r.2; taken = taken; forgotten = still_none p q n same alone };
      lines = r.4;
    }

pub leads_nowhere : (b : Bounds) (c d : Configuration) (k : ℕ) → LeadsTo b k c d → k ≡ 0 → d ≡ c
leads_nowhere b c d k h none =
    let same : k + 0 ≡ 0 = omega (arith, none) in
    sym (h 0) ∙ ap (λ i. steps_from i (lists_within b) (count_within b) c) same

-- and one more
pub leads_on : (b : Bounds) (c d e : Configuration) (k : ℕ) → LeadsTo b k c d → next_by b d ≡ Some e → LeadsTo b (k + 1) c e
leads_on b c d e k h next j =
    let same : k + 1 + j ≡ k + suc j = omega arith in
    ap (λ i. steps_from i (lists_within b) (count_within b) c) same ∙ h (suc j) ∙ goes_on j (lists_within b) (count_within b) d e next

-- What is noted

-- the step of the least of those ready notes what it does
pub step_noted : (b : Bounds) (program : Tree) (c : Configuration) (n : Name) (m : Machine) (x : CanStep (lists_within b) (count_within b) c n) (d : Configuration) → IsRunBut b m n program c → next_by b c ≡ Some d → notes_by b 1 c ≡ notes_of n x.activity (Acts x.effect)
step_noted b program c n m x d h next =
    one_noted (lists_within b) (count_within b) c d next
    ∙ least_noted program (lists_within b) (count_within b) c (with_effect n x.effect c) n x.activity (ready_in h.before) (noted_in h.before) h.run.reached h.run.scheduled h.taken.least x.there x.below x.steps
    ∙ ap (notes_of n x.activity) x.intends

-- after some steps
pub noted_on : (b : Bounds) (c d : Configuration) (k j : ℕ) → LeadsTo b k c d → notes_by b (k + j) c ≡ notes_by b k c ++ notes_by b j d
noted_on b c d k j leads =
    let lists = lists_within b in
    let count = count_within b in
    let all : k + 0 ≡ k = omega arith in
    let then : steps_from k lists count c ≡ d = ap (λ i. steps_from i lists count c) (sym all) ∙ leads 0 in
    notes_more lists count k j c ∙ (λ i. notes_by b k c ++ notes_by b j (then i))

-- what was noted before is told, and then one step more
pub told_next : (tells : List NoteShape → Type 0) (xs : List NoteShape) (b : Bounds) (c d : Configuration) (k : ℕ) → LeadsTo b k c d → tells ((xs ++ notes_by b k c) ++ notes_by b 1 d) → tells (xs ++ notes_by b (k + 1) c)
told_next tells xs b c d k leads t = subst tells (append_assoc xs (notes_by b k c) (notes_by b 1 d) ∙ ap (λ ys. xs ++ ys) (sym (noted_on b c d k 1 leads))) t

-- reductions that need no other are told to who does not hear lines, and where there are none
pub told_run : (tells : List NoteShape → Type 0) (xs : List NoteShape) (b : Bounds) (c : Configuration) (most k : ℕ) → (most ≡ 0) ⊎ IsDeafToLines tells → k ≤ most → AreLines (notes_by b k c) → tells xs → tells (xs ++ notes_by b k c)
told_run tells xs b c most k (inl none) le lines t = let zero : k ≡ 0 = omega (arith, none, le) in told_quiet tells xs (notes_by b k c) (ap (λ i. notes_by b i c) zero) t
told_run tells xs b c most k (inr deaf) le lines t = told_lines tells deaf xs (notes_by b k c) lines t

-- Nobody leaves who has a number

pub unknown_round : (b : Bounds) (program : Tree) (c : Configuration) (p : Population) (old new : Seen) → IsRunWith b p old program c → IsForNobody p.roster old new → IsRunWith b p new program c
unknown_round b program c p old new h k = record {
  bare = h.bare;
  reached = h.reached;
  population = h.population;
  numbered = h.numbered;
  scheduled = record {
    rest = λ n there not. h.scheduled.rest n there (was n there not);
    waiting = λ n f a is below not w. ap (λ r. r f n) k.noted ∙ h.scheduled.waiting n f a is below (was n (ap is_some is) not) w;
  };
  watched = λ n not. record {
    serving = λ a l is below st has. ap (λ (w : Watches). w.asks n l) k.watches ∙ (h.watched n (was n (ap is_some is) not)).serving a l is below st has;
    sending = λ a e x is below intends sent. ap (λ (w : Watches). w.sends n x.0) k.watches ∙ (h.watched n (was n (ap is_some is) not)).sending a e x is below intends sent;
  };
  passed = h.passed;
}
  where
    was : (n : Name) → IsThere c n → ready_in new n ≡ false → ready_in old n ≡ false
    was n there not = by (number_of n p.roster) refl
      where
        by : (o : Option ℕ) → number_of n p.roster ≡ o → ready_in old n ≡ false
        by None e = absent_nowhere p c n h.population e there
        by (Some j) e = sym (k.ready n j e) ∙ not

-- Everybody is ready

-- so nobody rests
pub roused : (b : Bounds) (program : Tree) (c : Configuration) (p q : Population) (s : Seen) → IsReachedPopulation p program c → IsNumbered b p.roster → q ≡ record p { passed = q.passed } → ((n : Name) → passed_in q n ≡ None) → ((n : Name) (k : ℕ) → number_of n p.roster ≡ Some k → ready_in s n ≡ true)
    → IsRunWith b q s program c
roused b program c p q s h numbered same forgotten ready = record {
  bare = h.bare;
  reached = h.reached;
  population = still_there p q c same h.population;
  numbered = still_numbered b p q same numbered;
  scheduled = record {
    rest = λ n there not. absurd (no n there not);
    waiting = λ n f a is below not w. absurd (no n (ap is_some is) not);
  };
  watched = λ n not. record {
    serving = λ a l is below st has. absurd (no n (ap is_some is) not);
    sending = λ a e x is below intends sent. absurd (no n (ap is_some is) not);
  };
  passed = λ n k is. no_some (sym (forgotten n) ∙ is);
}
  where
    no : (n : Name) → IsThere c n → ready_in s n ≡ false → ⊥
    no n there not = by (number_of n p.roster) refl
      where
        by : (o : Option ℕ) → number_of n p.roster ≡ o → ⊥
        by None e = absent_nowhere p c n h.population e there
        by (Some k) e = true_false (ready_in s n) (ready n k e) not

-- Members that one has passed

known_by : (p : Population) (c : Configuration) (n : Name) (o : Option ℕ) → ArePassed p c → passed_in p n ≡ o → HasPassedIn c n (or_zero o)
known_by p c n None h is = λ a at. first_passed (chase c.futures) a
known_by p c n (Some k) h is = λ a at.
    let x = h n k is in
    subst (λ (b : Activity). HasPassed (chase c.futures) b k) (some_is (sym x.1 ∙ at)) x.2

taken_by : (c d : Configuration) (n : Name) (known k : ℕ) → HasPassedIn c n known → (k ≡ 0 → d ≡ c) → (passed : ℕ) → (k ≡ 0 → passed ≡ known) → (0 < k → passed ≡ 0) → HasPassedIn d n passed
taken_by c d n known zero has same passed first later = subst (λ (e : Configuration). HasPassedIn e n passed) (sym (same refl)) (subst (HasPassedIn c n) (sym (first refl)) has)
taken_by c d n known (suc k) has same passed first later =
    let none : passed ≡ 0 = later (omega arith) in
    subst (HasPassedIn d n) (sym none) (λ a at. first_passed (chase d.futures) a)

-- what is known of one after so many reductions
pub known_after : (b : Bounds) (p : Population) (c d : Configuration) (n : Name) (known k passed : ℕ) → ArePassed p c → known ≡ or_zero (passed_in p n) → LeadsTo b k c d → (k ≡ 0 → passed ≡ known) → (0 < k → passed ≡ 0) → HasPassedIn d n passed
known_after b p c d n known k passed h told leads first later =
    taken_by c d n known k (subst (HasPassedIn c n) (sym told) (known_by p c n (passed_in p n) h refl)) (leads_nowhere b c d k leads) passed first later
