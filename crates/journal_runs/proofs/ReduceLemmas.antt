-- Reductions that are redone, one after another.
use Rattle.std.proofs.Common.{◌≡◌, ◌<◌, ◌≤◌, ◌+◌, ◌-◌, ◌++◌, ◌⊎◌, [], ℕ, zero, suc, Bool, true, false, List, Option, Some, None, Ok, Err, Result, IfOk, is_none, is_some, map, refl, sym, ap, subst, ◌∙◌, ⊎_elim, append-nil, arith}
use Rattle.std.specs.FinMap.{find}
use Rattle.std.specs.List.{filter}
use Rattle.asp_model.specs.Names.{Name, name_cmp}
use Rattle.asp_model.specs.Term.{Tree}
use Rattle.asp_model.specs.Configuration as model
use Rattle.asp_model.specs.Configuration.{Configuration}
use Rattle.asp_model.specs.Intent.{Acts, Effect}
use Rattle.asp_model.specs.Step.{intent_in, with_effect}
use Rattle.def_journals.specs.Communications.{communicates_next}
use Rattle.def_journals.specs.Journals.{newcomers, number_of, reduced}
use Rattle.activity_step.specs.Local.{LocalRun}
use Rattle.law_core.specs.Commits.{made_by, with_activity}
use Rattle.law_core.proofs.LocalLemmas.{run_sound, written_itself}
use Rattle.law_core.proofs.NewcomerLemmas.{absent_before, made_is_new, no_newcomer}
use Rattle.law_chases.proofs.FutureLemmas.{none_true, some_is}
use Rattle.law_journals.proofs.JournalLemmas.{reduced_keeps}
use Rattle.law_redo.proofs.ReducedLemmas.{communications_are_last, lasts_are_reduced, rests_are_reduced, runs_are_reduced, steps_are_reduced}
use Rattle.law_steps.specs.Reached.{IsAt, IsReached, IsThere}
use Rattle.law_steps.specs.Sound.{IsSound}
use Rattle.law_steps.proofs.NameLemmas.{is_there}
use Rattle.law_steps.proofs.ReachedLemmas.{moves_go_on}
use Rattle.replay_population.specs.declared.population.Population.{Population}
use Rattle.replay_population.specs.Population.{IsPopulation, IsRunIn}
use Rattle.replay_population.specs.Reached.{IsReachedPopulation}
use Rattle.journal_runs.specs.Reducing.{IsAdvanced, IsOnTheWay, IsReduced, SameThere}
use Rattle.journal_runs.specs.Stepping.{IsReducing, IsResting, IsStepped}
use Rattle.journal_runs.proofs.StepLemmas.{made_absent, quiet_same, reducing_sound, reducing_there, same_both, same_put, step_is}

-- Newcomers

-- they are those who are new beside each configuration with the same activities
new_same : (c d e : Configuration) → SameThere c d → newcomers d e ≡ newcomers c e
new_same c d e same = ap (λ (p : Name → Bool). filter p (map (λ x. x.0) e.activities)) (λ i m. none_same (find name_cmp m d.activities) (find name_cmp m c.activities) (same m) i)
  where
    none_same : (o r : Option model.Activity) → is_some o ≡ is_some r → is_none o ≡ is_none r
    none_same None None h = refl
    none_same (Some a) (Some b) h = refl
    none_same None (Some b) h = none_true h
    none_same (Some a) None h = none_true (sym h)

module _ (c : Configuration) (n : Name) (a : model.Activity) (sound : IsSound c) (at : IsAt c n a) where
  -- nobody is new to who is there
  pub none_new : newcomers c c ≡ []
  none_new = ap (newcomers c) (sym (written_itself c n sound.ordered.activities a at)) ∙ no_newcomer c n a at a

pub same_none_new : (c d : Configuration) (n : Name) → IsSound d → IsThere d n → SameThere c d → newcomers c d ≡ []
same_none_new c d n sound there same =
    let a = is_there (find name_cmp n d.activities) there in
    sym (new_same c d d same) ∙ none_new d n a.0 sound a.1

-- Contractions

-- an activity took so many, which lead it here
pub record HasRunTo (q : Population) (c : Configuration) (n : Name) (k : ℕ) : Type 0 where
  pub activity : model.Activity
  pub there : IsAt c n activity
  pub end : model.Activity
  pub run : LocalRun k activity end
  pub population : IsPopulation q (with_activity n end c)

pub has_run : (q : Population) (c : Configuration) (n : Name) (most count k : ℕ) → IsSound c → IsThere c n → IsRunIn q c n most count k → HasRunTo q c n k
has_run q c n most count k sound there ran = ⊎_elim
    (λ x. record { activity = x.activity; there = x.there; end = x.end; run = x.run; population = x.population })
    (λ x.
    let a = is_there (find name_cmp n c.activities) there in
    record { activity = a.0; there = a.1; end = a.0; run = subst (λ j. LocalRun j a.0 a.0) (sym x.0) refl; population = subst (IsPopulation q) (sym (written_itself c n sound.ordered.activities a.0 a.1)) x.1 })
    ran

pub taken_within : (q : Population) (c : Configuration) (n : Name) (most count k : ℕ) → IsRunIn q c n most count k → k ≤ most
taken_within q c n most count k ran = ⊎_elim (λ x. x.within) (λ x. let none : k ≡ 0 = x.0 in omega (arith, none)) ran

module _ (p q : Population) (program : Tree) (c : Configuration) (number : ℕ) (n : Name) (r : IsReducing p program c number n) (k : ℕ) (h : HasRunTo q c n k) where
  abbrev after : Configuration
  after = with_activity n h.end c

  abbrev ns : List Name
  ns = p.roster

  run_leads : (left : ℕ) → reduced left n after ≡ reduced (k + left) n c
  run_leads left = sym (runs_are_reduced k left c n h.activity h.end (reducing_sound p program c number n r) h.there h.run)

  all_run : reduced k n c ≡ Some after
  all_run = let same : k ≡ k + 0 = omega arith in ap (λ j. reduced j n c) same ∙ sym (run_leads 0)

  run_same : SameThere c after
  run_same = same_put c n h.end (reducing_there p program c number n r)

  pub run_reducing : q.roster ≡ p.roster → IsReducing q program after number n
  run_reducing names = record {
    reached = record {
      bare = r.reached.bare;
      reached = reduced_keeps (IsReached program) (λ move x y reached makes. moves_go_on program x y move reached makes) k n c after all_run r.reached.reached;
      population = h.population;
    };
    named = ap (number_of n) names ∙ r.named;
    there = λ m j is. run_same m ∙ r.there m j (ap (number_of m) (sym names) ∙ is);
  }

  -- all were contractions
  pub run_all : q.roster ≡ p.roster → IsOnTheWay q program ns c number n k 0
  run_all names = record {
    here = after;
    reducing = run_reducing names;
    names = names ∙ sym (append-nil ns) ∙ ap (λ ms. ns ++ ms) (sym (no_newcomer c n h.activity h.there h.end));
    same = λ lt. run_same;
    leads = run_leads 0 ∙ (let same : k + 0 ≡ k = omega arith in ap (λ j. reduced j n c) same);
  }

  module _ (mid : q.roster ≡ p.roster) (left : ℕ) where
    abbrev t : IsReducing q program after number n
    t = run_reducing mid

    sound_then : IsSound after
    sound_then = reducing_sound q program after number n t

    -- then comes a step
    step_leads : (j : ℕ) (e : Effect) → intent_in after n ≡ Acts e → (0 < j → communicates_next after n ≡ false) → reduced j n (with_effect n e after) ≡ reduced (suc j) n after
    step_leads zero e intends quiet = sym (lasts_are_reduced after n e sound_then intends)
    step_leads (suc j) e intends quiet = sym (steps_are_reduced (suc j) after n e sound_then (quiet (omega arith)) intends)

    pub run_step : (u : Population) (e : Effect) → left ≡ suc (left - 1) → intent_in after n ≡ Acts e → (0 < left - 1 → communicates_next after n ≡ false) → IsReducing u program (with_effect n e after) number n → u.roster ≡ q.roster ++ made_by e.made → IsOnTheWay u program ns c number n (k + left) (left - 1)
    run_step u e one intends quiet reducing names = record {
      here = with_effect n e after;
      reducing = reducing;
      names = names ∙ ap (λ ms. ms ++ made_by e.made) mid ∙ ap (λ ms. ns ++ ms) (sym (made_is_new c n h.activity h.there h.end e (λ x is. absent_before c n x.0 h.end (made_absent q program after number n t e intends x is))));
      same = λ lt. same_both c after (with_effect n e after) run_same (quiet_same program after n e sound_then (step_is q program after number n t e intends) intends (made_absent q program after number n t e intends) (quiet lt));
      leads = step_leads (left - 1) e intends quiet ∙ ap (λ j. reduced j n after) (sym one) ∙ run_leads left;
    }

    none_rests : (j : ℕ) → IsResting after n → reduced (suc j) n after ≡ None
    none_rests j rests = rests_are_reduced j after n rests.0 rests.1

    none_asks : (j : ℕ) → 1 < j → communicates_next after n ≡ true → reduced j n after ≡ None
    none_asks zero lt asks = absurd (omega (arith, lt))
    none_asks (suc zero) lt asks = absurd (omega (arith, lt))
    none_asks (suc (suc j)) lt asks = communications_are_last j after n asks

    pub run_refused : left ≡ suc (left - 1) → IsResting after n ⊎ ((1 < left) × (communicates_next after n ≡ true)) → reduced (k + left) n c ≡ None
    run_refused one why = sym (run_leads left) ∙ ⊎_elim
        (λ rests. ap (λ j. reduced j n after) one ∙ none_rests (left - 1) rests)
        (λ asks. none_asks left asks.0 asks.1)
        why

-- Ways

pub way_begins : (p : Population) (program : Tree) (c : Configuration) (number : ℕ) (n : Name) (left : ℕ) → IsReducing p program c number n → IsOnTheWay p program p.roster c number n left left
way_begins p program c number n left r = record {
  here = c;
  reducing = r;
  names = sym (append-nil p.roster) ∙ ap (λ ms. p.roster ++ ms) (sym (same_none_new c c n (reducing_sound p program c number n r) (reducing_there p program c number n r) (λ m. refl)));
  same = λ lt m. refl;
  leads = refl;
}

-- one way behind another, where the first has something left
module _ (p q : Population) (program : Tree) (ns : List Name) (c : Configuration) (number : ℕ) (n : Name) (r left : ℕ) (w : IsOnTheWay p program ns c number n r left) (some : 0 < left) where
  same_names : p.roster ≡ ns
  same_names = w.names ∙ ap (λ ms. ns ++ ms) (same_none_new c w.here n (reducing_sound p program w.here number n w.reducing) (reducing_there p program w.here number n w.reducing) (w.same some)) ∙ append-nil ns

  pub way_goes_on : (rest : ℕ) → IsOnTheWay q program p.roster w.here number n left rest → IsOnTheWay q program ns c number n r rest
  way_goes_on rest v = record {
    here = v.here;
    reducing = v.reducing;
    names = v.names ∙ ap (λ ms. ms ++ newcomers w.here v.here) same_names ∙ ap (λ ms. ns ++ ms) (new_same c w.here v.here (w.same some));
    same = λ lt. same_both c w.here v.here (w.same some) (v.same lt);
    leads = v.leads ∙ w.leads;
  }

  pub way_ends : reduced left n w.here ≡ None → reduced r n c ≡ None
  way_ends none = sym w.leads ∙ none

pub all_reduced : (p : Population) (program : Tree) (ns : List Name) (c : Configuration) (number : ℕ) (n : Name) (r : ℕ) → IsOnTheWay p program ns c number n r 0 → IsReduced p program ns c (reduced r n c) true
all_reduced p program ns c number n r w = subst (λ o. IsReduced p program ns c o true) w.leads (w.reducing.reached, w.names)

pub none_reduced : (p : Population) (program : Tree) (ns : List Name) (c : Configuration) (o : Option Configuration) → o ≡ None → IsReduced p program ns c o false
none_reduced p program ns c o none = subst (λ o. IsReduced p program ns c o false) (sym none) tt

-- what the answer says
pub reduced_some : (p : Population) (program : Tree) (ns : List Name) (c : Configuration) (o : Option Configuration) → IsReduced p program ns c o true → (d : Configuration) × (o ≡ Some d) × IsReachedPopulation p program d × (p.roster ≡ ns ++ newcomers c d)
reduced_some p program names c (Some d) h = (d, refl, h.0, h.1)
reduced_some p program names c None h = absurd h

pub reduced_none : (p : Population) (program : Tree) (ns : List Name) (c : Configuration) (o : Option Configuration) → IsReduced p program ns c o false → o ≡ None
reduced_none p program names c (Some d) h = absurd h
reduced_none p program names c None h = refl
