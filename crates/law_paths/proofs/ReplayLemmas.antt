-- Whatever steps and deliveries lead to agrees with the replay of the lists and counts that it leaves.
use Rattle.std.specs.Prelude.{◌≡◌, true, false, List, [], None}
use Rattle.std.proofs.Common.{sym, ap, subst, ◌∙◌}
use Rattle.std.specs.List.{list_any, starts_with}
use Rattle.asp_model.specs.Names.{Name}
use Rattle.asp_model.specs.Step.{same_reception}
use Rattle.asp_model.specs.Term.{Tree, locations}
use Rattle.asp_model.specs.Configuration.{Configuration, start}
use Rattle.asp_model.specs.Replay.{lists_of, counts_of, log_in, AreCompatible, joined_lists, joined_counts, replay, Fits}
use Rattle.asp_model.specs.Status.{statuses_of, is_running, IsStuck, verdict_among}
use Rattle.law_steps.specs.Joins.{AreCompatibleRuns, lists_of_both, counts_of_both, is_narrow, IsOneSenderEnd}
use Rattle.law_steps.specs.Reached.{IsReached, RunsTo}
use Rattle.law_steps.proofs.JoinLaws.{joined_fits, stuck_is_joined}
use Rattle.law_steps.proofs.SenderLemmas.{one_sender_bounds, one_sender_ends}
use Rattle.law_steps.proofs.ReplayLemmas.{runs_replay}
use Rattle.law_journals.proofs.JournalLemmas.{journals_reach}
use Rattle.def_paths.specs.Agree.{Agrees}
use Rattle.def_paths.specs.Outcomes.{whole_outcome_of}
use Rattle.law_paths.specs.Whole.{IsWhole}
use Rattle.law_paths.specs.Correct.{IsReplayed, ReachedAreReplayed, JournalsAreReplayed, ReachedJoin, OneSenderIsEnough, NarrowRunsAreAlone}
use Rattle.law_paths.proofs.EquivalenceLemmas.{agrees_itself, agrees_back, agrees_then}
use Rattle.law_paths.proofs.WholeLemmas.{start_is_whole}
use Rattle.law_paths.proofs.FollowLemmas.{moves_are_followed}
use Rattle.law_paths.proofs.OutcomeLemmas.{lists_same, counts_same, statuses_same, ends_of_both_agree, reports_agree}

-- the run without deliveries that agrees with what is reached
pub record Mirrored (program : Tree) (c : Configuration) : Type 0 where
  pub names : List Name
  pub end : Configuration
  pub run : RunsTo None (start program) names end
  pub agrees : Agrees c end
  pub whole : IsWhole c
  pub end_whole : IsWhole end
  pub lists : lists_of c ≡ lists_of end
  pub counts : counts_of c ≡ counts_of end
  pub statuses : statuses_of c ≡ statuses_of end

pub mirrored : (program : Tree) (c : Configuration) → locations program ≡ [] → IsReached program c → Mirrored program c
mirrored program c none reached =
    let w = start_is_whole program none in
    let x = moves_are_followed reached.moves (start program) c (start program) w w (agrees_itself (start program)) reached.run in
    record {
      names = x.names;
      end = x.end;
      run = x.run;
      agrees = x.agrees;
      whole = x.whole;
      end_whole = x.end_whole;
      lists = lists_same c x.end x.whole.sound.ordered.activities x.end_whole.sound.ordered.activities x.agrees;
      counts = counts_same c x.end x.whole.sound.ordered.activities x.end_whole.sound.ordered.activities x.agrees;
      statuses = statuses_same c x.end x.whole x.end_whole x.agrees;
    }

module _ (program : Tree) (c : Configuration) (m : Mirrored program c) where
  -- the replay is that run's end
  replay_is : m.end ≡ replay program (lists_of c) (counts_of c)
  replay_is = sym (ap (λ l. replay program l (counts_of c)) m.lists ∙ ap (replay program (lists_of m.end)) m.counts ∙ (runs_replay program m.names m.end m.run).1)

  own_fits : Fits program (lists_of c) (counts_of c)
  own_fits = subst (λ l. Fits program l (counts_of c)) (sym m.lists) (subst (λ k. Fits program (lists_of m.end) k) (sym m.counts) (runs_replay program m.names m.end m.run).0)

  still_stuck : IsStuck c → IsStuck m.end
  still_stuck stuck = subst (λ l. list_any is_running l ≡ false) m.statuses stuck

  end_replayed : IsReplayed program c m.end
  end_replayed =
      let outcomes = ends_of_both_agree c m.end m.whole m.end_whole m.agrees in
      record {
        fits = own_fits;
        agrees = m.agrees;
        statuses = m.statuses;
        verdict = ap verdict_among m.statuses;
        outcomes = outcomes;
        reports = λ depth. reports_agree depth (whole_outcome_of c) (whole_outcome_of m.end) outcomes;
      }

pub reached_are_replayed : ReachedAreReplayed
reached_are_replayed program c none reached = let m = mirrored program c none reached in subst (IsReplayed program c) (replay_is program c m) (end_replayed program c m)

pub journals_are_replayed : JournalsAreReplayed
journals_are_replayed program budget journal s none e = reached_are_replayed program s.configuration none (journals_reach program budget journal s e)

pub reached_join : ReachedJoin
reached_join program c d none reached other compatible =
    let x = mirrored program c none reached in
    let y = mirrored program d none other in
    let runs : AreCompatibleRuns program x.end y.end = record { names = x.names; others = y.names; run = x.run; other = y.run; compatible = subst (λ l. AreCompatible l (lists_of y.end)) x.lists (subst (AreCompatible (lists_of c)) y.lists compatible) } in
    let lists : lists_of_both c d ≡ lists_of_both x.end y.end = λ i. joined_lists (x.lists i) (y.lists i) in
    let counts : counts_of_both c d ≡ counts_of_both x.end y.end = λ i. joined_counts (x.counts i) (y.counts i) in (
      subst (λ l. Fits program l (counts_of_both c d)) (sym lists) (subst (Fits program (lists_of_both x.end y.end)) (sym counts) (joined_fits program x.end y.end runs)),
      λ stuck. let z = stuck_is_joined program x.end y.end runs (still_stuck program c x stuck) in (x.lists ∙ z.0 ∙ sym lists, x.counts ∙ z.1 ∙ sym counts),
    )

pub one_sender_is_enough : OneSenderIsEnough
one_sender_is_enough program c d none reached other stuck narrow =
    let x = mirrored program c none reached in
    let y = mirrored program d none other in
    let end : IsOneSenderEnd program x.end = record { names = x.names; run = x.run; stuck = still_stuck program c x stuck; one = λ m. subst (λ l. is_narrow (log_in l m) ≡ true) x.lists (narrow m) } in
    record {
      lists = λ m. subst (λ l. starts_with same_reception (log_in l m) (log_in (lists_of d) m) ≡ true) (sym x.lists) (subst (λ l. starts_with same_reception (log_in (lists_of x.end) m) (log_in l m) ≡ true) (sym y.lists) (one_sender_bounds program x.end y.end y.names end y.run m));
      end = λ stuck'.
          let same : y.end ≡ x.end = one_sender_ends program x.end y.end y.names end y.run (still_stuck program d y stuck') in
          let agrees : Agrees d c = agrees_then d y.end c y.agrees (subst (λ z. Agrees z c) (sym same) (agrees_back c x.end x.agrees)) in
          record {
            lists = y.lists ∙ ap lists_of same ∙ sym x.lists;
            counts = y.counts ∙ ap counts_of same ∙ sym x.counts;
            agrees = agrees;
            verdict = ap verdict_among (y.statuses ∙ ap statuses_of same ∙ sym x.statuses);
            reports = λ depth. reports_agree depth (whole_outcome_of d) (whole_outcome_of c) (ends_of_both_agree d c y.whole x.whole agrees);
          };
    }

pub narrow_runs_are_alone : NarrowRunsAreAlone
narrow_runs_are_alone program c none reached stuck narrow budget journal s e = one_sender_is_enough program c s.configuration none reached (journals_reach program budget journal s e) stuck narrow
