use Rattle.std.proofs.Common.{◌≡◌, ◌≤◌, [], inl, sym, subst, arith}
use Rattle.asp_model.specs.Configuration.{Configuration}
use Rattle.asp_model.specs.Outcome.{counts_in, lists_in}
use Rattle.asp_model.specs.Replay.{count_in, replay}
use Rattle.asp_model.specs.Shapes.{counts_shape, lists_shape, outcome_shape, tree_of}
use Rattle.asp_model.specs.Term.{Tree}
use Rattle.def_paths.specs.Outcomes.{whole_outcome_of}
use Rattle.law_cuts.specs.Searches.{Goal}
use Rattle.replay_population.specs.Reached.{IsReachedPopulation}
use Rattle.run_ends.specs.Ends.{IsEndOf}
use Rattle.run_waits.specs.Searches.{IsSought, goal_of}
use Rattle.run_waits.proofs.ChainLemmas.{reached_by}
use Rattle.run_waits.proofs.CutLemmas.{ascending, cut_is, shown_leads, told_end}
use Rattle.run_waits.proofs.SearchLemmas.{no_log_of}
use Rattle.run_waits.proofs.cuts.cut_back.Goals as goal

pub roster-requires : goal.roster-requires
roster-requires c = record { ascending = ascending c.args.lists.now c.args.counts.now c.requires.replayable }

pub count-requires : goal.count-requires
count-requires c = record { ascending = ascending c.args.lists.now c.args.counts.now c.requires.replayable }

pub population_at-requires-clause-ascending : goal.population_at-requires-clause-ascending
population_at-requires-clause-ascending c = (ascending c.args.lists.now c.args.counts.now c.requires.replayable).0

pub returns-in_default-clause-stop : goal.returns-in_default-clause-stop
returns-in_default-clause-stop c = inl (no_log_of c.args.lists.now c.in_ok-roster.roster c.args.name.now c.in_ok-roster.ensures.sound c.in_ok-roster.ensures.numbered (sym c.in_default.ensures.number))

pub population_at-requires-clause-begun : goal.population_at-requires-clause-begun
population_at-requires-clause-begun c =
    let t : Tree = tree_of c.args.program.now.program.root in
    let ls = c.args.lists.now in
    let cs = c.args.counts.now in
    let n = c.args.name.now in
    let has = sym c.in-Some.ensures.number in
    let count = c.count.ensures.count c.in_ok-roster.roster n c.in_ok-roster.ensures.sound c.in_ok-roster.ensures.numbered has in
    let there : c.args.count ≤ count_in (counts_shape cs) n = omega (arith, count, c.if-count.false) in
    let sought : IsSought (goal_of t ls n c.args.count) (counts_shape cs) c.replay_noting.new.notes = record {
      fits = c.in-Ok.ensures.fits;
      there = there;
      told = told_end t (lists_shape ls) (counts_shape cs) c.replay_noting.new.notes (c.in-Ok.ensures.told [] (λ f. c.new-receipts.ensures.none f));
    } in
    (t, n, sought, c.in_ok-start.ensures.start ls n c.in-Some.number c.in_ok-roster.ensures.numbered has)

pub end-requires : goal.end-requires
end-requires c =
    let t : Tree = tree_of c.args.program.now.program.root in
    let ls = c.args.lists.now in
    let cs = c.args.counts.now in
    let n = c.args.name.now in
    let g : Goal = goal_of t ls n c.args.count in
    let has = sym c.in-Some.ensures.number in
    let count = c.count.ensures.count c.in_ok-roster.roster n c.in_ok-roster.ensures.sound c.in_ok-roster.ensures.numbered has in
    let there : c.args.count ≤ count_in (counts_shape cs) n = omega (arith, count, c.if-count.false) in
    let sought : IsSought g (counts_shape cs) c.replay_noting.new.notes = record {
      fits = c.in-Ok.ensures.fits;
      there = there;
      told = told_end t (lists_shape ls) (counts_shape cs) c.replay_noting.new.notes (c.in-Ok.ensures.told [] (λ f. c.new-receipts.ensures.none f));
    } in
    let start = c.in_ok-start.ensures.start ls n c.in-Some.number c.in_ok-roster.ensures.numbered has in
    let found = c.in_ok-cut.ensures.found t n sought start in
    let reached : IsReachedPopulation c.in_ok-cut.cut t found.0 = record { bare = start.bare; reached = reached_by g found.1.names found.0 found.1.run; population = found.3 } in
    record { reached = (t, found.0, reached) }

pub returns-clause-cut : goal.returns-clause-cut
returns-clause-cut c =
    let t : Tree = tree_of c.args.program.now.program.root in
    let ls = c.args.lists.now in
    let cs = c.args.counts.now in
    let n = c.args.name.now in
    let g : Goal = goal_of t ls n c.args.count in
    let has = sym c.in-Some.ensures.number in
    let count = c.count.ensures.count c.in_ok-roster.roster n c.in_ok-roster.ensures.sound c.in_ok-roster.ensures.numbered has in
    let there : c.args.count ≤ count_in (counts_shape cs) n = omega (arith, count, c.if-count.false) in
    let sought : IsSought g (counts_shape cs) c.replay_noting.new.notes = record {
      fits = c.in-Ok.ensures.fits;
      there = there;
      told = told_end t (lists_shape ls) (counts_shape cs) c.replay_noting.new.notes (c.in-Ok.ensures.told [] (λ f. c.new-receipts.ensures.none f));
    } in
    let start = c.in_ok-start.ensures.start ls n c.in-Some.number c.in_ok-roster.ensures.numbered has in
    let found = c.in_ok-cut.ensures.found t n sought start in
    let reached : IsReachedPopulation c.in_ok-cut.cut t found.0 = record { bare = start.bare; reached = reached_by g found.1.names found.0 found.1.run; population = found.3 } in
    cut_is t (lists_shape ls) (counts_shape cs) n c.args.count found.0 (outcome_shape c.in_ok-end.end.outcome) c.in-Ok.ensures.fits there found.1 found.2 (c.in_ok-end.ensures.outcome t found.0 reached)

pub returns-clause-end : goal.returns-clause-end
returns-clause-end c =
    let t : Tree = tree_of c.args.program.now.program.root in
    let ls = c.args.lists.now in
    let cs = c.args.counts.now in
    let n = c.args.name.now in
    let g : Goal = goal_of t ls n c.args.count in
    let has = sym c.in-Some.ensures.number in
    let count = c.count.ensures.count c.in_ok-roster.roster n c.in_ok-roster.ensures.sound c.in_ok-roster.ensures.numbered has in
    let there : c.args.count ≤ count_in (counts_shape cs) n = omega (arith, count, c.if-count.false) in
    let sought : IsSought g (counts_shape cs) c.replay_noting.new.notes = record {
      fits = c.in-Ok.ensures.fits;
      there = there;
      told = told_end t (lists_shape ls) (counts_shape cs) c.replay_noting.new.notes (c.in-Ok.ensures.told [] (λ f. c.new-receipts.ensures.none f));
    } in
    let start = c.in_ok-start.ensures.start ls n c.in-Some.number c.in_ok-roster.ensures.numbered has in
    let found = c.in_ok-cut.ensures.found t n sought start in
    let reached : IsReachedPopulation c.in_ok-cut.cut t found.0 = record { bare = start.bare; reached = reached_by g found.1.names found.0 found.1.run; population = found.3 } in
    let o = outcome_shape c.in_ok-end.end.outcome in
    let leads : replay t (lists_in o) (counts_in o) ≡ found.0 = shown_leads t (lists_shape ls) (counts_shape cs) n c.args.count found.0 o found.1 (c.in_ok-end.ensures.outcome t found.0 reached) in
    subst (λ (k : Configuration). IsEndOf c.in_ok-end.end (whole_outcome_of k)) (sym leads) (c.in_ok-end.ensures.end t found.0 reached)
