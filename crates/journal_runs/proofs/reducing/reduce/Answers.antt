use Rattle.std.proofs.Common.{◌≡◌, ◌<◌, Some, None, zero, refl, sym, ap, subst, ◌∙◌, arith}
use Rattle.def_journals.specs.Journals.{reduced}
use Rattle.replay_population.specs.declared.population.Population.{Population}
use Rattle.journal_runs.specs.Reducing.{IsAdvanced, IsOnTheWay}
use Rattle.journal_runs.proofs.ReduceLemmas.{all_reduced, none_reduced, way_begins, way_ends, way_goes_on}
use Rattle.journal_runs.proofs.reducing.reduce.Goals as goal

pub advance-requires-clause-reducing : goal.advance-requires-clause-reducing
advance-requires-clause-reducing c =
    let r = c.requires.reducing in
    let w = c.loop-left.invariant r.0 r.1 r.2 r.3 in
    (r.0, w.here, r.2, w.reducing)

pub loop-left-init : goal.loop-left-init
loop-left-init c = λ program k n r. way_begins c.args.population.now program k c.args.number n c.args.reductions r

pub loop-left-smaller : goal.loop-left-smaller
loop-left-smaller c =
    let r = c.requires.reducing in
    let w = c.loop-left.invariant r.0 r.1 r.2 r.3 in
    let a = subst (IsAdvanced c.advance.new.population r.0 c.loop-left.population.roster w.here c.args.number r.2 c.loop-left.left) c.in-Some.is (c.in_ok-rest.ensures.advanced r.0 w.here r.2 w.reducing) in
    a.1

pub loop-left-preserved : goal.loop-left-preserved
loop-left-preserved c = λ program k n r.
    let w = c.loop-left.invariant program k n r in
    let a = subst (IsAdvanced c.advance.new.population program c.loop-left.population.roster w.here c.args.number n c.loop-left.left) c.in-Some.is (c.in_ok-rest.ensures.advanced program w.here n w.reducing) in
    way_goes_on c.loop-left.population c.advance.new.population program c.args.population.now.roster k c.args.number n c.args.reductions c.loop-left.left w c.loop-left-test.true c.in-Some.rest a.0

pub returns-in_default : goal.returns-in_default
returns-in_default c = record {
  reduced = λ program k n r.
      let w = c.loop-left.invariant program k n r in
      let a = subst (IsAdvanced c.advance.new.population program c.loop-left.population.roster w.here c.args.number n c.loop-left.left) c.in_default.is (c.in_ok-rest.ensures.advanced program w.here n w.reducing) in
      none_reduced c.advance.new.population program c.args.population.now.roster k (reduced c.args.reductions n k)
      (way_ends c.loop-left.population c.advance.new.population program c.args.population.now.roster k c.args.number n c.args.reductions c.loop-left.left w c.loop-left-test.true a);
}

pub returns : goal.returns
returns c = record {
  reduced = λ program k n r.
      let w = c.loop-left.invariant program k n r in
      let none : c.loop-left.left ≡ 0 = omega (arith, c.loop-left-test.false) in
      all_reduced c.loop-left.population program c.args.population.now.roster k c.args.number n c.args.reductions (subst (IsOnTheWay c.loop-left.population program c.args.population.now.roster k c.args.number n c.args.reductions) none w);
}
