use Rattle.std.proofs.Common.{rules, subst}
use Rattle.crossbeam_utils.specs.Padded.{padded_value}
use Rattle.crossbeam_utils.specs.declared.cache_padded.CachePadded.{CachePadded}
use Rattle.race_workers.specs.declared.seats.Seats.{Seats}
use Rattle.race_workers.specs.Working.{AreReady}
use Rattle.race_workers.proofs.workers.work_all.Goals as goal

pub returns : goal.returns
returns g c = record {
  ready = λ k d low.
      let S = Seats g.row.P.Denot in
      let changed = c.for_each_mut.ensures k d (search rules) in
      subst (λ (p : CachePadded S). AreReady c.args.hub.now (padded_value p)) changed.1.left changed.1.call;
}
