use Rattle.std.proofs.Common.{sym, subst}
use Rattle.asp_model.specs.Replay.{replay}
use Rattle.asp_model.specs.Step.{ListsShape}
use Rattle.law_families.specs.Families.{RunLogs}
use Rattle.law_schedules.specs.Divergence.{AreInOrder}
use Rattle.outcome_search.specs.Ends.{run_logs}
use Rattle.replay_offers.specs.Logs.{each_cut}
use Rattle.replay_offers.specs.Programs.{tree_in}
use Rattle.replay_offers.specs.Replays.{IsHeld}
use Rattle.replay_offers.proofs.OfferLemmas.{cut_in_order, fits_in_order, offers_among}
use Rattle.replay_offers.proofs.offers.ReplaysRuns.offers.Goals as goal

pub held-requires-clause-ordered : goal.held-requires-clause-ordered
held-requires-clause-ordered c =
    let x : RunLogs = run_logs c.args.run.now in
    subst (λ (ls : ListsShape). AreInOrder ls x.1) (sym c.in_ok-cut.ensures.cut)
    (cut_in_order c.args.to.now c.args.place x.0 x.1 (fits_in_order (tree_in c.args.self.now) x.0 x.1 c.requires.run.0.0))

pub returns : goal.returns
returns c =
    let x : RunLogs = run_logs c.args.run.now in
    let held : IsHeld (replay (tree_in c.args.self.now) (each_cut c.args.to.now c.args.place x.0) x.1) c.args.to.now c.in_ok-held.held =
    subst (λ (ls : ListsShape). IsHeld (replay (tree_in c.args.self.now) ls x.1) c.args.to.now c.in_ok-held.held) c.in_ok-cut.ensures.cut c.in_ok-held.ensures.held in
    record { all = offers_among (tree_in c.args.self.now) x c.args.to.now c.args.place c.in_ok-held.held c.with_each.result c.requires.run held c.with_each.ensures.each }
