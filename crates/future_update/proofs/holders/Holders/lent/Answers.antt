use Rattle.std.proofs.Common.{true}
use Rattle.future_update.proofs.HolderLemmas.{number_found, turned_holders, turned_view}
use Rattle.future_update.proofs.holders.Holders.lent.Goals as goal

pub invariant_of-self : goal.invariant_of-self
invariant_of-self c =
    let s = c.self.inside in
    let found = number_found s c.args.self.now c.args.number c.index.result.now c.self.view_is c.requires.met c.index.ensures in
    let e = c.close.ensures in
    turned_holders s c.close.new.self c.args.number c.index.result.now true c.self.invariant found e.lanes e.marks e.spots e.lane_count e.closed

pub returns-clause-turned : goal.returns-clause-turned
returns-clause-turned c =
    let s = c.self.inside in
    let found = number_found s c.args.self.now c.args.number c.index.result.now c.self.view_is c.requires.met c.index.ensures in
    turned_view s c.close.new.self c.args.self.now c.args.number c.index.result.now true c.self.invariant c.self.view_is found c.close.ensures.closed
