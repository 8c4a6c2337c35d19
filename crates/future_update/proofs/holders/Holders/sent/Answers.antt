use Rattle.asp_model.specs.Shapes.{future_shape}
use Rattle.std.proofs.Common.{◌∙◌, ap, refl}
use Rattle.future_update.specs.Records.{names_of}
use Rattle.future_update.specs.Holders.{HoldersView}
use Rattle.future_update.proofs.LanedLemmas.{activities_same}
use Rattle.future_update.proofs.HolderLemmas.{begun_holders, begun_same, view_told}
use Rattle.future_update.proofs.holders.Holders.sent.Goals as goal

pub invariant_of-self : goal.invariant_of-self
invariant_of-self c =
    let s = c.self.inside in
    let e = c.sent.ensures in
    begun_holders s c.sent.new.self c.self.invariant e.records e.edges (begun_same s.records c.sent.new.self (future_shape c.args.future.now) c.args.home.now c.sent.result e.begun e.unfilled e.err e.answers) e.answers e.keeps

pub returns-clause-activities : goal.returns-clause-activities
returns-clause-activities c =
    let s = c.self.inside in
    activities_same (names_of s.records) (names_of c.sent.new.self) s.owed s.owed s.activities.items c.self.invariant.laned.members c.sent.ensures.keeps (λ k. refl)
    ∙ ap (λ (v : HoldersView). v.activities) c.self.view_is

pub returns-clause-err : goal.returns-clause-err
returns-clause-err c =
    let s = c.self.inside in
    let e = c.sent.ensures in
    let activities = activities_same (names_of s.records) (names_of c.sent.new.self) s.owed s.owed s.activities.items c.self.invariant.laned.members e.keeps (λ k. refl) in
    view_told s (record s { records = c.sent.new.self }) c.args.self.now c.self.view_is c.sent.result e.err e.answers activities
