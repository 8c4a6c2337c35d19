use Rattle.std.proofs.Common.{◌∙◌, ◌<◌, length, sym, ap, arith}
use Rattle.std.specs.Prelude.{◌==◌}
use Rattle.core_sets.specs.Marks.{is_marked}
use Rattle.future_update.specs.Records.{owes}
use Rattle.future_update.proofs.LanedLemmas.{keeps_lanes}
use Rattle.future_update.proofs.OwedLemmas.{marked_so, unmarked_so}
use Rattle.future_update.proofs.SettlingLemmas.{owed_within}
use Rattle.future_update.proofs.settling.settle_at.Goals as goal

pub set-requires : goal.set-requires
set-requires c =
    let within : c.args.place < length c.args.records.now.edges.keys = owed_within c.args.records.now c.args.place (sym c.owes.ensures.owed ∙ c.if-owes.true) in
    record { lanes = c.requires.lanes; within = omega (arith, within, c.requires.room) }

pub returns-then-owes : goal.returns-then-owes
returns-then-owes c =
    let w = c.set.ensures in
    let so = owes c.args.records.now c.args.place in
    record {
      lanes = record { lanes = w.lanes; spots = ap (λ v. v.items) w.spots; closed = w.closed; more = omega (arith, w.lane_count) };
      marked = λ p. w.marked p ∙ marked_so (is_marked c.args.owed.now.marks p) (p == c.args.place) so (sym c.owes.ensures.owed ∙ c.if-owes.true);
    }

pub returns-else-owes : goal.returns-else-owes
returns-else-owes c =
    let so = owes c.args.records.now c.args.place in
    record {
      lanes = keeps_lanes c.args.owed.now c.requires.lanes;
      marked = λ p. unmarked_so (is_marked c.args.owed.now.marks p) (p == c.args.place) so (sym c.owes.ensures.owed ∙ c.if-owes.false);
    }
