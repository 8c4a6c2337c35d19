use Rattle.std.proofs.Common.{refl, sym, ◌∙◌, rules}
use Rattle.asp_model.specs.Shapes.{delivery_shape}
use Rattle.core_edges.proofs.NoteLemmas.{not_placed, noted_before, noted_now}
use Rattle.core_edges.proofs.edges.Edges.note.Goals as goal

pub returns-then-not-was_delivered : goal.returns-then-not-was_delivered
returns-then-not-was_delivered g c =
    let h = c.args.self.now.holders.holders in
    record {
      noted = record {
        holders = c.delivered.ensures.delivered ∙ noted_now (delivery_shape c.args.delivery.now) h c.in-Some.place (sym c.in-Some.is ∙ c.place_of.ensures.place);
        answers = c.delivered.ensures.answers;
        policies = refl;
        others = record { activities = c.delivered.ensures.activities; plan = refl; strategies = refl };
      };
    }

pub returns-else-not-was_delivered : goal.returns-else-not-was_delivered
returns-else-not-was_delivered g c =
    let h = c.args.self.now.holders.holders in
    record {
      noted = record {
        holders = noted_before (delivery_shape c.args.delivery.now) h c.in-Some.place (sym c.in-Some.is ∙ c.place_of.ensures.place) (sym c.was_delivered.ensures.delivered ∙ search rules);
        answers = refl;
        policies = refl;
        others = record { activities = refl; plan = refl; strategies = refl };
      };
    }

pub returns-in_default : goal.returns-in_default
returns-in_default g c =
    let h = c.args.self.now.holders.holders in
    record {
      noted = record {
        holders = not_placed (delivery_shape c.args.delivery.now) h (search rules);
        answers = refl;
        policies = refl;
        others = record { activities = refl; plan = refl; strategies = refl };
      };
    }
