use Rattle.std.proofs.Common.{T, refl, sym, subst, ◌∙◌}
use Rattle.std.specs.FinMap.{is_sorted}
use Rattle.asp_model.specs.Names.{future_cmp}
use Rattle.checkpoint_parts.specs.Shapes.{checkpoint_shape}
use Rattle.checkpoint_actors.proofs.ActorLemmas.{numbers_fit}
use Rattle.checkpoint_actors.proofs.PartLemmas.{activities_may, one_roots, values_may}
use Rattle.checkpoint_actors.proofs.parts.make_parts.Goals as goal

pub make_all-requires : goal.make_all-requires
make_all-requires c = record { values = values_may (checkpoint_shape c.args.file) c.requires.sound; activities = activities_may (checkpoint_shape c.args.file) c.requires.sound }

pub fill_all-requires : goal.fill_all-requires
fill_all-requires c = record {
  ascend = subst (λ vs. T (is_sorted future_cmp vs)) (sym c.in_ok-code.ensures.made.values) c.requires.sound.filled_ascend;
  one_root = one_roots _ (checkpoint_shape c.args.file) _ c.in_ok-code.ensures.made.values c.requires.sound;
}

pub make_actors-requires : goal.make_actors-requires
make_actors-requires c = record { numbers = numbers_fit _ (checkpoint_shape c.args.file) _ _ _ c.in_ok-code.ensures.made.activities (c.deref.ensures.value ∙ c.in_ok-answered.ensures.answered) }

pub returns : goal.returns
returns c = record {
  parts = record {
    homes = refl;
    values = c.in_ok-futures.ensures.values ∙ c.in_ok-code.ensures.made.values;
    coded = c.in_ok-futures.ensures.code;
    actors = c.in_ok-actors.ensures.actors (checkpoint_shape c.args.file) _ c.in_ok-code.ensures.made.activities (c.deref.ensures.value ∙ c.in_ok-answered.ensures.answered);
    program = c.in_ok-code.ensures.made.program;
  };
}
