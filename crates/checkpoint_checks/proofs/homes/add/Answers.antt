use Rattle.std.proofs.Common.{ap, ◌∙◌}
use Rattle.asp_model.specs.Shapes.{future_shape}
use Rattle.checkpoint_checks.specs.Maps.{home_in, with_home}
use Rattle.checkpoint_checks.proofs.MapLemmas.{home_in-insert}
use Rattle.checkpoint_checks.proofs.homes.add.Goals as goal

pub returns : goal.returns
returns c = record {
  homes = home_in-insert c.args.homes.now c.insert.new.self c.in_ok-key.key c.args.home c.in_ok-insert.ensures.updates
      ∙ ap (λ g. with_home (home_in c.args.homes.now) (future_shape g) c.args.home.now) c.in_ok-key.ensures.name;
}
