use Rattle.std.proofs.Common.{refl}
use Rattle.code_table.specs.Cells.{held_future}
use Rattle.code_table.specs.Shapes.{parcel_shape}
use Rattle.replay_population.specs.declared.population.Population.{Population}
use Rattle.replay_population.proofs.PopulationLemmas.{if_ok_with, value_filled}
use Rattle.replay_parts.proofs.ResultLemmas.{any_way}
use Rattle.replay_population.proofs.population.Population.fill.Goals as goal

pub returns : goal.returns
returns c =
    let p : Population = c.args.self.now in
    let q : Population = record p { futures = c.fill.new.self } in
    record {
      filled = λ k h code. if_ok_with c.fill.result _ _ _ (λ values coded. value_filled p q k (held_future c.args.future) (parcel_shape c.args.value) h refl values (coded h.code code h.values)) c.fill.ensures.values c.fill.ensures.code;
      roster = any_way c.fill.result _ refl;
      passed = any_way c.fill.result _ (λ m j e. e);
    }
