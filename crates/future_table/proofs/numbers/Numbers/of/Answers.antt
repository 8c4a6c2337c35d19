use Rattle.std.proofs.Common.{◌∙◌, map, sym, ap}
use Rattle.std.proofs.lemmas.Iterator.Adapters.{position_from-zero}
use Rattle.asp_model.specs.Shapes.{future_shape}
use Rattle.future_table.specs.Numbers.{number_of}
use Rattle.future_table.proofs.NumberLemmas.{number_position, same_one}
use Rattle.future_table.proofs.numbers.Numbers.of.Goals as goal

pub returns : goal.returns
returns c =
    let f = c.args.name.now in
    let fs = c.self.inside.names.keys in
    record { number = c.get_index_of.ensures.index ∙ position_from-zero (same_one f) fs ∙ sym (number_position 0 f fs) ∙ ap (λ gs. number_of (future_shape f) (map future_shape gs)) c.self.view_is }
