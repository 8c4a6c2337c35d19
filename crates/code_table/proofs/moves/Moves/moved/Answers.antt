use Rattle.std.proofs.Common.{◌∙◌, sym, ap}
use Rattle.std.specs.Option.{unwrap_or}
use Rattle.code_table.specs.Moves.{move_of}
use Rattle.code_table.proofs.OrderLemmas.{number_found}
use Rattle.code_table.proofs.moves.Moves.moved.Goals as goal

pub returns-in-ToNumber : goal.returns-in-ToNumber
returns-in-ToNumber c =
    let keys = c.in-ToNumber.order.now.keys in
    record {
      place = c.unwrap_or.ensures ∙ (λ i. unwrap_or (c.get_index_of.ensures.index i) (c.len.ensures.len i)) ∙ number_found c.args.place keys ∙ sym (ap (λ m. move_of m c.args.place) c.in-ToNumber.is);
    }
