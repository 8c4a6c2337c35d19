use Rattle.std.proofs.Common.{◌≡◌, ◌∙◌, ◌+◌, List, Some, map, ap, subst, arith}
use Rattle.std.specs.List.{position_or_len}
use Rattle.asp_model.specs.declared.name.FutureName.{FutureName}
use Rattle.asp_model.specs.Shapes.{future_shape}
use Rattle.future_table.specs.Numbers.{IsEntered, number_of}
use Rattle.future_table.proofs.NumberLemmas.{entered_number, entered_so, same_one}
use Rattle.future_table.proofs.numbers.Numbers.enter.Goals as goal

pub returns-clause-number : goal.returns-clause-number
returns-clause-number c =
    let f = c.args.name in
    let fs = c.self.inside.names.keys in
    let n = c.in_ok-insert_full.field-0.0 in
    let last : n ≡ position_or_len (same_one f) fs = c.in_ok-insert_full.ensures.index in
    let is : 0 + position_or_len (same_one f) fs ≡ n = omega (arith, last) in
    ap (λ gs. number_of (future_shape f) (map future_shape gs)) c.in_ok-insert_full.ensures.keys ∙ entered_number 0 f fs ∙ ap Some is

pub returns-clause-entered : goal.returns-clause-entered
returns-clause-entered c =
    let f = c.args.name in
    let fs = c.self.inside.names.keys in
    subst (λ (gs : List FutureName). IsEntered f gs c.insert_full.new.self.keys c.in_ok-insert_full.field-0.1) c.self.view_is (entered_so f fs c.insert_full.new.self.keys c.in_ok-insert_full.field-0.1 c.in_ok-insert_full.ensures.added c.in_ok-insert_full.ensures.keys)
