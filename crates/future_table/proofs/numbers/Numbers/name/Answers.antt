use Rattle.std.proofs.Common.{◌≡◌, ◌∙◌, map, sym, ap, subst, ◌<◌, length, get_or}
use Rattle.asp_model.specs.Shapes.{future_shape}
use Rattle.future_table.specs.Numbers.{named}
use Rattle.future_table.proofs.NumberLemmas.{named_map}
use Rattle.future_table.proofs.numbers.Numbers.name.Goals as goal

pub returns : goal.returns
returns c =
    let fs = c.self.inside.names.keys in
    let n = c.args.number in
    let f = c.index-as_slice-number.result in
    let lt : n < length fs = subst (λ gs. n < length gs) (sym c.self.view_is) c.requires.within in
    let here : get_or fs n f ≡ f = ap (λ gs. get_or gs n f) (sym c.as_slice.ensures.keys) ∙ sym c.index-as_slice-number.is in
    record { name = sym (named_map fs n f lt here) ∙ ap (λ gs. named (map future_shape gs) n) c.self.view_is }
