use Rattle.std.proofs.Common.{◌≡◌, ◌∙◌, None, Some, sym, arith}
use Rattle.std.proofs.lemmas.List.{get_or_read}
use Rattle.asp_model.specs.Shapes.{future_shape}
use Rattle.future_table.specs.Numbers.{number_of}
use Rattle.future_table.specs.Walks.{names_in}
use Rattle.future_table.proofs.TableLemmas.{found_none, found_number, value_within}
use Rattle.future_table.proofs.walks.value.Goals as goal

pub index-requires : goal.index-requires
index-requires c = let w = c.args.walks.now in omega (arith, value_within c.args.name.now w.numbers w.values.items c.in-Some.at c.requires.whole.room (sym c.of.ensures.number ∙ c.in-Some.is), w.values.ok.0)

pub returns-in-None : goal.returns-in-None
returns-in-None c = let w = c.args.walks.now in record { value = sym (found_none c.args.name.now w.numbers w.values.items (sym c.of.ensures.number ∙ c.in-None.is)) }

pub returns-in-Some : goal.returns-in-Some
returns-in-Some c =
    let w = c.args.walks.now in
    let f = c.args.name.now in
    let at = c.in-Some.at in
    let number : number_of (future_shape f) (names_in w) ≡ Some at = sym c.of.ensures.number ∙ c.in-Some.is in
    let within = value_within f w.numbers w.values.items at c.requires.whole.room number in
    record { value = c.as_ref.ensures.value ∙ get_or_read w.values.items at c.index.result.now within c.index.ensures None ∙ sym (found_number f w.numbers w.values.items at c.requires.whole.apart c.requires.whole.room number) }
