use Rattle.std.proofs.Common.{◌∙◌, sym, ap}
use Rattle.code_table.specs.Cells.{coded}
use Rattle.object_store.specs.Index.{places_in}
use Rattle.object_store.specs.Places.{without_place}
use Rattle.object_store.proofs.IndexLemmas.{changed_so}
use Rattle.object_store.proofs.StoredLemmas.{given_up_other, given_up_same}
use Rattle.object_store.proofs.index.Index.give_up.Goals as goal

pub returns-then-not-is_one_future : goal.returns-then-not-is_one_future
returns-then-not-is_one_future c =
    let other = sym c.is_one_future.ensures ∙ c.if-not-is_one_future.true in
    record {
      places = λ f. c.release.ensures.places f ∙ ap (λ b. changed_so (without_place c.args.place) b (places_in c.args.self.now f)) (sym (given_up_other (coded c.args.old) (coded c.args.new) f other));
    }

pub returns-else-not-is_one_future : goal.returns-else-not-is_one_future
returns-else-not-is_one_future c =
    let same = sym c.is_one_future.ensures ∙ c.if-not-is_one_future.false in
    record { places = λ f. ap (λ b. changed_so (without_place c.args.place) b (places_in c.args.self.now f)) (sym (given_up_same (coded c.args.old) (coded c.args.new) f same)) }
