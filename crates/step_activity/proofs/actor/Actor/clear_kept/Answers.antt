use Rattle.std.proofs.Common.{◌≡◌, ◌∙◌, ℕ, true, sym, ap}
use Rattle.asp_model.specs.Contraction.{is_future}
use Rattle.asp_model.specs.Parcel.{unpack_at}
use Rattle.asp_model.specs.Store.{Store, cell}
use Rattle.code_table.specs.Shapes.{store_of}
use Rattle.object_store.specs.View.{StoreView}
use Rattle.step_activity.specs.declared.actor.Actor.{Actor}
use Rattle.step_activity.specs.Actors.{code_of}
use Rattle.step_activity.proofs.ClearLemmas.{filled_clear, first_clear}
use Rattle.step_activity.proofs.actor.Actor.clear_kept.Goals as goal

pub returns-then-holds_future : goal.returns-then-holds_future
returns-then-holds_future c = record {
  clear = λ a p for h.
      let x : Actor = c.args.self.now in
      let n : ℕ = c.args.place in
      let own : store_of (code_of x) c.store.result.now.cells ≡ a.store = ap (λ (t : StoreView). store_of (code_of x) t.cells) c.store.ensures.store ∙ for.state.store in
      let is : is_future (cell a.store n) ≡ true = ap (λ (s : Store). is_future (cell s n)) (sym own) ∙ sym (c.holds_future.ensures.holds (code_of x)) ∙ c.if-holds_future.true in
      filled_clear a n p x.clear is h;
}

pub returns-else-holds_future : goal.returns-else-holds_future
returns-else-holds_future c = record { clear = λ a p for h. first_clear (record a { store = unpack_at a.store c.args.place p }) }
