use Rattle.std.proofs.Common.{◌≡◌, List, ap, subst, ◌∙◌}
use Rattle.std.proofs.lemmas.Result.{on_ok_weaker}
use Rattle.std.specs.Prelude.{OnOk}
use Rattle.asp_model.specs.Parcel.{unpack_at}
use Rattle.asp_model.specs.Store.{Store}
use Rattle.code_table.specs.declared.code.Node.{Node}
use Rattle.code_table.specs.Shapes.{parcel_shape, store_of}
use Rattle.activity_step.specs.Standings.{code_of}
use Rattle.activity_step.proofs.activity.Activity.put_value.Goals as goal

pub returns-clause-stands : goal.returns-clause-stands
returns-clause-stands c = λ a h.
    let x = c.args.self.now in
    let p = parcel_shape c.args.value.now in
    let stored : OnOk c.unpack_at.result (store_of (code_of x) c.unpack_at.new.store.cells ≡ unpack_at (store_of (code_of x) x.state.store.cells) c.args.place p) =
    subst (λ (k : List Node). OnOk c.unpack_at.result (store_of k c.unpack_at.new.store.cells ≡ unpack_at (store_of k x.state.store.cells) c.args.place p)) c.requires.code c.unpack_at.ensures.cells in
    on_ok_weaker c.unpack_at.result (λ e. record {
      state = record { machine = h.state.machine; store = e ∙ ap (λ (s : Store). unpack_at s c.args.place p) h.state.store; lines = h.state.lines };
      present = h.present;
      active = h.active;
      count = h.count;
    }) stored
