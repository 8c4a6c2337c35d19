use Rattle.std.proofs.Common.{sym, ◌∙◌}
use Rattle.future_update.specs.Names.{IsKnownEdge}
use Rattle.future_update.specs.Numbered.{IsPassed}
use Rattle.future_update.specs.Records.{names_of}
use Rattle.future_update.proofs.NumberLemmas.{all_so}
use Rattle.future_update.proofs.RecordLemmas.{delivered_kept, ticks_below}
use Rattle.future_update.proofs.records.Records.was_delivered.Goals as goal

pub returns : goal.returns
returns c =
    let r = c.args.self.now in
    let h = c.requires.records in
    let known = all_so (IsPassed (names_of r)) (IsKnownEdge (names_of r)) r.edges.keys (λ x e. e.0) h.edges in
    record { delivered = c.is_done.ensures.done ∙ sym (delivered_kept (names_of r) h.names r.edges.keys known h.apart c.args.place c.requires.within r.delivered.order.items (ticks_below r.delivered _ h.delivered h.delivered_size)) }
