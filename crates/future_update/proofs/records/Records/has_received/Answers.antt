use Rattle.std.proofs.Common.{sym, ◌∙◌}
use Rattle.future_update.specs.Records.{names_of}
use Rattle.future_update.proofs.NumberLemmas.{receipt_kept}
use Rattle.future_update.proofs.records.Records.has_received.Goals as goal

pub returns : goal.returns
returns c =
    let r = c.args.self.now in
    record { received = c.contains.ensures ∙ sym (receipt_kept (names_of r) c.requires.records.names (record { future = c.args.future; by = c.args.by }) (c.requires.known, c.requires.by) r.received.keys c.requires.records.received) }
