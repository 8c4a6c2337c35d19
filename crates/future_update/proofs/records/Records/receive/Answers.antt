use Rattle.std.proofs.Common.{sym, ◌∙◌, ap}
use Rattle.std.specs.Prelude.{not}
use Rattle.future_update.specs.Records.{names_of, shape_of}
use Rattle.future_update.proofs.NumberLemmas.{receipt_kept}
use Rattle.future_update.proofs.RecordLemmas.{receipt_more}
use Rattle.future_update.proofs.records.Records.receive.Goals as goal

pub returns-clause-shape : goal.returns-clause-shape
returns-clause-shape c =
    let r = c.args.self.now in
    let received = receipt_more r c.requires.records c.args.receipt c.requires.known c.insert.new.self.keys c.in_ok-insert.ensures.keys in
    λ i. record (shape_of r) { received = received i }

pub returns-clause-first : goal.returns-clause-first
returns-clause-first c =
    let r = c.args.self.now in
    c.in_ok-insert.ensures.added ∙ sym (ap not (receipt_kept (names_of r) c.requires.records.names c.args.receipt c.requires.known r.received.keys c.requires.records.received))
