use Rattle.std.proofs.Common.{sym, ◌∙◌}
use Rattle.indexmap.specs.IndexMap.{keys}
use Rattle.future_update.specs.Records.{names_of}
use Rattle.future_update.proofs.RecordLemmas.{absent_keys, filled_kept, filled_none, all_keys, sized}
use Rattle.future_update.proofs.records.Records.is_filled.Goals as goal

pub returns-in-Some : goal.returns-in-Some
returns-in-Some c =
    let r = c.args.self.now in
    let h = c.requires.records in
    record {
      filled = c.is_done.ensures.done
          ∙ sym (filled_kept (names_of r) h.names c.args.future c.requires.known (keys r.homes) (all_keys (names_of r) r.homes.entries h.homes) h.futures c.in-Some.number (sym c.in-Some.ensures.index) r.filled.order.items (sized r.homes.entries r.filled h.filled h.filled_size));
    }

pub returns-in-None : goal.returns-in-None
returns-in-None c =
    let r = c.args.self.now in
    let h = c.requires.records in
    record {
      filled = sym (filled_none (names_of r) h.names c.args.future c.requires.known (keys r.homes) (all_keys (names_of r) r.homes.entries h.homes) (absent_keys c.args.future r.homes.entries (sym c.in-None.ensures.found)) r.filled.order.items (sized r.homes.entries r.filled h.filled h.filled_size));
    }
