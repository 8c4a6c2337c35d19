use Rattle.std.proofs.Common.{◌∙◌, ◌++◌, ap, append_assoc, map, sym}
use Rattle.std.specs.Prelude.{reverse, string_bytes}
use Rattle.std.specs.Option.{option_map}
use Rattle.std.proofs.lemmas.List.{reverse-reverse}
use Rattle.asp_model.specs.Shapes.{future_shape, line_shape, reception_shape}
use Rattle.checkpoint_text.specs.Items.{Items, future_items, list_items, name_items, number_items, option_items, output_items, reception_items, request_items, running_items, service_items, store_items}
use Rattle.checkpoint_text.specs.Writing.{words}
use Rattle.checkpoint_text.proofs.WritingLemmas.{list_mapped, onward}
use Rattle.code_table.specs.Shapes.{store_of}
use Rattle.request_queue.specs.Pending.{waiting}
use Rattle.frozen_runs.specs.Activities.{line_piece, reception_piece}
use Rattle.frozen_runs.proofs.ActivityLemmas.{pending_same}
use Rattle.frozen_runs.proofs.activities.put_activity.Goals as goal

pub returns : goal.returns
returns c =
    let x = c.args.parts.now in
    let old = string_bytes c.args.text.now in
    record {
      adds = λ a rs p.
          let services : Items = list_items service_items (reverse (reverse a.services)) in
          let term : Items = running_items a.term in
          let store : Items = store_items (store_of c.args.code.now x.state.store.cells) in
          let to_name : Items = name_items c.args.name.now in
          let to_count : Items = to_name ++ number_items x.count in
          let to_sends : Items = to_count ++ number_items c.from.result in
          let to_creations : Items = to_sends ++ number_items c.from-2.result in
          let to_lines : Items = to_creations ++ list_items line_piece c.deref.result.now in
          let to_log : Items = to_lines ++ list_items reception_piece c.deref-2.result.now in
          let to_queue : Items = to_log ++ list_items request_items (map (λ r. r.1) (waiting x.queue)) in
          let to_present : Items = to_queue ++ option_items future_items (option_map future_shape x.present) in
          let to_term : Items = to_present ++ services ++ term in
          let to_store : Items = to_term ++ store in
          let count = onward old to_name (number_items x.count) c.in_ok-put_name.ensures.adds c.in_ok-put_number.ensures.adds in
          let sends = onward old to_count (number_items c.from.result) count c.in_ok-put_number-2.ensures.adds in
          let creations = onward old to_sends (number_items c.from-2.result) sends c.in_ok-put_number-3.ensures.adds in
          let lines = onward old to_creations (list_items line_piece c.deref.result.now) creations c.in_ok-put_outputs.ensures.adds in
          let log = onward old to_lines (list_items reception_piece c.deref-2.result.now) lines c.in_ok-put_log.ensures.adds in
          let queue = onward old to_log (list_items request_items (map (λ r. r.1) (waiting x.queue))) log c.in_ok-put_queue.ensures.adds in
          let present = onward old to_queue (option_items future_items (option_map future_shape x.present)) queue c.in_ok-put_answer.ensures.adds in
          let machine = onward old to_present (services ++ term) present (c.in_ok-put_machine.ensures.adds a.term (reverse a.services) p.state.machine)
          ∙ ap (λ (us : Items). old ++ words us) (sym (append_assoc to_present services term)) in
          let stored = onward old to_term store machine c.in_ok-put_store.ensures.adds in
          let whole = onward old to_store (number_items x.active) stored c.in_ok-put_number-4.ensures.adds in
          let sent = c.from.ensures ∙ p.sends in
          let created = c.from-2.ensures ∙ p.creations in
          let as_lines = ap (list_items line_piece) c.deref.ensures.value ∙ sym (list_mapped output_items line_shape x.state.lines.items) ∙ ap (list_items output_items) p.state.lines in
          let as_log = ap (list_items reception_piece) c.deref-2.ensures.value ∙ sym (list_mapped reception_items reception_shape x.log.items) in
          let as_queue = ap (λ us. list_items request_items (map (λ r. r.1) us)) (p.pending ∙ pending_same a.served 0 rs) in
          let as_services = ap (list_items service_items) (reverse-reverse a.services) in
          whole ∙ (λ i. old ++ words (to_name ++ number_items (p.count i) ++ number_items (sent i) ++ number_items (created i) ++ as_lines i ++ as_log i ++ as_queue i
          ++ option_items future_items (p.present i) ++ as_services i ++ term ++ store_items (p.state.store i) ++ number_items (p.active i)));
    }
