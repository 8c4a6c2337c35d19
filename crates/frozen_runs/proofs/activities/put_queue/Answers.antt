use Rattle.std.proofs.Common.{◌∙◌, ◌++◌, ap, sym}
use Rattle.std.specs.Prelude.{string_bytes}
use Rattle.checkpoint_text.specs.Items.{Items, list_items, request_items}
use Rattle.checkpoint_text.specs.Writing.{words}
use Rattle.checkpoint_text.proofs.WritingLemmas.{list_mapped}
use Rattle.request_queue.specs.Requests.{request_shape}
use Rattle.frozen_runs.specs.Activities.{request_piece}
use Rattle.frozen_runs.proofs.activities.put_queue.Goals as goal

pub returns : goal.returns
returns c =
    let v = c.in_ok-pending.pending.items in
    record {
      adds = c.in_ok-put_requests.ensures.adds
          ∙ ap (λ (ts : Items). string_bytes c.args.text.now ++ words ts)
          (ap (list_items request_piece) c.deref.ensures.value ∙ sym (list_mapped request_items (λ r. request_shape r.now) v) ∙ ap (list_items request_items) c.in_ok-pending.ensures.pending);
    }
