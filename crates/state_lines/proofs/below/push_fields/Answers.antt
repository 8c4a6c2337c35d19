use Rattle.std.proofs.Common.{◌≡◌, ◌-◌, ◌∙◌, suc, length, map, drop, get_or, min, sym, ap, arith}
use Rattle.std.proofs.lemmas.List.{length-map}
use Rattle.code_table.specs.Tables.{text_of}
use Rattle.state_lines.specs.Below.{fields_below, place_in}
use Rattle.state_lines.specs.Walks.{all_pending, pending_at}
use Rattle.state_lines.proofs.BelowLemmas.{field_before, fields_past, none_before, one_before}
use Rattle.state_lines.proofs.below.push_fields.Goals as goal

pub loop-left-init : goal.loop-left-init
loop-left-init c =
    let parent = c.args.parent in
    let labels = c.args.labels.now in
    let places = c.args.places.now in
    let left = c.min-left.result in
    let below = fields_below parent.path.now (place_in parent) (drop left (map text_of labels)) (drop left places) in
    record {
      low = omega arith;
      within = omega arith;
      pending = none_before (all_pending parent.entered.now c.args.due.now.items) (pending_at parent.depth) below
          (fields_past parent.path.now (place_in parent) (map text_of labels) places left (c.min-left.ensures ∙ ap (λ k. min k (length places)) (sym (length-map labels text_of))));
      spots = λ h. h;
    }

pub loop-left-preserved : goal.loop-left-preserved
loop-left-preserved c =
    let parent = c.args.parent in
    let labels = c.args.labels.now in
    let places = c.args.places.now in
    let path = parent.path.now in
    let at = place_in parent in
    let left = c.loop-left.left in
    let next : suc (left - 1) ≡ left = omega arith in
    record {
      low = omega arith;
      within = omega arith;
      pending = one_before
          (all_pending parent.entered.now c.args.due.now.items)
          (all_pending parent.entered.now c.loop-left.due.items)
          (all_pending parent.entered.now c.push_child.new.due.items)
          (pending_at parent.depth)
          (fields_below path at (drop (left - 1) (map text_of labels)) (drop (left - 1) places))
          (fields_below path at (drop left (map text_of labels)) (drop left places))
          (c.in_ok-path.path, at (get_or places (left - 1) 0))
          c.loop-left.invariant.pending
          c.in_ok-push_child.ensures.pending
          (field_before path at labels places left (left - 1) c.index-labels-left.result c.in_ok-path.path next (omega arith) (omega arith) c.index-labels-left.is c.in_ok-path.ensures.path);
      spots = λ h. c.in_ok-push_child.ensures.spots (c.loop-left.invariant.spots h);
    }
