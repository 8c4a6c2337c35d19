use Rattle.std.proofs.Common.{◌<◌, ◌∙◌, List, ℕ, length, slice_index_or, ap, subst}
use Rattle.code_table.specs.declared.code.Capture.{Capture}
use Rattle.path_equal.specs.Held.{use_held}
use Rattle.path_equal.specs.Searches.{searched}
use Rattle.path_equal.proofs.HeldLemmas.{one_more}
use Rattle.path_equal.proofs.code.past_body.Goals as goal

pub loop-slot-preserved : goal.loop-slot-preserved
loop-slot-preserved c =
    let ns = c.args.places.now in
    let i = c.loop-slot.slot-index in
    let xs : List ℕ = c.args.method.now.uses.items in
    let k : ℕ = slice_index_or c.deref-slot-items.result.now i 0 in
    let lt : i < length xs = subst (λ (ys : List ℕ). i < length ys) c.deref-slot-items.ensures.value c.loop-slot-test.true in
    one_more (use_held ns c.args.method.now.captured.items) xs i k 0 c.args.start c.loop-slot.search c.past_use-search.result lt (ap (λ (ys : List ℕ). slice_index_or ys i 0) c.deref-slot-items.ensures.value) c.loop-slot.invariant
    (c.past_use-search.ensures.searched ∙ ap (λ (cs : List Capture). searched (use_held ns cs k) c.loop-slot.search) c.deref.ensures.value)
