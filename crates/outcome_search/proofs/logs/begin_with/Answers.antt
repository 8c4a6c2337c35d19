use Rattle.std.proofs.Common.{◌≡◌, ◌<◌, ◌≤◌, ◌∙◌, true, length, map, sym, subst, refl, arith, slice_index_or}
use Rattle.std.specs.List.{starts_with}
use Rattle.asp_model.specs.Step.{same_reception}
use Rattle.asp_model.specs.Replay.{log_in}
use Rattle.asp_model.specs.Shapes.{lists_shape, reception_shape}
use Rattle.outcome_search.proofs.LogLemmas.{beginning, begun_rows}
use Rattle.outcome_search.proofs.logs.begin_with.Goals as goal

pub loop-entry-preserved : goal.loop-entry-preserved
loop-entry-preserved c =
    let lists = lists_shape c.args.lists.now in
    let others = lists_shape c.args.others.now in
    let x = c.entry-item.result in
    let a : starts_with same_reception (map reception_shape c.log_of.result.now) (map reception_shape c.log_of-in-loop-entry.result.now) ≡ true = sym c.begins.ensures ∙ c.if-not-begins.false in
    let b : starts_with same_reception (log_in lists x.0) (log_in others x.0) ≡ true = subst (λ l. starts_with same_reception (log_in lists x.0) l ≡ true) c.log_of-in-loop-entry.ensures.log (subst (λ l. starts_with same_reception l (map reception_shape c.log_of-in-loop-entry.result.now) ≡ true) c.log_of.ensures.log a) in
    beginning lists others c.args.others.now.entries.items c.loop-entry.entry-index x
    (subst (λ l. c.loop-entry.entry-index < length l) c.deref-entry-items.ensures.value c.loop-entry-test.true)
    (subst (λ l. x ≡ slice_index_or l c.loop-entry.entry-index x) c.deref-entry-items.ensures.value c.entry-item.is)
    c.loop-entry.invariant b

pub returns : goal.returns
returns c =
    let le : length c.deref-entry-items.result.now ≤ c.loop-entry.entry-index = omega (arith, c.loop-entry-test.false) in
    record { begin = (λ t. begun_rows (lists_shape c.args.lists.now) c.args.others.now.entries.items c.loop-entry.entry-index (subst (λ l. length l ≤ c.loop-entry.entry-index) c.deref-entry-items.ensures.value le) c.loop-entry.invariant, λ b. refl) }
