use Rattle.std.proofs.Common.{◌<◌, arith}
use Rattle.std.proofs.lemmas.Result.{err_from_is_err_and}
use Rattle.asp_model.specs.Shapes.{tree_of}
use Rattle.checkpoint_text.specs.Reading.{both, method_with, text}
use Rattle.checkpoint_reading.specs.Terms.{field_pair, level, method_pair}
use Rattle.code_table.proofs.TermTrees.{active_is, call_is, clone_is, get_is, group_is, if_is, let_is, member_is, operate_is, print_is, put_is, repeat_is, scatter_is, size_is, steps_is, waitall_is}
use Rattle.checkpoint_items.proofs.ListLemmas.{none_read, one_read, one_refused, all_read}
use Rattle.checkpoint_reading.proofs.TermLemmas.{as_tree, no_kind, object_is, read_on, unknown_kind}
use Rattle.checkpoint_reading.proofs.terms.+read.Goals as goal

pub read_level-returns-in_err-kind : goal.read_level-returns-in_err-kind
read_level-returns-in_err-kind t c =
    let q = err_from_is_err_and c.from_residual.result c.from_residual.ensures.1 in
    let some : 0 < c.args.depth = omega (arith, c.if-depth-eq0.false) in
    rw (q.1, q.2)
    (record { read = no_kind c.args.depth c.args.items.now c.in_err-kind.field-0.0 some c.in_err-kind.ensures.read })

pub read_level-returns-then-kind-ge-KINDS : goal.read_level-returns-then-kind-ge-KINDS
read_level-returns-then-kind-ge-KINDS t c =
    let some : 0 < c.args.depth = omega (arith, c.if-depth-eq0.false) in
    record { read = unknown_kind c.args.depth c.in_ok-kind.kind c.args.items.now c.read_count.new.items some c.in_ok-kind.ensures.read c.if-kind-ge-KINDS.true }

pub read_level-returns : goal.read_level-returns
read_level-returns t c =
    let some : 0 < c.args.depth = omega (arith, c.if-depth-eq0.false) in
    record { read = read_on c.args.depth c.in_ok-kind.kind c.args.items.now c.read_count.new.items c.read_node.new.items c.read_node.result some c.in_ok-kind.ensures.read c.read_node.ensures.read }

pub read_terms-loop-init : goal.read_terms-loop-init
read_terms-loop-init t c = rw c.new-terms.ensures.items (none_read (level c.args.depth) tree_of c.in_ok-count.count c.read_count.new.items)

pub read_terms-loop-preserved : goal.read_terms-loop-preserved
read_terms-loop-preserved t c =
    rw c.in_ok-push.ensures.items
    (one_read (level c.args.depth) tree_of c.in_ok-count.count c.read_count.new.items c.loop.counter c.loop.terms.items c.loop.items c.in_ok-read_level.field-0 c.read_level.new.items c.loop-test.true c.loop.invariant c.in_ok-read_level.ensures.read)

pub read_terms-returns-in_err-read_level : goal.read_terms-returns-in_err-read_level
read_terms-returns-in_err-read_level t c =
    let q = err_from_is_err_and c.from_residual-in_err-read_level.result c.from_residual-in_err-read_level.ensures.1 in
    rw (q.1, q.2)
    (record { read = one_refused (level c.args.depth) tree_of c.args.items.now c.in_ok-count.count c.read_count.new.items c.loop.counter c.loop.terms.items c.loop.items c.in_err-read_level.field-0.0 c.in_ok-count.ensures.read c.loop-test.true c.loop.invariant c.in_err-read_level.ensures.read })

pub read_terms-returns : goal.read_terms-returns
read_terms-returns t c = record { read = all_read (level c.args.depth) tree_of c.args.items.now c.in_ok-count.count c.read_count.new.items c.loop.counter c.loop.terms.items c.loop.items c.in_ok-count.ensures.read c.loop-test.false c.loop.invariant }

pub read_fields-loop-init : goal.read_fields-loop-init
read_fields-loop-init t c = rw c.new-fields.ensures.items (none_read (both text (level c.args.depth)) field_pair c.in_ok-count.count c.read_count.new.items)

pub read_fields-loop-preserved : goal.read_fields-loop-preserved
read_fields-loop-preserved t c =
    rw c.in_ok-push.ensures.items
    (one_read (both text (level c.args.depth)) field_pair c.in_ok-count.count c.read_count.new.items c.loop.counter c.loop.fields.items c.loop.items c.in_ok-read_field.field-0 c.read_field.new.items c.loop-test.true c.loop.invariant c.in_ok-read_field.ensures.read)

pub read_fields-returns-in_err-read_field : goal.read_fields-returns-in_err-read_field
read_fields-returns-in_err-read_field t c =
    let q = err_from_is_err_and c.from_residual-in_err-read_field.result c.from_residual-in_err-read_field.ensures.1 in
    rw (q.1, q.2)
    (record { read = one_refused (both text (level c.args.depth)) field_pair c.args.items.now c.in_ok-count.count c.read_count.new.items c.loop.counter c.loop.fields.items c.loop.items c.in_err-read_field.field-0.0 c.in_ok-count.ensures.read c.loop-test.true c.loop.invariant c.in_err-read_field.ensures.read })

pub read_fields-returns : goal.read_fields-returns
read_fields-returns t c = record { read = all_read (both text (level c.args.depth)) field_pair c.args.items.now c.in_ok-count.count c.read_count.new.items c.loop.counter c.loop.fields.items c.loop.items c.in_ok-count.ensures.read c.loop-test.false c.loop.invariant }

pub read_methods-loop-init : goal.read_methods-loop-init
read_methods-loop-init t c = rw c.new-methods.ensures.items (none_read (method_with (level c.args.depth)) method_pair c.in_ok-count.count c.read_count.new.items)

pub read_methods-loop-preserved : goal.read_methods-loop-preserved
read_methods-loop-preserved t c =
    rw c.in_ok-push.ensures.items
    (one_read (method_with (level c.args.depth)) method_pair c.in_ok-count.count c.read_count.new.items c.loop.counter c.loop.methods.items c.loop.items c.in_ok-read_method.field-0 c.read_method.new.items c.loop-test.true c.loop.invariant c.in_ok-read_method.ensures.read)

pub read_methods-returns-in_err-read_method : goal.read_methods-returns-in_err-read_method
read_methods-returns-in_err-read_method t c =
    let q = err_from_is_err_and c.from_residual-in_err-read_method.result c.from_residual-in_err-read_method.ensures.1 in
    rw (q.1, q.2)
    (record { read = one_refused (method_with (level c.args.depth)) method_pair c.args.items.now c.in_ok-count.count c.read_count.new.items c.loop.counter c.loop.methods.items c.loop.items c.in_err-read_method.field-0.0 c.in_ok-count.ensures.read c.loop-test.true c.loop.invariant c.in_err-read_method.ensures.read })

pub read_methods-returns : goal.read_methods-returns
read_methods-returns t c = record { read = all_read (method_with (level c.args.depth)) method_pair c.args.items.now c.in_ok-count.count c.read_count.new.items c.loop.counter c.loop.methods.items c.loop.items c.in_ok-count.ensures.read c.loop-test.false c.loop.invariant }

pub read_clone-returns : goal.read_clone-returns
read_clone-returns t c = record { read = rw c.in_ok-object.ensures.read (as_tree _ _ (clone_is c.in_ok-object.object c.blank.result)) }

pub read_repeat-returns : goal.read_repeat-returns
read_repeat-returns t c = record { read = rw c.in_ok-body.ensures.read (as_tree _ _ (repeat_is c.in_ok-body.body c.blank.result)) }

pub read_print-returns : goal.read_print-returns
read_print-returns t c = record { read = rw c.in_ok-printed.ensures.read (as_tree _ _ (print_is c.in_ok-printed.printed c.blank.result)) }

pub read_size-returns : goal.read_size-returns
read_size-returns t c = record { read = rw c.in_ok-group.ensures.read (as_tree _ _ (size_is c.in_ok-group.group c.blank.result)) }

pub read_waitall-returns : goal.read_waitall-returns
read_waitall-returns t c = record { read = rw c.in_ok-group.ensures.read (as_tree _ _ (waitall_is c.in_ok-group.group c.blank.result)) }

pub read_get-returns : goal.read_get-returns
read_get-returns t c = record { read = rw (c.in_ok-object.ensures.read, c.in_ok-label.ensures.read) (as_tree _ _ (get_is c.in_ok-object.object c.in_ok-label.label c.blank.result)) }

pub read_active-returns : goal.read_active-returns
read_active-returns t c = record { read = rw (c.in_ok-object.ensures.read, c.in_ok-service.ensures.read) (as_tree _ _ (active_is c.in_ok-object.object c.in_ok-service.service c.blank.result)) }

pub read_put-returns : goal.read_put-returns
read_put-returns t c = record { read = rw c.in_ok-named.ensures.read (as_tree _ _ (put_is c.in_ok-named.named.0 c.in_ok-named.named.1 c.in_ok-named.named.2 c.blank.result)) }

pub read_scatter-returns : goal.read_scatter-returns
read_scatter-returns t c = record { read = rw c.in_ok-named.ensures.read (as_tree _ _ (scatter_is c.in_ok-named.named.0 c.in_ok-named.named.1 c.in_ok-named.named.2 c.blank.result)) }

pub read_let-returns : goal.read_let-returns
read_let-returns t c = record { read = rw (c.in_ok-name.ensures.read, c.in_ok-two.ensures.read) (as_tree _ _ (let_is c.in_ok-name.name c.in_ok-two.two.0 c.in_ok-two.two.1 c.blank.result)) }

pub read_member-returns : goal.read_member-returns
read_member-returns t c = record { read = rw c.in_ok-two.ensures.read (as_tree _ _ (member_is c.in_ok-two.two.0 c.in_ok-two.two.1 c.blank.result)) }

pub read_operate-returns : goal.read_operate-returns
read_operate-returns t c = record { read = rw (c.in_ok-sign.ensures.read, c.in_ok-two.ensures.read) (as_tree _ _ (operate_is c.in_ok-sign.sign c.in_ok-two.two.0 c.in_ok-two.two.1 c.blank.result)) }

pub read_if-returns : goal.read_if-returns
read_if-returns t c = record { read = rw (c.in_ok-test.ensures.read, c.in_ok-two.ensures.read) (as_tree _ _ (if_is c.in_ok-test.test c.in_ok-two.two.0 c.in_ok-two.two.1 c.blank.result)) }

pub read_steps-returns : goal.read_steps-returns
read_steps-returns t c = record { read = rw c.in_ok-steps.ensures.read (as_tree _ _ (steps_is c.in_ok-steps.steps c.blank.result)) }

pub read_group-returns : goal.read_group-returns
read_group-returns t c = record { read = rw c.in_ok-members.ensures.read (as_tree _ _ (group_is c.in_ok-members.members c.blank.result)) }

pub read_call-returns : goal.read_call-returns
read_call-returns t c = record { read = rw (c.in_ok-receiver.ensures.read, c.in_ok-label.ensures.read, c.in_ok-arguments.ensures.read) (as_tree _ _ (call_is c.in_ok-receiver.receiver c.in_ok-label.label c.in_ok-arguments.arguments c.blank.result)) }

pub read_make-returns : goal.read_make-returns
read_make-returns t c = record { read = rw (c.in_ok-fields.ensures.read, c.in_ok-methods.ensures.read) (as_tree _ _ (object_is c.in_ok-fields.fields c.in_ok-methods.methods c.blank.result)) }
