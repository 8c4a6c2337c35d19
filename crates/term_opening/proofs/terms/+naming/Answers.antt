use Rattle.std.proofs.Common.{◌∙◌, [], map, sym, ap}
use Rattle.asp_model.specs.Shapes.{tree_of}
use Rattle.code_compiler.specs.Parts.{terms_below}
use Rattle.term_opening.specs.Naming.{noted, noted_below}
use Rattle.term_opening.proofs.NotedLemmas.{call_noted}
use Rattle.term_opening.specs.Named.{named_field, named_body, named_term}
use Rattle.code_table.specs.Parts.{field_label, method_head}
use Rattle.code_table.specs.Tables.{text_of}
use Rattle.term_opening.proofs.NamedLaws.{make_named, var_named, get_named, put_named, call_named, clone_named, active_named, serve_named, let_named, steps_named, if_named, repeat_named, operate_named, print_named, echo_named, group_named, scatter_named, size_named, member_named, waitall_named, pending_named}
use Rattle.term_opening.proofs.terms.+naming.Goals as goal

pub name_term-returns-in_ok-word-in-Var-clause-named : goal.name_term-returns-in_ok-word-in-Var-clause-named
name_term-returns-in_ok-word-in-Var-clause-named t c = var_named c.in-Var.name c.in-Var.field-1 _ _ c.in_ok-word-in-Var.ensures.word ∙ ap named_term (sym c.in-Var.is)

pub name_term-returns-in_ok-word-in-Get-clause-named : goal.name_term-returns-in_ok-word-in-Get-clause-named
name_term-returns-in_ok-word-in-Get-clause-named t c = get_named c.in-Get.a c.in-Get.label c.in-Get.field-2 _ _ _ (c.in_ok-one-in-Get.ensures.named ∙ ap named_term c.deref-in-Get.ensures) c.in_ok-word-in-Get.ensures.label ∙ ap named_term (sym c.in-Get.is)

pub name_term-returns-in_ok-word-in-Put-clause-named : goal.name_term-returns-in_ok-word-in-Put-clause-named
name_term-returns-in_ok-word-in-Put-clause-named t c = put_named c.in-Put.a c.in-Put.label c.in-Put.b c.in-Put.field-3 _ _ _ _ (c.in_ok-one-in-Put.ensures.named ∙ ap named_term c.deref-in-Put.ensures) c.in_ok-word-in-Put.ensures.label (c.in_ok-two-in-Put.ensures.named ∙ ap named_term c.deref-in-Put-2.ensures) ∙ ap named_term (sym c.in-Put.is)

pub name_term-returns-in_ok-word-in-Call-clause-named : goal.name_term-returns-in_ok-word-in-Call-clause-named
name_term-returns-in_ok-word-in-Call-clause-named t c = call_named c.in-Call.receiver c.in-Call.label c.in-Call.arguments c.in-Call.field-3 _ _ _ _ (c.in_ok-one-in-Call.ensures.named ∙ ap named_term c.deref-in-Call.ensures) c.in_ok-word-in-Call.ensures.label (c.in_ok-others-in-Call.ensures.named ∙ ap (map named_term) c.deref-in-Call-2.ensures.value) ∙ ap named_term (sym c.in-Call.is)

pub name_term-returns-in_ok-one-in-Clone-clause-named : goal.name_term-returns-in_ok-one-in-Clone-clause-named
name_term-returns-in_ok-one-in-Clone-clause-named t c = clone_named c.in-Clone.a c.in-Clone.field-1 _ _ (c.in_ok-one-in-Clone.ensures.named ∙ ap named_term c.deref-in-Clone.ensures) ∙ ap named_term (sym c.in-Clone.is)

pub name_term-returns-in_ok-word-in-Active-clause-named : goal.name_term-returns-in_ok-word-in-Active-clause-named
name_term-returns-in_ok-word-in-Active-clause-named t c = active_named c.in-Active.a c.in-Active.label c.in-Active.field-2 _ _ _ (c.in_ok-one-in-Active.ensures.named ∙ ap named_term c.deref-in-Active.ensures) c.in_ok-word-in-Active.ensures.same ∙ ap named_term (sym c.in-Active.is)

pub name_term-returns-in_ok-words-in-Serve-clause-named : goal.name_term-returns-in_ok-words-in-Serve-clause-named
name_term-returns-in_ok-words-in-Serve-clause-named t c = serve_named c.in-Serve.labels c.in-Serve.field-1 _ _ (c.in_ok-words-in-Serve.ensures.same ∙ ap (map text_of) c.deref.ensures.value) ∙ ap named_term (sym c.in-Serve.is)

pub name_term-returns-in_ok-word-in-Let-clause-named : goal.name_term-returns-in_ok-word-in-Let-clause-named
name_term-returns-in_ok-word-in-Let-clause-named t c = let_named c.in-Let.name c.in-Let.binding c.in-Let.body c.in-Let.field-3 _ _ _ _ c.in_ok-word-in-Let.ensures.word (c.in_ok-one-in-Let.ensures.named ∙ ap named_term c.deref-in-Let.ensures) (c.in_ok-two-in-Let.ensures.named ∙ ap named_term c.deref-in-Let-2.ensures) ∙ ap named_term (sym c.in-Let.is)

pub name_term-returns-in_ok-others-in-Steps-clause-named : goal.name_term-returns-in_ok-others-in-Steps-clause-named
name_term-returns-in_ok-others-in-Steps-clause-named t c = steps_named c.in-Steps.steps c.in-Steps.field-1 _ _ (c.in_ok-others-in-Steps.ensures.named ∙ ap (map named_term) c.deref-in-Steps.ensures.value) ∙ ap named_term (sym c.in-Steps.is)

pub name_term-returns-in_ok-three-in-If-clause-named : goal.name_term-returns-in_ok-three-in-If-clause-named
name_term-returns-in_ok-three-in-If-clause-named t c = if_named c.in-If.test c.in-If.first c.in-If.second c.in-If.field-3 _ _ _ _ (c.in_ok-one-in-If.ensures.named ∙ ap named_term c.deref-in-If.ensures) (c.in_ok-two-in-If.ensures.named ∙ ap named_term c.deref-in-If-2.ensures) (c.in_ok-three-in-If.ensures.named ∙ ap named_term c.deref-in-If-3.ensures) ∙ ap named_term (sym c.in-If.is)

pub name_term-returns-in_ok-one-in-Repeat-clause-named : goal.name_term-returns-in_ok-one-in-Repeat-clause-named
name_term-returns-in_ok-one-in-Repeat-clause-named t c = repeat_named c.in-Repeat.a c.in-Repeat.field-1 _ _ (c.in_ok-one-in-Repeat.ensures.named ∙ ap named_term c.deref-in-Repeat.ensures) ∙ ap named_term (sym c.in-Repeat.is)

pub name_term-returns-in_ok-two-in-Operate-clause-named : goal.name_term-returns-in_ok-two-in-Operate-clause-named
name_term-returns-in_ok-two-in-Operate-clause-named t c = operate_named c.in-Operate.sign c.in-Operate.a c.in-Operate.b c.in-Operate.field-3 _ _ _ (c.in_ok-one-in-Operate.ensures.named ∙ ap named_term c.deref-in-Operate.ensures) (c.in_ok-two-in-Operate.ensures.named ∙ ap named_term c.deref-in-Operate-2.ensures) ∙ ap named_term (sym c.in-Operate.is)

pub name_term-returns-in_ok-one-in-Print-clause-named : goal.name_term-returns-in_ok-one-in-Print-clause-named
name_term-returns-in_ok-one-in-Print-clause-named t c = print_named c.in-Print.a c.in-Print.field-1 _ _ (c.in_ok-one-in-Print.ensures.named ∙ ap named_term c.deref-in-Print.ensures) ∙ ap named_term (sym c.in-Print.is)

pub name_term-returns-in_ok-word-in-Echo-clause-named : goal.name_term-returns-in_ok-word-in-Echo-clause-named
name_term-returns-in_ok-word-in-Echo-clause-named t c = echo_named c.in-Echo.text c.in-Echo.field-1 _ _ c.in_ok-word-in-Echo.ensures.word ∙ ap named_term (sym c.in-Echo.is)

pub name_term-returns-in_ok-others-in-Group-clause-named : goal.name_term-returns-in_ok-others-in-Group-clause-named
name_term-returns-in_ok-others-in-Group-clause-named t c = group_named c.in-Group.members c.in-Group.field-1 _ _ (c.in_ok-others-in-Group.ensures.named ∙ ap (map named_term) c.deref-in-Group.ensures.value) ∙ ap named_term (sym c.in-Group.is)

pub name_term-returns-in_ok-word-in-Scatter-clause-named : goal.name_term-returns-in_ok-word-in-Scatter-clause-named
name_term-returns-in_ok-word-in-Scatter-clause-named t c = scatter_named c.in-Scatter.a c.in-Scatter.label c.in-Scatter.b c.in-Scatter.field-3 _ _ _ _ (c.in_ok-one-in-Scatter.ensures.named ∙ ap named_term c.deref-in-Scatter.ensures) c.in_ok-word-in-Scatter.ensures.label (c.in_ok-two-in-Scatter.ensures.named ∙ ap named_term c.deref-in-Scatter-2.ensures) ∙ ap named_term (sym c.in-Scatter.is)

pub name_term-returns-in_ok-one-in-Size-clause-named : goal.name_term-returns-in_ok-one-in-Size-clause-named
name_term-returns-in_ok-one-in-Size-clause-named t c = size_named c.in-Size.a c.in-Size.field-1 _ _ (c.in_ok-one-in-Size.ensures.named ∙ ap named_term c.deref-in-Size.ensures) ∙ ap named_term (sym c.in-Size.is)

pub name_term-returns-in_ok-two-in-Member-clause-named : goal.name_term-returns-in_ok-two-in-Member-clause-named
name_term-returns-in_ok-two-in-Member-clause-named t c = member_named c.in-Member.a c.in-Member.b c.in-Member.field-2 _ _ _ (c.in_ok-one-in-Member.ensures.named ∙ ap named_term c.deref-in-Member.ensures) (c.in_ok-two-in-Member.ensures.named ∙ ap named_term c.deref-in-Member-2.ensures) ∙ ap named_term (sym c.in-Member.is)

pub name_term-returns-in_ok-one-in-WaitAll-clause-named : goal.name_term-returns-in_ok-one-in-WaitAll-clause-named
name_term-returns-in_ok-one-in-WaitAll-clause-named t c = waitall_named c.in-WaitAll.a c.in-WaitAll.field-1 _ _ (c.in_ok-one-in-WaitAll.ensures.named ∙ ap named_term c.deref-in-WaitAll.ensures) ∙ ap named_term (sym c.in-WaitAll.is)

pub name_term-returns-in_ok-words-in-Pending-clause-named : goal.name_term-returns-in_ok-words-in-Pending-clause-named
name_term-returns-in_ok-words-in-Pending-clause-named t c = pending_named c.in-Pending.labels c.in-Pending.field-1 _ _ (c.in_ok-words-in-Pending.ensures.same ∙ ap (map text_of) c.deref-in-Pending.ensures.value) ∙ ap named_term (sym c.in-Pending.is)

pub name_term-returns-in_ok-bodies-in-Make-clause-named : goal.name_term-returns-in_ok-bodies-in-Make-clause-named
name_term-returns-in_ok-bodies-in-Make-clause-named t c =
    let x = c.in-Make in
    make_named x.fields x.methods x.mark _ _ _ (c.in_ok-own-in-Make.ensures.labels ∙ ap (map field_label) c.deref-in-Make.ensures.value) (c.in_ok-own-in-Make.ensures.named ∙ ap (map named_field) c.deref-in-Make.ensures.value)
    (c.in_ok-bodies-in-Make.ensures.heads ∙ ap (map method_head) c.deref-in-Make-2.ensures.value) (c.in_ok-bodies-in-Make.ensures.named ∙ ap (map named_body) c.deref-in-Make-2.ensures.value) ∙ ap named_term (sym x.is)

pub name_term-returns-in_ok-word-in-Call-clause-noted : goal.name_term-returns-in_ok-word-in-Call-clause-noted
name_term-returns-in_ok-word-in-Call-clause-noted t c =
    let s = c.args.naming.now in
    let x = c.in-Call in
    c.in_ok-others-in-Call.ensures.noted
    ∙ (λ i. noted_below (c.in_ok-one-in-Call.ensures.noted i) [] (terms_below (c.deref-in-Call-2.ensures.value i)))
    ∙ ap (λ u. noted_below (noted s (tree_of u)) [] (terms_below x.arguments.items)) c.deref-in-Call.ensures
    ∙ sym (call_noted s x.receiver x.label x.arguments x.field-3) ∙ ap (λ u. noted s (tree_of u)) (sym x.is)
