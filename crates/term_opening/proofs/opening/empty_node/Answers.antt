use mir.Val.{SFits}
use Rattle.std.proofs.Common.{◌≡◌, ◌∙◌, ℤ, to_z, of_z, w64, map, sym, ap, true, rules}
use Rattle.std.proofs.lemmas.Int.{to_z-of_z}
use Rattle.asp_model.specs.declared.term.Term.TheVariants.{Number}
use Rattle.asp_model.specs.Shapes.{tree_of}
use Rattle.code_table.specs.Parts.{field_label, field_tree}
use Rattle.term_opening.specs.Opening.{emptied, emptied_all, emptied_node, emptied_step, goes_on}
use Rattle.term_opening.proofs.EmptiedLaws.{active_left, call_left, clone_left, echo_left, get_left, group_left, hole_left, if_left, let_left, loc_left, make_left, member_left, number_left, operate_left, pending_left, print_left, put_left, repeat_left, scatter_left, serve_left, size_left, steps_left, var_left, waitall_left}
use Rattle.term_opening.proofs.WalkLemmas.{vec_written}
use Rattle.term_opening.proofs.opening.empty_node.Goals as goal

pub returns-in-Loc-clause-emptied : goal.returns-in-Loc-clause-emptied
returns-in-Loc-clause-emptied c = loc_left c.in-Loc.place c.in-Loc.mark ∙ ap (λ t. emptied_node (tree_of t)) (sym c.in-Loc.is)

pub returns-in-Hole-clause-emptied : goal.returns-in-Hole-clause-emptied
returns-in-Hole-clause-emptied c = hole_left c.in-Hole.mark ∙ ap (λ t. emptied_node (tree_of t)) (sym c.in-Hole.is)

pub returns-in-Var-clause-emptied : goal.returns-in-Var-clause-emptied
returns-in-Var-clause-emptied c = var_left c.in-Var.name c.in-Var.mark ∙ ap (λ t. emptied_node (tree_of t)) (sym c.in-Var.is)

pub returns-in-Number-clause-emptied : goal.returns-in-Number-clause-emptied
returns-in-Number-clause-emptied c =
    let n = c.in-Number.number in
    let fits : SFits w64 n = search rules in
    let same : to_z w64 (of_z w64 n) ≡ n = to_z-of_z w64 n fits in
    ap (λ (k : ℤ). tree_of (Number k c.in-Number.mark)) same ∙ number_left n c.in-Number.mark ∙ ap (λ t. emptied_node (tree_of t)) (sym c.in-Number.is)

pub returns-in_ok-empty_first-in-Get-clause-emptied : goal.returns-in_ok-empty_first-in-Get-clause-emptied
returns-in_ok-empty_first-in-Get-clause-emptied c = get_left c.in-Get.a c.in-Get.label c.in-Get.mark _ (c.in_ok-empty_first-in-Get.ensures.emptied ∙ ap (λ u. emptied true (tree_of u)) c.deref_mut-in-Get.ensures.value) ∙ ap (λ t. emptied_node (tree_of t)) (sym c.in-Get.is)

pub returns-in_ok-empty_both-in-Put-clause-emptied : goal.returns-in_ok-empty_both-in-Put-clause-emptied
returns-in_ok-empty_both-in-Put-clause-emptied c = put_left c.in-Put.a c.in-Put.label c.in-Put.b c.in-Put.mark _ _ (goes_on true (tree_of c.deref_mut-in-Put.result.now)) (c.in_ok-empty_both-in-Put.ensures.first ∙ ap (λ u. emptied true (tree_of u)) c.deref_mut-in-Put.ensures.value) (ap (λ u. goes_on true (tree_of u)) c.deref_mut-in-Put.ensures.value) (c.in_ok-empty_both-in-Put.ensures.second ∙ ap (λ u. emptied (goes_on true (tree_of c.deref_mut-in-Put.result.now)) (tree_of u)) c.deref_mut-in-Put-2.ensures.value) ∙ ap (λ t. emptied_node (tree_of t)) (sym c.in-Put.is)

pub returns-in_ok-empty_all-in-Call-clause-emptied : goal.returns-in_ok-empty_all-in-Call-clause-emptied
returns-in_ok-empty_all-in-Call-clause-emptied c =
    let one = c.deref_mut-in-Call.ensures.value in
    let was = c.deref_mut-in-Call-2.ensures.value in
    let on = c.in_ok-on-in-Call.on in
    call_left c.in-Call.receiver c.in-Call.label c.in-Call.arguments c.in-Call.mark _ _ _ (c.in_ok-on-in-Call.ensures.emptied ∙ ap (λ u. emptied true (tree_of u)) one) (c.in_ok-on-in-Call.ensures.on ∙ ap (λ u. goes_on true (tree_of u)) one)
    (vec_written tree_of c.in-Call.arguments _ c.empty_all.new.terms _ was c.empty_all.auto.terms (c.in_ok-empty_all-in-Call.ensures.emptied ∙ ap (λ xs. emptied_all on (map tree_of xs)) was)) ∙ ap (λ t. emptied_node (tree_of t)) (sym c.in-Call.is)

pub returns-in_ok-empty_first-in-Clone-clause-emptied : goal.returns-in_ok-empty_first-in-Clone-clause-emptied
returns-in_ok-empty_first-in-Clone-clause-emptied c = clone_left c.in-Clone.a c.in-Clone.mark _ (c.in_ok-empty_first-in-Clone.ensures.emptied ∙ ap (λ u. emptied true (tree_of u)) c.deref_mut-in-Clone.ensures.value) ∙ ap (λ t. emptied_node (tree_of t)) (sym c.in-Clone.is)

pub returns-in_ok-empty_first-in-Active-clause-emptied : goal.returns-in_ok-empty_first-in-Active-clause-emptied
returns-in_ok-empty_first-in-Active-clause-emptied c = active_left c.in-Active.a c.in-Active.label c.in-Active.mark _ (c.in_ok-empty_first-in-Active.ensures.emptied ∙ ap (λ u. emptied true (tree_of u)) c.deref_mut-in-Active.ensures.value) ∙ ap (λ t. emptied_node (tree_of t)) (sym c.in-Active.is)

pub returns-in-Serve-clause-emptied : goal.returns-in-Serve-clause-emptied
returns-in-Serve-clause-emptied c = serve_left c.in-Serve.labels c.in-Serve.mark ∙ ap (λ t. emptied_node (tree_of t)) (sym c.in-Serve.is)

pub returns-in_ok-empty_first-in-Let-clause-emptied : goal.returns-in_ok-empty_first-in-Let-clause-emptied
returns-in_ok-empty_first-in-Let-clause-emptied c = let_left c.in-Let.name c.in-Let.a c.in-Let.body c.in-Let.mark _ (c.in_ok-empty_first-in-Let.ensures.emptied ∙ ap (λ u. emptied true (tree_of u)) c.deref_mut-in-Let.ensures.value) ∙ ap (λ t. emptied_node (tree_of t)) (sym c.in-Let.is)

pub returns-in_ok-empty_step-in-Steps-clause-emptied : goal.returns-in_ok-empty_step-in-Steps-clause-emptied
returns-in_ok-empty_step-in-Steps-clause-emptied c =
    let was = c.deref_mut-in-Steps.ensures.value in
    steps_left c.in-Steps.steps c.in-Steps.mark _ (vec_written tree_of c.in-Steps.steps _ c.empty_step.new.steps _ was c.empty_step.auto.steps (c.in_ok-empty_step-in-Steps.ensures.emptied ∙ ap (λ xs. emptied_step (map tree_of xs)) was)) ∙ ap (λ t. emptied_node (tree_of t)) (sym c.in-Steps.is)

pub returns-in_ok-empty_first-in-If-clause-emptied : goal.returns-in_ok-empty_first-in-If-clause-emptied
returns-in_ok-empty_first-in-If-clause-emptied c = if_left c.in-If.a c.in-If.second c.in-If.third c.in-If.mark _ (c.in_ok-empty_first-in-If.ensures.emptied ∙ ap (λ u. emptied true (tree_of u)) c.deref_mut-in-If.ensures.value) ∙ ap (λ t. emptied_node (tree_of t)) (sym c.in-If.is)

pub returns-in-Repeat-clause-emptied : goal.returns-in-Repeat-clause-emptied
returns-in-Repeat-clause-emptied c = repeat_left c.in-Repeat.body c.in-Repeat.mark ∙ ap (λ t. emptied_node (tree_of t)) (sym c.in-Repeat.is)

pub returns-in_ok-empty_both-in-Operate-clause-emptied : goal.returns-in_ok-empty_both-in-Operate-clause-emptied
returns-in_ok-empty_both-in-Operate-clause-emptied c = operate_left c.in-Operate.sign c.in-Operate.a c.in-Operate.b c.in-Operate.mark _ _ (goes_on true (tree_of c.deref_mut-in-Operate.result.now)) (c.in_ok-empty_both-in-Operate.ensures.first ∙ ap (λ u. emptied true (tree_of u)) c.deref_mut-in-Operate.ensures.value) (ap (λ u. goes_on true (tree_of u)) c.deref_mut-in-Operate.ensures.value) (c.in_ok-empty_both-in-Operate.ensures.second ∙ ap (λ u. emptied (goes_on true (tree_of c.deref_mut-in-Operate.result.now)) (tree_of u)) c.deref_mut-in-Operate-2.ensures.value) ∙ ap (λ t. emptied_node (tree_of t)) (sym c.in-Operate.is)

pub returns-in_ok-empty_first-in-Print-clause-emptied : goal.returns-in_ok-empty_first-in-Print-clause-emptied
returns-in_ok-empty_first-in-Print-clause-emptied c = print_left c.in-Print.a c.in-Print.mark _ (c.in_ok-empty_first-in-Print.ensures.emptied ∙ ap (λ u. emptied true (tree_of u)) c.deref_mut-in-Print.ensures.value) ∙ ap (λ t. emptied_node (tree_of t)) (sym c.in-Print.is)

pub returns-in-Echo-clause-emptied : goal.returns-in-Echo-clause-emptied
returns-in-Echo-clause-emptied c = echo_left c.in-Echo.text c.in-Echo.mark ∙ ap (λ t. emptied_node (tree_of t)) (sym c.in-Echo.is)

pub returns-in_ok-empty_all-in-Group-clause-emptied : goal.returns-in_ok-empty_all-in-Group-clause-emptied
returns-in_ok-empty_all-in-Group-clause-emptied c =
    let was = c.deref_mut-in-Group.ensures.value in
    group_left c.in-Group.members c.in-Group.mark _ (vec_written tree_of c.in-Group.members _ c.empty_all-in-Group.new.terms _ was c.empty_all-in-Group.auto.terms (c.in_ok-empty_all-in-Group.ensures.emptied ∙ ap (λ xs. emptied_all true (map tree_of xs)) was)) ∙ ap (λ t. emptied_node (tree_of t)) (sym c.in-Group.is)

pub returns-in_ok-empty_both-in-Scatter-clause-emptied : goal.returns-in_ok-empty_both-in-Scatter-clause-emptied
returns-in_ok-empty_both-in-Scatter-clause-emptied c = scatter_left c.in-Scatter.a c.in-Scatter.label c.in-Scatter.b c.in-Scatter.mark _ _ (goes_on true (tree_of c.deref_mut-in-Scatter.result.now)) (c.in_ok-empty_both-in-Scatter.ensures.first ∙ ap (λ u. emptied true (tree_of u)) c.deref_mut-in-Scatter.ensures.value) (ap (λ u. goes_on true (tree_of u)) c.deref_mut-in-Scatter.ensures.value) (c.in_ok-empty_both-in-Scatter.ensures.second ∙ ap (λ u. emptied (goes_on true (tree_of c.deref_mut-in-Scatter.result.now)) (tree_of u)) c.deref_mut-in-Scatter-2.ensures.value) ∙ ap (λ t. emptied_node (tree_of t)) (sym c.in-Scatter.is)

pub returns-in_ok-empty_first-in-Size-clause-emptied : goal.returns-in_ok-empty_first-in-Size-clause-emptied
returns-in_ok-empty_first-in-Size-clause-emptied c = size_left c.in-Size.a c.in-Size.mark _ (c.in_ok-empty_first-in-Size.ensures.emptied ∙ ap (λ u. emptied true (tree_of u)) c.deref_mut-in-Size.ensures.value) ∙ ap (λ t. emptied_node (tree_of t)) (sym c.in-Size.is)

pub returns-in_ok-empty_both-in-Member-clause-emptied : goal.returns-in_ok-empty_both-in-Member-clause-emptied
returns-in_ok-empty_both-in-Member-clause-emptied c = member_left c.in-Member.a c.in-Member.b c.in-Member.mark _ _ (goes_on true (tree_of c.deref_mut-in-Member.result.now)) (c.in_ok-empty_both-in-Member.ensures.first ∙ ap (λ u. emptied true (tree_of u)) c.deref_mut-in-Member.ensures.value) (ap (λ u. goes_on true (tree_of u)) c.deref_mut-in-Member.ensures.value) (c.in_ok-empty_both-in-Member.ensures.second ∙ ap (λ u. emptied (goes_on true (tree_of c.deref_mut-in-Member.result.now)) (tree_of u)) c.deref_mut-in-Member-2.ensures.value) ∙ ap (λ t. emptied_node (tree_of t)) (sym c.in-Member.is)

pub returns-in_ok-empty_first-in-WaitAll-clause-emptied : goal.returns-in_ok-empty_first-in-WaitAll-clause-emptied
returns-in_ok-empty_first-in-WaitAll-clause-emptied c = waitall_left c.in-WaitAll.a c.in-WaitAll.mark _ (c.in_ok-empty_first-in-WaitAll.ensures.emptied ∙ ap (λ u. emptied true (tree_of u)) c.deref_mut-in-WaitAll.ensures.value) ∙ ap (λ t. emptied_node (tree_of t)) (sym c.in-WaitAll.is)

pub returns-in-Pending-clause-emptied : goal.returns-in-Pending-clause-emptied
returns-in-Pending-clause-emptied c = pending_left c.in-Pending.labels c.in-Pending.mark ∙ ap (λ t. emptied_node (tree_of t)) (sym c.in-Pending.is)

pub returns-in_ok-empty_fields-in-Make-clause-emptied : goal.returns-in_ok-empty_fields-in-Make-clause-emptied
returns-in_ok-empty_fields-in-Make-clause-emptied c =
    let x = c.in-Make in
    let was = c.deref_mut.ensures.value in
    make_left x.fields _ x.methods x.mark
    (vec_written field_label x.fields _ c.empty_fields.new.fields _ was c.empty_fields.auto.fields (c.in_ok-empty_fields-in-Make.ensures.labels ∙ ap (map field_label) was))
    (vec_written field_tree x.fields _ c.empty_fields.new.fields _ was c.empty_fields.auto.fields (c.in_ok-empty_fields-in-Make.ensures.emptied ∙ ap (λ xs. emptied_all true (map field_tree xs)) was))
    ∙ ap (λ t. emptied_node (tree_of t)) (sym x.is)
