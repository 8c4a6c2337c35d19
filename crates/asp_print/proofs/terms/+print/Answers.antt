use Rattle.std.proofs.Common.{◌≡◌, List, [], ◌∷◌, ◌++◌, map, replicate, ap, sym, ◌∙◌, append_assoc, arith}
use Rattle.std.specs.Prelude.{string_bytes}
use Rattle.std.proofs.lemmas.Result.{on_ok_weaker}
use Rattle.asp_model.specs.declared.word.Label.{Label}
use Rattle.asp_model.specs.declared.term.Term.{Term}
use Rattle.asp_model.specs.declared.term.Method.{Method}
use Rattle.asp_model.specs.Marked.{MarkShape}
use Rattle.asp_model.specs.Shapes.{marked_of, sign_shape}
use Rattle.syntax_tokens.specs.declared.token.Token.{Token}
use Rattle.syntax_tokens.specs.declared.token.Token.TheVariants as tokens
use Rattle.asp_print.specs.Tokens.{access_tokens, between, head_tokens, mark_of, method_part, node_tokens, sign_of}
use Rattle.asp_print.specs.Parts.{written, field_piece, head_of, lead_tokens, method_piece, point_token, term_tokens}
use Rattle.asp_print.proofs.NodeLemmas.{make_is, get_is, put_is, call_is, let_is, if_is, operate_is, scatter_is, member_is}
use Rattle.asp_print.proofs.WritingLemmas.{onward, led_more, term_is, put_laid}
use Rattle.asp_print.proofs.terms.+print.Goals as goal

pub print_term-returns : goal.print_term-returns
print_term-returns t c =
    let old = string_bytes c.args.text.now in
    let node = node_tokens (marked_of c.args.term.now) in
    let count : c.own_mark.result.now.parentheses ≡ (mark_of (marked_of c.args.term.now)).parentheses = ap (λ (m : MarkShape). m.parentheses) c.own_mark.ensures in
    let opens = replicate c.own_mark.result.now.parentheses tokens.Open in
    let closes = replicate c.own_mark.result.now.parentheses tokens.Close in
    on_ok_weaker c.put_times-2.result
    (λ e. onward old opens (node ++ closes) c.in_ok-put_times.ensures (onward (string_bytes c.put_times.new.text) node closes c.in_ok-print_node.ensures e)
    ∙ ap (λ (ts : List Token). old ++ written ts) ((λ i. replicate (count i) tokens.Open ++ (node ++ replicate (count i) tokens.Close)) ∙ sym (term_is (marked_of c.args.term.now))))
    c.put_times-2.ensures

pub print_fields-loop-label-preserved : goal.print_fields-loop-label-preserved
print_fields-loop-label-preserved t c =
    let f = c.loop-label-item.result in
    led_more field_piece (lead_tokens c.loop-label.lead) tokens.Comma c.args.fields.now c.loop-label.label-index f
    (string_bytes c.loop-label.text) (string_bytes c.put_lead.new.text) (string_bytes c.print_term.new.text) (omega arith) c.loop-label-item.is c.in_ok-put_lead.ensures
    (onward (string_bytes c.put_lead.new.text) (tokens.Name f.0.text ∷ tokens.Equals ∷ []) (term_tokens f.1) c.in_ok-put_equation.ensures c.in_ok-print_term.ensures)
    ∙ c.loop-label.invariant

pub print_methods-loop-method-preserved : goal.print_methods-loop-method-preserved
print_methods-loop-method-preserved t c =
    let m = c.method-item.result in
    let s = string_bytes c.put_point.new.text in
    led_more method_piece (point_token c.loop-method.lead ∷ []) tokens.Comma c.args.methods.now c.loop-method.method-index m
    (string_bytes c.loop-method.text) s (string_bytes c.print_term.new.text) (omega arith) c.method-item.is c.in_ok-put_point.ensures
    (onward s (head_tokens (head_of m) ++ tokens.Equals ∷ []) (term_tokens m.body) c.in_ok-put_head.ensures c.in_ok-print_term.ensures
    ∙ ap (λ (ts : List Token). s ++ written ts) (append_assoc (head_tokens (head_of m)) (tokens.Equals ∷ []) (term_tokens m.body)))
    ∙ c.loop-method.invariant

pub print_all-loop-term-preserved : goal.print_all-loop-term-preserved
print_all-loop-term-preserved t c =
    led_more term_tokens (lead_tokens c.loop-term.lead) (point_token c.args.point) c.args.terms.now c.loop-term.term-index c.term-item.result
    (string_bytes c.loop-term.text) (string_bytes c.put_lead.new.text) (string_bytes c.print_term.new.text) (omega arith) c.term-item.is c.in_ok-put_lead.ensures c.in_ok-print_term.ensures
    ∙ c.loop-term.invariant

pub print_node-returns-in_ok-print_methods-in-Make : goal.print_node-returns-in_ok-print_methods-in-Make
print_node-returns-in_ok-print_methods-in-Make t c =
    let old = string_bytes c.args.text.now in
    let x = c.in-Make in
    let fields = between tokens.Comma (map field_piece x.fields.items) in
    let methods = method_part (map method_piece x.methods.items) in
    let first = c.in_ok-print_fields-in-Make.ensures ∙ ap (λ (fs : List (Label × Term)). string_bytes c.put.new.text ++ written (between tokens.Comma (map field_piece fs))) c.deref.ensures.value in
    let second = c.in_ok-print_methods-in-Make.ensures ∙ ap (λ (ms : List Method). string_bytes c.print_fields.new.text ++ written (method_part (map method_piece ms))) c.deref-in-Make.ensures.value in
    let all = ap (λ (u : Term). node_tokens (marked_of u)) x.is ∙ make_is x.fields x.methods x.mark in
    on_ok_weaker c.put-in-Make.result
    (λ e. onward old (tokens.SquareOpen ∷ []) (fields ++ (methods ++ tokens.SquareClose ∷ [])) c.in_ok-put-in-Make.ensures
    (onward (string_bytes c.put.new.text) fields (methods ++ tokens.SquareClose ∷ []) first (onward (string_bytes c.print_fields.new.text) methods (tokens.SquareClose ∷ []) second e))
    ∙ ap (λ (us : List Token). old ++ written us) (sym all))
    c.put-in-Make.ensures

pub print_node-returns-in_ok-print_term-in-Get : goal.print_node-returns-in_ok-print_term-in-Get
print_node-returns-in_ok-print_term-in-Get t c =
    let old = string_bytes c.args.text.now in
    let x = c.in-Get in
    let first = (c.in_ok-print_term-in-Get.ensures ∙ ap (λ (u : Term). old ++ written (term_tokens u)) c.deref-in-Get.ensures) in
    let all = ap (λ (u : Term). node_tokens (marked_of u)) x.is ∙ get_is x.object x.label x.field-2 in
    on_ok_weaker c.put_access.result
    (λ e. onward old (term_tokens x.object.value) (access_tokens x.label.text []) first e
    ∙ ap (λ (us : List Token). old ++ written us) (sym all))
    c.put_access.ensures

pub print_node-returns-in_ok-put_target-in-Put : goal.print_node-returns-in_ok-put_target-in-Put
print_node-returns-in_ok-put_target-in-Put t c =
    let old = string_bytes c.args.text.now in
    let x = c.in-Put in
    let opens = replicate x.mark.left tokens.Open in
    let ts = term_tokens x.object.value in
    let ds = access_tokens x.label.text [] in
    let us = term_tokens x.value.value in
    let closing = ds ++ (replicate x.mark.left tokens.Close ++ tokens.Assign ∷ []) in
    let first = (c.in_ok-print_term-in-Put.ensures ∙ ap (λ (u : Term). string_bytes c.put_times.new.text ++ written (term_tokens u)) c.deref-in-Put.ensures) in
    let all = ap (λ (u : Term). node_tokens (marked_of u)) x.is ∙ put_is x.object x.label x.value x.mark in
    on_ok_weaker c.print_term-in-Put-2.result
    (λ e. onward old opens (ts ++ (closing ++ us)) c.in_ok-put_times-in-Put.ensures
    (onward (string_bytes c.put_times.new.text) ts (closing ++ us) first
    (onward (string_bytes c.print_term-in-Put.new.text) closing us c.in_ok-put_target-in-Put.ensures (e ∙ ap (λ (u : Term). string_bytes c.put_target.new.text ++ written (term_tokens u)) c.deref-in-Put-2.ensures)))
    ∙ ap (λ (vs : List Token). old ++ written vs) (put_laid x.mark.left ts ds us)
    ∙ ap (λ (us : List Token). old ++ written us) (sym all))
    c.print_term-in-Put-2.ensures

pub print_node-returns-in_ok-print_all-in-Call : goal.print_node-returns-in_ok-print_all-in-Call
print_node-returns-in_ok-print_all-in-Call t c =
    let old = string_bytes c.args.text.now in
    let x = c.in-Call in
    let ts = term_tokens x.receiver.value in
    let passed = between tokens.Comma (map term_tokens x.arguments.items) in
    let opening = tokens.Dot ∷ tokens.Name x.label.text ∷ tokens.Open ∷ [] in
    let first = (c.in_ok-print_term-in-Call.ensures ∙ ap (λ (u : Term). old ++ written (term_tokens u)) c.deref-in-Call.ensures) in
    let second = c.in_ok-print_all-in-Call.ensures ∙ ap (λ (us : List Term). string_bytes c.put_method.new.text ++ written (between tokens.Comma (map term_tokens us))) c.deref-in-Call-2.ensures.value in
    let all = ap (λ (u : Term). node_tokens (marked_of u)) x.is ∙ call_is x.receiver x.label x.arguments x.field-3 in
    on_ok_weaker c.put_point.result
    (λ e. onward old ts (opening ++ (passed ++ tokens.Close ∷ [])) first
    (onward (string_bytes c.print_term-in-Call.new.text) opening (passed ++ tokens.Close ∷ []) c.in_ok-put_method-in-Call.ensures (onward (string_bytes c.put_method.new.text) passed (tokens.Close ∷ []) second e))
    ∙ ap (λ (us : List Token). old ++ written us) (sym all))
    c.put_point.ensures

pub print_node-returns-in_ok-put-in-Let : goal.print_node-returns-in_ok-put-in-Let
print_node-returns-in_ok-put-in-Let t c =
    let old = string_bytes c.args.text.now in
    let x = c.in-Let in
    let ts = term_tokens x.binding.value in
    let us = term_tokens x.body.value in
    let named = tokens.Let ∷ tokens.Name x.name ∷ tokens.Equals ∷ [] in
    let first = (c.in_ok-print_term-in-Let.ensures ∙ ap (λ (u : Term). string_bytes c.put_let.new.text ++ written (term_tokens u)) c.deref-in-Let.ensures) in
    let all = ap (λ (u : Term). node_tokens (marked_of u)) x.is ∙ let_is x.name x.binding x.body x.field-3 in
    on_ok_weaker c.print_term-in-Let-2.result
    (λ e. onward old named (ts ++ tokens.In ∷ us) c.in_ok-put_let-in-Let.ensures
    (onward (string_bytes c.put_let.new.text) ts (tokens.In ∷ us) first
    (onward (string_bytes c.print_term-in-Let.new.text) (tokens.In ∷ []) us c.in_ok-put-in-Let.ensures (e ∙ ap (λ (u : Term). string_bytes c.put-in-Let.new.text ++ written (term_tokens u)) c.deref-in-Let-2.ensures)))
    ∙ ap (λ (us : List Token). old ++ written us) (sym all))
    c.print_term-in-Let-2.ensures

pub print_node-returns-in_ok-print_term-in-If-3 : goal.print_node-returns-in_ok-print_term-in-If-3
print_node-returns-in_ok-print_term-in-If-3 t c =
    let old = string_bytes c.args.text.now in
    let x = c.in-If in
    let cs = term_tokens x.test.value in
    let ts = term_tokens x.first.value in
    let es = term_tokens x.second.value in
    let lasts = es ++ tokens.BraceClose ∷ [] in
    let thens = tokens.Close ∷ tokens.BraceOpen ∷ [] in
    let elses = tokens.BraceClose ∷ tokens.Else ∷ tokens.BraceOpen ∷ [] in
    let first = (c.in_ok-print_term-in-If.ensures ∙ ap (λ (u : Term). string_bytes c.put_if.new.text ++ written (term_tokens u)) c.deref-in-If.ensures) in
    let second = (c.in_ok-print_term-in-If-2.ensures ∙ ap (λ (u : Term). string_bytes c.put_then.new.text ++ written (term_tokens u)) c.deref-in-If-2.ensures) in
    let third = (c.in_ok-print_term-in-If-3.ensures ∙ ap (λ (u : Term). string_bytes c.put_else.new.text ++ written (term_tokens u)) c.deref-in-If-3.ensures) in
    let all = ap (λ (u : Term). node_tokens (marked_of u)) x.is ∙ if_is x.test x.first x.second x.field-3 in
    on_ok_weaker c.put-in-If.result
    (λ e. onward old (tokens.If ∷ tokens.Open ∷ []) (cs ++ (thens ++ (ts ++ (elses ++ lasts)))) c.in_ok-put_if-in-If.ensures
    (onward (string_bytes c.put_if.new.text) cs (thens ++ (ts ++ (elses ++ lasts))) first
    (onward (string_bytes c.print_term-in-If.new.text) thens (ts ++ (elses ++ lasts)) c.in_ok-put_then-in-If.ensures
    (onward (string_bytes c.put_then.new.text) ts (elses ++ lasts) second
    (onward (string_bytes c.print_term-in-If-2.new.text) elses lasts c.in_ok-put_else-in-If.ensures (onward (string_bytes c.put_else.new.text) es (tokens.BraceClose ∷ []) third e)))))
    ∙ ap (λ (us : List Token). old ++ written us) (sym all))
    c.put-in-If.ensures

pub print_node-returns-in_ok-put_sign-in-Operate : goal.print_node-returns-in_ok-put_sign-in-Operate
print_node-returns-in_ok-put_sign-in-Operate t c =
    let old = string_bytes c.args.text.now in
    let x = c.in-Operate in
    let ts = term_tokens x.first.value in
    let us = term_tokens x.second.value in
    let sign = sign_of (sign_shape x.sign) in
    let first = (c.in_ok-print_term-in-Operate.ensures ∙ ap (λ (u : Term). old ++ written (term_tokens u)) c.deref-in-Operate.ensures) in
    let all = ap (λ (u : Term). node_tokens (marked_of u)) x.is ∙ operate_is x.sign x.first x.second x.field-3 in
    on_ok_weaker c.print_term-in-Operate-2.result
    (λ e. onward old ts (sign ∷ us) first
    (onward (string_bytes c.print_term-in-Operate.new.text) (sign ∷ []) us c.in_ok-put_sign-in-Operate.ensures (e ∙ ap (λ (u : Term). string_bytes c.put_sign.new.text ++ written (term_tokens u)) c.deref-in-Operate-2.ensures))
    ∙ ap (λ (us : List Token). old ++ written us) (sym all))
    c.print_term-in-Operate-2.ensures

pub print_node-returns-in_ok-print_term-in-Scatter-2 : goal.print_node-returns-in_ok-print_term-in-Scatter-2
print_node-returns-in_ok-print_term-in-Scatter-2 t c =
    let old = string_bytes c.args.text.now in
    let x = c.in-Scatter in
    let ts = term_tokens x.first.value in
    let us = term_tokens x.second.value in
    let named = tokens.Comma ∷ tokens.Name x.label.text ∷ tokens.Comma ∷ [] in
    let lasts = us ++ tokens.Close ∷ [] in
    let first = (c.in_ok-print_term-in-Scatter.ensures ∙ ap (λ (u : Term). string_bytes c.put_scatter.new.text ++ written (term_tokens u)) c.deref-in-Scatter.ensures) in
    let second = (c.in_ok-print_term-in-Scatter-2.ensures ∙ ap (λ (u : Term). string_bytes c.put_between.new.text ++ written (term_tokens u)) c.deref-in-Scatter-2.ensures) in
    let all = ap (λ (u : Term). node_tokens (marked_of u)) x.is ∙ scatter_is x.first x.label x.second x.field-3 in
    on_ok_weaker c.put_point-in-Scatter.result
    (λ e. onward old (tokens.Scatter ∷ tokens.Open ∷ []) (ts ++ (named ++ lasts)) c.in_ok-put_scatter-in-Scatter.ensures
    (onward (string_bytes c.put_scatter.new.text) ts (named ++ lasts) first
    (onward (string_bytes c.print_term-in-Scatter.new.text) named lasts c.in_ok-put_between-in-Scatter.ensures (onward (string_bytes c.put_between.new.text) us (tokens.Close ∷ []) second e)))
    ∙ ap (λ (vs : List Token). old ++ written (tokens.Scatter ∷ tokens.Open ∷ vs)) (sym (append_assoc ts (named ++ us) (tokens.Close ∷ []) ∙ ap (λ (vs : List Token). ts ++ vs) (append_assoc named us (tokens.Close ∷ []))))
    ∙ ap (λ (vs : List Token). old ++ written vs) (sym all))
    c.put_point-in-Scatter.ensures

pub print_node-returns-in_ok-print_term-in-Member-2 : goal.print_node-returns-in_ok-print_term-in-Member-2
print_node-returns-in_ok-print_term-in-Member-2 t c =
    let old = string_bytes c.args.text.now in
    let x = c.in-Member in
    let ts = term_tokens x.group.value in
    let us = term_tokens x.place.value in
    let lasts = us ++ tokens.Close ∷ [] in
    let first = (c.in_ok-print_term-in-Member.ensures ∙ ap (λ (u : Term). string_bytes c.put_member.new.text ++ written (term_tokens u)) c.deref-in-Member.ensures) in
    let second = (c.in_ok-print_term-in-Member-2.ensures ∙ ap (λ (u : Term). string_bytes c.put_point-in-Member.new.text ++ written (term_tokens u)) c.deref-in-Member-2.ensures) in
    let all = ap (λ (u : Term). node_tokens (marked_of u)) x.is ∙ member_is x.group x.place x.field-2 in
    on_ok_weaker c.put_point-in-Member-2.result
    (λ e. onward old (tokens.Member ∷ tokens.Open ∷ []) (ts ++ tokens.Comma ∷ lasts) c.in_ok-put_member-in-Member.ensures
    (onward (string_bytes c.put_member.new.text) ts (tokens.Comma ∷ lasts) first
    (onward (string_bytes c.print_term-in-Member.new.text) (tokens.Comma ∷ []) lasts c.in_ok-put_point-in-Member.ensures (onward (string_bytes c.put_point-in-Member.new.text) us (tokens.Close ∷ []) second e)))
    ∙ ap (λ (vs : List Token). old ++ written (tokens.Member ∷ tokens.Open ∷ vs)) (sym (append_assoc ts (tokens.Comma ∷ us) (tokens.Close ∷ [])))
    ∙ ap (λ (vs : List Token). old ++ written vs) (sym all))
    c.put_point-in-Member-2.ensures
