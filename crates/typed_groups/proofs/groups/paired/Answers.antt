use Rattle.std.proofs.Common.{◌≡◌, ◌∙◌, ◌+◌, ◌<◌, ◌∷◌, ◌++◌, [], Some, suc, length, map, take, sym, ap, arith}
use Rattle.std.proofs.lemmas.List.{take_all}
use Rattle.std.specs.Option.{option_map}
use Rattle.asp_model.specs.Term.{Group, node, trees}
use Rattle.asp_model.specs.Shapes.{tree_of}
use Rattle.typed_groups.proofs.GroupLemmas.{group_is, pair_calls, pair_more, scattered_is, trees_more}
use Rattle.typed_groups.proofs.groups.paired.Goals as goal

pub loop-at-preserved : goal.loop-at-preserved
loop-at-preserved c =
    let l = c.args.label.now.text in
    let ns = c.args.members.now in
    let ks = c.args.others.now in
    let at = c.loop-at.at in
    let lt : at < length ns = c.loop-at-test.true in
    let lt' : at < length ks = omega (arith, lt, c.requires.same_size) in
    let next : suc at ≡ at + 1 = omega arith in
    ap (map tree_of) c.in_ok-push.ensures.items ∙ trees_more c.loop-at.calls.items c.in_ok-call.field-0
    ∙ (λ i. c.loop-at.invariant i ++ c.in_ok-call.ensures i ∷ [])
    ∙ sym (pair_more l ns ks at 0 0 lt lt') ∙ ap (λ n. pair_calls l (take n ns) (take n ks)) next

pub returns : goal.returns
returns c =
    let l = c.args.label.now.text in
    let ns = c.args.members.now in
    let ks = c.args.others.now in
    let all : take c.loop-at.at ns ≡ ns = take_all c.loop-at.at ns c.loop-at-test.false in
    let all' : take c.loop-at.at ks ≡ ks = take_all c.loop-at.at ks (omega (arith, c.loop-at-test.false, c.requires.same_size)) in
    ap (option_map (λ ts. node Group ts)) (scattered_is l ns ks c.requires.same_size)
    ∙ ap Some (sym (group_is c.loop-at.calls c.blank.result ∙ ap (λ ts. node Group (trees ts)) (c.loop-at.invariant ∙ (λ i. pair_calls l (all i) (all' i)))))
