use Rattle.std.proofs.Common.{◌≡◌, ◌≤◌, Some, None, IfErr, IfOk, map, sym, subst, rules, arith}
use Rattle.std.specs.List.{slice_split}
use Rattle.std.proofs.lemmas.Grind.{common_steps}
use Rattle.update_policy.specs.Plans.{pair_shape}
use Rattle.command_line.specs.Settings.{is_comma, pairs_within}
use Rattle.command_line.specs.declared.error.WordsError.TheVariants as errors
use Rattle.command_line.proofs.PairLemmas.{more_pairs, no_pair, one_part, parts_of, too_many}
use Rattle.command_line.proofs.update.+add_pairs.Goals as goal

pub returns-then-most-eq1-clause-usage : goal.returns-then-most-eq1-clause-usage
returns-then-most-eq1-clause-usage t c = λ _.
    let text = c.args.text.now in
    let parts = (parts_of text c.split_once.result c.split_once.ensures.cases).some (c.in-Some.part, c.in-Some.rest) c.in-Some.is in
    too_many c.args.most (map pair_shape c.args.pairs.items) text c.in-Some.part.now c.in-Some.rest.now parts c.if-most-eq1.true

pub returns-in_err-pairs-in-Some-clause-usage : goal.returns-in_err-pairs-in-Some-clause-usage
returns-in_err-pairs-in-Some-clause-usage t c =
    let text = c.args.text.now in
    let parts = (parts_of text c.split_once.result c.split_once.ensures.cases).some (c.in-Some.part, c.in-Some.rest) c.in-Some.is in
    let none : c.in_err-pairs-in-Some.field-0.0 ≡ errors.Usage → pairs_within c.args.most (map pair_shape c.args.pairs.items) (slice_split is_comma text) ≡ None =
    λ is. no_pair c.args.most (map pair_shape c.args.pairs.items) text c.in-Some.part.now c.in-Some.rest.now parts (c.in_err-pairs-in-Some.ensures.usage is) in
    first_of (search (rules, none), grind (arith, common_steps, none))

pub returns-in-None-clause-ok : goal.returns-in-None-clause-ok
returns-in-None-clause-ok t c =
    let some : 1 ≤ c.args.most = search rules in
    let parts = (parts_of c.args.text.now c.split_once.result c.split_once.ensures.cases).none c.in-None.is in
    let same = one_part c.args.most (map pair_shape c.args.pairs.items) c.args.text.now some parts in
    subst (λ z. IfOk c.add_pair.result (λ v. z ≡ Some (map pair_shape v.items))) (sym same) c.add_pair.ensures.ok

pub returns-in-None-clause-usage : goal.returns-in-None-clause-usage
returns-in-None-clause-usage t c =
    let some : 1 ≤ c.args.most = search rules in
    let parts = (parts_of c.args.text.now c.split_once.result c.split_once.ensures.cases).none c.in-None.is in
    let same = one_part c.args.most (map pair_shape c.args.pairs.items) c.args.text.now some parts in
    subst (λ z. IfErr c.add_pair.result (λ e. e ≡ errors.Usage → z ≡ None)) (sym same) c.add_pair.ensures.usage

pub returns-in_ok-pairs-in-Some-clause-ok : goal.returns-in_ok-pairs-in-Some-clause-ok
returns-in_ok-pairs-in-Some-clause-ok t c =
    let some : 1 ≤ c.args.most = search rules in
    let text = c.args.text.now in
    let parts = (parts_of text c.split_once.result c.split_once.ensures.cases).some (c.in-Some.part, c.in-Some.rest) c.in-Some.is in
    let same = more_pairs c.args.most (map pair_shape c.args.pairs.items) text c.in-Some.part.now c.in-Some.rest.now parts (map pair_shape c.in_ok-pairs-in-Some.pairs.items) some c.in_ok-pairs-in-Some.ensures.ok in
    subst (λ z. IfOk c.add_pairs.result (λ v. z ≡ Some (map pair_shape v.items))) (sym same) c.add_pairs.ensures.ok

pub returns-in_ok-pairs-in-Some-clause-usage : goal.returns-in_ok-pairs-in-Some-clause-usage
returns-in_ok-pairs-in-Some-clause-usage t c =
    let some : 1 ≤ c.args.most = search rules in
    let text = c.args.text.now in
    let parts = (parts_of text c.split_once.result c.split_once.ensures.cases).some (c.in-Some.part, c.in-Some.rest) c.in-Some.is in
    let same = more_pairs c.args.most (map pair_shape c.args.pairs.items) text c.in-Some.part.now c.in-Some.rest.now parts (map pair_shape c.in_ok-pairs-in-Some.pairs.items) some c.in_ok-pairs-in-Some.ensures.ok in
    subst (λ z. IfErr c.add_pairs.result (λ e. e ≡ errors.Usage → z ≡ None)) (sym same) c.add_pairs.ensures.usage
