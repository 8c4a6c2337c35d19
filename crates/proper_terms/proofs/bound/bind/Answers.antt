use Rattle.std.proofs.Common.{◌≡◌, false, ap, sym, ◌∙◌}
use Rattle.asp_check.specs.Sets.{names_in, without_names, texts}
use Rattle.asp_check.proofs.NameSets.{without-push, not_true, texts-push}
use Rattle.proper_terms.proofs.bound.bind.Goals as goal

pub returns-in_ok-push-clause-kept : goal.returns-in_ok-push-clause-kept
returns-in_ok-push-clause-kept c =
    let lacked : names_in c.args.bound.now c.args.name.now ≡ false = not_true _ (sym c.in_ok-add_name.ensures.is_new ∙ c.if-branch.true) in
    let added = ap texts c.in_ok-push.ensures.items ∙ texts-push c.args.added.now.items c.args.name in
    (λ i. without_names (added i) (c.in_ok-add_name.ensures.with i)) ∙ without-push (texts c.args.added.now.items) c.args.name.now (names_in c.args.bound.now) lacked
