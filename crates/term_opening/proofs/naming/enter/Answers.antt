use Rattle.std.proofs.Common.{◌∙◌, ap}
use Rattle.term_opening.specs.Naming.{with_new}
use Rattle.term_opening.proofs.EnterLemmas.{inserted}
use Rattle.term_opening.proofs.naming.enter.Goals as goal

pub returns-clause-places : goal.returns-clause-places
returns-clause-places c =
    let ks = c.args.places.now.keys in
    let n = c.in_ok-number.number in
    c.in_ok-insert_full.ensures.keys ∙ inserted n ks ∙ ap (λ m. with_new m ks) c.in_ok-number.ensures.same
