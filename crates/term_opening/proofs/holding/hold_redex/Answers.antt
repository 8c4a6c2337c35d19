use Rattle.std.proofs.Common.{◌∙◌, sym, subst}
use Rattle.asp_model.specs.Shapes.{tree_of}
use Rattle.frozen_code.specs.Held.{IsOpened}
use Rattle.term_opening.proofs.HoldingLemmas.{redex_comes, redex_is_done, redex_is_left, redex_proper}
use Rattle.term_opening.proofs.holding.hold_redex.Goals as goal

pub open-requires : goal.open-requires
open-requires c = record { proper = redex_proper (tree_of c.args.term) c.requires.redex }

pub compile-requires : goal.compile-requires
compile-requires c =
    let may = redex_comes c.in_ok-opened.opened (tree_of c.args.term) c.in_ok-opened.ensures.opened c.requires.redex in
    record { closed = may.0; node = may.1 }

pub returns-clause-redex : goal.returns-clause-redex
returns-clause-redex c = λ r is.
    c.compile.ensures.redex r is.redex (sym (redex_is_done r (tree_of c.args.term) is) ∙ sym c.in_ok-opened.ensures.done)
    (subst (IsOpened c.in_ok-opened.opened) (redex_is_left r (tree_of c.args.term) is) c.in_ok-opened.ensures.opened)
