use Rattle.std.proofs.Common.{◌∙◌, sym, subst}
use Rattle.asp_model.specs.Shapes.{tree_of}
use Rattle.frozen_code.specs.Held.{IsOpened}
use Rattle.term_opening.proofs.HoldingLemmas.{context_comes, context_proper}
use Rattle.term_opening.proofs.holding.hold_context.Goals as goal

pub open-requires : goal.open-requires
open-requires c = record { proper = context_proper (tree_of c.args.term) c.requires.context }

pub compile-requires : goal.compile-requires
compile-requires c =
    let may = context_comes c.in_ok-opened.opened (tree_of c.args.term) c.in_ok-opened.ensures.opened c.requires.context in
    record { closed = may.0; node = may.1 }

pub returns-clause-context : goal.returns-clause-context
returns-clause-context c = λ x is.
    c.compile.ensures.context x is.context (sym is.done ∙ sym c.in_ok-opened.ensures.done)
    (subst (IsOpened c.in_ok-opened.opened) is.left c.in_ok-opened.ensures.opened)
