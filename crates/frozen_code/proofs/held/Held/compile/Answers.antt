use Rattle.std.proofs.Common.{ℕ, List, sym, subst}
use Rattle.asp_model.specs.Names.{Text}
use Rattle.asp_model.specs.Shapes.{tree_of}
use Rattle.code_compiler.specs.Closed.{IsClosed}
use Rattle.frozen_code.specs.Held.{IsCompiled}
use Rattle.frozen_code.proofs.HeldLemmas.{holds_context, holds_redex}
use Rattle.frozen_code.proofs.held.Held.compile.Goals as goal

pub compile_under-requires : goal.compile_under-requires
compile_under-requires c = record {
  closed = subst (λ (xs : List Text). IsClosed xs (tree_of c.args.opened.term)) (sym c.deref.ensures.value) c.requires.closed;
  node = c.requires.node;
}

pub returns-clause-context : goal.returns-clause-context
returns-clause-context c = λ x is before o.
    let k = c.compile_under.new.nodes.items in
    holds_context k c.in_ok-node.node c.args.opened x (subst (λ (xs : List Text). IsCompiled k c.in_ok-node.node xs (tree_of c.args.opened.term)) c.deref.ensures.value c.in_ok-node.ensures.compiled) is before o

pub returns-clause-redex : goal.returns-clause-redex
returns-clause-redex c = λ r is places o.
    let k = c.compile_under.new.nodes.items in
    holds_redex k c.in_ok-node.node c.args.opened r (subst (λ (xs : List Text). IsCompiled k c.in_ok-node.node xs (tree_of c.args.opened.term)) c.deref.ensures.value c.in_ok-node.ensures.compiled) is places o
