use Rattle.std.proofs.Common.{◌≤◌, ℕ, List, length, refl, sym, ap, subst, ◌∙◌}
use Rattle.asp_model.specs.Shapes.{tree_of}
use Rattle.code_table.specs.declared.code.Node.{Node}
use Rattle.code_table.specs.Sound.{root_of}
use Rattle.frozen_code.specs.Held.{IsCompiled}
use Rattle.frozen_code.proofs.HeldLemmas.{compiled_under, some_nodes}
use Rattle.frozen_code.proofs.held.compile_under.Goals as goal

pub last_number-requires : goal.last_number-requires
last_number-requires c =
    let ms : List Node = c.compile_term.new.nodes.items in
    let t = tree_of c.args.term.now in
    let some : 1 ≤ length ms = some_nodes ms c.args.names.now t (compiled_under c.new-uses.result.items c.compile_term.new.uses.items c.args.nodes.now.items ms c.new-children.result.items c.compile_term.new.children.items t c.args.names.now _ refl c.new-children.ensures.items c.in_ok-compile_term.ensures.adds c.in_ok-compile_term.ensures.ends c.requires.node) in
    record { some = subst (λ (l : List Node). 1 ≤ length l) (sym c.deref.ensures.value) some }

pub returns-clause-compiled : goal.returns-clause-compiled
returns-clause-compiled c =
    let ms : List Node = c.compile_term.new.nodes.items in
    let t = tree_of c.args.term.now in
    subst (λ (n : ℕ). IsCompiled ms n c.args.names.now t) (sym (c.last_number.ensures.last ∙ ap root_of c.deref.ensures.value))
    (compiled_under c.new-uses.result.items c.compile_term.new.uses.items c.args.nodes.now.items ms c.new-children.result.items c.compile_term.new.children.items t c.args.names.now _ refl c.new-children.ensures.items c.in_ok-compile_term.ensures.adds c.in_ok-compile_term.ensures.ends c.requires.node)
