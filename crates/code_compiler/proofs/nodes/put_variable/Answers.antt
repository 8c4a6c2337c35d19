use Rattle.std.proofs.Common.{refl}
use Rattle.code_compiler.specs.Added.{body_of}
use Rattle.code_compiler.proofs.AddLemmas.{variable_added, ends_leaf}
use Rattle.code_compiler.proofs.nodes.put_variable.Goals as goal

pub returns-clause-adds : goal.returns-clause-adds
returns-clause-adds c = λ ns.
    variable_added (body_of c.args.scope.now c.args.uses.now.items) (body_of c.args.scope.now c.push_use.new.uses.items) ns.items c.args.children.now.items c.push.new.self.items c.args.name.now c.in_ok-leaf.leaf
    c.in_ok-leaf.ensures.fits c.in_ok-leaf.ensures.name (record { captured = refl; bound = refl }) c.in_ok-push_use.ensures.uses c.in_ok-push.ensures.items

pub returns-clause-ends : goal.returns-clause-ends
returns-clause-ends c = λ m. ends_leaf m c.in_ok-leaf.leaf c.args.children.now.items c.push.new.self.items c.in_ok-push.ensures.items
