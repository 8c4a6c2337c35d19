use Rattle.std.proofs.Common.{sym}
use Rattle.code_table.proofs.TableLemmas.{class_past, lent_class}
use Rattle.checkpoint_makes.proofs.objects.class_in.Goals as goal

pub returns-in-Some : goal.returns-in-Some
returns-in-Some c =
    let look = c.in-Some.ensures.lookup.3 in
    record { class = lent_class c.args.nodes.now c.args.number c.in-Some.node.now c.class_made.result look.0 (look.1 c.in-Some.node.now) c.class_made.ensures.class }

pub returns-in-None : goal.returns-in-None
returns-in-None c = record { class = sym (class_past c.args.nodes.now c.args.number c.in-None.ensures.lookup.3) }
