use Rattle.std.proofs.Common.{refl}
use Rattle.asp_model.specs.Shapes.{marked_of, tree_of}
use Rattle.code_compiler.proofs.ProgramLemmas.{root_added, root_marks}
use Rattle.code_compiler.proofs.program.compile_root.Goals as goal

pub returns-clause-root : goal.returns-clause-root
returns-clause-root c = root_added c.new-uses.result.items c.compile_term.new.uses.items c.args.nodes.now.items c.compile_term.new.nodes.items c.new-children.result.items c.compile_term.new.children.items (tree_of c.args.root.now) _ _ refl refl c.new-children.ensures.items c.in_ok-compile_term.ensures.adds c.in_ok-compile_term.ensures.ends

pub returns-clause-marks : goal.returns-clause-marks
returns-clause-marks c = root_marks c.new-uses.result.items c.compile_term.new.uses.items c.args.nodes.now.items c.compile_term.new.nodes.items c.new-children.result.items c.compile_term.new.children.items (tree_of c.args.root.now) (marked_of c.args.root.now) _ _ refl refl c.new-children.ensures.items c.in_ok-compile_term.ensures.adds c.in_ok-compile_term.ensures.marks c.in_ok-compile_term.ensures.ends
