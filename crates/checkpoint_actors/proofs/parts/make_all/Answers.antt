use Rattle.std.proofs.Common.{[], ap, subst, ◌∙◌}
use Rattle.asp_model.specs.declared.term.Program.{Program}
use Rattle.asp_model.specs.Shapes.{marked_of, tree_of}
use Rattle.code_compiler.specs.Compiled.{IsRoot}
use Rattle.code_compiler.proofs.ClosedLemmas.{closed_proper}
use Rattle.law_programs.proofs.WholeLaws.{programs_are_proper}
use Rattle.checkpoint_actors.proofs.PartLemmas.{code_sound, made_from}
use Rattle.checkpoint_actors.proofs.parts.make_all.Goals as goal

pub make_values-requires : goal.make_values-requires
make_values-requires c = record { table = c.in_ok-nodes.ensures.prelude.table; proper = c.requires.values }

pub make_activities-requires : goal.make_activities-requires
make_activities-requires c = record { table = c.in_ok-values.ensures.made.grows.table c.in_ok-nodes.ensures.prelude.table; proper = c.requires.activities }

pub compile_root-requires : goal.compile_root-requires
compile_root-requires c =
    let p = c.program.result.now in
    record { closed = closed_proper [] (tree_of p.root) c.program.ensures.readable (programs_are_proper (marked_of p.root) (record { readable = c.program.ensures.readable; checked = c.program.ensures.checked })) }

pub of-requires : goal.of-requires
of-requires c = record { sound = code_sound _ _ _ _ _ c.in_ok-nodes.ensures.prelude c.in_ok-values.ensures.made.grows c.in_ok-activities.ensures.made.grows c.in_ok-compile_root.ensures.grows c.in_ok-compile_root.ensures.root }

pub returns : goal.returns
returns c =
    let sound = code_sound _ _ _ _ _ c.in_ok-nodes.ensures.prelude c.in_ok-values.ensures.made.grows c.in_ok-activities.ensures.made.grows c.in_ok-compile_root.ensures.grows c.in_ok-compile_root.ensures.root in
    let root : IsRoot c.compile_root.new.nodes.items (tree_of c.args.program.now.program.root) = subst (λ (p : Program). IsRoot c.compile_root.new.nodes.items (tree_of p.root)) c.program.ensures.program c.in_ok-compile_root.ensures.root in
    record {
      made = made_from c.in_ok-nodes.nodes.items c.make_values.new.nodes.items c.make_activities.new.nodes.items c.compile_root.new.nodes.items _ _ _ _
          c.in_ok-values.ensures.made c.in_ok-activities.ensures.made c.in_ok-compile_root.ensures.grows root sound (c.in_ok-code.ensures.ok ∙ c.of.ensures.nodes);
    }
