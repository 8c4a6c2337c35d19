use Rattle.std.proofs.Common.{[], sym, ap, ◌∙◌}
use Rattle.asp_model.specs.declared.term.Program.{Program}
use Rattle.asp_model.specs.Term.{locations}
use Rattle.asp_model.specs.Shapes.{tree_of, marked_of}
use Rattle.asp_check.proofs.PlaceLemmas.{readable_has_no_places}
use Rattle.law_programs.proofs.WholeLaws.{programs_are_proper}
use Rattle.code_compiler.proofs.ClosedLemmas.{closed_proper}
use Rattle.code_compiler.proofs.ProgramLemmas.{sound_program}
use Rattle.code_compiler.proofs.program.compile.Goals as goal

pub compile_root-requires : goal.compile_root-requires
compile_root-requires c =
    let p = c.program.result.now in
    record { closed = closed_proper [] (tree_of p.root) c.program.ensures.readable (programs_are_proper (marked_of p.root) (record { readable = c.program.ensures.readable; checked = c.program.ensures.checked })) }

pub of-requires : goal.of-requires
of-requires c = record { sound = sound_program c.in_ok-nodes.nodes.items c.compile_root.new.nodes.items (tree_of c.program.result.now.root) c.in_ok-nodes.ensures.prelude c.in_ok-compile_root.ensures.grows c.in_ok-compile_root.ensures.root }

pub returns-clause-bare : goal.returns-clause-bare
returns-clause-bare c =
    let root = ap (λ (p : Program). locations (tree_of p.root)) (sym c.program.ensures.program) in
    root ∙ readable_has_no_places (tree_of c.program.result.now.root) c.program.ensures.readable
