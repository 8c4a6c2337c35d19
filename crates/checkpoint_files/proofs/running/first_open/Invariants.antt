use Rattle.std.proofs.Common.{◌≡◌, drop}
use Rattle.asp_model.specs.Shapes.{tree_of}
use Rattle.checkpoint_files.specs.declared.running.Inner.TheVariants.{Place}
use Rattle.checkpoint_files.specs.Running.{open_by}
use Rattle.checkpoint_files.proofs.running.first_open.Given as goal

abbrev pub invariant-loop-term : goal.invariant-loop-term
invariant-loop-term l = open_by tree_of l.first (drop l.term-index l.terms) ≡ open_by tree_of Place l.terms
