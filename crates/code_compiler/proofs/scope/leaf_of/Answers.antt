use Rattle.std.proofs.Common.{sym}
use Rattle.code_compiler.specs.Slots.{environment}
use Rattle.code_compiler.proofs.SlotLemmas.{captured_here, kept_fits, number_text}
use Rattle.code_compiler.proofs.scope.leaf_of.Goals as goal

pub captured_slot-requires : goal.captured_slot-requires
captured_slot-requires c = record { among = captured_here c.args.name.now (environment c.args.scope.now.bound.now) c.args.scope.now.captured.now (sym c.in-None.ensures.slot) c.requires.bound }

pub returns-in-None-clause-fits : goal.returns-in-None-clause-fits
returns-in-None-clause-fits c = kept_fits c.args.name.now (environment c.args.scope.now.bound.now) c.args.scope.now.captured.now c.captured_slot.result (sym c.in-None.ensures.slot) c.captured_slot.ensures.number

pub returns-in-None-clause-name : goal.returns-in-None-clause-name
returns-in-None-clause-name c = number_text c.args.name.now c.args.scope.now.captured.now c.captured_slot.result c.captured_slot.ensures.number
