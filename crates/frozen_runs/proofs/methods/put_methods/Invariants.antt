use Rattle.std.proofs.Common.{◌≡◌, ◌++◌, drop, length}
use Rattle.std.specs.Prelude.{string_bytes}
use Rattle.std.specs.List.{flat_map}
use Rattle.checkpoint_text.specs.Writing.{words}
use Rattle.code_table.specs.Sound.{MethodsBelow, MethodsSound}
use Rattle.code_table.specs.Tables.{pieces, seen_methods}
use Rattle.frozen_runs.specs.Pieces.{method_shape_items}
use Rattle.frozen_runs.proofs.methods.put_methods.Given as goal

abbrev pub invariant-loop-method : goal.invariant-loop-method
invariant-loop-method l =
    (string_bytes l.text ++ words (flat_map method_shape_items (seen_methods (pieces l.code) (drop l.method-index l.methods) l.left)) ≡ string_bytes l.initial.text ++ words (flat_map method_shape_items (seen_methods (pieces l.code) l.methods l.captured)))
    × MethodsSound (pieces l.code) (drop l.method-index l.methods)
    × MethodsBelow (length l.code) (drop l.method-index l.methods)
