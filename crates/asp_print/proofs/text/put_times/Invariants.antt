use Rattle.std.proofs.Common.{◌≡◌, ◌++◌, replicate}
use Rattle.std.specs.Prelude.{string_bytes}
use Rattle.asp_print.specs.Parts.{written, point_token}
use Rattle.asp_print.proofs.text.put_times.Given as goal

abbrev pub invariant-loop : goal.invariant-loop
invariant-loop l = string_bytes l.text ≡ string_bytes l.initial.text ++ written (replicate l.counter (point_token l.point))
