use Rattle.std.proofs.Common.{arith}
use Rattle.std.specs.Prelude.{string_bytes}
use Rattle.code_table.specs.Tables.{pieces}
use Rattle.frozen_runs.proofs.CellLemmas.{methods_over}
use Rattle.frozen_runs.proofs.methods.put_methods.Goals as goal

pub returns : goal.returns
returns c =
    record {
      adds = methods_over (pieces c.args.code.now) c.args.methods.now c.loop-method.method-index c.args.captured.now c.loop-method.left.now (string_bytes c.args.text.now) (string_bytes c.put_number.new.text) (string_bytes c.loop-method.text) (omega (arith, c.loop-method-test.false)) c.in_ok-put_number.ensures.adds c.loop-method.invariant.0;
    }
