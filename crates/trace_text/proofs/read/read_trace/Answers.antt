use Rattle.std.proofs.Common.{ap, length, arith}
use Rattle.text_lines.proofs.LineLemmas.{lines_some}
use Rattle.trace_text.proofs.read.read_trace.Goals as goal

pub read_lines-requires : goal.read_lines-requires
read_lines-requires c =
    omega (arith, lines_some c.in_ok-lines.lines.items c.args.bytes.now c.in_ok-lines.ensures.parts, ap length c.deref.ensures.value)
