use Rattle.std.proofs.Common.{arith, ap, sym}
use Rattle.std.proofs.lemmas.List.Sums.{position_or_len_is}
use Rattle.text_places.specs.Positions.{is_feed}
use Rattle.explain.proofs.shown.line_end.Goals as goal

pub returns-else-bytes-end-ne10 : goal.returns-else-bytes-end-ne10
returns-else-bytes-end-ne10 c = record {
  end = sym (position_or_len_is is_feed c.args.bytes.now c.loop-end.end 0 c.loop-end.invariant.within c.loop-end.invariant.others (λ h. ap is_feed c.if-bytes-end-ne10.false));
  within = c.loop-end.invariant.within;
}

pub returns-after-loop-end : goal.returns-after-loop-end
returns-after-loop-end c = record {
  end = sym (position_or_len_is is_feed c.args.bytes.now c.loop-end.end 0 c.loop-end.invariant.within c.loop-end.invariant.others (λ h. absurd (omega (arith, h, c.loop-end-test.false))));
  within = c.loop-end.invariant.within;
}
