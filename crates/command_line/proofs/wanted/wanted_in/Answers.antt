use Rattle.std.proofs.Common.{refl}
use Rattle.command_line.proofs.wanted.wanted_in.Goals as goal

pub returns : goal.returns
returns c =
    rw (
      c.and_asks.ensures,
      c.and_asks-asked-6.ensures,
      c.and_asks-asked-5.ensures,
      c.and_asks-asked-4.ensures,
      c.and_asks-asked-3.ensures,
      c.and_asks-asked-2.ensures,
      c.and_asks-asked.ensures,
      c.flag_asks.ensures,
      c.flag_asks-2.ensures,
      c.flag_asks-3.ensures,
      c.save_asks.ensures,
      c.replay_asks.ensures,
      c.trace_asks.ensures,
      c.make_asks.ensures,
    ) refl
