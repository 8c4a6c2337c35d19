use Rattle.std.proofs.Common.{rules}
use Rattle.std.specs.Prelude.{string_bytes, codes}
use Rattle.std.specs.Fmt.{decimal}
use Rattle.load_gen.specs.Generated.{ended, counter, counter_rest, maker}
use Rattle.load_gen.proofs.JoinLemmas.{four_lines}
use Rattle.load_gen.proofs.pairs.make.Goals as goal

pub returns : goal.returns
returns c = record {
  program = four_lines counter (decimal c.args.n) counter_rest maker (codes "m.pairs(") (ended (codes ");")) (ended (codes "print(c.total())"))
      (string_bytes c.push_str-3.new.self) (string_bytes c.push_str-2.new.self) (string_bytes c.push_str.new.self) (string_bytes c.in_ok-text.text) (string_bytes c.in_ok-call.call)
      c.in_ok-text.ensures c.in_ok-push_str.ensures.bytes c.in_ok-call.ensures (search rules) c.in_ok-push_str-3.ensures.bytes;
}
