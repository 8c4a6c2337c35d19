use Rattle.std.specs.Prelude.{string_bytes}
use Rattle.state_lines.proofs.TextLemmas.{name_is, on_ok}
use Rattle.state_lines.proofs.names.push_name.Goals as goal

pub returns-in_ok-write-in-len1-up : goal.returns-in_ok-write-in-len1-up
returns-in_ok-write-in-len1-up c = record {
  name = on_ok c.push_numbers.result
      (name_is c.args.name.now c.path.result.now (string_bytes c.args.text.now) (string_bytes c.write.new.self) (string_bytes c.push_numbers.new.text)
      c.path.ensures.path c.in-len1-up.len_at_least c.in_ok-write-in-len1-up.ensures.bytes)
      c.push_numbers.ensures;
}
