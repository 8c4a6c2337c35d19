use Rattle.std.proofs.Common.{◌≡◌, ◌+◌, take}
use Rattle.std.specs.Prelude.{count_by}
use Rattle.std.specs.List.{suffix_len}
use Rattle.text_places.specs.Positions.{is_feed, is_other}
use Rattle.text_places.proofs.position.spot_of.Given as goal

abbrev pub invariant-loop-i : goal.invariant-loop-i
invariant-loop-i l = record {
  number : l.number ≡ count_by is_feed (take l.i l.bytes) + 1;
  begin : l.begin + suffix_len is_other (take l.i l.bytes) ≡ l.i;
}
