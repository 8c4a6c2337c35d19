use Rattle.std.proofs.Common.{◌≡◌, ◌+◌, ◌-◌, ◌≤◌, ◌++◌, length, map, take, vec_len, vec_capacity}
use Rattle.code_table.specs.Moves.{shift_of}
use Rattle.code_table.proofs.places.push_shifted.Given as goal

abbrev pub invariant-loop-word : goal.invariant-loop-word
invariant-loop-word l = record {
  so_far : l.others.items ≡ l.fn.others.items ++ map (shift_of l.shift) (take l.word-index l.words);
  room : vec_len l.others + (length l.words - l.word-index) ≤ vec_capacity l.others;
}
