use Rattle.std.proofs.Common.{◌≡◌, ◌+◌, ◌-◌, ◌≤◌, ◌++◌, length, map, take, vec_len, vec_capacity}
use Rattle.code_table.specs.Moves.{move_of}
use Rattle.code_table.specs.Places.{shift_in}
use Rattle.code_table.proofs.columns.push_moved_places.Given as goal

abbrev pub invariant-loop-word : goal.invariant-loop-word
invariant-loop-word l = record {
  so_far : l.words.items ≡ l.fn.words.items ++ map (λ n. move_of l.moves (shift_in l.places.shift n)) (take l.word-index l.places.words.now);
  room : vec_len l.words + (length l.places.words.now - l.word-index) ≤ vec_capacity l.words;
}
