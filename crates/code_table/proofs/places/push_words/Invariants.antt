use Rattle.std.proofs.Common.{◌≡◌, ◌+◌, ◌-◌, ◌≤◌, ◌++◌, length, take, vec_len, vec_capacity}
use Rattle.code_table.proofs.places.push_words.Given as goal

abbrev pub invariant-loop-word : goal.invariant-loop-word
invariant-loop-word l = record {
  so_far : l.others.items ≡ l.fn.others.items ++ take l.word-index l.words;
  room : vec_len l.others + (length l.words - l.word-index) ≤ vec_capacity l.others;
}
