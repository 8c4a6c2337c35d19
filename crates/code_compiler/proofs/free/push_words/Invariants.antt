use Rattle.std.proofs.Common.{◌≡◌, ◌++◌, take}
use Rattle.code_compiler.proofs.free.push_words.Given as goal

abbrev pub invariant-loop-word : goal.invariant-loop-word
invariant-loop-word l = l.names.items ≡ l.initial.names.items ++ take l.word-index l.words
