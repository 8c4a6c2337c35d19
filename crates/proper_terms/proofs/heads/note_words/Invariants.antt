use Rattle.std.proofs.Common.{◌≡◌, drop}
use Rattle.asp_check.specs.Sets.{names_in}
use Rattle.proper_terms.specs.Fits.{are_new}
use Rattle.proper_terms.proofs.heads.note_words.Given as goal

abbrev pub invariant-loop-word : goal.invariant-loop-word
invariant-loop-word l = are_new (names_in l.names) (drop l.word-index l.words) ≡ are_new (names_in l.initial.names) l.words
