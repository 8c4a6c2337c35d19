-- A word that begins with no hyphen, alone, names a file to run.
use Rattle.std.proofs.Common.{◌≡◌, ◌∙◌, ◌==◌, ◌&&◌, ℕ, Bool, List, [], ◌∷◌, Some, None, true, false, refl, ap, ap₂}
use Rattle.std.specs.Prelude.{if◌then◌else◌}
use Rattle.std.specs.Str.{bytes_eq}
use Rattle.clap.specs.Lexer.{long_of, short_of}
use Rattle.clap.specs.Walk.{Held, Rule, Row, Step, Text, Walk, after_step, finished, idle, nothing_held, value, walk, walk_from, walked, word_met}
use Rattle.clap.specs.Simple.{Shape, built}
use Rattle.clap.specs.Takes.{level_passes, settle_passes, step_passes, takes, turn_passes, walk_passes, word_passes}
use Rattle.clap.proofs.TakesLemmas.{leaf_takes}
use Rattle.command_line.specs.Command.{command, is_taken, rows_given, texts_in, texts_of}
use Rattle.command_line.specs.Settings.{usual}
use Rattle.command_line.specs.Task.{Runs, task_in, task_of}
use Rattle.command_line.specs.PlainWords.{PlainWordRuns}

-- the word is no flag
pub record IsPlainWord (word : Text) : Type 0 where
  pub no_end : bytes_eq word (45 ∷ 45 ∷ []) ≡ false
  pub no_long : long_of word ≡ None
  pub no_short : short_of word ≡ None

met : (c : List Rule) (p : ℕ) (word : Text) (h : Held) → IsPlainWord word → word_met c [] false idle p word h ≡ (h, value)
met c p word h plain = rw (plain.no_end, plain.no_long, plain.no_short) refl

passes : (s : Shape) (word : Text) (h : Held) → IsPlainWord word → word_passes s [] false idle word h ≡ true
passes s word h plain = rw (plain.no_end, plain.no_long, plain.no_short) refl

abbrev top : Shape
top = (built command).top

abbrev file_walk : Text → Walk
file_walk word = after_step top.rules word (walk_from nothing_held) nothing_held value

step : (word : Text) → IsPlainWord word → walked top.rules [] (walk_from nothing_held) word ≡ file_walk word
unfolding walked
step word plain = ap (λ (m : Held × Step). after_step top.rules word (walk_from nothing_held) m.0 m.1) (met top.rules 1 word nothing_held plain)

walk_is : (word : Text) → IsPlainWord word → walk top.rules [] nothing_held (word ∷ []) ≡ file_walk word
walk_is word plain = step word plain

turn : (word : Text) → IsPlainWord word → turn_passes top [] (walk_from nothing_held) word ≡ true
turn word plain = ap₂ (λ x y. x && y) (passes top word nothing_held plain)
    (ap (λ (m : Held × Step). step_passes top 1 m.0 m.1) (met top.rules 1 word nothing_held plain))

walks : (word : Text) → IsPlainWord word → walk_passes top [] (walk_from nothing_held) (word ∷ []) ≡ true
unfolding walk_passes
walks word plain = ap (λ b. b && true) (turn word plain)

abbrev ends : Walk → Bool
ends w = settle_passes top.rules top.args_override_self w.held

level : (word : Text) → IsPlainWord word → level_passes top [] nothing_held (word ∷ []) false ≡ true
level word plain = ap₂ (λ x y. x && (y && true)) (walks word plain) (ap ends (walk_is word plain))

taken : (word : Text) → IsPlainWord word → takes command (word ∷ []) ≡ true
taken word plain = leaf_takes (built command) nothing_held (word ∷ []) refl (level word plain)

rows : (word : Text) → IsPlainWord word → rows_given (word ∷ []) ≡ finished top.rules (file_walk word).held
unfolding rows_given
rows word plain = ap (λ (w : Walk). finished top.rules w.held) (walk_is word plain)

asked : (word : Text) → task_in (texts_in (finished top.rules (file_walk word).held)) ≡ Some (Runs word usual None)
asked word = refl

one_file : (word : Text) → IsPlainWord word → task_of (word ∷ []) ≡ Some (Runs word usual None)
unfolding is_taken task_of
one_file word plain =
    ap (λ b. if b then task_in (texts_of (word ∷ [])) else None) (taken word plain)
    ∙ ap (λ (r : List Row). task_in (texts_in r)) (rows word plain) ∙ asked word

-- a word that begins with no hyphen
plain_word : (x : ℕ) (xs : Text) → x == 45 ≡ false → IsPlainWord (x ∷ xs)
plain_word x xs is = record { no_end = rw is refl; no_long = rw is refl; no_short = rw is refl }

pub plain_word_runs : PlainWordRuns
plain_word_runs b bs is = one_file (b ∷ bs) (plain_word b bs is)
