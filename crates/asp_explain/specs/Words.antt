-- The command in the terms of clap, and the texts that it finds in words.
use Rattle.std.specs.Prelude.{List, [], ◌∷◌, Option, Some, None, Bool, true, false, codes}
use Rattle.std.specs.Option.{option_map_or}
use Rattle.std.specs.Str.{bytes_eq}
use Rattle.clap.specs.Walk.{Row, Rule, Text, all_of, first_of}
use Rattle.clap.specs.Simple.{App, matches_of, new_app, new_rule, on_top, with_rule}
use Rattle.clap.specs.Takes.{takes}
use Rattle.clap.specs.declared.builder.action.ArgAction.TheVariants.{SetTrue}

-- FILE, which has to be there
abbrev pub file_rule : Rule
file_rule = record (new_rule (codes "FILE")) { required = true }

-- REPORT, which may be left out
abbrev pub report_rule : Rule
report_rule = new_rule (codes "REPORT")

-- an option with one value, which may be left out and is given once at most
abbrev pub option_rule : Text → Rule
option_rule name = record (new_rule name) { long = Some name }

-- an option with two values
abbrev pub pair_rule : Text → Rule
pair_rule name = record (option_rule name) { range = Some (record { start_inclusive = 2; end_inclusive = 2 }) }

-- a flag
abbrev pub flag_rule : Text → Rule
flag_rule name = record (option_rule name) { action = Some SetTrue }

abbrev pub named_command : App
named_command = new_app (codes "asp-explain")

-- the words do not begin with the program's name, and none asks for the version; `--help` and `-h` ask for help
abbrev pub bare_command : App
bare_command = on_top (λ s. record s { no_binary_name = true; disable_version_flag = true }) named_command

abbrev pub with_files : App → App
with_files a = with_rule (with_rule a file_rule) report_rule

abbrev pub with_options : App → App
with_options a =
    with_rule (with_rule (with_rule (with_rule (with_rule (with_rule (with_rule a
    (flag_rule (codes "events"))) (option_rule (codes "activity"))) (option_rule (codes "from")))
    (option_rule (codes "most"))) (pair_rule (codes "until"))) (option_rule (codes "other")))
    (flag_rule (codes "picture"))

abbrev pub command : App
command = with_options (with_files bare_command)

-- the command takes the words
unfoldable pub is_taken : List Text → Bool
is_taken words = takes command words

-- what it finds in words that it takes
unfoldable pub rows_given : List Text → List Row
rows_given words = matches_of command words

-- the texts of the command's words
pub record TextsShape : Type 0 where
  pub file : Option Text
  pub report : Option Text
  pub events : Bool
  pub activity : Option Text
  pub from : Option Text
  pub most : Option Text
  -- a name and a count
  pub until : Option (Text × Text)
  pub other : Option Text
  pub picture : Bool

-- the value of a flag that was given is the word true
abbrev pub says_true : Option Text → Bool
says_true text = option_map_or (λ t. bytes_eq t (codes "true")) text false

-- two values
abbrev pub pair_of : List Text → Option (Text × Text)
pair_of [] = None
pair_of (x ∷ []) = None
pair_of (x ∷ y ∷ []) = Some (x, y)
pair_of (x ∷ y ∷ z ∷ zs) = None

abbrev pub pair_in : Option (List Text) → Option (Text × Text)
pair_in None = None
pair_in (Some texts) = pair_of texts

abbrev pub texts_in : List Row → TextsShape
texts_in rows = record {
  file = first_of (codes "FILE") rows;
  report = first_of (codes "REPORT") rows;
  events = says_true (first_of (codes "events") rows);
  activity = first_of (codes "activity") rows;
  from = first_of (codes "from") rows;
  most = first_of (codes "most") rows;
  until = pair_in (all_of (codes "until") rows);
  other = first_of (codes "other") rows;
  picture = says_true (first_of (codes "picture") rows);
}
