-- The command in the terms of clap, and the texts that it finds in words.
use Rattle.std.specs.Prelude.{List, [], ◌∷◌, Option, Some, Bool, true, false, codes}
use Rattle.std.specs.Option.{option_map_or}
use Rattle.std.specs.Str.{bytes_eq}
use Rattle.clap.specs.Walk.{Row, Rule, Text, first_of}
use Rattle.clap.specs.Simple.{App, matches_of, new_app, new_rule, on_top, with_rule}
use Rattle.clap.specs.Takes.{takes}
use Rattle.clap.specs.declared.builder.action.ArgAction.TheVariants.{SetTrue}

-- FILE, which may be left out
abbrev pub file_rule : Rule
file_rule = new_rule (codes "file")

-- an option with one value, which may be left out and is given once at most
abbrev pub option_rule : Text → Rule
option_rule name = record (new_rule name) { long = Some name }

-- a flag
abbrev pub flag_rule : Text → Rule
flag_rule name = record (option_rule name) { action = Some SetTrue }

-- the words do not begin with the program's name, and none asks for help or for the version
abbrev pub bare_command : App
bare_command = on_top (λ s. record s {
  no_binary_name = true;
  disable_help_flag = true;
  disable_version_flag = true;
}) (new_app (codes "asp"))

-- behind the others, in this order
abbrev pub with_more : App → App
with_more a =
    with_rule (with_rule (with_rule (with_rule (with_rule a (option_rule (codes "make"))) (option_rule (codes "state")))
    (option_rule (codes "workers"))) (option_rule (codes "strategy"))) (option_rule (codes "update"))

-- and behind those the options of further tasks
abbrev pub with_tasks : App → App
with_tasks a =
    with_rule (with_rule (with_rule (with_rule (with_rule (with_rule a (flag_rule (codes "determinate")))
    (flag_rule (codes "journal"))) (flag_rule (codes "save"))) (option_rule (codes "resume")))
    (option_rule (codes "same"))) (option_rule (codes "trace"))

abbrev pub command : App
command = on_top (λ s. record s {
  rules = file_rule ∷ flag_rule (codes "check") ∷ option_rule (codes "budget")
      ∷ option_rule (codes "replay") ∷ option_rule (codes "make") ∷ option_rule (codes "state")
      ∷ option_rule (codes "workers") ∷ option_rule (codes "strategy") ∷ option_rule (codes "update")
      ∷ flag_rule (codes "determinate") ∷ flag_rule (codes "journal") ∷ flag_rule (codes "save")
      ∷ option_rule (codes "resume") ∷ option_rule (codes "same") ∷ option_rule (codes "trace") ∷ [];
}) bare_command

-- the command takes the words
unfoldable pub is_taken : List Text → Bool
is_taken words = takes command words

-- what it finds in words that it takes
unfoldable pub rows_given : List Text → List Row
rows_given words = matches_of command words

-- of how a program is run
pub record SettingTexts : Type 0 where
  pub workers : Option Text
  pub budget : Option Text
  pub strategy : Option Text
  pub update : Option Text

pub record TextsShape : Type 0 where
  pub file : Option Text
  pub check : Bool
  pub determinate : Bool
  pub journal : Bool
  pub save : Bool
  pub resume : Option Text
  pub replay : Option Text
  pub same : Option Text
  pub trace : Option Text
  pub make : Option Text
  pub state : Option Text
  pub settings : SettingTexts

-- the value of a flag that was given is the word true
abbrev pub says_true : Option Text → Bool
says_true text = option_map_or (λ t. bytes_eq t (codes "true")) text false

-- each text by its name

abbrev pub given_in : List Row → SettingTexts
given_in rows = record {
  workers = first_of (codes "workers") rows;
  budget = first_of (codes "budget") rows;
  strategy = first_of (codes "strategy") rows;
  update = first_of (codes "update") rows;
}

abbrev pub texts_in : List Row → TextsShape
texts_in rows = record {
  file = first_of (codes "file") rows;
  check = says_true (first_of (codes "check") rows);
  determinate = says_true (first_of (codes "determinate") rows);
  journal = says_true (first_of (codes "journal") rows);
  save = says_true (first_of (codes "save") rows);
  resume = first_of (codes "resume") rows;
  replay = first_of (codes "replay") rows;
  same = first_of (codes "same") rows;
  trace = first_of (codes "trace") rows;
  make = first_of (codes "make") rows;
  state = first_of (codes "state") rows;
  settings = given_in rows;
}

abbrev pub texts_of : List Text → TextsShape
texts_of words = texts_in (rows_given words)
