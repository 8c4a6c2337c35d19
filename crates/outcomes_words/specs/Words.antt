-- The command in the terms of clap, and what words ask for.
use Rattle.std.specs.Prelude.{◌≡◌, ◌⊎◌, ◌≤◌, ◌&&◌, ◌||◌, ℕ, List, [], Option, Some, None, Bool, true, false}
use Rattle.std.specs.Prelude.{option_map, unwrap_or, cond, is_some, not, codes}
use Rattle.clap.specs.Lexer.{usize_max}
use Rattle.clap.specs.Walk.{Row, Rule, Text, all_of, first_of, is_empty}
use Rattle.clap.specs.declared.builder.action.ArgAction.TheVariants.{Append}
use Rattle.clap.specs.Simple.{App, matches_of, new_app, new_rule, on_top, with_rule}
use Rattle.clap.specs.Takes.{takes}
use Rattle.asp_model.specs.declared.limits.TheConstants.{MOST_REDUCTIONS, MOST_DEPTH}
use Rattle.command_line.specs.Command.{flag_rule, says_true}
use Rattle.command_line.specs.Numbers.{number_in}
use Rattle.outcomes_words.specs.declared.task.TheConstants.{MOST_ENDS}
use Rattle.outcomes_words.specs.declared.task.Choice.{Choice}
use Rattle.outcomes_words.specs.declared.task.Choice.TheVariants as choices

-- FILE, which has to be there
abbrev pub file_rule : Rule
file_rule = record (new_rule (codes "FILE")) { required = true }

-- an option with one value, which may be left out and is given once at most
abbrev pub option_rule : Text → Rule
option_rule name = record (new_rule name) { long = Some name }

-- an option with one value or several, which may be given again for more of them
abbrev pub many_rule : Text → Rule
many_rule name = record (option_rule name) {
  action = Some Append;
  range = Some (record { start_inclusive = 1; end_inclusive = usize_max });
}

abbrev pub named_command : App
named_command = new_app (codes "asp-outcomes")

-- the words do not begin with the program's name, and none asks for the version; `--help` and `-h` ask for help
abbrev pub bare_command : App
bare_command = on_top (λ s. record s { no_binary_name = true; disable_version_flag = true }) named_command

abbrev pub with_options : App → App
with_options a =
    with_rule (with_rule (with_rule (with_rule a (option_rule (codes "budget"))) (option_rule (codes "ends")))
    (option_rule (codes "state"))) (option_rule (codes "report"))

abbrev pub with_ends : App → App
with_ends a =
    with_rule (with_rule (with_rule a (option_rule (codes "end"))) (many_rule (codes "check-ends")))
    (flag_rule (codes "whole-orders"))

abbrev pub command : App
command = with_ends (with_options (with_rule bare_command file_rule))

-- the command takes the words
unfoldable pub is_taken : List Text → Bool
is_taken words = takes command words

-- what it finds in words that it takes
unfoldable pub rows_given : List Text → List Row
rows_given words = matches_of command words

-- what words ask for: the outcomes of the program in a file, or the report of one of them, or of one end
pub record TaskShape : Type 0 where
  pub file : Text
  -- the most reductions of a run
  pub budget : ℕ
  -- the most ends
  pub most : ℕ
  -- the depth to which states are shown
  pub depth : Option ℕ
  -- the outcome or the end whose report is asked for
  pub choice : Option Choice
  -- the files whose reports are checked to be all ends; where there is none, ends are looked for
  pub given : List Text
  -- ends are told apart by each order of receptions, and not by classes of labels alone
  pub whole_orders : Bool

-- a number within bounds, and the usual one where there is no text
abbrev pub number_or : (least most usual : ℕ) → Option Text → Option ℕ
number_or least most usual None = Some usual
number_or least most usual (Some text) = number_in least most text

-- a number within bounds, if there is a text
abbrev pub number_if : (least most : ℕ) → Option Text → Option (Option ℕ)
number_if least most None = Some None
number_if least most (Some text) = option_map Some (number_in least most text)

-- a number of an outcome or of an end, if there is a text, and not two
abbrev pub choice_of : (report end : Option Text) → Option (Option Choice)
choice_of None None = Some None
choice_of (Some text) None = option_map (λ n. Some (choices.Outcome n)) (number_in 1 MOST_ENDS text)
choice_of None (Some text) = option_map (λ n. Some (choices.End n)) (number_in 1 MOST_ENDS text)
choice_of (Some text) (Some other) = None

abbrev pub task_with : Option Text → (budget most : Option ℕ) → (depth : Option (Option ℕ))
    → (choice : Option (Option Choice)) → (given : List Text) → (whole_orders : Bool) → Option TaskShape
task_with (Some file) (Some budget) (Some most) (Some depth) (Some choice) given whole_orders = Some (record {
  file = file;
  budget = budget;
  most = most;
  depth = depth;
  choice = choice;
  given = given;
  whole_orders = whole_orders;
})
task_with file budget most depth choice given whole_orders = None

-- the texts of the command's words
pub record TextsShape : Type 0 where
  pub file : Option Text
  pub budget : Option Text
  pub ends : Option Text
  pub state : Option Text
  pub report : Option Text
  pub end : Option Text
  pub given : List Text
  pub whole_orders : Bool

abbrev pub texts_in : List Row → TextsShape
texts_in rows = record {
  file = first_of (codes "FILE") rows;
  budget = first_of (codes "budget") rows;
  ends = first_of (codes "ends") rows;
  state = first_of (codes "state") rows;
  report = first_of (codes "report") rows;
  end = first_of (codes "end") rows;
  given = unwrap_or (all_of (codes "check-ends") rows) [];
  whole_orders = says_true (first_of (codes "whole-orders") rows);
}

-- the words bound a search, and ask for none
abbrev pub are_at_odds : TextsShape → Bool
are_at_odds t = not (is_empty t.given) && (is_some t.budget || is_some t.ends)

abbrev pub task_in : TextsShape → Option TaskShape
task_in t = cond (are_at_odds t) None (task_with t.file
    (number_or 1 MOST_REDUCTIONS 1000000 t.budget)
    (number_or 1 MOST_ENDS 10000 t.ends)
    (number_if 0 MOST_DEPTH t.state)
    (choice_of t.report t.end)
    t.given t.whole_orders)

-- no more reductions than a run may take, no more ends than may be found, and no depth beyond the deepest
pub record IsWithin (t : TaskShape) : Type 0 where
  pub budget : t.budget ≤ MOST_REDUCTIONS
  pub most : t.most ≤ MOST_ENDS

-- what the command finds in the words is a task
unfoldable pub task_of : List Text → Option TaskShape
task_of words = task_in (texts_in (rows_given words))

-- the words ask for no task
abbrev pub AskNothing : List Text → Type 0
AskNothing words = (is_taken words ≡ false) ⊎ (task_of words ≡ None)
