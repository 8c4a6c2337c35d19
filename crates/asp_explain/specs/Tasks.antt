-- What words ask for.
use Rattle.std.specs.Prelude.{◌≡◌, ℕ, option_map, ◌⊎◌, ◌||◌, if◌then◌else◌, List, Option, Some, None, is_some, Bool, true, false}
use Rattle.asp_model.specs.declared.limits.TheConstants.{MOST_REDUCTIONS}
use Rattle.command_line.specs.Numbers.{number_in}
use Rattle.asp_explain.specs.declared.page.TheConstants.{DRAWN_EVENTS, MOST_EVENTS}
use Rattle.clap.specs.Walk.{Text}
use Rattle.asp_explain.specs.Words.{TextsShape, is_taken, rows_given, texts_in}

-- which events: of one activity or of all, from which on, and how many at most
pub record PageShape : Type 0 where
  pub activity : Option Text
  pub from : ℕ
  pub most : ℕ

pub data TaskShape : Type 0 where
  -- what is wrong with the program in a file
  File : (file : Text) → TaskShape
  -- why the run of it stands as it does that a report shows
  Run : (file report : Text) → TaskShape
  -- the events of that run
  Events : (file report : Text) (page : PageShape) → TaskShape
  -- that run beside the one of another report
  Other : (file report other : Text) (picture : Bool) → TaskShape
  -- a picture of events of that run
  Picture : (file report : Text) (page : PageShape) → TaskShape
  -- the report, cut back to where an activity has made so many reductions
  Until : (file report activity : Text) (count : ℕ) → TaskShape

-- a page of events is asked for
abbrev pub are_paged : TextsShape → Bool
are_paged t = is_some t.activity || (is_some t.from || is_some t.most)

-- there are other words than files
abbrev pub has_more : TextsShape → Bool
has_more t = are_paged t || (t.events || (is_some t.until || (is_some t.other || t.picture)))

-- the number that is written, from 1 on, or this one where none is
abbrev pub number_told : ℕ → Option Text → Option ℕ
number_told usual None = Some usual
number_told usual (Some text) = number_in 1 MOST_EVENTS text

abbrev pub page_from : Option Text → Option ℕ → Option ℕ → Option PageShape
page_from activity None most = None
page_from activity (Some from) None = None
page_from activity (Some from) (Some most) = Some (record { activity = activity; from = from; most = most })

-- the page that is asked for: from the first event on, and at most 1000, where nothing else is said
abbrev pub page_in : TextsShape → Option PageShape
page_in t = page_from t.activity (number_told 1 t.from) (number_told 1000 t.most)

-- all events, up to more than are drawn
abbrev pub whole_run : PageShape
whole_run = record { activity = None; from = 1; most = DRAWN_EVENTS }

-- they are told, or drawn
abbrev pub page_task : (file report : Text) → Bool → PageShape → TaskShape
page_task file report picture page = if picture then Picture file report page else Events file report page

-- where the count is a number
abbrev pub until_task : (file report activity : Text) → Option ℕ → Option TaskShape
until_task file report activity None = None
until_task file report activity (Some k) = Some (Until file report activity k)

-- a task on a report: a row for each option that asks for one
abbrev pub asked_on : (file report : Text) → Bool → Option PageShape → Bool → Option (Text × Text) → Option Text → Bool
    → Option TaskShape
asked_on file report paged page false None None false = if paged then None else Some (Run file report)
asked_on file report paged page false None None true = if paged then None else Some (Picture file report whole_run)
asked_on file report paged page true None None picture = option_map (λ p. page_task file report picture p) page
asked_on file report paged page false None (Some other) picture =
    if paged then None else Some (Other file report other picture)
asked_on file report paged page false (Some u) None false =
    if paged then None else until_task file report u.0 (number_in 1 MOST_REDUCTIONS u.1)
asked_on file report paged page events until other picture = None

abbrev pub task_on : Text → Text → TextsShape → Option TaskShape
task_on file report t = asked_on file report (are_paged t) (page_in t) t.events t.until t.other t.picture

abbrev pub task_by : Option Text → Option Text → TextsShape → Option TaskShape
task_by None report t = None
task_by (Some file) None t = if has_more t then None else Some (File file)
task_by (Some file) (Some report) t = task_on file report t

abbrev pub task_in : TextsShape → Option TaskShape
task_in t = task_by t.file t.report t

-- what the command finds in the words is a task
unfoldable pub task_of : List Text → Option TaskShape
task_of words = task_in (texts_in (rows_given words))

-- the words ask for no task
abbrev pub AskNothing : List Text → Type 0
AskNothing words = (is_taken words ≡ false) ⊎ (task_of words ≡ None)
