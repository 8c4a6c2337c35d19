-- Worked command lines, without the program's name.
use Rattle.std.specs.Prelude.{◌≡◌, ℕ, List, [], ◌∷◌, Some, None, codes, map}
use Rattle.clap.specs.Walk.{Text}
use Rattle.update_policy.specs.declared.strategy.Strategy.{Strategy}
use Rattle.update_policy.specs.declared.strategy.Strategy.TheVariants.{Lazy, Forward, Message}
use Rattle.command_line.specs.Settings.{SettingsShape, usual}
use Rattle.command_line.specs.Task.{TaskShape, Runs, Checks, Rules, Journals, Saves, Resumes, SavesAgain, Replays, Compares, Traces, Makes, task_of}

abbrev pub Asks : List Text → TaskShape → Type 0
Asks words task = task_of words ≡ Some task

abbrev pub IsRefused : List Text → Type 0
IsRefused words = task_of words ≡ None

abbrev pub one : Text
one = codes "one.asp"

-- the usual settings but for one

abbrev pub with_budget : ℕ → SettingsShape
with_budget n = record usual { budget = n }

abbrev pub with_workers : ℕ → SettingsShape
with_workers n = record usual { workers = n }

abbrev pub with_plan : Strategy → List (Text × Strategy) → SettingsShape
with_plan s xs = record usual { plan = record { strategy = s; by_label = xs } }

-- each combination that is accepted, and each way to give a value
pub record AcceptedLines : Type 0 where
  pub file : Asks (one ∷ []) (Runs one usual None)
  pub budget : Asks (one ∷ codes "--budget=5" ∷ []) (Runs one (with_budget 5) None)
  pub budget_before : Asks (codes "--budget" ∷ codes "10000000" ∷ one ∷ []) (Runs one (with_budget 10000000) None)
  pub leading_zeros : Asks (one ∷ codes "--budget=00000001" ∷ []) (Runs one (with_budget 1) None)
  pub workers : Asks (one ∷ codes "--workers=64" ∷ []) (Runs one (with_workers 64) None)
  pub workers_before : Asks (codes "--workers" ∷ codes "01" ∷ one ∷ []) (Runs one (with_workers 1) None)
  pub check : Asks (codes "--check" ∷ one ∷ []) (Checks one)
  pub determinate : Asks (one ∷ codes "--determinate" ∷ []) (Rules one usual)
  pub determinate_settings : Asks (codes "--determinate" ∷ one ∷ codes "--workers=64" ∷ codes "--strategy=message" ∷ [])
      (Rules one (record (with_plan Message []) { workers = 64 }))
  pub journal : Asks (one ∷ codes "--journal" ∷ codes "--strategy=message" ∷ [])
      (Journals one (with_plan Message []))
  pub save : Asks (one ∷ codes "--budget=5" ∷ codes "--save" ∷ []) (Saves one (with_budget 5))
  pub save_settings : Asks (codes "--save" ∷ one ∷ codes "--workers=64" ∷ codes "--strategy=message" ∷ [])
      (Saves one (record (with_plan Message []) { workers = 64 }))
  pub resume : Asks (one ∷ codes "--resume=one.saved" ∷ []) (Resumes one (codes "one.saved") usual None)
  pub resume_all : Asks (codes "--resume" ∷ codes "one.saved" ∷ one ∷ codes "--budget=5" ∷ codes "--workers=64" ∷ codes "--state=2" ∷ [])
      (Resumes one (codes "one.saved") (record (with_budget 5) { workers = 64 }) (Some 2))
  pub save_again : Asks (one ∷ codes "--save" ∷ codes "--resume=one.saved" ∷ codes "--strategy=message" ∷ [])
      (SavesAgain one (codes "one.saved") (with_plan Message []))
  pub replay : Asks (one ∷ codes "--replay=one.report" ∷ []) (Replays one (codes "one.report") None)
  pub replay_hyphen : Asks (one ∷ codes "--replay" ∷ codes "-" ∷ []) (Replays one (codes "-") None)
  pub hyphen_behind : Asks (one ∷ codes "--replay=-r" ∷ []) (Replays one (codes "-r") None)
  pub same : Asks (one ∷ codes "--replay=one.report" ∷ codes "--same=two.report" ∷ [])
      (Compares one (codes "one.report") (codes "two.report"))
  pub trace : Asks (one ∷ codes "--trace=one.trace" ∷ []) (Traces one (codes "one.trace") usual.budget None)
  pub trace_all : Asks (one ∷ codes "--budget=5" ∷ codes "--trace" ∷ codes "one.trace" ∷ codes "--state=2" ∷ [])
      (Traces one (codes "one.trace") 5 (Some 2))
  pub state : Asks (one ∷ codes "--state=0" ∷ []) (Runs one usual (Some 0))
  pub state_budget : Asks (codes "--state" ∷ codes "4" ∷ one ∷ codes "--budget=5" ∷ [])
      (Runs one (with_budget 5) (Some 4))
  pub state_zeros : Asks (one ∷ codes "--state=00000003" ∷ []) (Runs one usual (Some 3))
  pub state_replay : Asks (one ∷ codes "--replay=one.report" ∷ codes "--state=2" ∷ [])
      (Replays one (codes "one.report") (Some 2))
  pub make : Asks (codes "--make" ∷ codes "3" ∷ []) (Makes 3 usual)
  pub make_budget : Asks (codes "--make=2000" ∷ codes "--budget=7" ∷ []) (Makes 2000 (with_budget 7))
  pub strategy : Asks (one ∷ codes "--strategy=message" ∷ []) (Runs one (with_plan Message []) None)
  pub forward : Asks (one ∷ codes "--strategy" ∷ codes "forward" ∷ []) (Runs one (with_plan Forward []) None)
  pub update : Asks (one ∷ codes "--update=go=message" ∷ [])
      (Runs one (with_plan Lazy ((codes "go", Message) ∷ [])) None)
  pub updates : Asks (one ∷ codes "--strategy=forward" ∷ codes "--update=go=message,_a1=lazy" ∷ [])
      (Runs one (with_plan Forward ((codes "go", Message) ∷ (codes "_a1", Lazy) ∷ [])) None)
  pub sixteen : Asks (one ∷ codes "--update=a=lazy,b=lazy,c=lazy,d=lazy,e=lazy,f=lazy,g=lazy,h=lazy,i=lazy,j=lazy,k=lazy,l=lazy,m=lazy,n=lazy,o=lazy,p=lazy" ∷ [])
      (Runs one (with_plan Lazy (map (λ b. (b ∷ [], Lazy)) (codes "abcdefghijklmnop"))) None)
  pub make_all : Asks (codes "--make=3" ∷ codes "--strategy=message" ∷ codes "--update=go=lazy" ∷ codes "--budget=7" ∷ codes "--workers=2" ∷ [])
      (Makes 3 (record (with_plan Message ((codes "go", Lazy) ∷ [])) { workers = 2; budget = 7 }))
  pub end_of_options : Asks (codes "--" ∷ codes "--check" ∷ []) (Runs (codes "--check") usual None)
  pub one_hyphen : Asks (codes "-" ∷ []) (Runs (codes "-") usual None)
  pub empty_word : Asks (codes "" ∷ []) (Runs (codes "") usual None)

-- combinations that are refused
pub record RefusedCombinations : Type 0 where
  pub nothing : IsRefused []
  pub budget_alone : IsRefused (codes "--budget=5" ∷ [])
  pub file_make : IsRefused (one ∷ codes "--make=3" ∷ [])
  pub make_check : IsRefused (codes "--make=3" ∷ codes "--check" ∷ [])
  pub make_replay : IsRefused (codes "--make=3" ∷ codes "--replay=one.report" ∷ [])
  pub check_budget : IsRefused (codes "--check" ∷ one ∷ codes "--budget=5" ∷ [])
  pub check_replay : IsRefused (codes "--check" ∷ one ∷ codes "--replay=one.report" ∷ [])
  pub replay_budget : IsRefused (one ∷ codes "--replay=one.report" ∷ codes "--budget=5" ∷ [])
  pub determinate_alone : IsRefused (codes "--determinate" ∷ [])
  pub determinate_check : IsRefused (one ∷ codes "--determinate" ∷ codes "--check" ∷ [])
  pub determinate_replay : IsRefused (one ∷ codes "--determinate" ∷ codes "--replay=one.report" ∷ [])
  pub determinate_state : IsRefused (one ∷ codes "--determinate" ∷ codes "--state=1" ∷ [])
  pub determinate_make : IsRefused (codes "--make=3" ∷ codes "--determinate" ∷ [])
  pub journal_check : IsRefused (one ∷ codes "--journal" ∷ codes "--check" ∷ [])
  pub journal_replay : IsRefused (one ∷ codes "--journal" ∷ codes "--replay=one.report" ∷ [])
  pub journal_state : IsRefused (one ∷ codes "--journal" ∷ codes "--state=1" ∷ [])
  pub journal_determinate : IsRefused (one ∷ codes "--journal" ∷ codes "--determinate" ∷ [])
  pub journal_make : IsRefused (codes "--make=3" ∷ codes "--journal" ∷ [])
  pub save_alone : IsRefused (codes "--save" ∷ [])
  pub save_check : IsRefused (one ∷ codes "--save" ∷ codes "--check" ∷ [])
  pub save_replay : IsRefused (one ∷ codes "--save" ∷ codes "--replay=one.report" ∷ [])
  pub save_state : IsRefused (one ∷ codes "--save" ∷ codes "--state=1" ∷ [])
  pub save_determinate : IsRefused (one ∷ codes "--save" ∷ codes "--determinate" ∷ [])
  pub save_journal : IsRefused (one ∷ codes "--journal" ∷ codes "--save" ∷ [])
  pub save_trace : IsRefused (one ∷ codes "--save" ∷ codes "--trace=one.trace" ∷ [])
  pub save_make : IsRefused (codes "--make=3" ∷ codes "--save" ∷ [])
  pub resume_alone : IsRefused (codes "--resume=one.saved" ∷ [])
  pub resume_check : IsRefused (one ∷ codes "--resume=one.saved" ∷ codes "--check" ∷ [])
  pub resume_replay : IsRefused (one ∷ codes "--resume=one.saved" ∷ codes "--replay=one.report" ∷ [])
  pub resume_determinate : IsRefused (one ∷ codes "--determinate" ∷ codes "--resume=one.saved" ∷ [])
  pub resume_journal : IsRefused (one ∷ codes "--journal" ∷ codes "--resume=one.saved" ∷ [])
  pub resume_trace : IsRefused (one ∷ codes "--resume=one.saved" ∷ codes "--trace=one.trace" ∷ [])
  pub resume_make : IsRefused (codes "--make=3" ∷ codes "--resume=one.saved" ∷ [])
  pub save_again_state : IsRefused (one ∷ codes "--save" ∷ codes "--resume=one.saved" ∷ codes "--state=1" ∷ [])
  pub same_alone : IsRefused (one ∷ codes "--same=two.report" ∷ [])
  pub same_state : IsRefused (one ∷ codes "--replay=one.report" ∷ codes "--same=two.report" ∷ codes "--state=1" ∷ [])
  pub same_check : IsRefused (one ∷ codes "--check" ∷ codes "--same=two.report" ∷ [])
  pub same_make : IsRefused (codes "--make=3" ∷ codes "--same=two.report" ∷ [])
  pub trace_alone : IsRefused (codes "--trace=one.trace" ∷ [])
  pub trace_check : IsRefused (one ∷ codes "--check" ∷ codes "--trace=one.trace" ∷ [])
  pub trace_replay : IsRefused (one ∷ codes "--replay=one.report" ∷ codes "--trace=one.trace" ∷ [])
  pub trace_same : IsRefused (one ∷ codes "--same=two.report" ∷ codes "--trace=one.trace" ∷ [])
  pub trace_determinate : IsRefused (one ∷ codes "--determinate" ∷ codes "--trace=one.trace" ∷ [])
  pub trace_journal : IsRefused (one ∷ codes "--journal" ∷ codes "--trace=one.trace" ∷ [])
  pub trace_make : IsRefused (codes "--make=3" ∷ codes "--trace=one.trace" ∷ [])
  pub trace_workers : IsRefused (one ∷ codes "--trace=one.trace" ∷ codes "--workers=4" ∷ [])
  pub trace_strategy : IsRefused (one ∷ codes "--trace=one.trace" ∷ codes "--strategy=lazy" ∷ [])
  pub trace_update : IsRefused (one ∷ codes "--trace=one.trace" ∷ codes "--update=go=lazy" ∷ [])
  pub state_alone : IsRefused (codes "--state=1" ∷ [])
  pub check_state : IsRefused (codes "--check" ∷ one ∷ codes "--state=1" ∷ [])
  pub make_state : IsRefused (codes "--make=3" ∷ codes "--state=1" ∷ [])
  pub workers_alone : IsRefused (codes "--workers=4" ∷ [])
  pub check_workers : IsRefused (codes "--check" ∷ one ∷ codes "--workers=4" ∷ [])
  pub check_strategy : IsRefused (codes "--check" ∷ one ∷ codes "--strategy=lazy" ∷ [])
  pub check_update : IsRefused (codes "--check" ∷ one ∷ codes "--update=go=lazy" ∷ [])
  pub replay_workers : IsRefused (one ∷ codes "--replay=one.report" ∷ codes "--workers=4" ∷ [])
  pub replay_strategy : IsRefused (one ∷ codes "--replay=one.report" ∷ codes "--strategy=lazy" ∷ [])
  pub replay_update : IsRefused (one ∷ codes "--replay=one.report" ∷ codes "--update=go=lazy" ∷ [])

-- strategies that are refused
pub record RefusedStrategies : Type 0 where
  pub unknown : IsRefused (one ∷ codes "--strategy=eager" ∷ [])
  pub capital : IsRefused (one ∷ codes "--strategy=Lazy" ∷ [])
  pub nothing : IsRefused (one ∷ codes "--strategy=" ∷ [])
  pub no_pair : IsRefused (one ∷ codes "--update=" ∷ [])
  pub no_strategy : IsRefused (one ∷ codes "--update=go" ∷ [])
  pub no_label : IsRefused (one ∷ codes "--update==lazy" ∷ [])
  pub comma_behind : IsRefused (one ∷ codes "--update=go=lazy," ∷ [])
  pub unknown_behind : IsRefused (one ∷ codes "--update=go=eager" ∷ [])
  pub reserved : IsRefused (one ∷ codes "--update=let=lazy" ∷ [])
  pub digit : IsRefused (one ∷ codes "--update=1a=lazy" ∷ [])
  pub hyphen : IsRefused (one ∷ codes "--update=a-b=lazy" ∷ [])
  pub label_twice : IsRefused (one ∷ codes "--update=go=lazy,go=message" ∷ [])
  pub seventeen : IsRefused (one ∷ codes "--update=a=lazy,b=lazy,c=lazy,d=lazy,e=lazy,f=lazy,g=lazy,h=lazy,i=lazy,j=lazy,k=lazy,l=lazy,m=lazy,n=lazy,o=lazy,p=lazy,q=lazy" ∷ [])
  pub strategy_twice : IsRefused (one ∷ codes "--strategy=lazy" ∷ codes "--strategy=lazy" ∷ [])

-- numbers that are refused
pub record RefusedNumbers : Type 0 where
  pub no_budget : IsRefused (one ∷ codes "--budget=0" ∷ [])
  pub budget_above : IsRefused (one ∷ codes "--budget=10000001" ∷ [])
  pub nine_digits : IsRefused (one ∷ codes "--budget=000000005" ∷ [])
  pub no_digit : IsRefused (one ∷ codes "--budget=" ∷ [])
  pub sign : IsRefused (one ∷ codes "--budget=+5" ∷ [])
  pub state_above : IsRefused (one ∷ codes "--state=5" ∷ [])
  pub no_state : IsRefused (one ∷ codes "--state=" ∷ [])
  pub state_word : IsRefused (one ∷ codes "--state=all" ∷ [])
  pub no_workers : IsRefused (one ∷ codes "--workers=0" ∷ [])
  pub workers_above : IsRefused (one ∷ codes "--workers=65" ∷ [])
  pub workers_sign : IsRefused (one ∷ codes "--workers=-4" ∷ [])
  pub workers_nothing : IsRefused (one ∷ codes "--workers=" ∷ [])
  pub no_pairs : IsRefused (codes "--make=0" ∷ [])
  pub pairs_above : IsRefused (codes "--make=2001" ∷ [])

-- words that the command does not take
pub record RefusedWords : Type 0 where
  pub two_files : IsRefused (one ∷ one ∷ [])
  pub twice : IsRefused (one ∷ codes "--budget=5" ∷ codes "--budget=5" ∷ [])
  pub workers_twice : IsRefused (one ∷ codes "--workers=4" ∷ codes "--workers=4" ∷ [])
  pub state_twice : IsRefused (one ∷ codes "--state=1" ∷ codes "--state=1" ∷ [])
  pub resume_twice : IsRefused (one ∷ codes "--resume=one.saved" ∷ codes "--resume=one.saved" ∷ [])
  pub flag_twice : IsRefused (one ∷ codes "--check" ∷ codes "--check" ∷ [])
  pub flag_with_value : IsRefused (one ∷ codes "--check=" ∷ [])
  pub no_value : IsRefused (one ∷ codes "--budget" ∷ [])
  pub no_value_at_end : IsRefused (codes "--replay" ∷ codes "--" ∷ one ∷ [])
  pub hyphen_behind : IsRefused (one ∷ codes "--replay" ∷ codes "-r" ∷ [])
  pub shortened : IsRefused (one ∷ codes "--budg=5" ∷ [])
  pub unknown : IsRefused (one ∷ codes "--worker=4" ∷ [])
  pub help : IsRefused (codes "--help" ∷ [])
  pub short_help : IsRefused (codes "-h" ∷ [])
  pub version : IsRefused (codes "--version" ∷ [])
