-- State lines: what a report shows of each activity to a depth, with filled futures read as unpacked.
use Prim.Native.String.{String}
use Rattle.std.specs.Prelude.{◌≡◌, ℕ, List, [], ◌∷◌, Some, map, codes}
use Rattle.asp_model.specs.Term.{Tree}
use Rattle.asp_model.specs.Replay.{plain_run}
use Rattle.def_paths.specs.Outcomes.{whole_outcome_of, report_lines_to}
use Rattle.worked_rows.specs.Programs.{number, variable, field, object, put, let_in, steps, group}
use Rattle.worked_rows.specs.Circles.{circling}
use Rattle.worked_rows.specs.Passing.{keeping}

-- the report of the plain run within 100 reductions, with the states to this depth
abbrev pub ShowsTo : Tree → ℕ → List String → Type 0
ShowsTo program depth lines = report_lines_to (Some depth) (whole_outcome_of (plain_run 100 program)) ≡ map codes lines

-- a future that is its own value stays a future
abbrev pub CirclingShows : Type 0
CirclingShows = ShowsTo circling 1 (
    "asp report 2"
    ∷ "verdict blocked"
    ∷ "activity 0 8 awaits 0#1"
    ∷ "senders"
    ∷ ". self object ;"
    ∷ "activity 0.1 14 serving"
    ∷ "senders 0 0"
    ∷ ". self object x ; m n"
    ∷ ". self.x future 0#1"
    ∷ []
    )

-- let o = [v = 1] in [a = o, b = o]
abbrev pub sharing : Tree
sharing = let_in "o" (object (field "v" (number 1) ∷ []) []) (object (field "a" (variable "o") ∷ field "b" (variable "o") ∷ []) [])

abbrev pub SharingShows : Type 0
SharingShows = ShowsTo sharing 2 (
    "asp report 2"
    ∷ "verdict end"
    ∷ "activity 0 4 done"
    ∷ "senders"
    ∷ ". self object ;"
    ∷ ". value object a b ;"
    ∷ ". value.a object v ;"
    ∷ ". value.a.v number 1"
    ∷ ". value.b same value.a"
    ∷ []
    )

-- one value is received twice, and the copy that was kept is not the one that changed
abbrev pub KeepingShows : Type 0
KeepingShows = ShowsTo keeping 2 (
    "asp report 2"
    ∷ "verdict end"
    ∷ "activity 0 12 done"
    ∷ "senders"
    ∷ ". self object ;"
    ∷ ". value number 2"
    ∷ "activity 0.1 9 serving"
    ∷ "senders 0"
    ∷ ". self object ; make"
    ∷ "activity 0.2 25 serving"
    ∷ "senders 0 0"
    ∷ "> 1"
    ∷ "> 2"
    ∷ ". self object got ; keep set"
    ∷ ". self.got object v ;"
    ∷ ". self.got.v number 1"
    ∷ []
    )

-- let o = [a = 0] in o.a := o; group(o, 7, o)
abbrev pub circling_object : Tree
circling_object = let_in "o" (object (field "a" (number 0) ∷ []) [])
    (steps (put (variable "o") "a" (variable "o") ∷ group (variable "o" ∷ number 7 ∷ variable "o" ∷ []) ∷ []))

-- an object that holds itself, and a group that holds it twice
abbrev pub CirclingObjectShows : Type 0
CirclingObjectShows = ShowsTo circling_object 2 (
    "asp report 2"
    ∷ "verdict end"
    ∷ "activity 0 7 done"
    ∷ "senders"
    ∷ ". self object ;"
    ∷ ". value group 3"
    ∷ ". value.0 object a ;"
    ∷ ". value.0.a same value.0"
    ∷ ". value.1 number 7"
    ∷ ". value.2 same value.0"
    ∷ []
    )
