-- What a redex asks of others.
use Rattle.std.specs.Prelude.{◌≡◌, ℕ, ◌<◌, Bool, true, false, List, [], Option, Some, None, map}
use Rattle.std.specs.Option.{option_map}
use Rattle.std.specs.Borrow.{Bor}
use Rattle.asp_model.specs.declared.word.Label.{Label}
use Rattle.asp_model.specs.Names.{Text}
use Rattle.asp_model.specs.Store.{CellShape}
use Rattle.asp_model.specs.Contraction.{Communication, Contraction, Communicates, Creates, Sends, Serves, Polls}
use Rattle.asp_model.specs.Intent.{labels_served}
use Rattle.step_rows.specs.declared.redex.Redex.{Redex}
use Rattle.step_rows.specs.declared.redex.Redex.TheVariants as redex
use Rattle.code_table.specs.declared.class.Class.{Class}
use Rattle.code_table.specs.declared.code.Node.{Node}
use Rattle.code_table.specs.Classes.{class_at}
use Rattle.law_steps.specs.Closed.{AreBelow}
use Rattle.code_table.specs.Cells as coded
use Rattle.code_table.specs.Cells.{CodedCell, CodedStore, cell_at}
use Rattle.serve_rules.specs.Labels.{label_text}
use Rattle.activity_step.specs.declared.advance.Advance.{Advance}
use Rattle.activity_step.specs.declared.advance.Advance.TheVariants as advance
use Rattle.step_activity.specs.declared.asked.Asked.{Asked}
use Rattle.step_activity.specs.declared.asked.Asked.TheVariants as asked

-- what a new activity serves: the label of a call, or its service for ever
abbrev pub service_text : Option Label → Option Text
service_text l = option_map (λ x. x.text) l

abbrev pub lent_text : Option (Bor Label) → Option Text
lent_text l = option_map (λ x. x.now.text) l

abbrev pub asked_shape : Asked → Option Communication
asked_shape (asked.Creates i l) = Some (Creates i (lent_text l))
asked_shape (asked.Sends n l ks) = Some (Sends n.now l.now.text ks.now)
asked_shape (asked.Serves ls) = Some (Serves (map label_text ls.now))
asked_shape (asked.Polls ls) = Some (Polls (map label_text ls.now))
asked_shape asked.Nothing = None

-- the receiver is another activity
abbrev pub sent_to : CodedCell → Text → List ℕ → Option Communication
sent_to (coded.Reference n) l ks = Some (Sends n l ks)
sent_to c l ks = None

-- the cell is an object
abbrev pub created_at : CodedCell → ℕ → Option Text → Option Communication
created_at (coded.Object k ns) i l = Some (Creates i l)
created_at c i l = None

abbrev pub asked_in : CodedStore → Redex → Option Communication
asked_in s (redex.Active i l) = created_at (cell_at s i) i (lent_text l)
asked_in s (redex.Call i l ks) = sent_to (cell_at s i) l.now.text ks.now
asked_in s (redex.Serve ls) = Some (Serves (map label_text ls.now))
asked_in s (redex.Pending ls) = Some (Polls (map label_text ls.now))
asked_in s x = None

-- a redex that comes to this asks so of others
abbrev pub IsAsked : Option Communication → Contraction → Type 0
IsAsked (Some x) c = c ≡ Communicates x
IsAsked None c = (x : Communication) → c ≡ Communicates x → ⊥

-- the labels of a `serve`
abbrev pub labels_in : Redex → List Text
labels_in (redex.Serve ls) = map label_text ls.now
labels_in x = []

-- the receiver of a call is below n, and so is the object of a new activity
abbrev pub IsPlaced : ℕ → Redex → Type 0
IsPlaced n (redex.Active i l) = i < n
IsPlaced n (redex.Call i l ks) = i < n
IsPlaced n x = Unit {0}

-- the places that others get a copy of are below n
abbrev pub IsWithin : ℕ → Option Communication → Type 0
IsWithin n (Some (Creates i service)) = i < n
IsWithin n (Some (Sends m l ks)) = AreBelow n ks
IsWithin n o = Unit {0}

-- an advance stops at what asks something of others
abbrev pub communicates : Advance → Bool
communicates (advance.Creates p) = true
communicates advance.Sends = true
communicates advance.Serves = true
communicates advance.Polls = true
communicates r = false

-- the class of an object; another cell has none
abbrev pub class_in : List Node → CodedCell → Option Class
class_in code (coded.Object k ns) = class_at code k
class_in code c = None

-- the labels that a redex asks for, where the active object is this cell
abbrev pub asked_for : Redex → CellShape → List Text
asked_for (redex.Serve ls) c = labels_served (map label_text ls.now) c
asked_for x c = []
