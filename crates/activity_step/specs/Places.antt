-- Where in the text of its program an activity stands.
use Rattle.std.specs.Prelude.{◌≡◌, ℕ, nat_lt, true, false, List, Option, Some, None, option_map, reverse, slice_get}
use Rattle.asp_model.specs.Configuration as model
use Rattle.code_table.specs.declared.code.Node.{Node}
use Rattle.code_table.specs.declared.table.TheConstants.{EMPTY_NUMBER}
use Rattle.step_machine.specs.declared.frames.Focus.{Focus}
use Rattle.step_machine.specs.declared.frames.Focus.TheVariants as focus
use Rattle.step_machine.specs.Standing.{Standing, View}

-- the node that a machine looks at: none at a place, nor at the call that a service begins with
abbrev pub looked_at : Focus → Option ℕ
looked_at (focus.Node number from done) = Some number
looked_at (focus.Place p) = None
looked_at (focus.Asked n) = None
looked_at (focus.Calls s number members done) = Some number
looked_at (focus.Called number n) = Some number

-- the byte of the text where a node stood: none of the first nodes, which are every program's
abbrev pub mark_of : List Node → ℕ → Option ℕ
mark_of k i = elim (nat_lt EMPTY_NUMBER i) [ true ↦ option_map (λ n. n.mark) (slice_get k i) | false ↦ None ]

abbrev pub mark_in : List Node → Option ℕ → Option ℕ
mark_in k None = None
mark_in k (Some i) = mark_of k i

-- a machine over this code that stands for the activity's term looks at a node that stood there
abbrev pub IsPlaceOf : List Node → model.Activity → Option ℕ → Type 0
IsPlaceOf k a at = (v : View) × Standing k v a.term (reverse a.services) × (at ≡ mark_in k (looked_at v.focus))
