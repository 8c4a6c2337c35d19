-- What the machine's functions answer. Where memory ran out, nothing is said.
use Rattle.std.specs.Prelude.{◌≡◌, ◌≢◌, ℕ, Bool, List, Option, Some, None, Result, Ok, Err, if◌then◌else◌}
use Rattle.std.specs.declared.alloc.Global.{Global}
use Rattle.std.specs.declared.boxed.Box.{Box}
use Rattle.asp_model.specs.declared.term.Term.{Term}
use Rattle.asp_model.specs.Shapes.{marked_of}
use Rattle.syntax_tokens.specs.declared.token.Token.{Token}
use Rattle.syntax_tokens.specs.declared.token.Token.TheVariants as tokens
use Rattle.syntax_grammar.specs.Nodes.{PartShape}
use Rattle.syntax_grammar.specs.States.{KindShape, OpenShape, ModeShape, Begin, Want, Opening, StateShape, Done}
use Rattle.syntax_grammar.specs.Closings.{FinishedShape, finished, finish, ClosingShape, Back, Again}
use Rattle.syntax_grammar.specs.Changes.{ChangeShape, Goes, Opens, operand, opening}
use Rattle.syntax_grammar.specs.Machine.{change_of, behind}
use Rattle.syntax_terms.specs.declared.open.Kind.{Kind}
use Rattle.syntax_terms.specs.declared.stop.Stop.{Stop}
use Rattle.syntax_terms.specs.declared.stop.Stop.TheVariants as stop
use Rattle.syntax_terms.specs.Shapes.{part_shape, kind_shape, open_shape, stack}
use Rattle.syntax_states.specs.declared.state.Mode.{Mode}
use Rattle.syntax_states.specs.declared.state.Opener.{Opener}
use Rattle.syntax_states.specs.declared.state.State.{State}
use Rattle.syntax_states.specs.declared.closing.Finished.{Finished}
use Rattle.syntax_states.specs.declared.closing.Closing.{Closing}
use Rattle.syntax_states.specs.declared.closing.Closing.TheVariants as closing
use Rattle.syntax_states.specs.Shapes.{mode_shape, opener_shape, state_shape}

-- another mode, with what is open as it was
abbrev pub Becomes : Result Mode Stop → Option ChangeShape → Type 0
Becomes (Ok m) y = y ≡ Some (Goes (mode_shape m))
Becomes (Err stop.Unexpected) y = y ≡ None
Becomes (Err stop.NotAField) y = ⊥
Becomes (Err stop.Memory) y = Unit {0}

-- what a token makes of a mode that opens nothing, in which no operand was read
abbrev pub plain_change : ModeShape → Token → ℕ → Option ChangeShape
plain_change Begin token at = None
plain_change Want token at = None
plain_change (Opening opener kind) token at = None
plain_change mode token at = change_of mode token at

-- the same of a token that begins an operand, but for a bracket
abbrev pub plain_operand : Token → ℕ → Option ChangeShape
plain_operand tokens.Open at = None
plain_operand token at = operand token at

-- the same of a token behind an operand, but for the end
abbrev pub plain_behind : Bool → PartShape → OpenShape → List OpenShape → Token → Option StateShape
plain_behind rule p s outer tokens.End = None
plain_behind rule p s outer token = behind rule p s outer token

-- whether a token opens a sequence
abbrev pub IsOpener : Bool → Opener → Token → Type 0
IsOpener b opener token = (kind : KindShape) → opening (opener_shape opener) kind token ≡ (if b then Some (Opens kind) else None)

-- a sequence that is over, with what is open around it
abbrev pub finished_in : Finished → List OpenShape → FinishedShape
finished_in f outer = finished (kind_shape f.kind) (part_shape f.value) outer

-- an operand ends the innermost sequence
abbrev pub finish_in : PartShape → State → FinishedShape
finish_in p s = finish p (open_shape s.inner) (stack s.outer.items)

-- what a sequence that is over leaves: a mode of the sequence around
abbrev pub Backs : Result Mode Stop → Option ClosingShape → Type 0
Backs (Ok m) y = y ≡ Some (Back (mode_shape m))
Backs (Err stop.Unexpected) y = y ≡ None
Backs (Err stop.NotAField) y = ⊥
Backs (Err stop.Memory) y = Unit {0}

-- or a new sequence
abbrev pub Agains : Result Kind Stop → Option ClosingShape → Type 0
Agains (Ok k) y = y ≡ Some (Again (kind_shape k))
Agains (Err stop.Unexpected) y = y ≡ None
Agains (Err stop.NotAField) y = ⊥
Agains (Err stop.Memory) y = Unit {0}

abbrev pub closing_shape : Closing → ClosingShape
closing_shape (closing.Back m) = Back (mode_shape m)
closing_shape (closing.Again k) = Again (kind_shape k)

abbrev pub Closes : Result Closing Stop → Option ClosingShape → Type 0
Closes (Ok x) y = y ≡ Some (closing_shape x)
Closes (Err stop.Unexpected) y = y ≡ None
Closes (Err stop.NotAField) y = ⊥
Closes (Err stop.Memory) y = Unit {0}

-- the state that a token leaves
abbrev pub Leaves : Result (Unit {0}) Stop → State → Option StateShape → Type 0
Leaves (Ok u) s y = y ≡ Some (state_shape s)
Leaves (Err stop.Unexpected) s y = y ≡ None
Leaves (Err stop.NotAField) s y = ⊥
Leaves (Err stop.Memory) s y = Unit {0}

-- the same without the rule on `:=`, and with it
abbrev pub Follows : Result (Unit {0}) Stop → State → Option StateShape → Option StateShape → Type 0
Follows (Ok u) s y z = (y ≡ Some (state_shape s)) × (z ≡ Some (state_shape s))
Follows (Err stop.Unexpected) s y z = (y ≡ None) × (z ≡ None)
Follows (Err stop.NotAField) s y z = (y ≢ None) × (z ≡ None)
Follows (Err stop.Memory) s y z = Unit {0}

-- the end of the text leaves a term
abbrev pub Ends : Result (Box Term Global) Stop → Option StateShape → Type 0
Ends (Ok t) y = y ≡ Some (Done (marked_of t.value))
Ends (Err stop.Unexpected) y = y ≡ None
Ends (Err stop.NotAField) y = ⊥
Ends (Err stop.Memory) y = Unit {0}

-- a state to go on from, or the term that the end leaves
abbrev pub left : Option (Box Term Global) → State → StateShape
left None s = state_shape s
left (Some t) s = Done (marked_of t.value)

-- what any token leaves, without the rule on `:=`, and with it
abbrev pub Steps : Result (Option (Box Term Global)) Stop → State → Option StateShape → Option StateShape → Type 0
Steps (Ok t) s y z = (y ≡ Some (left t s)) × (z ≡ Some (left t s))
Steps (Err stop.Unexpected) s y z = (y ≡ None) × (z ≡ None)
Steps (Err stop.NotAField) s y z = (y ≢ None) × (z ≡ None)
Steps (Err stop.Memory) s y z = Unit {0}
