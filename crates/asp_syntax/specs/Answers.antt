-- What the reader's functions answer. Where memory ran out, nothing is said.
use Rattle.std.specs.Prelude.{◌≡◌, ℕ, nat_lt, Bool, true, false, Option, Some, None, Result, Ok, Err}
use Rattle.std.specs.declared.alloc.Global.{Global}
use Rattle.std.specs.declared.boxed.Box.{Box}
use Rattle.asp_model.specs.declared.limits.TheConstants.{MOST_LEVEL}
use Rattle.asp_model.specs.declared.term.Term.{Term}
use Rattle.asp_model.specs.Marked.{Marked}
use Rattle.asp_model.specs.Shapes.{marked_of}
use Rattle.syntax_tokens.specs.declared.levels.Walk.{Walk}
use Rattle.syntax_tokens.specs.Tokens.{Lexeme}
use Rattle.syntax_tokens.specs.Levels.{WalkShape, walked}
use Rattle.syntax_tokens.specs.WalkShapes.{walk_shape}
use Rattle.syntax_grammar.specs.States.{StateShape}
use Rattle.syntax_grammar.specs.Machine.{step}
use Rattle.syntax_states.specs.declared.state.State.{State}
use Rattle.syntax_states.specs.Answers.{left}
use Rattle.asp_syntax.specs.declared.error.SyntaxFault.{SyntaxFault}
use Rattle.asp_syntax.specs.declared.error.SyntaxKind.{SyntaxKind}
use Rattle.asp_syntax.specs.declared.error.SyntaxKind.TheVariants as kinds
use Rattle.asp_syntax.specs.declared.error.SyntaxError.{SyntaxError}
use Rattle.asp_syntax.specs.declared.error.SyntaxError.TheVariants as errors
use Rattle.asp_syntax.specs.Read.{judged, verdict, fault_at}

-- the fault of a lexeme that is a token, where its level is known to be too high or not
abbrev pub judgement : StateShape → Bool → Lexeme → Option SyntaxKind
judgement x deep l = judged (step false x l) deep (step true x l)

-- what such a lexeme leaves
abbrev pub Judges : Result (Option (Box Term Global)) SyntaxError → State → StateShape → Bool → Lexeme → Type 0
Judges (Ok t) s x deep l = (judgement x deep l ≡ None) × (step true x l ≡ Some (left t s))
Judges (Err (errors.Fault f)) s x deep l = (judgement x deep l ≡ Some f.kind) × (f.at ≡ l.at)
Judges (Err errors.Memory) s x deep l = Unit {0}

abbrev pub UnlessDeep : Result (Option (Box Term Global)) SyntaxError → Option (Box Term Global) → Bool → ℕ → Type 0
UnlessDeep (Ok t) next deep at = (t ≡ next) × (deep ≡ false)
UnlessDeep (Err (errors.Fault f)) next deep at = (f ≡ fault_at at kinds.TooDeep) × (deep ≡ true)
UnlessDeep (Err errors.Memory) next deep at = ⊥

-- whether the level behind a lexeme is too high
abbrev pub is_deep : WalkShape → Lexeme → Bool
is_deep w l = nat_lt MOST_LEVEL (walked w l.token).level

-- the same with the walk
abbrev pub GoesOn : Result (Option (Box Term Global)) SyntaxError → State → Walk → StateShape → WalkShape → Lexeme → Type 0
GoesOn (Ok t) s v x w l = (judgement x (is_deep w l) l ≡ None) × (step true x l ≡ Some (left t s)) × (walk_shape v ≡ walked w l.token)
GoesOn (Err (errors.Fault f)) s v x w l = (judgement x (is_deep w l) l ≡ Some f.kind) × (f.at ≡ l.at)
GoesOn (Err errors.Memory) s v x w l = Unit {0}

-- what any lexeme leaves
abbrev pub Feeds : Result (Option (Box Term Global)) SyntaxError → State → Walk → StateShape → WalkShape → Lexeme → Type 0
Feeds (Ok t) s v x w l = (verdict x w l ≡ None) × (step true x l ≡ Some (left t s)) × (walk_shape v ≡ walked w l.token)
Feeds (Err (errors.Fault f)) s v x w l = (verdict x w l ≡ Some f.kind) × (f.at ≡ l.at)
Feeds (Err errors.Memory) s v x w l = Unit {0}

-- what was read
abbrev pub Reads : Result Term SyntaxError → Result Marked SyntaxFault → Type 0
Reads (Ok t) r = r ≡ Ok (marked_of t)
Reads (Err (errors.Fault f)) r = r ≡ Err f
Reads (Err errors.Memory) r = Unit {0}
