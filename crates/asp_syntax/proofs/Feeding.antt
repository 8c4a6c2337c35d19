-- Reading, one lexeme on, and what the reader's answer says.
use Rattle.std.proofs.Common.{◌≡◌, ◌≢◌, ℕ, ◌≤◌, Bool, true, false, Option, Some, None, Result, Ok, Err, refl, ap, sym, subst, ◌∙◌, List, [], if◌then◌else◌}
use Rattle.std.specs.Prelude.{nat_lt, OnOk}
use Rattle.std.proofs.lemmas.Bool.{ltb-false}
use Rattle.asp_model.specs.declared.limits.TheConstants.{MOST_LEVEL}
use Rattle.asp_model.specs.declared.term.Term.{Term}
use Rattle.asp_model.specs.Marked.{Marked}
use Rattle.asp_model.specs.Shapes.{marked_of}
use Rattle.syntax_tokens.specs.declared.token.Token.{Token}
use Rattle.syntax_tokens.specs.declared.token.Token.TheVariants as tokens
use Rattle.syntax_tokens.specs.declared.token.Cursor.{Cursor}
use Rattle.asp_syntax.specs.declared.error.SyntaxKind.{SyntaxKind}
use Rattle.asp_syntax.specs.declared.error.SyntaxKind.TheVariants.{Unexpected, TooDeep, NotAField}
use Rattle.asp_syntax.specs.declared.error.SyntaxFault.{SyntaxFault}
use Rattle.asp_syntax.specs.declared.error.SyntaxError.{SyntaxError}
use Rattle.asp_syntax.specs.declared.error.SyntaxError.TheVariants as errors
use Rattle.std.specs.declared.alloc.Global.{Global}
use Rattle.std.specs.declared.boxed.Box.{Box}
use Rattle.syntax_tokens.specs.declared.levels.Walk.{Walk}
use Rattle.syntax_states.specs.declared.state.State.{State}
use Rattle.syntax_tokens.specs.Tokens.{Lexeme, Between, lexemes_of}
use Rattle.syntax_tokens.specs.Levels.{WalkShape, walked}
use Rattle.asp_syntax.specs.Faults.{FirstFault}
use Rattle.asp_syntax.specs.Correct.{IsProgramText, IfFault, IsOkWith}
use Rattle.syntax_tokens.specs.Cursors.{goes_on, from, lexeme_of, lexemes}
use Rattle.syntax_grammar.specs.States.{ModeShape, OpenShape, StateShape, At, Done}
use Rattle.syntax_grammar.specs.Machine.{step}
use Rattle.asp_syntax.specs.Read.{judged, bad, verdict, fault_at, onto, read, read_all}
use Rattle.asp_syntax.specs.Answers.{judgement, is_deep, Judges, GoesOn, Feeds, Reads}
use Rattle.syntax_tokens.proofs.Endings.{text_ends}
use Rattle.syntax_grammar.specs.Depth.{parentheses_in}
use Rattle.syntax_grammar.proofs.Shallow.{IsShallow, shallow_few}
use Rattle.syntax_states.specs.Shapes.{state_shape}
use Rattle.syntax_states.specs.Answers.{left}
use Rattle.asp_syntax.proofs.First.{Answer, answers, comes_on}
use Rattle.asp_syntax.proofs.Only.{only, low_read}

pub judged_none : (y z : Option StateShape) (d : Bool) → y ≡ None → judged y d z ≡ Some Unexpected
judged_none y z d e = rw e refl

pub judged_deep : (y z : Option StateShape) (d : Bool) → y ≢ None → d ≡ true → judged y d z ≡ Some TooDeep
judged_deep None z d h e = absurd (h refl)
judged_deep (Some y) z d h e = rw e refl

pub judged_field : (y z : Option StateShape) (d : Bool) → y ≢ None → z ≡ None → d ≡ false → judged y d z ≡ Some NotAField
judged_field None z d h f e = absurd (h refl)
judged_field (Some y) z d h f e = rw (e, f) refl

pub judged_high : (x : StateShape) (y z : Option StateShape) (d : Bool) → y ≡ Some x → d ≡ true → judged y d z ≡ Some TooDeep
judged_high x y z d f e = rw (f, e) refl

pub judged_low : (x : StateShape) (y z : Option StateShape) (d : Bool) → y ≡ Some x → z ≡ Some x → d ≡ false → judged y d z ≡ None
judged_low x y z d f g e = rw (f, g, e) refl

pub ruleset judgements = (judged_none, judged_deep, judged_field, judged_high, judged_low)

pub judged_shallow : (y z : Option StateShape) (n : ℕ) → judged y (nat_lt MOST_LEVEL n) z ≡ None → n ≤ MOST_LEVEL
judged_shallow y z n e = ltb-false MOST_LEVEL n (shut y z (nat_lt MOST_LEVEL n) e) where
  shut : (y z : Option StateShape) (d : Bool) → judged y d z ≡ None → d ≡ false
  shut None z d e = absurd cc
  shut (Some y) z true e = absurd cc
  shut (Some y) z false e = refl

pub judged_on : (r : Result (Option (Box Term Global)) SyntaxError) (s : State) (x : StateShape) (n : ℕ) (l : Lexeme) → Judges r s x (nat_lt MOST_LEVEL n) l → OnOk r (n ≤ MOST_LEVEL)
judged_on (Ok t) s x n l h = judged_shallow (step false x l) (step true x l) n h.0
judged_on (Err e) s x n l h = tt

-- the fault of a place at which no token stands does not depend on the state
pub bad_some : (t : Token) (v : Option SyntaxKind) (k : SyntaxKind) → Some k ≡ bad t None → bad t v ≡ Some k
bad_some tokens.BadByte v k e = sym e
bad_some tokens.BadNumber v k e = sym e
bad_some _ v k e = absurd cc

bad_none : (t : Token) (v : Option SyntaxKind) → None ≡ bad t None → bad t v ≡ v
bad_none tokens.BadByte v e = absurd cc
bad_none tokens.BadNumber v e = absurd cc
bad_none _ v e = refl

pub bad_feeds : (s : State) (v : Walk) (x : StateShape) (w : WalkShape) (l : Lexeme) (k : SyntaxKind) → Some k ≡ bad l.token None → Feeds (Err (errors.Fault (fault_at l.at k))) s v x w l
bad_feeds s v x w l k e = (bad_some l.token (judgement x (is_deep w l) l) k e, refl)

pub token_feeds : (r : Result (Option (Box Term Global)) SyntaxError) (s : State) (v : Walk) (x : StateShape) (w : WalkShape) (l : Lexeme) → None ≡ bad l.token None → GoesOn r s v x w l → Feeds r s v x w l
token_feeds (Ok t) s v x w l g (a, b, c) = (bad_none l.token (judgement x (is_deep w l) l) g ∙ a, b, c)
token_feeds (Err (errors.Fault e)) s v x w l g (a, b) = (bad_none l.token (judgement x (is_deep w l) l) g ∙ a, b)
token_feeds (Err errors.Memory) s v x w l g u = tt

pub left_none : (o : Option (Box Term Global)) (s : State) → ((b : Box Term Global) → o ≢ Some b) → left o s ≡ state_shape s
left_none None s h = refl
left_none (Some b) s h = absurd (h b refl)

pub state_few : (s : State) (w : WalkShape) → IsShallow (state_shape s) w → parentheses_in (state_shape s) ≤ MOST_LEVEL
state_few s w h = shallow_few (state_shape s) w h

module _ (bytes : List ℕ) (here : Cursor) (after : ℕ) (x : StateShape) (w : WalkShape) (next : lexemes bytes here ≡ from Between bytes after) where
  abbrev behind : List Lexeme
  behind = if goes_on here.token then from Between bytes here.after else []

  first : read x w (from Between bytes after) ≡ onto here.at (verdict x w (lexeme_of here)) (step true x (lexeme_of here)) (λ y. read y (walked w here.token) behind)
  first = ap (read x w) (sym next)

  pub read_fault : (kind : SyntaxKind) → verdict x w (lexeme_of here) ≡ Some kind → read x w (from Between bytes after) ≡ Err (fault_at here.at kind)
  read_fault kind e = first ∙ ap (λ (v : Option SyntaxKind). onto here.at v (step true x (lexeme_of here)) (λ y. read y (walked w here.token) behind)) e

  pub read_done : (t : Marked) → verdict x w (lexeme_of here) ≡ None → step true x (lexeme_of here) ≡ Some (Done t) → read x w (from Between bytes after) ≡ Ok t
  read_done t e f =
      first ∙ ap (λ (v : Option SyntaxKind). onto here.at v (step true x (lexeme_of here)) (λ y. read y (walked w here.token) behind)) e
      ∙ ap (λ (z : Option StateShape). onto here.at None z (λ y. read y (walked w here.token) behind)) f

  pub read_on : (m : ModeShape) (s : OpenShape) (o : List OpenShape) → verdict x w (lexeme_of here) ≡ None → step true x (lexeme_of here) ≡ Some (At m s o)
      → read x w (from Between bytes after) ≡ read (At m s o) (walked w here.token) (from Between bytes here.after)
  read_on m s o e f =
      first ∙ ap (λ (v : Option SyntaxKind). onto here.at v (step true x (lexeme_of here)) (λ y. read y (walked w here.token) behind)) e
      ∙ ap (λ (z : Option StateShape). onto here.at None z (λ y. read y (walked w here.token) behind)) f
      ∙ ap (λ (b : Bool). read (At m s o) (walked w here.token) (if b then from Between bytes here.after else [])) (comes_on x w (lexeme_of here) m s o e f)

-- what was read is the program of the text
pub is_program : (bytes : List ℕ) (t : Marked) → read_all (lexemes_of bytes) ≡ Ok t → IsProgramText bytes t
is_program bytes t e =
    let P : Result Marked SyntaxFault → Type 0 = λ r. Answer (lexemes_of bytes) r in
    record { is = subst P e (answers (lexemes_of bytes) (text_ends bytes)); low = low_read (lexemes_of bytes) t (text_ends bytes) e }

pub is_first : (bytes : List ℕ) (f : SyntaxFault) → read_all (lexemes_of bytes) ≡ Err f → FirstFault (lexemes_of bytes) f
is_first bytes f e = let P : Result Marked SyntaxFault → Type 0 = λ r. Answer (lexemes_of bytes) r in subst P e (answers (lexemes_of bytes) (text_ends bytes))

pub is_only : (bytes : List ℕ) (t : Marked) → IsProgramText bytes t → read_all (lexemes_of bytes) ≡ Ok t
is_only bytes t p = only (lexemes_of bytes) t (text_ends bytes) p.is p.low

-- what the answer of the inner reader says of the outer one's
pub ok_program : (r : Result Term SyntaxError) (bytes : List ℕ) (t : Term) → r ≡ Ok t → Reads r (read_all (lexemes_of bytes)) → IsProgramText bytes (marked_of t)
ok_program r bytes t e h = is_program bytes (marked_of t) (subst (λ x. Reads x (read_all (lexemes_of bytes))) e h)

pub ok_only : (r : Result Term SyntaxError) (bytes : List ℕ) (t : Term) (m : Marked) → r ≡ Ok t → Reads r (read_all (lexemes_of bytes)) → IsProgramText bytes m → marked_of t ≡ m
ok_only r bytes t m e h p =
    let f : read_all (lexemes_of bytes) ≡ Ok (marked_of t) = subst (λ x. Reads x (read_all (lexemes_of bytes))) e h in
    let g : read_all (lexemes_of bytes) ≡ Ok m = is_only bytes m p in
    cc

err_fault : (e : SyntaxError) (bytes : List ℕ) → Reads (Err e) (read_all (lexemes_of bytes)) → IfFault (Err e) (λ f. FirstFault (lexemes_of bytes) f)
err_fault (errors.Fault f) bytes h = is_first bytes f h
err_fault errors.Memory bytes h = tt

pub err_first : (r : Result Term SyntaxError) (bytes : List ℕ) (e : SyntaxError) → r ≡ Err e → Reads r (read_all (lexemes_of bytes)) → IfFault (Err e) (λ f. FirstFault (lexemes_of bytes) f)
err_first r bytes e i h = err_fault e bytes (subst (λ x. Reads x (read_all (lexemes_of bytes))) i h)

never_fault : (e : SyntaxError) (bytes : List ℕ) (m : Marked) → Reads (Err e) (read_all (lexemes_of bytes)) → IsProgramText bytes m → IsOkWith (Err e) m
never_fault (errors.Fault f) bytes m h p = let g : read_all (lexemes_of bytes) ≡ Ok m = is_only bytes m p in absurd cc
never_fault errors.Memory bytes m h p = tt

pub err_only : (r : Result Term SyntaxError) (bytes : List ℕ) (e : SyntaxError) (m : Marked) → r ≡ Err e → Reads r (read_all (lexemes_of bytes)) → IsProgramText bytes m → IsOkWith (Err e) m
err_only r bytes e m i h p = never_fault e bytes m (subst (λ x. Reads x (read_all (lexemes_of bytes))) i h) p
