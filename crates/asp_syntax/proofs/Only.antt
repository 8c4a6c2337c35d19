-- A program that stays within the levels is read, and nothing else is.
use Rattle.std.proofs.Common.{◌≡◌, ◌≤◌, Bool, true, false, List, [], ◌∷◌, ◌++◌, Option, Some, None, Result, Ok, Err, refl, sym, ap, subst, ◌∙◌, append_assoc, arith}
use Rattle.std.specs.Prelude.{nat_lt}
use Rattle.std.proofs.lemmas.Bool.{ltb-false}
use Rattle.asp_model.specs.declared.limits.TheConstants.{MOST_LEVEL}
use Rattle.asp_model.specs.Marked.{Marked}
use Rattle.syntax_tokens.specs.declared.token.Token.{Token}
use Rattle.syntax_tokens.specs.declared.token.Token.TheVariants as tokens
use Rattle.asp_syntax.specs.declared.error.SyntaxKind.{SyntaxKind}
use Rattle.asp_syntax.specs.declared.error.SyntaxKind.TheVariants.{BadByte, BadNumber, Unexpected, TooDeep, NotAField}
use Rattle.asp_syntax.specs.declared.error.SyntaxFault.{SyntaxFault}
use Rattle.syntax_tokens.specs.Tokens.{Lexeme}
use Rattle.syntax_grammar.specs.Grammar.{IsProgram, Begins}
use Rattle.syntax_grammar.specs.States.{StateShape, At, Done}
use Rattle.syntax_grammar.specs.Closings.{◌>>=◌}
use Rattle.syntax_grammar.specs.Machine.{step, run, start}
use Rattle.syntax_tokens.specs.Levels.{WalkShape, walked, walk, flat, level_after}
use Rattle.asp_syntax.specs.Faults.{IsFault}
use Rattle.asp_syntax.specs.Read.{verdict, onto, read, read_all}
use Rattle.syntax_tokens.proofs.Endings.{EndsWell}
use Rattle.syntax_grammar.proofs.Running.{run_append}
use Rattle.syntax_grammar.proofs.Complete.{complete}
use Rattle.syntax_grammar.proofs.Sound.{sound}
use Rattle.syntax_grammar.proofs.Stepping.{strict_step, IsNone, none_steps, done_end}
use Rattle.asp_syntax.proofs.First.{Answer, answers, shallow, comes_on, ends_next, last_one}

strict_run : (ls : List Lexeme) (x y : StateShape) → run true x ls ≡ Some y → run false x ls ≡ Some y
strict_run [] x y e = e
strict_run (l ∷ ls) x y e = onward (step true x l) refl e (λ z f. strict_run ls z y f) where
  onward : (z : Option StateShape) → step true x l ≡ z → (z >>= λ v. run true v ls) ≡ Some y → ((v : StateShape) → run true v ls ≡ Some y → run false v ls ≡ Some y) → run false x (l ∷ ls) ≡ Some y
  onward None f e h = absurd cc
  onward (Some z) f e h = ap (λ (v : Option StateShape). v >>= λ u. run false u ls) (strict_step x l z f) ∙ h z e

-- a program under the rule on `:=` is one without it
freely : (ls : List Lexeme) (t : Marked) → IsProgram true ls t → IsProgram false ls t
freely ls t p = sound false ls t (strict_run ls start (Done t) (complete true ls t p))

stopped : (z : Option StateShape) (l : Lexeme) (ls : List Lexeme) → IsNone l.token → (z >>= λ x. run true x (l ∷ ls)) ≡ None
stopped None l ls h = refl
stopped (Some x) l ls h = ap (λ (v : Option StateShape). v >>= λ u. run true u ls) (none_steps true x l h)

never : (before ls : List Lexeme) (l : Lexeme) (u : Marked) → IsProgram true (before ++ l ∷ ls) u → IsNone l.token → ⊥
never before ls l u p h =
    let a : run true start (before ++ l ∷ ls) ≡ Some (Done u) = complete true (before ++ l ∷ ls) u p in
    let b : run true start (before ++ l ∷ ls) ≡ None = run_append true start before (l ∷ ls) ∙ stopped (run true start before) l ls h in
    absurd cc

none_is : (t u : Token) → t ≡ u → IsNone u → IsNone t
none_is t u e h = subst IsNone (sym e) h

begun_by : (s : Bool) (before ls : List Lexeme) (l : Lexeme) (u : Marked) → IsProgram s (before ++ l ∷ ls) u → Begins s (before ++ l ∷ [])
begun_by s before ls l u p = record { rest = ls; program = u; is = subst (λ ms. IsProgram s ms u) (sym (append_assoc before (l ∷ []) ls)) p }

-- a program that stays within the levels has no fault
no_fault : (kind : SyntaxKind) (before ls : List Lexeme) (l : Lexeme) (u : Marked) → IsProgram true (before ++ l ∷ ls) u → level_after (before ++ l ∷ []) ≤ MOST_LEVEL → IsFault kind before l → ⊥
no_fault BadByte before ls l u p low i = never before ls l u p (none_is l.token tokens.BadByte i tt)
no_fault BadNumber before ls l u p low i = never before ls l u p (none_is l.token tokens.BadNumber i tt)
no_fault Unexpected before ls l u p low i = i.1 (begun_by false before ls l u (freely (before ++ l ∷ ls) u p))
no_fault TooDeep before ls l u p low i = absurd (omega (arith, i.1, low))
no_fault NotAField before ls l u p low i = i.3 (begun_by true before ls l u p)

abbrev pub IsLow : List Lexeme → Type 0
IsLow ls = (before behind : List Lexeme) → ls ≡ before ++ behind → level_after before ≤ MOST_LEVEL

module _ (ls : List Lexeme) (t : Marked) (p : IsProgram true ls t) (low : IsLow ls) where
  is_ok : (r : Result Marked SyntaxFault) → Answer ls r → r ≡ Ok t
  is_ok (Ok u) q =
      let a : run true start ls ≡ Some (Done t) = complete true ls t p in
      let b : run true start ls ≡ Some (Done u) = complete true ls u q in
      let e : Some (Done u) ≡ Some (Done t) = sym b ∙ a in
      ap (λ (v : Marked). Ok v) cc
  is_ok (Err f) i =
      absurd (no_fault f.kind i.before i.behind i.here t (subst (λ ms. IsProgram true ms t) i.whole p) (low (i.before ++ i.here ∷ []) i.behind (i.whole ∙ sym (append_assoc i.before (i.here ∷ []) i.behind))) i.is)

-- each program within the levels is read
pub only : (ls : List Lexeme) (t : Marked) → EndsWell ls → IsProgram true ls t → IsLow ls → read_all ls ≡ Ok t
only ls t well p low = is_ok ls t p low (read_all ls) (answers ls well)

-- every level that is reached from a walk on
abbrev StaysLow : WalkShape → List Lexeme → Type 0
StaysLow w [] = Unit {0}
StaysLow w (l ∷ ls) = ((walked w l.token).level ≤ MOST_LEVEL) × StaysLow (walked w l.token) ls

low_at : (w : WalkShape) (before behind : List Lexeme) → w.level ≤ MOST_LEVEL → StaysLow w (before ++ behind) → (walk w before).level ≤ MOST_LEVEL
low_at w [] behind h g = h
low_at w (l ∷ before) behind h g = low_at (walked w l.token) before behind g.0 g.1

module _ (x : StateShape) (w : WalkShape) (l : Lexeme) (ls : List Lexeme) (t : Marked) (well : EndsWell (l ∷ ls))
    (more : (y : StateShape) → EndsWell ls → read y (walked w l.token) ls ≡ Ok t → StaysLow (walked w l.token) ls) where
  here_low : verdict x w l ≡ None → (walked w l.token).level ≤ MOST_LEVEL
  here_low e = ltb-false MOST_LEVEL (walked w l.token).level (shallow l.token (step false x l) (nat_lt MOST_LEVEL (walked w l.token).level) (step true x l) e)

  low_onto : (v : Option SyntaxKind) (z : Option StateShape) → verdict x w l ≡ v → step true x l ≡ z → onto l.at v z (λ y. read y (walked w l.token) ls) ≡ Ok t → StaysLow w (l ∷ ls)
  low_onto (Some kind) z e f h = absurd cc
  low_onto None None e f h = absurd cc
  low_onto None (Some (Done u)) e f h = (here_low e, let over : ls ≡ [] = last_one l ls (done_end x l u f) well in subst (λ ms. StaysLow (walked w l.token) ms) (sym over) tt)
  low_onto None (Some (At m s o)) e f h = (here_low e, more (At m s o) (ends_next l ls (comes_on x w l m s o e f) well) h)

stays_low : (ls : List Lexeme) (x : StateShape) (w : WalkShape) (t : Marked) → EndsWell ls → read x w ls ≡ Ok t → StaysLow w ls
stays_low [] x w t well e = absurd well
stays_low (l ∷ ls) x w t well e = low_onto x w l ls t well (λ y g h. stays_low ls y (walked w l.token) t g h) (verdict x w l) (step true x l) refl refl e

-- what is read stays within the levels
pub low_read : (ls : List Lexeme) (t : Marked) → EndsWell ls → read_all ls ≡ Ok t → IsLow ls
low_read ls t well e before behind h = low_at flat before behind (omega arith) (subst (λ ms. StaysLow flat ms) h (stays_low ls start flat t well e))
