-- Reading answers the first fault.
use Rattle.std.proofs.Common.{◌≡◌, ◌≢◌, ◌≤◌, ◌<◌, Bool, true, false, List, [], ◌∷◌, ◌++◌, Option, Some, None, Result, Ok, Err, refl, sym, ap, subst, ◌∙◌, append_assoc, arith, inl, inr}
use Rattle.std.proofs.lemmas.Bool.{ltb-true, ltb-false}
use Rattle.std.specs.Prelude.{nat_lt}
use Rattle.asp_model.specs.declared.limits.TheConstants.{MOST_LEVEL}
use Rattle.asp_model.specs.Marked.{Marked}
use Rattle.syntax_tokens.specs.declared.token.Token.{Token}
use Rattle.syntax_tokens.specs.declared.token.Token.TheVariants as tokens
use Rattle.asp_syntax.specs.declared.error.SyntaxKind.{SyntaxKind}
use Rattle.asp_syntax.specs.declared.error.SyntaxKind.TheVariants.{BadByte, BadNumber, Unexpected, TooDeep, NotAField}
use Rattle.asp_syntax.specs.declared.error.SyntaxFault.{SyntaxFault}
use Rattle.syntax_tokens.specs.Tokens.{Lexeme}
use Rattle.syntax_grammar.specs.Grammar.{IsProgram, Begins}
use Rattle.syntax_grammar.specs.States.{ModeShape, OpenShape, StateShape, At, Done}
use Rattle.syntax_grammar.specs.Closings.{◌>>=◌}
use Rattle.syntax_grammar.specs.Machine.{step, run, start}
use Rattle.syntax_tokens.specs.Levels.{WalkShape, walked, walk, flat, level_after}
use Rattle.asp_syntax.specs.Faults.{number_of, IsFault, Clean, nowhere, nor_here, FirstFault}
use Rattle.syntax_tokens.specs.Cursors.{goes_on}
use Rattle.asp_syntax.specs.Read.{judged, bad, verdict, onto, read, read_all}
use Rattle.syntax_tokens.proofs.Endings.{EndsWell}
use Rattle.syntax_grammar.proofs.Running.{run_append}
use Rattle.syntax_grammar.proofs.Running as running
use Rattle.syntax_grammar.proofs.Complete as complete
use Rattle.syntax_grammar.proofs.Sound.{sound}
use Rattle.syntax_grammar.proofs.Viable.{viable}
use Rattle.syntax_grammar.proofs.Stepping.{strict_step, differs, end_not, done_end}

one_more : (s : Bool) (ls : List Lexeme) (x : StateShape) (l : Lexeme) (z : Option StateShape) → run s start ls ≡ Some x → step s x l ≡ z → run s start (ls ++ l ∷ []) ≡ z
one_more s ls x l None h g = running.goes_on s start x ls (l ∷ []) None h (ap (λ (z : Option StateShape). z >>= λ y. run s y []) g)
one_more s ls x l (Some y) h g = running.goes_on s start x ls (l ∷ []) (Some y) h (ap (λ (z : Option StateShape). z >>= λ y. run s y []) g)

no_more : (s : Bool) (ls : List Lexeme) (x : StateShape) (l : Lexeme) → run s start ls ≡ Some x → step s x l ≡ None → Begins s (ls ++ l ∷ []) → ⊥
no_more s ls x l h g b =
    let e : run s start ((ls ++ l ∷ []) ++ b.rest) ≡ Some (Done b.program) = complete.complete s ((ls ++ l ∷ []) ++ b.rest) b.program b.is in
    let f : run s start ((ls ++ l ∷ []) ++ b.rest) ≡ None = run_append s start (ls ++ l ∷ []) b.rest ∙ ap (λ (z : Option StateShape). z >>= λ v. run s v b.rest) (one_more s ls x l None h g) in
    absurd cc

yet : (s : Bool) (ls : List Lexeme) (x y : StateShape) (l : Lexeme) → run s start ls ≡ Some x → step s x l ≡ Some y → Begins s (ls ++ l ∷ [])
yet s ls x y l h g = viable s (ls ++ l ∷ []) y (one_more s ls x l (Some y) h g)

walk_one_more : (w : WalkShape) (ls : List Lexeme) (l : Lexeme) → walk w (ls ++ l ∷ []) ≡ walked (walk w ls) l.token
walk_one_more w [] l = refl
walk_one_more w (k ∷ ls) l = walk_one_more (walked w k.token) ls l

-- what a verdict says
abbrev Says : List Lexeme → Lexeme → Option SyntaxKind → Type 0
Says ls l None = (kind : SyntaxKind) → IsFault kind ls l → ⊥
Says ls l (Some k) = IsFault k ls l × ((kind : SyntaxKind) → IsFault kind ls l → number_of k ≤ number_of kind)

-- a token, and no sign that none stands at a place
record IsToken (t : Token) : Type 0 where
  not_byte : t ≢ tokens.BadByte
  not_number : t ≢ tokens.BadNumber

module _ (ls : List Lexeme) (l : Lexeme) (x : StateShape) (strict : run true start ls ≡ Some x) (loose : run false start ls ≡ Some x) (low : level_after ls ≤ MOST_LEVEL) (is_token : IsToken l.token) where
  none_at : (y z : StateShape) → step false x l ≡ Some y → nat_lt MOST_LEVEL (level_after (ls ++ l ∷ [])) ≡ false → step true x l ≡ Some z → (kind : SyntaxKind) → IsFault kind ls l → ⊥
  none_at y z f d g BadByte i = is_token.not_byte i
  none_at y z f d g BadNumber i = is_token.not_number i
  none_at y z f d g Unexpected i = i.1 (yet false ls x y l loose f)
  none_at y z f d g TooDeep i = let le : level_after (ls ++ l ∷ []) ≤ MOST_LEVEL = ltb-false MOST_LEVEL (level_after (ls ++ l ∷ [])) d in absurd (omega (arith, i.1, le))
  none_at y z f d g NotAField i = i.3 (yet true ls x z l strict g)

  least_unexpected : (kind : SyntaxKind) → IsFault kind ls l → 3 ≤ number_of kind
  least_unexpected BadByte i = absurd (is_token.not_byte i)
  least_unexpected BadNumber i = absurd (is_token.not_number i)
  least_unexpected Unexpected i = omega arith
  least_unexpected TooDeep i = omega arith
  least_unexpected NotAField i = omega arith

  least_deep : (y : StateShape) → step false x l ≡ Some y → (kind : SyntaxKind) → IsFault kind ls l → 4 ≤ number_of kind
  least_deep y f BadByte i = absurd (is_token.not_byte i)
  least_deep y f BadNumber i = absurd (is_token.not_number i)
  least_deep y f Unexpected i = absurd (i.1 (yet false ls x y l loose f))
  least_deep y f TooDeep i = omega arith
  least_deep y f NotAField i = omega arith

  least_field : (y : StateShape) → step false x l ≡ Some y → nat_lt MOST_LEVEL (level_after (ls ++ l ∷ [])) ≡ false → (kind : SyntaxKind) → IsFault kind ls l → 5 ≤ number_of kind
  least_field y f d BadByte i = absurd (is_token.not_byte i)
  least_field y f d BadNumber i = absurd (is_token.not_number i)
  least_field y f d Unexpected i = absurd (i.1 (yet false ls x y l loose f))
  least_field y f d TooDeep i = let le : level_after (ls ++ l ∷ []) ≤ MOST_LEVEL = ltb-false MOST_LEVEL (level_after (ls ++ l ∷ [])) d in absurd (omega (arith, i.1, le))
  least_field y f d NotAField i = omega arith

  assigns : (y : StateShape) → step false x l ≡ Some y → step true x l ≡ None → l.token ≡ tokens.Assign
  assigns y f g = elim (differs x l) [ inl e ↦ absurd cc | inr e ↦ e ]

  judged_says : (y : Option StateShape) (d : Bool) (z : Option StateShape) → step false x l ≡ y → nat_lt MOST_LEVEL (level_after (ls ++ l ∷ [])) ≡ d → step true x l ≡ z → Says ls l (judged y d z)
  judged_says None d z f e g = ((viable false ls x loose, no_more false ls x l loose f), least_unexpected)
  judged_says (Some y) true z f e g =
      let lt : MOST_LEVEL < level_after (ls ++ l ∷ []) = ltb-true MOST_LEVEL (level_after (ls ++ l ∷ [])) e in
      ((omega (arith, lt, low), lt), least_deep y f)
  judged_says (Some y) false None f e g = ((assigns y f g, viable true ls x strict, yet false ls x y l loose f, no_more true ls x l strict g), least_field y f e)
  judged_says (Some y) false (Some z) f e g = none_at y z f e g

least_byte : (ls : List Lexeme) (l : Lexeme) (kind : SyntaxKind) → IsFault kind ls l → 1 ≤ number_of kind
least_byte ls l BadByte i = omega arith
least_byte ls l BadNumber i = omega arith
least_byte ls l Unexpected i = omega arith
least_byte ls l TooDeep i = omega arith
least_byte ls l NotAField i = omega arith

least_number : (ls : List Lexeme) (l : Lexeme) → l.token ≡ tokens.BadNumber → (kind : SyntaxKind) → IsFault kind ls l → 2 ≤ number_of kind
least_number ls l e BadByte i = absurd cc
least_number ls l e BadNumber i = omega arith
least_number ls l e Unexpected i = omega arith
least_number ls l e TooDeep i = omega arith
least_number ls l e NotAField i = omega arith

bad_says : (ls : List Lexeme) (l : Lexeme) (t : Token) (v : Option SyntaxKind) → l.token ≡ t → (IsToken t → Says ls l v) → Says ls l (bad t v)
bad_says ls l tokens.BadByte v e h = (e, least_byte ls l)
bad_says ls l tokens.BadNumber v e h = (e, least_number ls l e)
bad_says ls l _ v e h = h (record { not_byte = λ g. absurd cc; not_number = λ g. absurd cc })

verdict_says : (ls : List Lexeme) (l : Lexeme) (x : StateShape) → run true start ls ≡ Some x → run false start ls ≡ Some x → level_after ls ≤ MOST_LEVEL → Says ls l (verdict x (walk flat ls) l)
verdict_says ls l x strict loose low =
    let d : Bool = nat_lt MOST_LEVEL (walked (walk flat ls) l.token).level in
    bad_says ls l l.token (judged (step false x l) d (step true x l)) refl
    (λ b. judged_says ls l x strict loose low b (step false x l) d (step true x l) refl (ap (λ (w : WalkShape). nat_lt MOST_LEVEL w.level) (walk_one_more flat ls l)) refl)

-- a verdict that finds nothing
pub goes : (t : Token) (y : Option StateShape) (d : Bool) → bad t (judged y d None) ≡ None → ⊥
goes tokens.BadByte y d e = absurd cc
goes tokens.BadNumber y d e = absurd cc
goes _ None d e = absurd cc
goes _ (Some y) true e = absurd cc
goes _ (Some y) false e = absurd cc

pub shallow : (t : Token) (y : Option StateShape) (d : Bool) (z : Option StateShape) → bad t (judged y d z) ≡ None → d ≡ false
shallow tokens.BadByte y d z e = absurd cc
shallow tokens.BadNumber y d z e = absurd cc
shallow _ None d z e = absurd cc
shallow _ (Some y) true z e = absurd cc
shallow _ (Some y) false z e = refl

not_last : (t : Token) (v : Option SyntaxKind) → bad t v ≡ None → (t ≡ tokens.End → ⊥) → goes_on t ≡ true
not_last tokens.BadByte v e h = absurd cc
not_last tokens.BadNumber v e h = absurd cc
not_last tokens.End v e h = absurd (h refl)
not_last _ v e h = refl

-- behind a lexeme from which reading goes on others come
pub comes_on : (x : StateShape) (w : WalkShape) (l : Lexeme) (m : ModeShape) (s : OpenShape) (o : List OpenShape) → verdict x w l ≡ None → step true x l ≡ Some (At m s o) → goes_on l.token ≡ true
comes_on x w l m s o e f = not_last l.token (judged (step false x l) (nat_lt MOST_LEVEL (walked w l.token).level) (step true x l)) e (end_not x l m s o f)

pub ends_next : (l : Lexeme) (ls : List Lexeme) → goes_on l.token ≡ true → EndsWell (l ∷ ls) → EndsWell ls
ends_next l [] e h = absurd cc
ends_next l (m ∷ ls) e h = h.1

pub last_one : (l : Lexeme) (ls : List Lexeme) → l.token ≡ tokens.End → EndsWell (l ∷ ls) → ls ≡ []
last_one l [] e h = refl
last_one l (m ∷ ls) e h = let f : true ≡ false = sym h.0 ∙ ap goes_on e in absurd cc

abbrev pub Answer : List Lexeme → Result Marked SyntaxFault → Type 0
Answer ls (Ok t) = IsProgram true ls t
Answer ls (Err f) = FirstFault ls f

answer_moved : (ls ms : List Lexeme) (r : Result Marked SyntaxFault) → ls ≡ ms → Answer ls r → Answer ms r
answer_moved ls ms r e h = subst (λ l. Answer l r) e h

abbrev Reads : List Lexeme → List Lexeme → StateShape → WalkShape → Type 0
Reads ls before x w = w ≡ walk flat before → run true start before ≡ Some x → run false start before ≡ Some x → level_after before ≤ MOST_LEVEL → Clean before → EndsWell ls → Answer (before ++ ls) (read x w ls)

module _ (l : Lexeme) (ls before : List Lexeme) (x : StateShape) (w : WalkShape) (is : w ≡ walk flat before) (strict : run true start before ≡ Some x) (loose : run false start before ≡ Some x)
    (low : level_after before ≤ MOST_LEVEL) (clean : Clean before) (well : EndsWell (l ∷ ls)) (more : (y : StateShape) → Reads ls (before ++ l ∷ []) y (walked w l.token)) where
  says : Says before l (verdict x w l)
  says = subst (λ v. Says before l (verdict x v l)) (sym is) (verdict_says before l x strict loose low)

  next_clean : verdict x w l ≡ None → Clean (before ++ l ∷ [])
  next_clean e = nor_here before l clean (subst (λ v. Says before l v) e says)

  next_walk : walked w l.token ≡ walk flat (before ++ l ∷ [])
  next_walk = ap (λ (v : WalkShape). walked v l.token) is ∙ sym (walk_one_more flat before l)

  next_low : verdict x w l ≡ None → level_after (before ++ l ∷ []) ≤ MOST_LEVEL
  next_low e =
      let d : nat_lt MOST_LEVEL (walked w l.token).level ≡ false = shallow l.token (step false x l) (nat_lt MOST_LEVEL (walked w l.token).level) (step true x l) e in
      subst (λ v. v.level ≤ MOST_LEVEL) next_walk (ltb-false MOST_LEVEL (walked w l.token).level d)

  at_lexeme : (v : Option SyntaxKind) (z : Option StateShape) → verdict x w l ≡ v → step true x l ≡ z → Answer (before ++ l ∷ ls) (onto l.at v z (λ y. read y (walked w l.token) ls))
  at_lexeme (Some kind) z e f =
      let h : Says before l (Some kind) = subst (λ v. Says before l v) e says in
      record { before = before; here = l; behind = ls; whole = refl; clean = clean; place = refl; is = h.0; least = h.1 }
  at_lexeme None None e f = absurd (goes l.token (step false x l) (nat_lt MOST_LEVEL (walked w l.token).level) (ap (λ (z : Option StateShape). bad l.token (judged (step false x l) (nat_lt MOST_LEVEL (walked w l.token).level) z)) (sym f) ∙ e))
  at_lexeme None (Some (Done t)) e f =
      let over : ls ≡ [] = last_one l ls (done_end x l t f) well in
      subst (λ ms. IsProgram true (before ++ l ∷ ms) t) (sym over) (sound true (before ++ l ∷ []) t (one_more true before x l (Some (Done t)) strict f))
  at_lexeme None (Some (At m s o)) e f =
      answer_moved ((before ++ l ∷ []) ++ ls) (before ++ l ∷ ls) (read (At m s o) (walked w l.token) ls) (append_assoc before (l ∷ []) ls)
      (more (At m s o) next_walk (one_more true before x l (Some (At m s o)) strict f) (one_more false before x l (Some (At m s o)) loose (strict_step x l (At m s o) f)) (next_low e) (next_clean e) (ends_next l ls (comes_on x w l m s o e f) well))

reads : (ls before : List Lexeme) (x : StateShape) (w : WalkShape) → Reads ls before x w
reads [] before x w is a b c d well = absurd well
reads (l ∷ ls) before x w is a b c d well = at_lexeme l ls before x w is a b c d well (λ y. reads ls (before ++ l ∷ []) y (walked w l.token)) (verdict x w l) (step true x l) refl refl

-- reading gives the program where there is no fault, and else the first fault
pub answers : (ls : List Lexeme) → EndsWell ls → Answer ls (read_all ls)
answers ls well = reads ls [] start flat refl refl refl (omega arith) nowhere well
