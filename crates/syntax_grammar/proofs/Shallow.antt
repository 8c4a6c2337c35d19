-- The reader keeps its brackets and parentheses within the level.
use Rattle.std.proofs.Common.{◌≡◌, ℕ, ◌+◌, ◌-◌, ◌≤◌, ◌<◌, Bool, true, false, List, [], ◌∷◌, Option, Some, None, length, refl, sym, ap, subst, arith}
use Rattle.asp_model.specs.declared.limits.TheConstants.{MOST_LEVEL}
use Rattle.syntax_tokens.specs.declared.token.Token.{Token}
use Rattle.syntax_tokens.specs.declared.token.Token.TheVariants as tokens
use Rattle.syntax_tokens.specs.Tokens.{Lexeme}
use Rattle.syntax_grammar.specs.Nodes.{PartShape}
use Rattle.syntax_tokens.specs.Levels.{BracketShape, WalkShape, walked, closed}
use Rattle.syntax_tokens.specs.Ordered.{IsOrdered}
use Rattle.syntax_grammar.specs.States.{TargetShape, KindShape, Top, InList, InBinding, InBody, OpenShape, OperandShape, Plain, Access, OpenerShape, ByRound, ByBrace, ByEquals, ByComma, ModeShape, Begin, Want, Have, Dotted, ListBegun, Opening, LetNaming, ElseComing, EchoOpening, EchoText, EchoClosing, ObjectBegun, FieldNaming, MethodNaming, MethodNamed, SelfNaming, HeadNamed, ParameterNaming, StateShape, At, Done, has_terms, fresh, operand_part, ServiceNaming, ServiceNamed, GroupOpening, ScatterNaming, ServeOpening, ServeBegun, LabelNaming, LabelNamed}
use Rattle.syntax_grammar.specs.Changes as changes
use Rattle.syntax_grammar.specs.Machine as machine
use Rattle.syntax_grammar.specs.Closings.{first_mode, finished, finish}
use Rattle.syntax_grammar.specs.Changes.{ChangeShape, Goes, Opens, changed, operand, begin}
use Rattle.syntax_grammar.specs.Machine.{change_of, have, stepped, step}
use Rattle.syntax_grammar.specs.Depth.{parentheses_of, parentheses_in}
use Rattle.syntax_grammar.proofs.Depth.{kind_brackets, stack_brackets, opening_brackets, mode_brackets, ModeFits, Fits, IfFits, brackets_after, FinishedFits, finish_fits, behind_fits, listed_none}

abbrev ChangeFits : Option ChangeShape → ℕ → ℕ → Type 0
ChangeFits None b n = Unit {0}
ChangeFits (Some (Goes m)) b n = ModeFits m b n
ChangeFits (Some (Opens k)) b n = (kind_brackets k + b ≤ n) × (n ≤ MOST_LEVEL)

first_fits : (d : Bool) (k : KindShape) (s : OpenShape) (o : List OpenShape) (n : ℕ) → kind_brackets k + stack_brackets (s ∷ o) ≤ n → n ≤ MOST_LEVEL → Fits (At (first_mode d) (fresh k) (s ∷ o)) n
first_fits true k s o n h g = (omega (arith, h), omega (arith, g))
first_fits false k s o n h g = (omega (arith, h), omega (arith, g))

changed_fits : (c : Option ChangeShape) (s : OpenShape) (o : List OpenShape) (n : ℕ) → ChangeFits c (stack_brackets (s ∷ o)) n → IfFits (changed c s o) n
changed_fits None s o n h = tt
changed_fits (Some (Goes m)) s o n h = h
changed_fits (Some (Opens k)) s o n h = first_fits (has_terms k) k s o n h.0 h.1

at_most_one : (k : KindShape) → kind_brackets k ≤ 1
at_most_one Top = omega arith
at_most_one (InBinding at name_at x) = omega arith
at_most_one (InBody at name_at x t) = omega arith
at_most_one _ = omega arith

operand_fits : (t : Token) (at b n : ℕ) → b ≤ n → brackets_after t n ≤ MOST_LEVEL → ChangeFits (operand t at) b (brackets_after t n)
operand_fits (tokens.Number i) at b n h g = (omega (arith, h), omega (arith, g))
operand_fits (tokens.Name x) at b n h g = (omega (arith, h), omega (arith, g))
operand_fits tokens.Open at b n h g = (omega (arith, h), omega (arith, g))
operand_fits tokens.SquareOpen at b n h g = (omega (arith, h), omega (arith, g))
operand_fits tokens.Clone at b n h g = (omega (arith, h), omega (arith, g))
operand_fits tokens.Active at b n h g = (omega (arith, h), omega (arith, g))
operand_fits tokens.Serve at b n h g = (omega (arith, h), omega (arith, g))
operand_fits tokens.Repeat at b n h g = (omega (arith, h), omega (arith, g))
operand_fits tokens.Print at b n h g = (omega (arith, h), omega (arith, g))
operand_fits tokens.If at b n h g = (omega (arith, h), omega (arith, g))
operand_fits tokens.Echo at b n h g = (omega (arith, h), omega (arith, g))
operand_fits tokens.Group at b n h g = (omega (arith, h), omega (arith, g))
operand_fits tokens.Scatter at b n h g = (omega (arith, h), omega (arith, g))
operand_fits tokens.Size at b n h g = (omega (arith, h), omega (arith, g))
operand_fits tokens.Member at b n h g = (omega (arith, h), omega (arith, g))
operand_fits tokens.WaitAll at b n h g = (omega (arith, h), omega (arith, g))
operand_fits tokens.Pending at b n h g = (omega (arith, h), omega (arith, g))
operand_fits _ at b n h g = tt

begin_fits : (t : Token) (at b n : ℕ) → b ≤ n → brackets_after t n ≤ MOST_LEVEL → ChangeFits (begin t at) b (brackets_after t n)
begin_fits tokens.Let at b n h g = (omega (arith, h), omega (arith, g))
begin_fits t at b n h g = operand_fits t at b n h g

opening_fits : (opener : OpenerShape) (k : KindShape) (t : Token) (b n : ℕ) → opening_brackets opener k + b ≤ n → brackets_after t n ≤ MOST_LEVEL → ChangeFits (changes.opening opener k t) b (brackets_after t n)
opening_fits ByRound k tokens.Open b n h g = (omega (arith, h, at_most_one k), omega (arith, g))
opening_fits ByRound k _ b n h g = tt
opening_fits ByBrace k tokens.BraceOpen b n h g = (omega (arith, h, at_most_one k), omega (arith, g))
opening_fits ByBrace k _ b n h g = tt
opening_fits ByEquals k tokens.Equals b n h g = (omega (arith, h), omega (arith, g))
opening_fits ByEquals k _ b n h g = tt
opening_fits ByComma k tokens.Comma b n h g = (omega (arith, h), omega (arith, g))
opening_fits ByComma k _ b n h g = tt

change_fits : (m : ModeShape) (t : Token) (at b n : ℕ) → mode_brackets m + b ≤ n → brackets_after t n ≤ MOST_LEVEL → ChangeFits (change_of m t at) b (brackets_after t n)
change_fits Begin t at b n h g = begin_fits t at b n (omega (arith, h)) g
change_fits Want t at b n h g = operand_fits t at b n (omega (arith, h)) g
change_fits (Dotted p) (tokens.Name x) at b n h g = (omega (arith, h), omega (arith, g))
change_fits (Dotted p) _ at b n h g = tt
change_fits (Opening opener k) t at b n h g = opening_fits opener k t b n h g
change_fits (LetNaming i) (tokens.Name x) at b n h g = (omega (arith, h), omega (arith, g))
change_fits (LetNaming i) _ at b n h g = tt
change_fits (ServiceNaming i u) (tokens.Name label) at b n h g = (omega (arith, h), omega (arith, g))
change_fits (ServiceNaming i u) _ at b n h g = tt
change_fits (ServiceNamed i u j label) tokens.Close at b n h g = (omega (arith, h), omega (arith, g))
change_fits (ServiceNamed i u j label) _ at b n h g = tt
change_fits (GroupOpening i) tokens.Open at b n h g = (omega (arith, h), omega (arith, g))
change_fits (GroupOpening i) _ at b n h g = tt
change_fits (ScatterNaming i u) (tokens.Name label) at b n h g = (omega (arith, h), omega (arith, g))
change_fits (ScatterNaming i u) _ at b n h g = tt
change_fits (ServeOpening polls i) tokens.Open at b n h g = (omega (arith, h), omega (arith, g))
change_fits (ServeOpening polls i) _ at b n h g = tt
change_fits (ServeBegun x) tokens.Close at b n h g = (omega (arith, h), omega (arith, g))
change_fits (ServeBegun x) (tokens.Name label) at b n h g = (omega (arith, h), omega (arith, g))
change_fits (ServeBegun x) _ at b n h g = tt
change_fits (LabelNaming x) (tokens.Name label) at b n h g = (omega (arith, h), omega (arith, g))
change_fits (LabelNaming x) _ at b n h g = tt
change_fits (LabelNamed x) tokens.Comma at b n h g = (omega (arith, h), omega (arith, g))
change_fits (LabelNamed x) tokens.Close at b n h g = (omega (arith, h), omega (arith, g))
change_fits (LabelNamed x) _ at b n h g = tt
change_fits (ElseComing i c u) tokens.Else at b n h g = (omega (arith, h), omega (arith, g))
change_fits (ElseComing i c u) _ at b n h g = tt
change_fits (EchoOpening i) tokens.Open at b n h g = (omega (arith, h), omega (arith, g))
change_fits (EchoOpening i) _ at b n h g = tt
change_fits (EchoText i) (tokens.Text text) at b n h g = (omega (arith, h), omega (arith, g))
change_fits (EchoText i) _ at b n h g = tt
change_fits (EchoClosing i text) tokens.Close at b n h g = (omega (arith, h), omega (arith, g))
change_fits (EchoClosing i text) _ at b n h g = tt
change_fits (ObjectBegun x) tokens.Semicolon at b n h g = (omega (arith, h), omega (arith, g))
change_fits (ObjectBegun x) tokens.SquareClose at b n h g = (omega (arith, h), omega (arith, g))
change_fits (ObjectBegun x) (tokens.Name label) at b n h g = (omega (arith, h), omega (arith, g))
change_fits (ObjectBegun x) _ at b n h g = tt
change_fits (FieldNaming x) (tokens.Name label) at b n h g = (omega (arith, h), omega (arith, g))
change_fits (FieldNaming x) _ at b n h g = tt
change_fits (MethodNaming x) (tokens.Name label) at b n h g = (omega (arith, h), omega (arith, g))
change_fits (MethodNaming x) _ at b n h g = tt
change_fits (MethodNamed x label) tokens.Open at b n h g = (omega (arith, h), omega (arith, g))
change_fits (MethodNamed x label) _ at b n h g = tt
change_fits (SelfNaming x label) (tokens.Name slf) at b n h g = (omega (arith, h), omega (arith, g))
change_fits (SelfNaming x label) _ at b n h g = tt
change_fits (HeadNamed x top) tokens.Comma at b n h g = (omega (arith, h), omega (arith, g))
change_fits (HeadNamed x top) tokens.Close at b n h g = (omega (arith, h), omega (arith, g))
change_fits (HeadNamed x top) _ at b n h g = tt
change_fits (ParameterNaming x top) (tokens.Name name) at b n h g = (omega (arith, h), omega (arith, g))
change_fits (ParameterNaming x top) _ at b n h g = tt
change_fits _ t at b n h g = tt

have_fits : (x : OperandShape) (s : OpenShape) (o : List OpenShape) (t : Token) (n : ℕ) → stack_brackets (s ∷ o) ≤ n → parentheses_of (operand_part x).term + n ≤ MOST_LEVEL
    → brackets_after t n ≤ MOST_LEVEL → IfFits (have true x s o t) (brackets_after t n)
have_fits (Plain p) s o tokens.Open n h low g = tt
have_fits (Access p at label) s o tokens.Open n h low g = (omega (arith, h), omega (arith, g))
have_fits x s o t n h low g = behind_fits (operand_part x) s o n h low t

list_fits : (target : TargetShape) (s : OpenShape) (o : List OpenShape) (t : Token) (at n : ℕ) → 1 + stack_brackets (s ∷ o) ≤ n
    → brackets_after t n ≤ MOST_LEVEL → IfFits (machine.listing target s o t at) (brackets_after t n)
list_fits target s o tokens.Close at n h g = (omega (arith, h), omega (arith, g, listed_none target []))
list_fits target s o t at n h g = changed_fits (begin t at) (fresh (InList target [])) (s ∷ o) (brackets_after t n) (begin_fits t at (1 + stack_brackets (s ∷ o)) n h g)

mode_fits : (m : ModeShape) (s : OpenShape) (o : List OpenShape) (t : Token) (at n : ℕ) → Fits (At m s o) n → brackets_after t n ≤ MOST_LEVEL → IfFits (stepped true m s o t at) (brackets_after t n)
mode_fits (Have x) s o t at n h g = have_fits x s o t n (omega (arith, h.0)) h.1 g
mode_fits (ListBegun target) s o t at n h g = list_fits target s o t at n h.0 g
mode_fits Begin s o t at n h g = changed_fits (change_of Begin t at) s o (brackets_after t n) (change_fits Begin t at (stack_brackets (s ∷ o)) n h.0 g)
mode_fits Want s o t at n h g = changed_fits (change_of Want t at) s o (brackets_after t n) (change_fits Want t at (stack_brackets (s ∷ o)) n h.0 g)
mode_fits (Dotted p) s o t at n h g = changed_fits (change_of (Dotted p) t at) s o (brackets_after t n) (change_fits (Dotted p) t at (stack_brackets (s ∷ o)) n h.0 g)
mode_fits (Opening opener k) s o t at n h g = changed_fits (change_of (Opening opener k) t at) s o (brackets_after t n) (change_fits (Opening opener k) t at (stack_brackets (s ∷ o)) n h.0 g)
mode_fits (LetNaming i) s o t at n h g = changed_fits (change_of (LetNaming i) t at) s o (brackets_after t n) (change_fits (LetNaming i) t at (stack_brackets (s ∷ o)) n h.0 g)
mode_fits (ServiceNaming i u) s o t at n h g = changed_fits (change_of (ServiceNaming i u) t at) s o (brackets_after t n) (change_fits (ServiceNaming i u) t at (stack_brackets (s ∷ o)) n h.0 g)
mode_fits (ServiceNamed i u j label) s o t at n h g = changed_fits (change_of (ServiceNamed i u j label) t at) s o (brackets_after t n) (change_fits (ServiceNamed i u j label) t at (stack_brackets (s ∷ o)) n h.0 g)
mode_fits (GroupOpening i) s o t at n h g = changed_fits (change_of (GroupOpening i) t at) s o (brackets_after t n) (change_fits (GroupOpening i) t at (stack_brackets (s ∷ o)) n h.0 g)
mode_fits (ScatterNaming i u) s o t at n h g = changed_fits (change_of (ScatterNaming i u) t at) s o (brackets_after t n) (change_fits (ScatterNaming i u) t at (stack_brackets (s ∷ o)) n h.0 g)
mode_fits (ServeOpening polls i) s o t at n h g = changed_fits (change_of (ServeOpening polls i) t at) s o (brackets_after t n) (change_fits (ServeOpening polls i) t at (stack_brackets (s ∷ o)) n h.0 g)
mode_fits (ServeBegun x) s o t at n h g = changed_fits (change_of (ServeBegun x) t at) s o (brackets_after t n) (change_fits (ServeBegun x) t at (stack_brackets (s ∷ o)) n h.0 g)
mode_fits (LabelNaming x) s o t at n h g = changed_fits (change_of (LabelNaming x) t at) s o (brackets_after t n) (change_fits (LabelNaming x) t at (stack_brackets (s ∷ o)) n h.0 g)
mode_fits (LabelNamed x) s o t at n h g = changed_fits (change_of (LabelNamed x) t at) s o (brackets_after t n) (change_fits (LabelNamed x) t at (stack_brackets (s ∷ o)) n h.0 g)
mode_fits (ElseComing i c u) s o t at n h g = changed_fits (change_of (ElseComing i c u) t at) s o (brackets_after t n) (change_fits (ElseComing i c u) t at (stack_brackets (s ∷ o)) n h.0 g)
mode_fits (EchoOpening i) s o t at n h g = changed_fits (change_of (EchoOpening i) t at) s o (brackets_after t n) (change_fits (EchoOpening i) t at (stack_brackets (s ∷ o)) n h.0 g)
mode_fits (EchoText i) s o t at n h g = changed_fits (change_of (EchoText i) t at) s o (brackets_after t n) (change_fits (EchoText i) t at (stack_brackets (s ∷ o)) n h.0 g)
mode_fits (EchoClosing i text) s o t at n h g = changed_fits (change_of (EchoClosing i text) t at) s o (brackets_after t n) (change_fits (EchoClosing i text) t at (stack_brackets (s ∷ o)) n h.0 g)
mode_fits (ObjectBegun x) s o t at n h g = changed_fits (change_of (ObjectBegun x) t at) s o (brackets_after t n) (change_fits (ObjectBegun x) t at (stack_brackets (s ∷ o)) n h.0 g)
mode_fits (FieldNaming x) s o t at n h g = changed_fits (change_of (FieldNaming x) t at) s o (brackets_after t n) (change_fits (FieldNaming x) t at (stack_brackets (s ∷ o)) n h.0 g)
mode_fits (MethodNaming x) s o t at n h g = changed_fits (change_of (MethodNaming x) t at) s o (brackets_after t n) (change_fits (MethodNaming x) t at (stack_brackets (s ∷ o)) n h.0 g)
mode_fits (MethodNamed x label) s o t at n h g = changed_fits (change_of (MethodNamed x label) t at) s o (brackets_after t n) (change_fits (MethodNamed x label) t at (stack_brackets (s ∷ o)) n h.0 g)
mode_fits (SelfNaming x label) s o t at n h g = changed_fits (change_of (SelfNaming x label) t at) s o (brackets_after t n) (change_fits (SelfNaming x label) t at (stack_brackets (s ∷ o)) n h.0 g)
mode_fits (HeadNamed x top) s o t at n h g = changed_fits (change_of (HeadNamed x top) t at) s o (brackets_after t n) (change_fits (HeadNamed x top) t at (stack_brackets (s ∷ o)) n h.0 g)
mode_fits (ParameterNaming x top) s o t at n h g = changed_fits (change_of (ParameterNaming x top) t at) s o (brackets_after t n) (change_fits (ParameterNaming x top) t at (stack_brackets (s ∷ o)) n h.0 g)

-- each open bracket raises the level
abbrev Steep : BracketShape → List BracketShape → Type 0
Steep b [] = Unit {0}
Steep b (c ∷ bs) = (c.base < b.base) × Steep c bs

same_base : (b c : BracketShape) (bs : List BracketShape) → b.base ≡ c.base → Steep b bs → Steep c bs
same_base b c [] e h = tt
same_base b c (d ∷ bs) e h = (omega (arith, e, h.0), h.1)

steep_few : (b : BracketShape) (bs : List BracketShape) → Steep b bs → length bs ≤ b.base
steep_few b [] h = omega arith
steep_few b (c ∷ bs) h = omega (arith, h.0, steep_few c bs h.1)

closed_steep : (w : WalkShape) (bs : List BracketShape) → w.outer ≡ bs → Steep w.inner bs → Steep (closed w bs).inner (closed w bs).outer
closed_steep w [] e h = subst (λ cs. Steep w.inner cs) (sym e) tt
closed_steep w (b ∷ bs) e h = h.1

closed_length : (w : WalkShape) (bs : List BracketShape) → w.outer ≡ bs → length (closed w bs).outer ≡ length bs - 1
closed_length w [] e = ap length e
closed_length w (b ∷ bs) e = omega arith

walked_steep : (w : WalkShape) (t : Token) → IsOrdered w → Steep w.inner w.outer → Steep (walked w t).inner (walked w t).outer
walked_steep w tokens.Open o h = (omega (arith, o.0), h)
walked_steep w tokens.SquareOpen o h = (omega (arith, o.0), h)
walked_steep w tokens.BraceOpen o h = (omega (arith, o.0), h)
walked_steep w tokens.Close o h = closed_steep w w.outer refl h
walked_steep w tokens.SquareClose o h = closed_steep w w.outer refl h
walked_steep w tokens.BraceClose o h = closed_steep w w.outer refl h
walked_steep w tokens.Let o h = same_base w.inner (record { base = w.inner.base; lets = w.inner.lets + 1; before = w.inner.before }) w.outer refl h
walked_steep w tokens.Comma o h = same_base w.inner (record { base = w.inner.base; lets = 0; before = w.inner.before }) w.outer refl h
walked_steep w _ o h = h

walked_length : (w : WalkShape) (t : Token) → length (walked w t).outer ≡ brackets_after t (length w.outer)
walked_length w tokens.Open = omega arith
walked_length w tokens.SquareOpen = omega arith
walked_length w tokens.BraceOpen = omega arith
walked_length w tokens.Close = closed_length w w.outer refl
walked_length w tokens.SquareClose = closed_length w w.outer refl
walked_length w tokens.BraceClose = closed_length w w.outer refl
walked_length w _ = refl

-- what the reader keeps from lexeme to lexeme
pub record IsShallow (x : StateShape) (w : WalkShape) : Type 0 where
  pub steep : Steep w.inner w.outer
  pub fits : Fits x (length w.outer)

step_fits : (x y : StateShape) (l : Lexeme) (n : ℕ) → Fits x n → brackets_after l.token n ≤ MOST_LEVEL → step true x l ≡ Some y → Fits y (brackets_after l.token n)
step_fits (At m s o) y l n h g e = subst (λ z. IfFits z (brackets_after l.token n)) e (mode_fits m s o l.token l.at n h g)
step_fits (Done t) y l n h g e = absurd cc

pub shallow_step : (x y : StateShape) (w : WalkShape) (l : Lexeme) → IsOrdered w → IsOrdered (walked w l.token) → IsShallow x w → (walked w l.token).level ≤ MOST_LEVEL → step true x l ≡ Some y
    → IsShallow y (walked w l.token)
shallow_step x y w l o p h low e =
    let v = walked w l.token in
    let steep : Steep v.inner v.outer = walked_steep w l.token o h.steep in
    let few : length v.outer ≤ MOST_LEVEL = omega (arith, steep_few v.inner v.outer steep, p.0, low) in
    record {
      steep = steep;
      fits = subst (Fits y) (sym (walked_length w l.token)) (step_fits x y l (length w.outer) h.fits (subst (λ i. i ≤ MOST_LEVEL) (walked_length w l.token) few) e);
    }

pub shallow_few : (x : StateShape) (w : WalkShape) → IsShallow x w → parentheses_in x ≤ MOST_LEVEL
shallow_few (At (Have p) s o) w h = omega (arith, h.fits.1)
shallow_few (At _ s o) w h = omega arith
shallow_few (Done t) w h = omega arith

-- what a bracket closes has no more parentheses round it than the operand before it
pub finished_few : (k : KindShape) (v : PartShape) (outer : List OpenShape) (p : PartShape) (s : OpenShape) (o : List OpenShape) → finished k v outer ≡ finish p s o → parentheses_of p.term ≤ MOST_LEVEL
    → parentheses_of v.term ≤ MOST_LEVEL
finished_few k v outer p s o e low =
    let h = subst (λ g. FinishedFits g (stack_brackets (s ∷ o)) (parentheses_of p.term)) (sym e) (finish_fits p s o (stack_brackets (s ∷ o)) (omega arith)) in
    omega (arith, h.1, low)
