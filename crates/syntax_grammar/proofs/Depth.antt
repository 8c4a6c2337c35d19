-- The parentheses round an operand are no more than the level allows.
use Rattle.std.proofs.Common.{◌≡◌, ℕ, ◌+◌, ◌-◌, ◌≤◌, Bool, true, false, List, [], ◌∷◌, ◌++◌, Option, Some, None, refl, arith}
use Rattle.asp_model.specs.declared.limits.TheConstants.{MOST_LEVEL}
use Rattle.asp_model.specs.Term as term
use Rattle.asp_model.specs.Marked.{Marked, marked, no_marked, and_marked}
use Rattle.syntax_tokens.specs.declared.token.Token.{Token}
use Rattle.syntax_tokens.specs.declared.token.Token.TheVariants as tokens
use Rattle.syntax_grammar.specs.Nodes.{PartShape, part, let_at, put_to, terms_at, in_parentheses}
use Rattle.syntax_grammar.specs.Grammar.{may_put}
use Rattle.syntax_grammar.specs.States.{OperatorShape, TargetShape, OfCall, OfGroup, KindShape, Top, InParentheses, InWord, InCondition, InThen, InElse, InList, InScatter, InArguments, InMember, InIndex, InBinding, InBody, InField, InMethod, OpenShape, OpenerShape, ByEquals, ByComma, ModeShape, Have, ListBegun, Opening, EchoText, EchoClosing, ObjectBegun, FieldNaming, MethodNaming, MethodNamed, SelfNaming, HeadNamed, ParameterNaming, StateShape, At, Done, operand_part, listed, joined, put_all, term_in, test_in, value, InActive, ServiceNaming, ServiceNamed, ScatterNaming, ServeBegun, LabelNaming, LabelNamed}
use Rattle.syntax_grammar.specs.Closings as closings
use Rattle.syntax_grammar.specs.Machine as machine
use Rattle.syntax_grammar.specs.Closings.{FinishedShape, finished, over, finish, back, ClosingShape, Back, Again, concluded, close, close_brace, close_square, comma, bound, ended}
use Rattle.syntax_grammar.specs.Machine.{next_term, behind}
use Rattle.syntax_grammar.specs.Depth.{parentheses_of}

-- the open brackets: those of a kind and of a mode
abbrev pub kind_brackets : KindShape → ℕ
kind_brackets Top = 0
kind_brackets (InBinding at name_at x) = 0
kind_brackets (InBody at name_at x t) = 0
kind_brackets _ = 1

abbrev pub stack_brackets : List OpenShape → ℕ
stack_brackets [] = 0
stack_brackets (s ∷ o) = kind_brackets s.kind + stack_brackets o

abbrev pub opening_brackets : OpenerShape → KindShape → ℕ
opening_brackets ByEquals k = kind_brackets k
opening_brackets ByComma k = kind_brackets k
opening_brackets _ k = 0

abbrev pub mode_brackets : ModeShape → ℕ
mode_brackets (ListBegun target) = 1
mode_brackets (Opening opener k) = opening_brackets opener k
mode_brackets (ServiceNaming at t) = 1
mode_brackets (ServiceNamed at t label_at label) = 1
mode_brackets (ScatterNaming at t) = 1
mode_brackets (ServeBegun x) = 1
mode_brackets (LabelNaming x) = 1
mode_brackets (LabelNamed x) = 1
mode_brackets (EchoText at) = 1
mode_brackets (EchoClosing at text) = 1
mode_brackets (ObjectBegun x) = 1
mode_brackets (FieldNaming x) = 1
mode_brackets (MethodNaming x) = 1
mode_brackets (MethodNamed x label) = 1
mode_brackets (SelfNaming x label) = 2
mode_brackets (HeadNamed x h) = 2
mode_brackets (ParameterNaming x h) = 2
mode_brackets _ = 0

abbrev pub mode_parentheses : ModeShape → ℕ
mode_parentheses (Have x) = parentheses_of (operand_part x).term
mode_parentheses _ = 0

-- a number of brackets is open, some of them in what stands around, and the others leave room for the parentheses
abbrev pub ModeFits : ModeShape → ℕ → ℕ → Type 0
ModeFits m b n = (mode_brackets m + b ≤ n) × (mode_parentheses m + n ≤ MOST_LEVEL)

abbrev pub Fits : StateShape → ℕ → Type 0
Fits (At m s o) n = ModeFits m (stack_brackets (s ∷ o)) n
Fits (Done t) n = Unit {0}

abbrev pub IfFits : Option StateShape → ℕ → Type 0
IfFits None n = Unit {0}
IfFits (Some y) n = Fits y n

-- the open brackets behind a token
abbrev pub brackets_after : Token → ℕ → ℕ
brackets_after tokens.Open n = n + 1
brackets_after tokens.SquareOpen n = n + 1
brackets_after tokens.BraceOpen n = n + 1
brackets_after tokens.Close n = n - 1
brackets_after tokens.SquareClose n = n - 1
brackets_after tokens.BraceClose n = n - 1
brackets_after _ n = n

-- a term that an operand ends has no more parentheses round it than the operand
joined_few : (l : Option OperatorShape) (p : PartShape) → parentheses_of (joined l p).term ≤ parentheses_of p.term
joined_few None p = omega arith
joined_few (Some l) p = omega arith

put_none : (at : ℕ) (t u : Marked) → parentheses_of (put_to at t u) ≡ 0
put_none at (marked (term.Get label) m (and_marked t no_marked)) u = refl
put_none at _ u = refl

put_few : (ps : List PartShape) (p : PartShape) → parentheses_of (put_all ps p).term ≤ parentheses_of p.term
put_few [] p = omega arith
put_few (a ∷ ps) p = omega (arith, put_few ps (part a.start (put_to a.start a.term p.term)), put_none a.start a.term p.term)

terms_few : (at : ℕ) (ts : List Marked) (u : Marked) → parentheses_of (terms_at at (ts ++ u ∷ [])) ≤ parentheses_of u
terms_few at [] u = omega arith
terms_few at (t ∷ []) u = omega arith
terms_few at (t ∷ v ∷ ts) u = omega arith

pub value_few : (s : OpenShape) (p : PartShape) → parentheses_of (value s p).term ≤ parentheses_of p.term
value_few s p =
    let a = joined s.product p in
    let b = joined s.sum a in
    let e = joined s.test b in
    omega (arith, terms_few (value s p).start s.before (put_all s.puts e).term, put_few s.puts e, joined_few s.test b, joined_few s.sum a, joined_few s.product p)

pub listed_none : (target : TargetShape) (ts : List Marked) → parentheses_of (listed target ts).term ≡ 0
listed_none (OfCall p at label) ts = refl
listed_none (OfGroup at) ts = refl

one_more : (t : Marked) → parentheses_of (in_parentheses t) ≡ parentheses_of t + 1
one_more (marked h m ts) = refl

abbrev pub FinishedFits : FinishedShape → ℕ → ℕ → Type 0
FinishedFits (finished k v o) b q = (kind_brackets k + stack_brackets o ≤ b) × (parentheses_of v.term ≤ q)

over_fits : (k : KindShape) (v : PartShape) (o : List OpenShape) (b q : ℕ) → kind_brackets k + stack_brackets o ≤ b → parentheses_of v.term ≤ q → FinishedFits (over k v o) b q
over_fits (InBody at name_at x t) v [] b q h g = (h, g)
over_fits (InBody at name_at x t) v (s ∷ o) b q h g =
    let p = part at (let_at at name_at x t v.term) in
    over_fits s.kind (value s p) o b q (omega (arith, h)) (omega (arith, value_few s p))
over_fits _ v o b q h g = (h, g)

pub finish_fits : (p : PartShape) (s : OpenShape) (o : List OpenShape) (n : ℕ) → stack_brackets (s ∷ o) ≤ n → FinishedFits (finish p s o) n (parentheses_of p.term)
finish_fits p s o n h = over_fits s.kind (value s p) o n (parentheses_of p.term) h (value_few s p)

back_fits : (m : ModeShape) (o : List OpenShape) (n : ℕ) → ModeFits m (stack_brackets o) n → IfFits (back m o) n
back_fits m [] n h = tt
back_fits m (s ∷ o) n h = h

abbrev ClosingFits : Option ClosingShape → ℕ → ℕ → Type 0
ClosingFits None b n = Unit {0}
ClosingFits (Some (Back m)) b n = ModeFits m b n
ClosingFits (Some (Again k)) b n = (kind_brackets k + b ≤ n) × (n ≤ MOST_LEVEL)

closed_fits : (c : Option ClosingShape) (o : List OpenShape) (n : ℕ) → ClosingFits c (stack_brackets o) n → IfFits (closings.closed c o) n
closed_fits None o n h = tt
closed_fits (Some (Back m)) o n h = back_fits m o n h
closed_fits (Some (Again k)) o n h = (omega (arith, h.0), omega (arith, h.1))

module _ (v : PartShape) (b q n : ℕ) (few : parentheses_of v.term ≤ q) (low : q + n ≤ MOST_LEVEL) where
  close_fits : (k : KindShape) → kind_brackets k + b ≤ n → ClosingFits (close k v) b (n - 1)
  close_fits (InParentheses at) h = (omega (arith, h), omega (arith, h, low, few, one_more v.term))
  close_fits (InWord head at) h = (omega (arith, h), omega (arith, low))
  close_fits (InActive at) h = (omega (arith, h), omega (arith, low))
  close_fits (InCondition at) h = (omega (arith, h), omega (arith, low))
  close_fits (InList target ts) h = (omega (arith, h), omega (arith, low, listed_none target (ts ++ v.term ∷ [])))
  close_fits (InArguments at t label_at label) h = (omega (arith, h), omega (arith, low))
  close_fits (InIndex at t) h = (omega (arith, h), omega (arith, low))
  close_fits _ h = tt

  brace_fits : (k : KindShape) → kind_brackets k + b ≤ n → ClosingFits (close_brace k v) b (n - 1)
  brace_fits (InThen at c) h = (omega (arith, h), omega (arith, low))
  brace_fits (InElse at c t) h = (omega (arith, h), omega (arith, low))
  brace_fits _ h = tt

  square_fits : (k : KindShape) → kind_brackets k + b ≤ n → ClosingFits (close_square k v) b (n - 1)
  square_fits (InField x label) h = (omega (arith, h), omega (arith, low))
  square_fits (InMethod x head) h = (omega (arith, h), omega (arith, low))
  square_fits _ h = tt

  comma_fits : (k : KindShape) → kind_brackets k + b ≤ n → ClosingFits (comma k v) b n
  comma_fits (InList target ts) h = (omega (arith, h), omega (arith, low))
  comma_fits (InScatter at) h = (omega (arith, h), omega (arith, low))
  comma_fits (InMember at) h = (omega (arith, h), omega (arith, low))
  comma_fits (InActive at) h = (omega (arith, h), omega (arith, low))
  comma_fits (InField x label) h = (omega (arith, h), omega (arith, low))
  comma_fits (InMethod x head) h = (omega (arith, h), omega (arith, low))
  comma_fits _ h = tt

  bound_fits : (k : KindShape) → kind_brackets k + b ≤ n → ClosingFits (bound k v) b n
  bound_fits (InBinding at name_at x) h = (omega (arith, h), omega (arith, low))
  bound_fits _ h = tt

concluded_fits : (closing : KindShape → PartShape → Option ClosingShape) (q n m : ℕ)
    → ((v : PartShape) (b : ℕ) (k : KindShape) → parentheses_of v.term ≤ q → kind_brackets k + b ≤ n → ClosingFits (closing k v) b m)
    → (f : FinishedShape) → FinishedFits f n q → IfFits (concluded closing f) m
concluded_fits closing q n m each (finished k v o) h = closed_fits (closing k v) o m (each v (stack_brackets o) k h.1 h.0)

ended_fits : (f : FinishedShape) (n : ℕ) → IfFits (ended f) n
ended_fits (finished Top v []) n = tt
ended_fits (finished Top v (s ∷ o)) n = tt
ended_fits (finished _ v o) n = tt

term_fits : (k : KindShape) (e : PartShape) (s : OpenShape) (o : List OpenShape) (n : ℕ) → kind_brackets k + stack_brackets o ≤ n → n ≤ MOST_LEVEL → IfFits (next_term k e s o) n
term_fits (InField x label) e s o n h g = back_fits _ o n (omega (arith, h), omega (arith, g))
term_fits _ e s o n h g = (omega (arith, h), omega (arith, g))

test_fits : (a : Option OperatorShape) (sign : term.SignShape) (p : PartShape) (s : OpenShape) (o : List OpenShape) (n : ℕ) → stack_brackets (s ∷ o) ≤ n → n ≤ MOST_LEVEL
    → IfFits (machine.test_behind a sign p s o) n
test_fits None sign p s o n h g = (omega (arith, h), omega (arith, g))
test_fits (Some a) sign p s o n h g = tt

assign_fits : (p : PartShape) (d : Bool) (s : OpenShape) (o : List OpenShape) (n : ℕ) → stack_brackets (s ∷ o) ≤ n → n ≤ MOST_LEVEL → IfFits (machine.assign p d s o) n
assign_fits p true s o n h g = (omega (arith, h), omega (arith, g))
assign_fits p false s o n h g = tt

-- a token behind an operand
module _ (p : PartShape) (s : OpenShape) (o : List OpenShape) (n : ℕ) (h : stack_brackets (s ∷ o) ≤ n) (low : parentheses_of p.term + n ≤ MOST_LEVEL) where
  few : n ≤ MOST_LEVEL
  few = omega (arith, low)

  pub behind_fits : (t : Token) → IfFits (behind true p s o t) (brackets_after t n)
  behind_fits tokens.Dot = (omega (arith, h), omega (arith, few))
  behind_fits tokens.Star = (omega (arith, h), omega (arith, few))
  behind_fits tokens.Slash = (omega (arith, h), omega (arith, few))
  behind_fits tokens.Percent = (omega (arith, h), omega (arith, few))
  behind_fits tokens.Plus = (omega (arith, h), omega (arith, few))
  behind_fits tokens.Minus = (omega (arith, h), omega (arith, few))
  behind_fits tokens.Less = test_fits s.test term.Less p s o n h few
  behind_fits tokens.Same = test_fits s.test term.Equal p s o n h few
  behind_fits tokens.Assign = assign_fits (test_in s p) (may_put true (test_in s p).term) s o n h few
  behind_fits tokens.Semicolon = term_fits s.kind (term_in s p) s o n h few
  behind_fits tokens.In = concluded_fits bound (parentheses_of p.term) n n (λ v b k e g. bound_fits v b (parentheses_of p.term) n e low k g) (finish p s o) (finish_fits p s o n h)
  behind_fits tokens.Close = concluded_fits close (parentheses_of p.term) n (n - 1) (λ v b k e g. close_fits v b (parentheses_of p.term) n e low k g) (finish p s o) (finish_fits p s o n h)
  behind_fits tokens.BraceClose = concluded_fits close_brace (parentheses_of p.term) n (n - 1) (λ v b k e g. brace_fits v b (parentheses_of p.term) n e low k g) (finish p s o) (finish_fits p s o n h)
  behind_fits tokens.SquareClose = concluded_fits close_square (parentheses_of p.term) n (n - 1) (λ v b k e g. square_fits v b (parentheses_of p.term) n e low k g) (finish p s o) (finish_fits p s o n h)
  behind_fits tokens.Comma = concluded_fits comma (parentheses_of p.term) n n (λ v b k e g. comma_fits v b (parentheses_of p.term) n e low k g) (finish p s o) (finish_fits p s o n h)
  behind_fits tokens.End = ended_fits (finish p s o) n
  behind_fits _ = tt
