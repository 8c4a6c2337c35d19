-- What ends no sequence of a kind, and what the other modes and tokens leave.
use Rattle.std.proofs.Common.{◌≡◌, ◌≢◌, ℕ, List, [], ◌∷◌, ◌++◌, Option, Some, None, Bool, true, false, Result, Err, refl, ap, sym, subst, ◌∙◌}
use Rattle.std.specs.declared.alloc.Global.{Global}
use Rattle.std.specs.declared.boxed.Box.{Box}
use Rattle.asp_model.specs.Names.{Text}
use Rattle.asp_model.specs.declared.term.Term.{Term}
use Rattle.asp_model.specs.declared.word.Label.{Label}
use Rattle.syntax_tokens.specs.declared.token.Token.{Token}
use Rattle.syntax_tokens.specs.declared.token.Token.TheVariants as tokens
use Rattle.asp_model.specs.Shapes.{marked_of}
use Rattle.syntax_grammar.specs.Nodes.{PartShape, part, let_at}
use Rattle.syntax_grammar.specs.States.{TargetShape, Top, InList, OpenShape, OperandShape, StateShape, At, fresh, operand_part, value}
use Rattle.syntax_grammar.specs.Closings.{finished, finish, over, ended, close, close_brace, close_square, comma, bound, opened}
use Rattle.syntax_grammar.specs.Changes.{ChangeShape, Goes, begin, operand, changed}
use Rattle.syntax_grammar.specs.Machine.{behind, listing, have, stepped}
use Rattle.syntax_terms.specs.declared.open.Open.{Open}
use Rattle.syntax_terms.specs.declared.open.Part.{Part}
use Rattle.syntax_terms.specs.declared.open.Binding.{Binding}
use Rattle.syntax_terms.specs.declared.open.Kind.{Kind}
use Rattle.syntax_terms.specs.declared.open.Kind.TheVariants as K
use Rattle.syntax_terms.specs.declared.open.Target.{Target}
use Rattle.syntax_terms.specs.declared.open.Listing.{Listing}
use Rattle.syntax_terms.specs.declared.open.Scatter.{Scatter}
use Rattle.syntax_terms.specs.declared.open.Choice.{Choice}
use Rattle.syntax_terms.specs.declared.open.Object.{Object}
use Rattle.syntax_terms.specs.declared.open.Head as declared_head
use Rattle.syntax_terms.specs.declared.open.Wrap.{Wrap}
use Rattle.syntax_terms.specs.declared.stop.Stop.{Stop}
use Rattle.syntax_terms.specs.declared.stop.Stop.TheVariants as stop
use Rattle.syntax_terms.proofs.Stacks.{stack_more}
use Rattle.syntax_terms.specs.Shapes.{part_shape, kind_shape, open_shape, stack}
use Rattle.syntax_states.specs.declared.state.Mode.{Mode}
use Rattle.syntax_states.specs.declared.state.Mode.TheVariants as M
use Rattle.syntax_states.specs.declared.state.Operand.{Operand}
use Rattle.syntax_states.specs.declared.state.Opener.{Opener}
use Rattle.syntax_states.specs.declared.state.State.{State}
use Rattle.syntax_states.specs.Shapes.{mode_shape, state_shape}
use Rattle.syntax_states.specs.Answers.{Becomes, Leaves, Steps, plain_change, plain_operand, plain_behind}

pub close_other : (k : Kind) (v : PartShape) → ((at : ℕ) → k ≢ K.InParentheses at) → ((w : Wrap) (at : ℕ) → k ≢ K.InWord w at) → ((at : ℕ) → k ≢ K.InActive at) → ((at : ℕ) → k ≢ K.InCondition at)
    → ((x : Listing) → k ≢ K.InList x) → ((x : Scatter) → k ≢ K.InArguments x) → ((at : ℕ) (t : Box Term Global) → k ≢ K.InIndex at t) → close (kind_shape k) v ≡ None
close_other (K.InParentheses at) v a b e c d f g = absurd (a at refl)
close_other (K.InWord w at) v a b e c d f g = absurd (b w at refl)
close_other (K.InActive at) v a b e c d f g = absurd (e at refl)
close_other (K.InCondition at) v a b e c d f g = absurd (c at refl)
close_other (K.InList x) v a b e c d f g = absurd (d x refl)
close_other (K.InArguments x) v a b e c d f g = absurd (f x refl)
close_other (K.InIndex at t) v a b e c d f g = absurd (g at t refl)
close_other _ v a b e c d f g = refl

pub brace_other : (k : Kind) (v : PartShape) → ((at : ℕ) (t : Box Term Global) → k ≢ K.InThen at t) → ((c : Choice) → k ≢ K.InElse c) → close_brace (kind_shape k) v ≡ None
brace_other (K.InThen at t) v a b = absurd (a at t refl)
brace_other (K.InElse c) v a b = absurd (b c refl)
brace_other _ v a b = refl

pub square_other : (k : Kind) (v : PartShape) → ((x : Object) (l : Label) → k ≢ K.InField x l) → ((x : Object) (h : declared_head.Head) → k ≢ K.InMethod x h) → close_square (kind_shape k) v ≡ None
square_other (K.InField x l) v a b = absurd (a x l refl)
square_other (K.InMethod x h) v a b = absurd (b x h refl)
square_other _ v a b = refl

pub comma_other : (k : Kind) (v : PartShape) → ((at : ℕ) → k ≢ K.InActive at) → ((at : ℕ) → k ≢ K.InScatter at) → ((at : ℕ) → k ≢ K.InMember at) → ((x : Listing) → k ≢ K.InList x)
    → ((x : Object) (l : Label) → k ≢ K.InField x l) → ((x : Object) (h : declared_head.Head) → k ≢ K.InMethod x h) → comma (kind_shape k) v ≡ None
comma_other (K.InActive at) v d e f c a b = absurd (d at refl)
comma_other (K.InScatter at) v d e f c a b = absurd (e at refl)
comma_other (K.InMember at) v d e f c a b = absurd (f at refl)
comma_other (K.InList x) v d e f c a b = absurd (c x refl)
comma_other (K.InField x l) v d e f c a b = absurd (a x l refl)
comma_other (K.InMethod x h) v d e f c a b = absurd (b x h refl)
comma_other _ v d e f c a b = refl

pub bound_other : (k : Kind) (v : PartShape) → ((at name_at : ℕ) (x : Text) → k ≢ K.InBinding at name_at x) → bound (kind_shape k) v ≡ None
bound_other (K.InBinding at name_at x) v a = absurd (a at name_at x refl)
bound_other _ v a = refl

pub ended_other : (k : Kind) (v : PartShape) (o : List OpenShape) → k ≢ K.Top → ended (finished (kind_shape k) v o) ≡ None
ended_other K.Top v o a = absurd (a refl)
ended_other _ v o a = refl

-- the body of a `let` is over, and with it the `let`
pub body_over : (s : OpenShape) (b : Binding) (p : PartShape) (v w : Part) (ls ms : List Open) (a x : Open)
    → kind_shape (K.InBody b) ≡ s.kind → part_shape v ≡ value s p → ls ≡ ms ++ a ∷ []
    → part_shape w ≡ part b.at (let_at b.at b.name_at b.name (marked_of b.bound.value) (marked_of v.term.value)) → x ≡ a
    → finish (part_shape w) (open_shape x) (stack ms) ≡ finish p s (stack ls)
body_over s b p v w ls ms a x e f g h d =
    (λ i. finish (h i) (open_shape (d i)) (stack ms))
    ∙ (λ i. over (e i) (f i) (sym (stack_more ms a) i))
    ∙ ap (λ (q : List Open). over s.kind (value s p) (stack q)) (sym g)

-- a mode that opens nothing, in which no operand was read, and no call begun
pub mode_other : (rule : Bool) (m : Mode) (s : OpenShape) (o : List OpenShape) (t : Token) (at : ℕ) → m ≢ M.Begin → m ≢ M.Want → ((x : Operand) → m ≢ M.Have x) → ((f : Target) → m ≢ M.ListBegun f) → ((x : Opener) (k : Kind) → m ≢ M.Opening x k)
    → stepped rule (mode_shape m) s o t at ≡ changed (plain_change (mode_shape m) t at) s o
mode_other rule M.Begin s o t at a b c d e = absurd (a refl)
mode_other rule M.Want s o t at a b c d e = absurd (b refl)
mode_other rule (M.Have x) s o t at a b c d e = absurd (c x refl)
mode_other rule (M.ListBegun f) s o t at a b c d e = absurd (d f refl)
mode_other rule (M.Opening x k) s o t at a b c d e = absurd (e x k refl)
mode_other rule _ s o t at a b c d e = refl

-- a mode that no token changes so leaves no state
pub becomes_err : (e : Stop) (y : Option ChangeShape) (s : OpenShape) (o : List OpenShape) (x : State) → Becomes (Err e) y → Leaves (Err e) x (changed y s o)
becomes_err stop.Unexpected y s o x h = ap (λ (z : Option ChangeShape). changed z s o) h
becomes_err stop.NotAField y s o x h = h
becomes_err stop.Memory y s o x h = tt

-- where a function leaves no state, the step leaves none
pub leaves_err : (e : Stop) (x : State) (y : Option StateShape) → Leaves (Err e) x y → Steps (Err e) x y y
leaves_err stop.Unexpected x y h = (h, h)
leaves_err stop.NotAField x y h = absurd h
leaves_err stop.Memory x y h = tt

pub step_err : (e : Stop) (m : Mode) (s : OpenShape) (o : List OpenShape) (x : State) (t : Token) (at : ℕ) → m ≢ M.Begin → m ≢ M.Want → ((x : Operand) → m ≢ M.Have x) → ((f : Target) → m ≢ M.ListBegun f) → ((x : Opener) (k : Kind) → m ≢ M.Opening x k)
    → Becomes (Err e) (plain_change (mode_shape m) t at) → Steps (Err e) x (stepped false (mode_shape m) s o t at) (stepped true (mode_shape m) s o t at)
step_err e m s o x t at a b c d f h =
    subst (λ (z : Option StateShape). Steps (Err e) x z (stepped true (mode_shape m) s o t at)) (sym (mode_other false m s o t at a b c d f))
    (subst (λ (z : Option StateShape). Steps (Err e) x (changed (plain_change (mode_shape m) t at) s o) z) (sym (mode_other true m s o t at a b c d f))
    (leaves_err e x (changed (plain_change (mode_shape m) t at) s o) (becomes_err e (plain_change (mode_shape m) t at) s o x h)))

pub operand_other : (t : Token) (at : ℕ) → t ≢ tokens.Open → operand t at ≡ plain_operand t at
operand_other tokens.Open at h = absurd (h refl)
operand_other _ at h = refl

-- a token that begins an operand leaves its mode
pub operand_becomes : (t : Token) (at : ℕ) (m n : Mode) (s : OpenShape) (o : List OpenShape) → t ≢ tokens.Open → plain_operand t at ≡ Some (Goes (mode_shape m)) → n ≡ m
    → changed (operand t at) s o ≡ Some (At (mode_shape n) s o)
operand_becomes t at m n s o h e d = ap (λ (y : Option ChangeShape). changed y s o) (operand_other t at h ∙ e) ∙ ap (λ (k : Mode). Some (At (mode_shape k) s o)) (sym d)

pub behind_other : (rule : Bool) (p : PartShape) (s : OpenShape) (o : List OpenShape) (t : Token) → t ≢ tokens.End → behind rule p s o t ≡ plain_behind rule p s o t
behind_other rule p s o tokens.End h = absurd (h refl)
behind_other rule p s o _ h = refl

pub have_behind : (r : Result (Option (Box Term Global)) Stop) (x : OperandShape) (p : PartShape) (n : State) (s : OpenShape) (o : List OpenShape) (t : Token) → t ≢ tokens.Open → p ≡ operand_part x
    → Steps r n (behind false p s o t) (behind true p s o t) → Steps r n (have false x s o t) (have true x s o t)
have_behind r x p n s o tokens.Open a e h = absurd (a refl)
have_behind r x p n s o t a e h = subst (λ q. Steps r n (behind false q s o t) (behind true q s o t)) e h

abbrev inner_of : Option StateShape → OpenShape
inner_of (Some (At m s o)) = s
inner_of _ = fresh Top

abbrev outer_of : Option StateShape → List OpenShape
outer_of (Some (At m s o)) = o
outer_of _ = []

-- the first term of a list begins in a new sequence
pub list_term : (r : Result (Unit {0}) Stop) (n x : State) (target : TargetShape) (s : OpenShape) (o : List OpenShape) (t : Token) (at : ℕ) → t ≢ tokens.Close
    → opened (InList target []) s o ≡ Some (state_shape x) → Leaves r n (changed (begin t at) (open_shape x.inner) (stack x.outer.items)) → Leaves r n (listing target s o t at)
list_term r n x target s o tokens.Close at a e h = absurd (a refl)
list_term r n x target s o t at a e h =
    let inner_is : fresh (InList target []) ≡ open_shape x.inner = ap inner_of e in
    let outer_is : s ∷ o ≡ stack x.outer.items = ap outer_of e in
    subst (λ (m : OpenShape). Leaves r n (changed (begin t at) m (s ∷ o))) (sym inner_is)
    (subst (λ (q : List OpenShape). Leaves r n (changed (begin t at) (open_shape x.inner) q)) (sym outer_is) h)
