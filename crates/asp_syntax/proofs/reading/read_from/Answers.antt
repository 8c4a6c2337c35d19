use Rattle.std.proofs.Common.{◌<◌, ◌≤◌, length, arith, ◌≡◌, sym, ap, subst, ◌∙◌, Some, true}
use Rattle.asp_model.specs.declared.limits.TheConstants.{MOST_LEVEL}
use Rattle.syntax_tokens.specs.Levels.{WalkShape, walked}
use Rattle.syntax_tokens.specs.Tokens.{Between}
use Rattle.syntax_tokens.specs.Cursors.{from, lexeme_of, goes_on}
use Rattle.syntax_tokens.specs.Ordered.{IsOrdered}
use Rattle.syntax_tokens.specs.WalkShapes.{walk_shape}
use Rattle.syntax_tokens.proofs.Ordering.{walked_ordered}
use Rattle.syntax_grammar.specs.States.{StateShape}
use Rattle.syntax_grammar.specs.Machine.{step}
use Rattle.syntax_grammar.proofs.Shallow.{IsShallow, shallow_step}
use Rattle.syntax_terms.specs.Shapes.{open_shape, stack}
use Rattle.syntax_states.specs.Shapes.{state_shape, mode_shape}
use Rattle.asp_syntax.specs.Read.{read as read_list}
use Rattle.asp_syntax.proofs.First.{comes_on}
use Rattle.asp_syntax.proofs.Feeding.{left_none, read_on}
use Rattle.asp_syntax.proofs.reading.read_from.Goals as goal

pub loop-here-preserved : goal.loop-here-preserved
loop-here-preserved c =
    let here = c.in_ok-here.here in
    let x : StateShape = state_shape c.loop-here.state in
    let w : WalkShape = walk_shape c.loop-here.walk in
    let n = c.feed.new.state in
    let y : StateShape = state_shape n in
    let v = c.in_ok-term.ensures.value in
    let stepped : step true x (lexeme_of here) ≡ Some y = v.1 ∙ ap (λ (s : StateShape). Some s) (left_none c.in_ok-term.field-0 n c.in_default.not-Some) in
    let on = read_on c.args.bytes.now here c.loop-here.after x w c.in_ok-here.ensures.value (mode_shape n.mode) (open_shape n.inner) (stack n.outer.items) v.0 stepped in
    let ordered : IsOrdered (walked w here.token) = walked_ordered w here.token c.loop-here.invariant.ordered in
    let low : (walked w here.token).level ≤ MOST_LEVEL = subst (λ (u : WalkShape). u.level ≤ MOST_LEVEL) v.2 c.in_ok-term.ensures.low in
    record {
      same = ap (λ (u : WalkShape). read_list y u (from Between c.args.bytes.now here.after)) v.2 ∙ sym on ∙ c.loop-here.invariant.same;
      low = c.in_ok-term.ensures.low;
      ordered = subst IsOrdered (sym v.2) ordered;
      shallow = subst (IsShallow y) (sym v.2) (shallow_step x y w (lexeme_of here) c.loop-here.invariant.ordered ordered c.loop-here.invariant.shallow low stepped);
      within = c.in_ok-here.ensures.within;
    }

pub loop-here-smaller : goal.loop-here-smaller
loop-here-smaller c =
    let here = c.in_ok-here.here in
    let x : StateShape = state_shape c.loop-here.state in
    let w : WalkShape = walk_shape c.loop-here.walk in
    let n = c.feed.new.state in
    let v = c.in_ok-term.ensures.value in
    let stepped : step true x (lexeme_of here) ≡ Some (state_shape n) = v.1 ∙ ap (λ (s : StateShape). Some s) (left_none c.in_ok-term.field-0 n c.in_default.not-Some) in
    let on : goes_on here.token ≡ true = comes_on x w (lexeme_of here) (mode_shape n.mode) (open_shape n.inner) (stack n.outer.items) v.0 stepped in
    let further : c.loop-here.after < here.after = c.in_ok-here.ensures.onward on in
    let within : here.after ≤ length c.args.bytes.now = c.in_ok-here.ensures.within in
    omega arith
