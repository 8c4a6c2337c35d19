use Rattle.syntax_tokens.specs.Cursors.{lexeme_of}
use Rattle.syntax_states.specs.Shapes.{state_shape}
use Rattle.asp_syntax.proofs.Feeding.{judged_on}
use Rattle.asp_syntax.proofs.reading.go_on.Goals as goal

pub returns-in-Ok-clause-low : goal.returns-in-Ok-clause-low
returns-in-Ok-clause-low c = judged_on c.judge.result c.judge.new.state (state_shape c.args.state.now) c.walk_on.new.walk.level (lexeme_of c.args.here) c.judge.ensures.state
