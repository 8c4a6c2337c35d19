use Rattle.std.proofs.Common.{◌≡◌, List, ℕ, IfOk, subst}
use Rattle.state_lines.proofs.WalkLemmas.{lines_are}
use Rattle.state_lines.proofs.lines.state_lines.Goals as goal

pub returns : goal.returns
returns c = record {
  lines = λ s status is. subst (λ (x : List (List ℕ)). IfOk c.all_lines.result (λ v. v.items ≡ x)) (lines_are c.args.state.now c.args.depth s status is) c.all_lines.ensures.lines;
}
