use Rattle.std.proofs.Common.{◌≡◌, ◌+◌, ◌-◌, ◌<◌, ◌≤◌, ℕ, List, ◌++◌, length, sym, ap, subst, ◌∙◌, arith}
use Rattle.code_table.specs.declared.code.Node.{Node}
use Rattle.code_table.specs.Tables.{node_piece, piece_at, pieces}
use Rattle.code_laws.specs.Nodes.{in_place}
use Rattle.step_machine.specs.declared.frames.Spread.{Spread}
use Rattle.step_machine.specs.declared.calls.Round.{Round}
use Rattle.step_machine.specs.Calls.{IsLaid, IsRoundAt, beside_count, round_in}
use Rattle.step_machine.specs.Stacks.{but_last, last}
use Rattle.step_machine.specs.Standing.{View, Standing, view_of}
use Rattle.step_machine.specs.Views.{IsSettledAt, all_done, dealt_view}
use Rattle.step_machine.proofs.StackLemmas.{but_last_size}
use Rattle.step_machine.proofs.RoundLemmas.{round, round_found, round_size}
use Rattle.step_machine.proofs.CallLemmas.{AtCalls, at_calls, deals, two_parts}
use Rattle.step_machine.proofs.machine.Machine.deal.Goals as goal

pub returns-then-results-members : goal.returns-then-results-members
returns-then-results-members c = record {
  settled = λ t vs h at.
      let k : List Node = c.args.nodes.now in
      let v : View = view_of c.args.self.now in
      let s : Spread = c.args.spread in
      let number : ℕ = c.args.number in
      let members : ℕ = c.args.members in
      let done : ℕ = c.args.done in
      let a : AtCalls k v s number members done t vs = at_calls k v s number members done t vs h at in
      let x : IsLaid k s number members (last done v.operands) = a.dealt.laid in
      let is : piece_at (pieces k) number ≡ node_piece (pieces k) c.in-Some.node.now = c.in-Some.ensures.piece c.requires.sound in
      let given : c.in_place_count-given.result ≡ in_place (piece_at (pieces k) number) = c.in_place_count-given.ensures.count (pieces k) ∙ ap in_place (sym is) in
      let counted : done ≡ in_place (piece_at (pieces k) number) + members + beside_count s members + length x.results = a.counted in
      let most : length x.results ≤ members = a.dealt.most in
      let full : done ≡ all_done k s number members = omega (arith, given, counted, most, c.in-Some-results_in.ensures.results, c.if-results-members.true) in
      record { standing = h; settled = subst (IsSettledAt k v.frames) (sym at) full };
}

pub returns : goal.returns
returns c = record {
  settled = λ t vs h at.
      let k : List Node = c.args.nodes.now in
      let v : View = view_of c.args.self.now in
      let s : Spread = c.args.spread in
      let number : ℕ = c.args.number in
      let members : ℕ = c.args.members in
      let done : ℕ = c.args.done in
      let a : AtCalls k v s number members done t vs = at_calls k v s number members done t vs h at in
      let x : IsLaid k s number members (last done v.operands) = a.dealt.laid in
      let is : piece_at (pieces k) number ≡ node_piece (pieces k) c.in-Some.node.now = c.in-Some.ensures.piece c.requires.sound in
      let given : c.in_place_count-given.result ≡ in_place (piece_at (pieces k) number) = c.in_place_count-given.ensures.count (pieces k) ∙ ap in_place (sym is) in
      let counted : done ≡ in_place (piece_at (pieces k) number) + members + beside_count s members + length x.results = a.counted in
      let there : c.in-Some-results_in.results ≡ length x.results = omega (arith, given, counted, c.in-Some-results_in.ensures.results) in
      let lt : length x.results < members = omega (arith, there, c.if-results-members.false) in
      let base : List ℕ = but_last done v.operands in
      let enough : done ≤ length v.operands = a.enough in
      let low : length base ≡ length v.operands - done = but_last_size done v.operands in
      let r : Round = c.in-Some-round_at.round in
      let begin : c.in-Some-checked_sub.start ≡ length base = omega (arith, low, enough, c.in-Some-checked_sub.ensures) in
      let given_is : c.in_place_count-given.result ≡ length x.given = given ∙ sym x.given_size in
      let at0 : IsRoundAt s c.in-Some-checked_sub.start c.in_place_count-given.result members c.in-Some-results_in.results r = c.in-Some-round_at.ensures.round in
      let where_is : IsRoundAt s (length base) (length x.given) (length x.receivers) (length x.results) r =
      subst (λ (p : ℕ × ℕ × ℕ × ℕ). IsRoundAt s p.0 p.1 p.2 p.3 r) (λ i. (begin i, given_is i, sym x.size i, there i)) at0 in
      let less : length x.results < length x.receivers = subst (λ (n : ℕ). length x.results < n) (sym x.size) lt in
      let beside : length x.beside ≡ beside_count s (length x.receivers) = x.beside_size ∙ ap (beside_count s) (sym x.size) in
      let places : List ℕ = round_in r v.operands in
      let places_are : places ≡ round s x.given x.receivers x.beside (length x.results) =
      ap (round_in r) (two_parts done v.operands ∙ ap (λ (l : List ℕ). base ++ l) x.are) ∙ round_found s base x.given x.receivers x.beside x.results (length x.results) r less beside where_is in
      let whole : length places ≡ length x.given = ap length places_are ∙ round_size s x.given x.receivers x.beside (length base) (length x.receivers) (length x.results) (length x.results) r where_is in
      let standing : Standing k (dealt_view s number members done places v) t vs = deals k v s number members done t vs a places lt places_are whole in
      record {
        standing = subst (λ (w : View). Standing k w t vs) (sym c.in_ok-enter_call.ensures.view) standing;
        settled = subst (λ (w : View). IsSettledAt k w.frames w.focus) (sym c.in_ok-enter_call.ensures.view) tt;
      };
}
