use Rattle.std.proofs.Common.{◌≡◌, ◌<◌, ◌≤◌, ◌+◌, ℕ, List, sym, ap, subst, ◌∙◌, arith}
use Rattle.code_table.specs.declared.code.Node.{Node}
use Rattle.code_table.specs.Pieces.{Piece, variable}
use Rattle.code_table.specs.Sound.{IsBelow}
use Rattle.code_table.specs.Tables.{node_piece, piece_at, piece_of, pieces}
use Rattle.code_laws.specs.Nodes.{in_place, nth, parts}
use Rattle.step_machine.specs.declared.frames.Focus.TheVariants as focus
use Rattle.step_machine.specs.Sequences.{later}
use Rattle.step_machine.specs.Stacks.{piece_from}
use Rattle.step_machine.specs.Standing.{View, Standing, view_of}
use Rattle.step_machine.specs.Views.{IsSettledAt, passed_view}
use Rattle.step_machine.proofs.MoveLemmas.{at_most, passed}
use Rattle.step_machine.proofs.machine.Machine.approach.Goals as goal

pub returns-in-Node : goal.returns-in-Node
returns-in-Node c =
    let k : List Node = c.args.nodes.now in
    let number : ℕ = c.args.number in
    let from : ℕ = c.args.from in
    let done : ℕ = c.loop-done.done in
    let n : Node = c.in-Some.node.now in
    let is : piece_at (pieces k) number ≡ node_piece (pieces k) n = c.in-Some.ensures.piece c.requires.sound in
    let count : c.in_place_count-count.result ≡ in_place (later from (node_piece (pieces k) n)) = c.in_place_count-count.ensures.count (pieces k) in
    let less : done < in_place (later from (node_piece (pieces k) n)) = omega (arith, count, c.loop-done-test.true) in
    let part : nth done (parts (later from (node_piece (pieces k) n))) ≡ piece_of (pieces k) c.in-Some-next_child.child.now = c.in-Some-next_child.ensures.child (pieces k) less in
    let part2 : nth done (parts (later from (node_piece (pieces k) n))) ≡ piece_at (pieces k) c.in-Node.inner = part ∙ ap (piece_of (pieces k)) c.in-Node.is in
    let below : IsBelow number c.in-Some-next_child.child.now = c.in-Some-next_child.ensures.below number (c.in-Some.ensures.below c.requires.sound) in
    record {
      site = λ t vs h at.
          let here : Standing k (view_of c.loop-done.self) t vs × (c.loop-done.self.focus ≡ focus.Node number from done) = c.loop-done.invariant t vs h at in
          c.meet.ensures.site t vs here.0 here.1
          (subst (λ (p : Piece). done < in_place (later from p)) (sym is) less) (ap (λ (p : Piece). nth done (parts (later from p))) is ∙ part2);
      deeper = c.meet.ensures.deeper (subst (IsBelow number) c.in-Node.is below);
    }

pub returns-clause-site : goal.returns-clause-site
returns-clause-site c = λ t vs h at.
    let k : List Node = c.args.nodes.now in
    let number : ℕ = c.args.number in
    let from : ℕ = c.args.from in
    let done : ℕ = c.loop-done.done in
    let n : Node = c.in-Some.node.now in
    let is : piece_at (pieces k) number ≡ node_piece (pieces k) n = c.in-Some.ensures.piece c.requires.sound in
    let v : View = view_of c.loop-done.self in
    let here : Standing k v t vs × (c.loop-done.self.focus ≡ focus.Node number from done) = c.loop-done.invariant t vs h at in
    let count : c.in_place_count-count.result ≡ in_place (piece_from k number from) = c.in_place_count-count.ensures.count (pieces k) ∙ ap (λ (p : Piece). in_place (later from p)) (sym is) in
    let most : done ≤ in_place (piece_from k number from) = at_most k v number from done t vs here.0 here.1 in
    let full : done ≡ in_place (piece_from k number from) = omega (arith, count, most, c.loop-done-test.false) in (
      record { standing = here.0; settled = subst (IsSettledAt k v.frames) (sym here.1) full },
      here.1,
      record { piece = is; class = c.in-Some.ensures.class },
    )

pub loop-done-preserved : goal.loop-done-preserved
loop-done-preserved c = λ t vs h at.
    let k : List Node = c.args.nodes.now in
    let number : ℕ = c.args.number in
    let from : ℕ = c.args.from in
    let done : ℕ = c.loop-done.done in
    let n : Node = c.in-Some.node.now in
    let is : piece_at (pieces k) number ≡ node_piece (pieces k) n = c.in-Some.ensures.piece c.requires.sound in
    let v : View = view_of c.loop-done.self in
    let here : Standing k v t vs × (c.loop-done.self.focus ≡ focus.Node number from done) = c.loop-done.invariant t vs h at in
    let count : c.in_place_count-count.result ≡ in_place (later from (node_piece (pieces k) n)) = c.in_place_count-count.ensures.count (pieces k) in
    let less : done < in_place (later from (node_piece (pieces k) n)) = omega (arith, count, c.loop-done-test.true) in
    let part : nth done (parts (later from (node_piece (pieces k) n))) ≡ piece_of (pieces k) c.in-Some-next_child.child.now = c.in-Some-next_child.ensures.child (pieces k) less in
    let part2 : nth done (parts (later from (node_piece (pieces k) n))) ≡ variable c.in-Leaf.leaf = part ∙ ap (piece_of (pieces k)) c.in-Leaf.is in
    let view : view_of c.pass.new.self ≡ passed_view c.in-Leaf.leaf v = c.in_ok-pass-in-Leaf.ensures.view in
    let on : Standing k (record (view_of c.pass.new.self) { focus = focus.Node number from (done + 1) }) t vs =
    subst (λ (w : View). Standing k (record w { focus = focus.Node number from (done + 1) }) t vs) (sym view)
    (passed k v number from done c.in-Leaf.leaf t vs here.0 here.1 (subst (λ (p : Piece). done < in_place (later from p)) (sym is) less)
    (ap (λ (p : Piece). nth done (parts (later from p))) is ∙ part2)) in (
      subst (λ (w : View). Standing k w t vs) (sym c.look_at.ensures.view) on,
      ap (λ (w : View). w.focus) c.look_at.ensures.view,
    )
