use Rattle.std.proofs.Common.{◌≡◌, ◌<◌, ◌≤◌, ◌+◌, ℕ, List, refl, sym, ap, subst, ◌∙◌, arith}
use Rattle.code_table.specs.declared.code.Node.{Node}
use Rattle.code_table.specs.Pieces.{Piece, variable}
use Rattle.code_table.specs.Sound.{IsBelow}
use Rattle.code_table.specs.Tables.{node_piece, piece_at, piece_of, pieces}
use Rattle.code_laws.specs.Nodes.{in_place, nth, parts}
use Rattle.code_laws.proofs.NodeLemmas.{is_term}
use Rattle.step_machine.specs.declared.frames.Focus.TheVariants as focus
use Rattle.step_machine.specs.Sequences.{later}
use Rattle.step_machine.specs.Stacks.{piece_from}
use Rattle.step_machine.specs.Standing.{View, Standing, view_of}
use Rattle.step_machine.specs.Views.{IsDeeper, passed_view}
use Rattle.step_machine.proofs.MoveLemmas.{at_focus, at_most, entered, passed}
use Rattle.step_machine.proofs.machine.Machine.advance.Goals as goal

pub returns-in-Node-clause-advanced : goal.returns-in-Node-clause-advanced
returns-in-Node-clause-advanced c = λ t vs h at.
    let k : List Node = c.args.nodes.now in
    let number : ℕ = c.args.number in
    let from : ℕ = c.args.from in
    let done : ℕ = c.loop-done.done in
    let n : Node = c.in-Some.node.now in
    let is : piece_at (pieces k) number ≡ node_piece (pieces k) n = c.in-Some.ensures.piece c.requires.sound in
    let v : View = record (view_of c.loop-done.self) { focus = focus.Node number from done } in
    let standing : Standing k v t vs = c.loop-done.invariant t vs (at_focus k (view_of c.args.self.now) (focus.Node number from c.args.done) t vs at h) in
    let count : c.in_place_count-count.result ≡ in_place (later from (node_piece (pieces k) n)) = c.in_place_count-count.ensures.count (pieces k) in
    let less : done < in_place (later from (node_piece (pieces k) n)) = omega (arith, count, c.loop-done-test.true) in
    let part : nth done (parts (later from (node_piece (pieces k) n))) ≡ piece_of (pieces k) c.in-Some-next_child.child.now = c.in-Some-next_child.ensures.child (pieces k) less in
    let part2 : nth done (parts (later from (node_piece (pieces k) n))) ≡ piece_at (pieces k) c.in-Node.inner = part ∙ ap (piece_of (pieces k)) c.in-Node.is in
    subst (λ (w : View). Standing k w t vs) (sym c.in_ok-enter-in-Node.ensures.view)
    (entered k v number from done c.in-Node.inner t vs standing refl (subst (λ (p : Piece). done < in_place (later from p)) (sym is) less)
    (ap (λ (p : Piece). nth done (parts (later from p))) is ∙ part2) (is_term k c.in-Node.inner))

pub loop-done-preserved : goal.loop-done-preserved
loop-done-preserved c = λ t vs h.
    let k : List Node = c.args.nodes.now in
    let number : ℕ = c.args.number in
    let from : ℕ = c.args.from in
    let done : ℕ = c.loop-done.done in
    let n : Node = c.in-Some.node.now in
    let is : piece_at (pieces k) number ≡ node_piece (pieces k) n = c.in-Some.ensures.piece c.requires.sound in
    let v : View = record (view_of c.loop-done.self) { focus = focus.Node number from done } in
    let standing : Standing k v t vs = c.loop-done.invariant t vs h in
    let count : c.in_place_count-count.result ≡ in_place (later from (node_piece (pieces k) n)) = c.in_place_count-count.ensures.count (pieces k) in
    let less : done < in_place (later from (node_piece (pieces k) n)) = omega (arith, count, c.loop-done-test.true) in
    let part : nth done (parts (later from (node_piece (pieces k) n))) ≡ piece_of (pieces k) c.in-Some-next_child.child.now = c.in-Some-next_child.ensures.child (pieces k) less in
    let part2 : nth done (parts (later from (node_piece (pieces k) n))) ≡ variable c.in-Leaf.leaf = part ∙ ap (piece_of (pieces k)) c.in-Leaf.is in
    let view : view_of c.pass.new.self ≡ passed_view c.in-Leaf.leaf (view_of c.loop-done.self) = c.in_ok-pass-in-Leaf.ensures.view in
    subst (λ (w : View). Standing k (record w { focus = focus.Node number from (done + 1) }) t vs) (sym view)
    (passed k v number from done c.in-Leaf.leaf t vs standing refl (subst (λ (p : Piece). done < in_place (later from p)) (sym is) less)
    (ap (λ (p : Piece). nth done (parts (later from p))) is ∙ part2))

pub returns-clause-advanced : goal.returns-clause-advanced
returns-clause-advanced c = λ t vs h at.
    let k : List Node = c.args.nodes.now in
    let number : ℕ = c.args.number in
    let from : ℕ = c.args.from in
    let done : ℕ = c.loop-done.done in
    let n : Node = c.in-Some.node.now in
    let is : piece_at (pieces k) number ≡ node_piece (pieces k) n = c.in-Some.ensures.piece c.requires.sound in
    let v : View = record (view_of c.loop-done.self) { focus = focus.Node number from done } in
    let standing : Standing k v t vs = c.loop-done.invariant t vs (at_focus k (view_of c.args.self.now) (focus.Node number from c.args.done) t vs at h) in
    let count : c.in_place_count-count.result ≡ in_place (piece_from k number from) = c.in_place_count-count.ensures.count (pieces k) ∙ ap (λ (p : Piece). in_place (later from p)) (sym is) in
    let most : done ≤ in_place (piece_from k number from) = at_most k v number from done t vs standing refl in
    let full : done ≡ in_place (piece_from k number from) = omega (arith, count, most, c.loop-done-test.false) in (
      subst (λ (w : View). Standing k w t vs) (sym c.look_at.ensures.view) standing,
      ap (λ (w : View). w.focus) c.look_at.ensures.view ∙ ap (focus.Node number from) full,
    )

pub returns-in-Node-clause-deeper : goal.returns-in-Node-clause-deeper
returns-in-Node-clause-deeper c =
    let number : ℕ = c.args.number in
    let below : IsBelow number c.in-Some-next_child.child.now = c.in-Some-next_child.ensures.below number (c.in-Some.ensures.below c.requires.sound) in
    let less : c.in-Node.inner < number = subst (IsBelow number) c.in-Node.is below in
    λ stays. subst (IsDeeper number) (sym (ap (λ (w : View). w.focus) c.in_ok-enter-in-Node.ensures.view)) less
