use Rattle.std.proofs.Common.{◌≡◌, ◌+◌, ◌<◌, ◌≤◌, ◌++◌, ◌∙◌, List, ℕ, Some, None, length, map, drop, get_or, sym, ap, subst, arith}
use Rattle.std.specs.List.{flat_map}
use Rattle.asp_model.specs.Term.{Tree, loc, locations_below, more, none}
use Rattle.code_table.specs.declared.code.Child.{Child}
use Rattle.code_table.specs.declared.code.Node.{Node}
use Rattle.code_table.specs.Pieces.{Piece}
use Rattle.code_table.specs.Sound.{AllBelow}
use Rattle.code_table.specs.Tables.{kind_piece, node_piece, piece_at, pieces, pieces_of}
use Rattle.code_table.proofs.TableLemmas.{node_here}
use Rattle.code_laws.specs.Nodes.{nth, rest}
use Rattle.code_laws.specs.Shown.{shown}
use Rattle.code_reading.specs.Decoded.{gone}
use Rattle.code_reading.proofs.DecodeLemmas.{node_below}
use Rattle.path_equal.specs.Held.{child_held, methods_behind}
use Rattle.path_equal.specs.Searches.{searched}
use Rattle.path_equal.proofs.ContextLemmas.{all_below_drop, others_left, rolled_left}
use Rattle.path_equal.proofs.HeldLemmas.{kind_sound}
use Rattle.path_equal.proofs.context.past_behind.Goals as goal

pub past_left-requires-clause-below : goal.past_left-requires-clause-below
past_left-requires-clause-below c =
    let i = c.args.number in
    let ns : List Node = c.args.code.now in
    let n : Node = c.index-nodes-number.result in
    let cs : List Child = n.children.items in
    let past : i < length c.nodes-nodes.result.now = omega (arith, c.if-number-nodes.false) in
    let within : i < length ns = subst (λ (ms : List Node). i < length ms) c.nodes-nodes.ensures.nodes past in
    let is : n ≡ get_or ns i n = c.index-nodes-number.is ∙ ap (λ (ms : List Node). get_or ms i n) c.nodes-nodes.ensures.nodes in
    let below = (node_below ns i n within is c.nodes-nodes.ensures.sound).0 in
    let left : c.all_but-left.result.now ≡ drop c.args.holes (drop c.args.done (drop c.in-Some.gone cs)) =
    c.all_but-left.ensures.children ∙ ap (drop c.args.holes) (c.all_but-in-Some.ensures.children ∙ ap (drop c.args.done) (c.all_but.ensures.children ∙ ap (drop c.in-Some.gone) c.deref.ensures.value)) in
    subst (AllBelow i) (sym left) (all_below_drop i (drop c.args.done (drop c.in-Some.gone cs)) c.args.holes (all_below_drop i (drop c.in-Some.gone cs) c.args.done (all_below_drop i cs c.in-Some.gone below)))

pub past_left-requires-clause-sound : goal.past_left-requires-clause-sound
past_left-requires-clause-sound c =
    let i = c.args.number in
    let ns : List Node = c.args.code.now in
    let n : Node = c.index-nodes-number.result in
    let past : i < length c.nodes-nodes.result.now = omega (arith, c.if-number-nodes.false) in
    let within : i < length ns = subst (λ (ms : List Node). i < length ms) c.nodes-nodes.ensures.nodes past in
    let is : n ≡ get_or ns i n = c.index-nodes-number.is ∙ ap (λ (ms : List Node). get_or ms i n) c.nodes-nodes.ensures.nodes in
    kind_sound ns i n within is c.nodes-nodes.ensures.sound

pub past_rolled-requires-clause-children : goal.past_rolled-requires-clause-children
past_rolled-requires-clause-children c =
    let i = c.args.number in
    let ns : List Node = c.args.code.now in
    let n : Node = c.index-nodes-number.result in
    let past : i < length c.nodes-nodes.result.now = omega (arith, c.if-number-nodes.false) in
    let within : i < length ns = subst (λ (ms : List Node). i < length ms) c.nodes-nodes.ensures.nodes past in
    let is : n ≡ get_or ns i n = c.index-nodes-number.is ∙ ap (λ (ms : List Node). get_or ms i n) c.nodes-nodes.ensures.nodes in
    (node_below ns i n within is c.nodes-nodes.ensures.sound).0

pub returns-in-Some : goal.returns-in-Some
returns-in-Some c = record {
  searched = λ within most.
      let ks = c.args.places.now in
      let i = c.args.number in
      let ns : List Node = c.args.code.now in
      let ps : List Piece = pieces ns in
      let n : Node = c.index-nodes-number.result in
      let cs : List Child = n.children.items in
      let is : n ≡ get_or ns i n = c.index-nodes-number.is ∙ ap (λ (ms : List Node). get_or ms i n) c.nodes-nodes.ensures.nodes in
      let at : piece_at ps i ≡ kind_piece ps n.kind (pieces_of ps cs) = node_here ns i n within c.nodes-nodes.ensures.sound ∙ ap (node_piece ps) (sym is) in
      let left : c.all_but-left.result.now ≡ drop c.args.holes (drop c.args.done (drop c.in-Some.gone cs)) =
      c.all_but-left.ensures.children ∙ ap (drop c.args.holes) (c.all_but-in-Some.ensures.children ∙ ap (drop c.args.done) (c.all_but.ensures.children ∙ ap (drop c.in-Some.gone) c.deref.ensures.value)) in
      let g : gone n.kind c.args.from ≡ Some c.in-Some.gone = sym c.gone_in.ensures.gone ∙ c.in-Some.is in
      c.past_left.ensures.searched ∙ ap (λ (ds : List Child). searched (flat_map (child_held ks ps) ds ++ locations_below (methods_behind ks ps n.kind)) c.args.search) left
      ∙ ap (λ (xs : List ℕ). searched xs c.args.search) (others_left ks ps n.kind cs c.args.from c.in-Some.gone c.args.done c.args.holes (piece_at ps i) at g most);
}

pub returns-in-None : goal.returns-in-None
returns-in-None c = record {
  searched = λ within most.
      let ts : List Tree = map loc c.args.places.now in
      let i = c.args.number in
      let ns : List Node = c.args.code.now in
      let ps : List Piece = pieces ns in
      let n : Node = c.index-nodes-number.result in
      let cs : List Child = n.children.items in
      let is : n ≡ get_or ns i n = c.index-nodes-number.is ∙ ap (λ (ms : List Node). get_or ms i n) c.nodes-nodes.ensures.nodes in
      let at : piece_at ps i ≡ kind_piece ps n.kind (pieces_of ps cs) = node_here ns i n within c.nodes-nodes.ensures.sound ∙ ap (node_piece ps) (sym is) in
      let g : gone n.kind c.args.from ≡ None = sym c.gone_in.ensures.gone ∙ c.in-None.is in
      let both = rolled_left ts ps n.kind cs c.args.from (c.args.done + c.args.holes) (piece_at ps i) at g most in
      let small : c.args.done + c.args.holes ≤ 2 = both.0 in
      let sum : c.saturating_add.result ≡ c.args.done + c.args.holes = omega (arith, small, c.saturating_add.ensures) in
      let low : c.saturating_add.result ≤ 2 = omega (arith, small, sum) in
      c.past_rolled.ensures.searched low
      ∙ ap (λ (m : ℕ). searched (locations_below (rest m (more (shown ts (nth 0 (pieces_of ps cs))) (more (shown ts (piece_at ps i)) none)))) c.args.search) sum
      ∙ ap (λ (xs : List ℕ). searched xs c.args.search) both.1;
}
