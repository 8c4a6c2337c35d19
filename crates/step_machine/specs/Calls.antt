-- Groups of calls: a call on a group, or a `scatter`, of which the first calls are done.
use Rattle.std.specs.Prelude.{◌≡◌, ◌<◌, ◌≤◌, ◌+◌, ℕ, suc, List, [], ◌∷◌, ◌++◌, length, map, drop, slice_index_or, slice_range}
use Rattle.asp_model.specs.Names.{Text}
use Rattle.asp_model.specs.Term.{Call, Group, Scatter, Tree, Trees, node, none, more, locs_then}
use Rattle.asp_model.specs.Split.{Context}
use Rattle.code_table.specs.declared.code.Node.{Node}
use Rattle.code_table.specs.Pieces.{Piece, piece}
use Rattle.code_table.specs.Tables.{pieces, piece_at}
use Rattle.code_laws.specs.Nodes.{in_place}
use Rattle.step_machine.specs.declared.calls.Round.{Round}
use Rattle.step_machine.specs.declared.frames.Spread.{Spread}
use Rattle.step_machine.specs.declared.frames.Spread.TheVariants as spread

-- the label of the calls that a node stands for
abbrev pub called_label : Piece → Text
called_label (piece (Call l) ps) = l
called_label (piece (Scatter l) ps) = l
called_label p = []

-- how many places stand beside so many members
abbrev pub beside_count : Spread → ℕ → ℕ
beside_count spread.Same n = 0
beside_count spread.Own n = n

-- each of the one with one of the other
abbrev pub pairs : List ℕ → List ℕ → List (List ℕ)
pairs [] ks = []
pairs (n ∷ ns) [] = []
pairs (n ∷ ns) (k ∷ ks) = (n ∷ k ∷ []) ∷ pairs ns ks

-- the places of each call: its receiver, and the arguments
abbrev pub rounds : Spread → (given members beside : List ℕ) → List (List ℕ)
rounds spread.Same given ns ks = map (λ n. n ∷ drop 1 given) ns
rounds spread.Own given ns ks = pairs ns ks

abbrev pub calls : Text → List (List ℕ) → Trees
calls l [] = none
calls l (r ∷ rs) = more (node (Call l) (locs_then r none)) (calls l rs)

-- its operands: what the node was given, the members, what stands beside them, and the results
pub record IsLaid (k : List Node) (s : Spread) (number members : ℕ) (operands : List ℕ) : Type 0 where
  pub given : List ℕ
  pub receivers : List ℕ
  pub beside : List ℕ
  pub results : List ℕ
  pub given_size : length given ≡ in_place (piece_at (pieces k) number)
  pub size : length receivers ≡ members
  pub beside_size : length beside ≡ beside_count s members
  pub are : operands ≡ given ++ receivers ++ beside ++ results

-- all its calls but the first n
abbrev pub calls_behind : (k : List Node) (s : Spread) (number members : ℕ) (operands : List ℕ) → IsLaid k s number members operands → ℕ → Trees
calls_behind k s number members operands x n = calls (called_label (piece_at (pieces k) number)) (drop n (rounds s x.given x.receivers x.beside))

-- the next call runs
pub record IsCalling (k : List Node) (s : Spread) (operands : List ℕ) (number members : ℕ) (c : Context) : Type 0 where
  pub laid : IsLaid k s number members operands
  pub unfinished : length laid.results < members
  pub is : c ≡ record { head = Group; before = laid.results; behind = calls_behind k s number members operands laid (suc (length laid.results)) }

-- the next call is to be taken, if one is left
pub record IsDealt (k : List Node) (s : Spread) (operands : List ℕ) (number members : ℕ) (t : Tree) : Type 0 where
  pub laid : IsLaid k s number members operands
  pub most : length laid.results ≤ members
  pub is : t ≡ node Group (locs_then laid.results (calls_behind k s number members operands laid (length laid.results)))

-- a call of the node's label
pub record IsCalled (k : List Node) (operands : List ℕ) (number : ℕ) (t : Tree) : Type 0 where
  pub whole : length operands ≡ in_place (piece_at (pieces k) number)
  pub is : t ≡ node (Call (called_label (piece_at (pieces k) number))) (locs_then operands none)

-- where the call behind so many others stands, where the operands of all begin at an index
abbrev pub IsRoundAt : Spread → (start given members before : ℕ) → Round → Type 0
IsRoundAt spread.Same start given members before r = (r.receiver ≡ start + given + before) × (r.first ≡ start + 1) × (r.end ≡ start + given) × (1 ≤ given)
IsRoundAt spread.Own start given members before r = (r.receiver ≡ start + given + before) × (r.first ≡ start + given + before + members) × (r.end ≡ start + given + before + members + 1) × (given ≡ 2)

-- the places that stand there
abbrev pub round_in : Round → List ℕ → List ℕ
round_in r ks = slice_index_or ks r.receiver 0 ∷ slice_range ks r.first r.end
