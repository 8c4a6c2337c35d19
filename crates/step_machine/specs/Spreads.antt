-- Calls as they are taken, and groups of calls as they begin and end.
use Rattle.std.specs.Prelude.{◌≡◌, ◌+◌, ◌≤◌, ℕ, List, ◌++◌, length, take, reverse}
use Rattle.asp_model.specs.Names.{Text}
use Rattle.asp_model.specs.Term.{Call, Group, Tree, none}
use Rattle.asp_model.specs.Split.{Splits, split}
use Rattle.asp_model.specs.Configuration.{ServiceShape}
use Rattle.code_table.specs.declared.code.Node.{Node}
use Rattle.code_table.specs.Tables.{pieces, piece_at}
use Rattle.code_laws.specs.Nodes.{in_place}
use Rattle.step_machine.specs.declared.frames.Focus.TheVariants as focus
use Rattle.step_machine.specs.declared.frames.Spread.{Spread}
use Rattle.step_machine.specs.Items.{contexts_of}
use Rattle.step_machine.specs.Calls.{called_label}
use Rattle.step_machine.specs.Stacks.{last, top}
use Rattle.step_machine.specs.Standing.{View}
use Rattle.step_machine.specs.Rows.{without_last}
use Rattle.step_machine.specs.Services.{Below}

-- calls of these members stand there, in no environment, behind what their node was given: the last operands
abbrev pub spread_view : Spread → (number count : ℕ) → (members beside : List ℕ) → View → View
spread_view s number count ns ks v =
    let low = take (top (reverse v.frames)) v.env in
    record v { env = low; base = length low; operands = v.operands ++ ns ++ ks; focus = focus.Calls s number (length ns) (count + length ns + length ks) }

-- at a call of a node's label, of the last operands
pub record IsAtCall (k : List Node) (v : View) (number n : ℕ) (l : Text) (t : Tree) (vs : List ServiceShape) : Type 0 where
  pub below : Below k (without_last n v) vs
  pub low : v.base ≤ length v.env
  pub enough : n ≤ length v.operands
  pub label : called_label (piece_at (pieces k) number) ≡ l
  pub whole : n ≡ in_place (piece_at (pieces k) number)
  pub splits : split t ≡ Splits (contexts_of below.items) (record { head = Call l; places = last n v.operands; behind = none })

-- at a group of the last places, of so many operands in all
pub record IsAtResults (k : List Node) (v : View) (members n : ℕ) (t : Tree) (vs : List ServiceShape) : Type 0 where
  pub below : Below k (without_last n v) vs
  pub low : v.base ≤ length v.env
  pub splits : split t ≡ Splits (contexts_of below.items) (record { head = Group; places = last members v.operands; behind = none })
