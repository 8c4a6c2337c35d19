-- What the frames of a machine stand for.
use Rattle.std.specs.Prelude.{◌≡◌, ℕ, ◌-◌, ◌<◌, ◌≤◌, List, [], ◌∷◌, length, take, drop}
use Rattle.asp_model.specs.Names.{Text}
use Rattle.asp_model.specs.Term.{Environment}
use Rattle.asp_model.specs.Split.{Context}
use Rattle.code_table.specs.declared.code.Node.{Node}
use Rattle.code_table.specs.Pieces.{Piece}
use Rattle.code_table.specs.Fitting.{Runs}
use Rattle.code_table.specs.Tables.{pieces, piece_at}
use Rattle.code_laws.specs.Nodes.{in_place, context_in}
use Rattle.step_machine.specs.declared.frames.Frame.{Frame}
use Rattle.step_machine.specs.declared.frames.Form.{Form}
use Rattle.step_machine.specs.declared.frames.Form.TheVariants as form
use Rattle.step_machine.specs.Sequences.{later}
use Rattle.step_machine.specs.Items.{Item, Waits, Suspends}
use Rattle.step_machine.specs.Calls.{IsCalling}

-- the piece of a number, whose first terms are gone
abbrev pub piece_from : List Node → ℕ → ℕ → Piece
piece_from k number from = later from (piece_at (pieces k) number)

-- a node of which the next term runs, where its first ones lie on the operands
pub record IsWaiting (k : List Node) (ns operands : List ℕ) (number from : ℕ) (c : Context) : Type 0 where
  pub names : List Text
  pub scope : Environment
  pub runs : Runs names scope ns (piece_from k number from)
  pub unfinished : length operands < in_place (piece_from k number from)
  pub is : c ≡ context_in names scope ns (piece_from k number from) operands

abbrev pub IsItem : List Node → (ns operands : List ℕ) → Form → (number from : ℕ) → Item → Type 0
IsItem k ns operands form.Terms number from (Waits c) = IsWaiting k ns operands number from c
IsItem k ns operands form.Terms number from (Suspends f) = ⊥
IsItem k ns operands (form.Calls s) number from (Waits c) = IsCalling k s operands number from c
IsItem k ns operands (form.Calls s) number from (Suspends f) = ⊥
IsItem k ns operands form.Service number from (Waits c) = ⊥
IsItem k ns operands form.Service number from (Suspends f) = operands ≡ []

pub record IsWithin (f : Frame) (env operands : List ℕ) : Type 0 where
  pub low : f.base ≤ f.height
  pub high : f.height ≤ length env
  pub done : f.done ≤ length operands

-- the last n of these, and the others
abbrev pub last : ℕ → List ℕ → List ℕ
last n ks = drop (length ks - n) ks

abbrev pub but_last : ℕ → List ℕ → List ℕ
but_last n ks = take (length ks - n) ks

-- frames and items, innermost first
abbrev pub IsStack : List Node → List Frame → (env operands : List ℕ) → List Item → Type 0
IsStack k [] env operands [] = operands ≡ []
IsStack k [] env operands (x ∷ xs) = ⊥
IsStack k (f ∷ fs) env operands [] = ⊥
IsStack k (f ∷ fs) env operands (x ∷ xs) =
    IsWithin f env operands × IsItem k (drop f.base (take f.height env)) (last f.done operands) f.form f.node f.from x
    × IsStack k fs (take f.height env) (but_last f.done operands) xs

-- where the environment of the innermost frame ends
abbrev pub top : List Frame → ℕ
top [] = 0
top (f ∷ fs) = f.height
