-- Services that begin and end.
use Rattle.std.specs.Prelude.{◌≡◌, ℕ, ◌-◌, ◌≤◌, List, [], ◌∷◌, ◌++◌, Option, length, take, reverse}
use Rattle.asp_model.specs.Names.{Text, FutureShape}
use Rattle.asp_model.specs.Term.{Tree}
use Rattle.asp_model.specs.Split.{Redex, Splits, split}
use Rattle.asp_model.specs.Configuration.{ServiceShape}
use Rattle.code_table.specs.declared.code.Node.{Node}
use Rattle.step_machine.specs.declared.frames.Frame.{Frame}
use Rattle.step_machine.specs.declared.frames.Focus.TheVariants as focus
use Rattle.step_machine.specs.declared.frames.Form.TheVariants as form
use Rattle.step_machine.specs.Items.{Item, contexts_of, services_of, futures_of}
use Rattle.step_machine.specs.Stacks.{IsStack}
use Rattle.step_machine.specs.Standing.{View}
use Rattle.step_machine.specs.Views.{outer}
use Rattle.step_machine.specs.Rows.{without_last}
use Rattle.step_machine.specs.Rows.{without_last}

-- a call of these places is looked at
abbrev pub asked_view : Text → List ℕ → View → View
asked_view l ks v = record v { operands = v.operands ++ ks; asked = l; focus = focus.Asked (length ks) }

-- round the environment of the term that waits
abbrev pub service_frame : View → Frame
service_frame v = record { form = form.Service; node = 0; from = 0; done = 0; base = v.base; height = length v.env }

-- the term waits for the end of a service
abbrev pub marked_view : Option FutureShape → View → View
marked_view f v = record v { frames = v.frames ++ service_frame v ∷ []; futures = v.futures ++ f ∷ [] }

abbrev pub suspended_view : Option FutureShape → Text → List ℕ → View → View
suspended_view f l ks v = asked_view l ks (marked_view f v)

-- the term that waited goes on with a node
abbrev pub resumed_view : Frame → ℕ → View → View
resumed_view f number v = record v { frames = outer v.frames; futures = take (length v.futures - 1) v.futures; env = take f.height v.env; base = f.base; focus = focus.Node number 0 0 }

-- the innermost frame is a service's, the term is a place, and what waited had this future to answer
pub record IsResumed (number : ℕ) (old new : View) (f : Option FutureShape) : Type 0 where
  pub place : ℕ
  pub frame : Frame
  pub rests : old.focus ≡ focus.Place place
  pub service : frame.form ≡ form.Service
  pub frames : old.frames ≡ outer old.frames ++ frame ∷ []
  pub futures : old.futures ≡ take (length old.futures - 1) old.futures ++ f ∷ []
  pub view : new ≡ resumed_view frame number old

-- a machine whose focus has no operands of its own
pub record Below (k : List Node) (v : View) (vs : List ServiceShape) : Type 0 where
  pub items : List Item
  pub stack : IsStack k (reverse v.frames) v.env v.operands items
  pub futures : reverse v.futures ≡ futures_of items
  pub suspended : vs ≡ services_of items

-- at a redex of so many operands, in the contexts of the frames
pub record IsAtSome (k : List Node) (v : View) (t : Tree) (vs : List ServiceShape) (n : ℕ) : Type 0 where
  pub redex : Redex
  pub low : v.base ≤ length v.env
  pub below : Below k (without_last n v) vs
  pub splits : split t ≡ Splits (contexts_of below.items) redex
