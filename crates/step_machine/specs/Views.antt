-- What moves make of a machine.
use Rattle.std.specs.Prelude.{◌≡◌, ℕ, suc, ◌+◌, ◌-◌, ◌<◌, List, [], ◌∷◌, ◌++◌, Bool, true, false, length, take, drop, reverse}
use Rattle.asp_model.specs.Term.{Tree}
use Rattle.asp_model.specs.Configuration.{ServiceShape}
use Rattle.code_table.specs.declared.code.Leaf.{Leaf}
use Rattle.code_table.specs.declared.code.Node.{Node}
use Rattle.code_table.specs.Tables.{pieces, piece_at}
use Rattle.code_laws.specs.Places.{leaf_place}
use Rattle.code_laws.specs.Nodes.{in_place}
use Rattle.step_machine.specs.declared.frames.Frame.{Frame}
use Rattle.step_machine.specs.declared.frames.Focus.{Focus}
use Rattle.step_machine.specs.declared.frames.Focus.TheVariants as focus
use Rattle.step_machine.specs.declared.frames.Form.{Form}
use Rattle.step_machine.specs.declared.frames.Form.TheVariants as form
use Rattle.step_machine.specs.declared.frames.Spread.{Spread}
use Rattle.step_machine.specs.Calls.{beside_count}
use Rattle.step_machine.specs.Stacks.{piece_from}
use Rattle.step_machine.specs.Standing.{View, Standing}

-- no frame of the term that runs is left
abbrev pub IsAlone : List Frame → Type 0
IsAlone [] = Unit {0}
IsAlone (f ∷ fs) = f.form ≡ form.Service

-- all frames but the innermost
abbrev pub outer : List Frame → List Frame
outer fs = take (length fs - 1) fs

-- it waits for a term
abbrev pub IsOpen : Form → Type 0
IsOpen form.Service = ⊥
IsOpen f = Unit {0}

-- where a frame of so many operands goes on
abbrev pub onward : Form → (number from done : ℕ) → Focus
onward (form.Calls s) number from done = focus.Calls s number from done
onward f number from done = focus.Node number from done

-- the innermost frame takes a place
abbrev pub closed_view : Frame → ℕ → View → View
closed_view f place v = record v { frames = outer v.frames; env = take f.height v.env; operands = v.operands ++ place ∷ []; base = f.base; focus = onward f.form f.node f.from (f.done + 1) }

-- the place of a variable goes to the operands
abbrev pub passed_view : Leaf → View → View
passed_view l v = record v { operands = v.operands ++ leaf_place (drop v.base v.env) l ∷ [] }

-- a frame waits for a node
abbrev pub entered_view : (number from done inner : ℕ) → View → View
entered_view number from done inner v = record v {
  frames = v.frames ++ record { form = form.Terms; node = number; from = from; done = done; base = v.base; height = length v.env } ∷ [];
  focus = focus.Node inner 0 0;
}

abbrev pub IsFilled : List Node → Tree → List ServiceShape → (old new : View) → Bool → Type 0
IsFilled k t vs old new true = Standing k new t vs
IsFilled k t vs old new false = (new ≡ old) × IsAlone (reverse old.frames)

-- a node below the node is entered, or all terms that are reduced in place are done
abbrev pub IsAdvanced : List Node → Tree → List ServiceShape → (number from : ℕ) → View → Bool → Type 0
IsAdvanced k t vs number from new true = Standing k new t vs × (new.focus ≡ focus.Node number from (in_place (piece_from k number from)))
IsAdvanced k t vs number from new false = Standing k new t vs

-- the next call of a group of calls is entered, whose places are these
abbrev pub dealt_view : Spread → (number members done : ℕ) → List ℕ → View → View
dealt_view s number members done round v = record v {
  frames = v.frames ++ record { form = form.Calls s; node = number; from = members; done = done; base = v.base; height = length v.env } ∷ [];
  operands = v.operands ++ round;
  focus = focus.Called number (length round);
}

-- Where a machine stands

-- at a node before this one
abbrev pub IsDeeper : ℕ → Focus → Type 0
IsDeeper n (focus.Node number from done) = number < n
IsDeeper n f = ⊥

-- not at a place
abbrev pub IsInner : Focus → Type 0
IsInner (focus.Place p) = ⊥
IsInner f = Unit {0}

-- how far the way down may be
abbrev pub depth : Focus → ℕ
depth (focus.Node number from done) = suc number
depth f = 0

-- how many operands a group of calls has once all results are there
abbrev pub all_done : List Node → Spread → (number members : ℕ) → ℕ
all_done k s number members = in_place (piece_at (pieces k) number) + members + beside_count s members + members

-- nothing is left to do before the next contraction
abbrev pub IsSettledAt : List Node → List Frame → Focus → Type 0
IsSettledAt k frames (focus.Node number from done) = done ≡ in_place (piece_from k number from)
IsSettledAt k frames (focus.Place p) = IsAlone (reverse frames)
IsSettledAt k frames (focus.Asked n) = Unit {0}
IsSettledAt k frames (focus.Calls s number members done) = done ≡ all_done k s number members
IsSettledAt k frames (focus.Called number n) = Unit {0}

pub record Settled (k : List Node) (t : Tree) (vs : List ServiceShape) (v : View) : Type 0 where
  pub standing : Standing k v t vs
  pub settled : IsSettledAt k v.frames v.focus
