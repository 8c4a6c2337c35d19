-- The places that code holds in an environment.
use Rattle.std.specs.Prelude.{ℕ, List, Option, Some, None, map, slice_get}
use Rattle.std.specs.Option.{option_to_list}
use Rattle.asp_model.specs.Term.{Trees, none, loc, locations}
use Rattle.code_table.specs.declared.code.Capture.{Capture}
use Rattle.code_table.specs.declared.code.Child.{Child}
use Rattle.code_table.specs.declared.code.Kind.{Kind}
use Rattle.code_table.specs.declared.code.Kind.TheVariants as kind
use Rattle.code_table.specs.declared.code.Leaf.{Leaf}
use Rattle.code_table.specs.declared.code.MethodCode.{MethodCode}
use Rattle.code_table.specs.Pieces.{Piece}
use Rattle.code_table.specs.Tables.{bodies_of, piece_of}
use Rattle.code_laws.specs.Places.{slot}
use Rattle.code_laws.specs.Shown.{shown, shown_bodies, shown_captures}

-- the place of a variable, if it is bound
abbrev pub leaf_held : List ℕ → Leaf → Option ℕ
leaf_held ns l = slice_get ns (slot l)

abbrev pub capture_held : List ℕ → Option Capture → Option ℕ
capture_held ns None = None
capture_held ns (Some c) = leaf_held ns c.leaf

-- the place of what a method captures at a slot, if it is bound
abbrev pub use_held : List ℕ → List Capture → ℕ → List ℕ
use_held ns cs k = option_to_list (capture_held ns (slice_get cs k))

-- the places of a term below a node
abbrev pub child_held : List ℕ → List Piece → Child → List ℕ
child_held ns ps c = locations (shown (map loc ns) (piece_of ps c))

-- those of a method's body
abbrev pub body_held : List ℕ → List Piece → MethodCode → List ℕ
body_held ns ps m = locations (shown (shown_captures (map loc ns) m.captured.items) (piece_of ps m.body))

-- those of the methods that stand behind the terms of a node
abbrev pub methods_behind : List ℕ → List Piece → Kind → Trees
methods_behind ns ps (kind.Make k) = shown_bodies (map loc ns) (bodies_of ps k.value.methods.items)
methods_behind ns ps k = none
