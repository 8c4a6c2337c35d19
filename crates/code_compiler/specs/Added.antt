-- What compiling adds, as the code has it.
use Rattle.std.specs.Prelude.{ℕ, List, [], ◌∷◌, map}
use Rattle.std.specs.Global.{Vec}
use Rattle.asp_model.specs.declared.term.Method.{Method}
use Rattle.asp_model.specs.Term.{Tree}
use Rattle.code_table.specs.declared.code.Child.{Child}
use Rattle.code_table.specs.declared.code.MethodCode.{MethodCode}
use Rattle.code_table.specs.declared.code.Node.{Node}
use Rattle.code_compiler.specs.Slots.{environment}
use Rattle.code_table.specs.Parts.{body_tree, method_head}
use Rattle.code_compiler.specs.declared.scope.Scope.{Scope}
use Rattle.code_compiler.specs.Compiled.{Body, Adds, AddsMethods}

-- a body that has used these slots so far
abbrev pub body_of : Scope → List ℕ → Body
body_of s us = record { captured = s.captured.now; bound = environment s.bound.now; uses = us }

abbrev pub AddsTerms : Scope → Vec ℕ → Vec ℕ → Vec Node → Vec Node → Vec Child → Vec Child → List Tree → Type 0
AddsTerms s us vs ns ms cs ds ts = Adds (body_of s us.items) (body_of s vs.items) ns.items ms.items cs.items ds.items ts

abbrev pub AddsTerm : Scope → Vec ℕ → Vec ℕ → Vec Node → Vec Node → Vec Child → Vec Child → Tree → Type 0
AddsTerm s us vs ns ms cs ds t = AddsTerms s us vs ns ms cs ds (t ∷ [])

-- a row of children of its own
abbrev pub AddsRow : Scope → Vec ℕ → Vec ℕ → Vec Node → Vec Node → Vec Child → List Tree → Type 0
AddsRow s us vs ns ms row ts = Adds (body_of s us.items) (body_of s vs.items) ns.items ms.items [] row.items ts

-- one child alone
abbrev pub AddsChild : Scope → Vec ℕ → Vec ℕ → Vec Node → Vec Node → Child → List Tree → Type 0
AddsChild s us vs ns ms c ts = Adds (body_of s us.items) (body_of s vs.items) ns.items ms.items [] (c ∷ []) ts

-- the code of these methods, whose captured places begin at a number of their object's
abbrev pub AddsCode : Scope → Vec ℕ → Vec ℕ → Vec Node → Vec Node → ℕ → List MethodCode → List Method → Type 0
AddsCode s us vs ns ms start codes methods = AddsMethods (body_of s us.items) (body_of s vs.items) ns.items ms.items start codes (map method_head methods) (map body_tree methods)
