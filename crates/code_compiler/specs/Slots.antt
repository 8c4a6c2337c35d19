-- The names of a scope, and the slots of those that are bound in it.
use Rattle.std.specs.Prelude.{ℕ, List, ◌++◌, map}
use Rattle.std.specs.Borrow.{Bor}
use Rattle.asp_model.specs.declared.term.Method.{Method}
use Rattle.asp_model.specs.Names.{Text}
use Rattle.asp_model.specs.Term.{Environment}
use Rattle.code_table.specs.Fitting.{names, head_names}
use Rattle.code_table.specs.Parts.{method_head}
use Rattle.code_compiler.specs.declared.scope.Scope.{Scope}

abbrev pub environment : List (Bor Text × ℕ) → Environment
environment bs = map (λ b. (b.0.now, b.1)) bs

-- all names that a body may use
abbrev pub names_of : Scope → List Text
names_of s = names (environment s.bound.now) ++ s.captured.now

-- the names that a method binds in its body
abbrev pub bound_in : Method → List Text
bound_in m = head_names (method_head m)
