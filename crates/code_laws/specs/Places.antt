-- The places of variables, and what objects capture, in an environment.
use Rattle.std.specs.Prelude.{ℕ, List, [], ◌∷◌, ◌++◌, map, get_or}
use Rattle.code_table.specs.declared.code.Leaf.{Leaf}
use Rattle.code_table.specs.declared.code.Leaf.TheVariants as leaves
use Rattle.code_table.specs.declared.code.Capture.{Capture}
use Rattle.code_table.specs.declared.code.MethodCode.{MethodCode}

abbrev pub slot : Leaf → ℕ
slot (leaves.Own k x) = k
slot (leaves.Kept k) = k

-- the place that a variable stands for
abbrev pub leaf_place : List ℕ → Leaf → ℕ
leaf_place ns l = get_or ns (slot l) 0

-- the places that a method captures where its object is made
abbrev pub captured_places : List ℕ → List Capture → List ℕ
captured_places ns cs = map (λ c. leaf_place ns c.leaf) cs

-- those of the methods of a class, each method's behind the one before
abbrev pub kept_places : List ℕ → List MethodCode → List ℕ
kept_places ns [] = []
kept_places ns (m ∷ ms) = captured_places ns m.captured.items ++ kept_places ns ms
