-- Objects that are made anew. An object is read as the node that makes it, with `[]` for each field.
use Rattle.std.specs.Prelude.{◌≡◌, ◌<◌, ℕ, List, ◌++◌, All, Some, length}
use Rattle.asp_model.specs.Names.{Text}
use Rattle.asp_model.specs.Term.{Make, MethodHead, Trees}
use Rattle.asp_model.specs.Store.{Object}
use Rattle.asp_model.specs.Contraction.{fields_at, methods_with}
use Rattle.code_table.specs.declared.class.Class.{Class}
use Rattle.code_table.specs.declared.code.Capture.{Capture}
use Rattle.code_table.specs.declared.code.MethodCode.{MethodCode}
use Rattle.code_table.specs.declared.code.Node.{Node}
use Rattle.code_table.specs.Classes.{class_at}
use Rattle.code_table.specs.Sound.{IsSound}
use Rattle.code_table.specs.Tables.{object_of, pieces}
use Rattle.code_laws.specs.Places.{kept_places, slot}
use Rattle.frozen_code.specs.Held.{IsHeld}

-- what is captured stands among so many places
abbrev pub AreWithin : ℕ → List Capture → Type 0
AreWithin n cs = All (λ (c : Capture). slot c.leaf < n) cs

abbrev pub AreKept : ℕ → List MethodCode → Type 0
AreKept n ms = All (λ (m : MethodCode). AreWithin n m.captured.items) ms

-- the places of its fields, and those that its methods capture in the environment of its node
abbrev pub restored_places : Class → (fields ns : List ℕ) → List ℕ
restored_places class fields ns = fields ++ kept_places ns class.methods.items

-- Laws

-- all that its methods capture stands in the environment of its node
abbrev pub ObjectsAreKept : Type 0
ObjectsAreKept = (k : List Node) (number : ℕ) (class : Class) (n : ℕ) (ns : List ℕ) (labels : List Text)
    (heads : List MethodHead) (bodies : Trees)
    → IsSound k → class_at k number ≡ Some class → IsHeld k number ns (Make labels heads) n bodies
    → AreKept (length ns) class.methods.items

-- with its places it is the object that was read
abbrev pub ObjectsAreRestored : Type 0
ObjectsAreRestored = (k : List Node) (number : ℕ) (class : Class) (fields ns : List ℕ) (labels : List Text)
    (heads : List MethodHead) (bodies : Trees)
    → IsSound k → class_at k number ≡ Some class → length fields ≡ length labels
    → IsHeld k number ns (Make labels heads) (length fields) bodies
    → object_of (pieces k) class (restored_places class fields ns) ≡ Object (fields_at labels fields)
    (methods_with heads bodies)
