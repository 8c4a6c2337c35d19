-- What the tests say.
use Rattle.std.specs.Prelude.{◌≡◌, ℕ, true, List, []}
use Rattle.asp_model.specs.Names.{Text}
use Rattle.asp_model.specs.Term.{MethodHead, Tree, locations}
use Rattle.asp_model.specs.Store.{MethodShape}
use Rattle.law_steps.specs.Closed.{AreBelow}
use Rattle.law_programs.specs.Proper.{are_single, IsProper, IsProperMethod}
use Rattle.proper_terms.specs.Fits.{fits, is_single, method_fits}

-- a term without a hole fits exactly where it is proper and all its places are below the size
abbrev pub FittingIsProper : Type 0
FittingIsProper = (k : ℕ) (t : Tree)
    → (fits k 0 t ≡ true → IsProper [] t × AreBelow k (locations t))
    × (IsProper [] t × AreBelow k (locations t) → fits k 0 t ≡ true)

-- so does a method
abbrev pub FittingMethodIsProper : Type 0
FittingMethodIsProper = (k : ℕ) (m : MethodShape)
    → (method_fits k m ≡ true → IsProperMethod m × AreBelow k (locations m.body))
    × (IsProperMethod m × AreBelow k (locations m.body) → method_fits k m ≡ true)

-- and the labels and names of an object stand once, as proper objects have them
abbrev pub SingleIsSingle : Type 0
SingleIsSingle = (fields : List Text) (methods : List MethodHead) → is_single fields methods ≡ are_single fields methods
