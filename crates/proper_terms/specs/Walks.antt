-- What a walk keeps.
use Rattle.std.specs.Prelude.{◌≡◌, ℕ, nat_le, List, [], Option}
use Rattle.asp_model.specs.Names.{Text}
use Rattle.asp_model.specs.Term.{Tree, Trees, child_count}
use Rattle.asp_check.specs.NameFaults.{NameSet}
use Rattle.asp_check.specs.Sets.{names_in}
use Rattle.proper_terms.specs.declared.walk.Walk.{Walk}
use Rattle.proper_terms.specs.Fits.{left_below, left_in, then_left, where_true}

-- the names that are bound where the walk is
abbrev pub bound_in : Walk → NameSet
bound_in w = names_in w.bound

-- the size is the same
abbrev pub KeepsSize : Walk → Walk → Type 0
KeepsSize old new = new.size ≡ old.size

-- behind the terms of a sequence
abbrev pub steps_left : ℕ → NameSet → Trees → ℕ → Option ℕ
steps_left k bound ts n = then_left (where_true (nat_le 2 (child_count ts)) n) (left_below k bound [] ts)

-- How many more holes may stand, from where the walk is: behind a term, also under these names alone,

abbrev pub left_behind : Walk → Tree → Option ℕ
left_behind w t = left_in w.size (bound_in w) t w.holes

abbrev pub left_inside : NameSet → Walk → Tree → Option ℕ
left_inside set w t = left_in w.size set t w.holes

-- behind the terms below a node, and behind those of a sequence

abbrev pub left_over : Walk → List (List Text) → Trees → Option ℕ
left_over w names ts = left_below w.size (bound_in w) names ts w.holes

abbrev pub left_steps : Walk → Trees → Option ℕ
left_steps w ts = steps_left w.size (bound_in w) ts w.holes
