-- The laws of sound checkpoints.
use Rattle.std.specs.Prelude.{◌≡◌, []}
use Rattle.asp_model.specs.Term.{Tree, loc}
use Rattle.asp_model.specs.Split.{Split, Stands, Splits, split, plug}
use Rattle.law_steps.specs.Linked.{Each}
use Rattle.law_journals.specs.Numbered.{IsFirst}
use Rattle.law_paths.specs.Whole.{IsWhole}
use Rattle.law_programs.specs.Proper.{IsProper, IsProperContext}
use Rattle.code_laws.specs.Splitting.{redex_node, AreContexts, IsRedex}
use Rattle.law_frozen.specs.Frozen.{FrozenShape, thawed, thawed_first}
use Rattle.law_checkpoints.specs.Order.{AreInOrder}
use Rattle.law_checkpoints.specs.Sound.{IsSoundFrozen}

-- where what is frozen is sound, a run can go on from what is thawed
abbrev pub FrozenAreFirst : Type 0
FrozenAreFirst = (f : FrozenShape) → IsSoundFrozen f → IsFirst (thawed_first f)

-- and that is whole
abbrev pub FrozenAreWhole : Type 0
FrozenAreWhole = (f : FrozenShape) → IsSoundFrozen f → IsWhole (thawed f)

-- its names stand in the order of creation
abbrev pub FrozenAreInOrder : Type 0
FrozenAreInOrder = (f : FrozenShape) → IsSoundFrozen f → AreInOrder (thawed_first f).names

-- what a term splits into gives it back, and is proper
abbrev pub IsSplitAgain : Tree → Split → Type 0
IsSplitAgain t (Stands n) = t ≡ loc n
IsSplitAgain t (Splits contexts redex) = (plug contexts (redex_node redex) ≡ t)
    × (AreContexts contexts × Each IsProperContext contexts)
    × (IsRedex redex × IsProper [] (redex_node redex))

-- so each term of a sound checkpoint is a location, or a redex in contexts
abbrev pub TermsAreRedexes : Type 0
TermsAreRedexes = (t : Tree) → IsProper [] t → IsSplitAgain t (split t)
