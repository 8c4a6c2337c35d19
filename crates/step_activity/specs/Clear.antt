-- Which members of a group that is waited for have come.
use Rattle.std.specs.Prelude.{◌≡◌, ◌<◌, ℕ, false, List, [], ◌∷◌, length, take}
use Rattle.asp_model.specs.Configuration.{Activity}
use Rattle.asp_model.specs.Contraction.{is_future}
use Rattle.asp_model.specs.Split.{Context, Splits, split}
use Rattle.asp_model.specs.Store.{CellShape, Group, Store, cell}
use Rattle.asp_model.specs.Term.{WaitAll}
use Rattle.law_steps.specs.Linked.{Each}
use Rattle.step_rows.specs.Decisions.{value_redex}
use Rattle.step_reads.specs.declared.strict.Strict.{Strict}
use Rattle.step_reads.specs.declared.strict.Strict.TheVariants as strict

-- this place of the store holds no future
abbrev pub IsClear : Store → ℕ → Type 0
IsClear s n = (n < length s) × (is_future (cell s n) ≡ false)

-- so are the first so many members of a group; what is none has no member
abbrev pub AreClear : Store → CellShape → ℕ → Type 0
AreClear s (Group ns) k = Each (IsClear s) (take k ns)
AreClear s c k = k ≡ 0

-- of the group whose members are strict operands; at other operands nothing is said
abbrev pub AreClearAt : Store → Strict → ℕ → Type 0
AreClearAt s (strict.Members i) k = AreClear s (cell s i) k
AreClearAt s x k = Unit {0}

-- where it waits for the members of a group, the first so many are clear
abbrev pub HasClear : Activity → ℕ → Type 0
HasClear a k = (cs : List Context) (i : ℕ) → split a.term ≡ Splits cs (value_redex WaitAll (i ∷ [])) → AreClear a.store (cell a.store i) k
