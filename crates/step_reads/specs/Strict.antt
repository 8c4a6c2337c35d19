-- Strict operands, and the values that are unpacked at their places.
use Rattle.std.specs.Prelude.{◌≡◌, ℕ, Bool, true, false, List, [], ◌∷◌}
use Rattle.asp_model.specs.Configuration as model
use Rattle.asp_model.specs.Names.{FutureShape}
use Rattle.asp_model.specs.Store.{Store, cell}
use Rattle.asp_model.specs.Chase.{Chase}
use Rattle.asp_model.specs.Contraction.{members_of}
use Rattle.asp_model.specs.Intent.{Ready, Reads, Lacks, operand_ready, operands_ready}
use Rattle.step_rows.specs.declared.redex.Redex.{Redex}
use Rattle.step_rows.specs.declared.redex.Redex.TheVariants as redex
use Rattle.activity_step.specs.declared.activity.Activity.{Activity}
use Rattle.activity_step.specs.Activities.{StandsFor}
use Rattle.step_reads.specs.declared.strict.Strict.{Strict}
use Rattle.step_reads.specs.declared.strict.Strict.TheVariants as strict

abbrev pub strict_places : Strict → List ℕ
strict_places strict.Nothing = []
strict_places (strict.One i) = i ∷ []
strict_places (strict.Two i k) = i ∷ k ∷ []
strict_places (strict.Members i) = i ∷ []

-- the strict operands of a redex
abbrev pub strict_in : Redex → Strict
strict_in redex.Goes = strict.Nothing
strict_in (redex.Get i l) = strict.One i
strict_in (redex.Put i l k) = strict.One i
strict_in (redex.Call i l ks) = strict.One i
strict_in (redex.Clone i) = strict.One i
strict_in (redex.Active i l) = strict.One i
strict_in (redex.Serve ls) = strict.Nothing
strict_in (redex.Pending ls) = strict.Nothing
strict_in (redex.If i) = strict.One i
strict_in (redex.Operate sign i k) = strict.Two i k
strict_in (redex.Print i) = strict.One i
strict_in (redex.Scatter i l k) = strict.Two i k
strict_in (redex.Size i) = strict.One i
strict_in (redex.Member i k) = strict.Two i k
strict_in (redex.WaitAll i) = strict.Members i

-- the members of a group that is waited for are read over the store where the group was
abbrev pub members_ready : (FutureShape → Chase) → ℕ → Ready → Ready
members_ready chases i (Reads t) = operands_ready chases t (members_of (cell t i))
members_ready chases i (Lacks f) = Lacks f

-- the store where the operands are read, or the future that is awaited
abbrev pub strict_ready : (FutureShape → Chase) → Store → Strict → Ready
strict_ready chases s (strict.Members i) = members_ready chases i (operand_ready chases s i (cell s i))
strict_ready chases s x = operands_ready chases s (strict_places x)

-- the activity stands over the store where the operands are read, if each has a value
abbrev pub IsFetched : model.Activity → Ready → Activity → Bool → Type 0
IsFetched a (Reads s) new ready = (ready ≡ true) × StandsFor new (record a { store = s })
IsFetched a (Lacks f) new ready = ready ≡ false
