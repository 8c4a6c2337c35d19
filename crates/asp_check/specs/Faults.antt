-- All faults of a program, that it is checked, and its first fault.
use Rattle.std.specs.Prelude.{◌≡◌, ℕ, Bool, false, List, [], ◌++◌, Contains}
use Rattle.std.specs.Ordering.{nat_cmp, then_cmp, on, is_lt}
use Rattle.asp_model.specs.Marked.{Marked}
use Rattle.asp_check.specs.declared.fault.CheckFault.{CheckFault}
use Rattle.asp_check.specs.declared.fault.CheckKind.{CheckKind}
use Rattle.asp_check.specs.declared.fault.CheckKind.TheVariants.{Unbound, DoubleLabel, DoubleParameter, TooManyParameters, Arity, ServiceArity}
use Rattle.asp_check.specs.NameFaults.{no_names, name_faults}
use Rattle.asp_check.specs.ArityFaults.{arities_in, arity_faults}

-- every fault; their order in this list means nothing
abbrev pub faults_of : Marked → List CheckFault
faults_of t = name_faults no_names t ++ arity_faults (arities_in t) (arities_in t)

abbrev pub IsChecked : Marked → Type 0
IsChecked t = faults_of t ≡ []

abbrev pub kind_number : CheckKind → ℕ
kind_number Unbound = 1
kind_number DoubleLabel = 2
kind_number DoubleParameter = 3
kind_number TooManyParameters = 4
kind_number Arity = 5
kind_number ServiceArity = 6

-- by the place, then by the kind
abbrev pub is_before : CheckFault → CheckFault → Bool
is_before f g = is_lt (then_cmp (on (λ f. f.at) nat_cmp) (on (λ f. kind_number f.kind) nat_cmp) f g)

-- a fault of the program, and none of its faults is before it
pub record IsFirstFault (t : Marked) (f : CheckFault) : Type 0 where
  pub stands : Contains (faults_of t) f
  pub first : (g : CheckFault) → Contains (faults_of t) g → is_before g f ≡ false
