-- Faults of names: a variable that nothing binds, a label of an object and a name of a head that stood earlier.
use Rattle.std.specs.Prelude.{ℕ, Bool, true, false, ◌||◌, List, [], ◌∷◌, ◌++◌}
use Rattle.asp_model.specs.Names.{Text, same_text}
use Rattle.asp_model.specs.Term.{Head, Var, Make, MethodHead, binders}
use Rattle.asp_model.specs.Marked.{MarkShape, Marked, MarkedList, marked, no_marked, and_marked}
use Rattle.asp_check.specs.declared.fault.CheckFault.{CheckFault}
use Rattle.asp_check.specs.declared.fault.CheckKind.{CheckKind}
use Rattle.asp_check.specs.declared.fault.CheckKind.TheVariants.{Unbound, DoubleLabel, DoubleParameter}
use Rattle.asp_check.specs.Placed.{Placed, place_or, later, placed, behind}

-- a set of names, as its test
abbrev pub NameSet : Type 0
NameSet = Text → Bool

abbrev pub no_names : NameSet
no_names x = false

abbrev pub with_name : Text → NameSet → NameSet
with_name x set y = same_text x y || set y

abbrev pub with_names : List Text → NameSet → NameSet
with_names [] set = set
with_names (x ∷ xs) set = with_names xs (with_name x set)

abbrev pub fault_at : ℕ → CheckKind → CheckFault
fault_at n k = record { at = n; kind = k }

abbrev pub when : Bool → CheckFault → List CheckFault
when true f = f ∷ []
when false f = []

abbrev pub unless : Bool → CheckFault → List CheckFault
unless true f = []
unless false f = f ∷ []

-- a fault at each name that stood earlier, or is in the set
abbrev pub repeats : CheckKind → NameSet → List Placed → List CheckFault
repeats kind earlier [] = []
repeats kind earlier (x ∷ xs) = when (earlier x.name) (fault_at x.place kind) ++ repeats kind (with_name x.name earlier) xs

-- for each method, its label among the earlier labels, and then its self and parameters among themselves
abbrev pub method_faults : ℕ → NameSet → List MethodHead → List ℕ → List CheckFault
method_faults at labels [] ps = []
method_faults at labels (m ∷ ms) ps =
    when (labels m.label) (fault_at (place_or at ps) DoubleLabel)
    ++ (repeats DoubleParameter no_names (placed at (m.slf ∷ m.parameters) (later ps))
    ++ method_faults at (with_name m.label labels) ms (behind (m.slf ∷ m.parameters) (later ps)))

-- the fields' labels, then the methods
abbrev pub object_faults : ℕ → List Text → List MethodHead → List ℕ → List CheckFault
object_faults at fields methods ps =
    repeats DoubleLabel no_names (placed at fields ps)
    ++ method_faults at (with_names fields no_names) methods (behind fields ps)

-- those of a node alone, under the names that are bound round it
abbrev pub faults_at : NameSet → Head → MarkShape → List CheckFault
faults_at bound (Var x) m = unless (bound x) (fault_at m.at Unbound)
faults_at bound (Make fields methods) m = object_faults m.at fields methods m.names
faults_at bound h m = []

abbrev mutual
  -- those of a term, under the names that are bound round it
  pub name_faults : NameSet → Marked → List CheckFault
  name_faults bound (marked h m ts) = faults_at bound h m ++ name_faults_below bound (binders h) ts

  -- those of the terms below a node, each under the names that the node binds in it
  pub name_faults_below : NameSet → List (List Text) → MarkedList → List CheckFault
  name_faults_below bound names no_marked = []
  name_faults_below bound [] (and_marked t ts) = name_faults bound t ++ name_faults_below bound [] ts
  name_faults_below bound (xs ∷ names) (and_marked t ts) = name_faults (with_names xs bound) t ++ name_faults_below bound names ts
