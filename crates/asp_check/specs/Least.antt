-- The least fault of a list, as the code keeps it.
use Rattle.std.specs.Prelude.{true, false, List, [], ◌∷◌, Option, Some, None}
use Rattle.asp_check.specs.declared.fault.CheckFault.{CheckFault}
use Rattle.asp_check.specs.Faults.{is_before}

-- the lesser of a fault, if there is one, and another
abbrev pub lesser : Option CheckFault → CheckFault → Option CheckFault
lesser None f = Some f
lesser (Some g) f = elim (is_before f g) [ true ↦ Some f | false ↦ Some g ]

abbrev pub least_of : Option CheckFault → List CheckFault → Option CheckFault
least_of o [] = o
least_of o (f ∷ fs) = least_of (lesser o f) fs
