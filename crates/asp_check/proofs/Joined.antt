-- The least fault of joined lists.
use Rattle.std.proofs.Common.{◌≡◌, List, [], ◌∷◌, ◌++◌, Option, refl}
use Rattle.asp_check.specs.declared.fault.CheckFault.{CheckFault}
use Rattle.asp_check.specs.Least.{lesser, least_of}

pub least_of_joined : (o : Option CheckFault) (xs ys : List CheckFault) → least_of o (xs ++ ys) ≡ least_of (least_of o xs) ys
least_of_joined o [] ys = refl
least_of_joined o (x ∷ xs) ys = least_of_joined (lesser o x) xs ys
