-- One call of a group's expansion, and one member.
use Rattle.std.specs.Prelude.{ℕ, ℤ, pos, negsuc, List, Option, None}
use Rattle.asp_model.specs.Names.{Text}
use Rattle.asp_model.specs.Term.{Tree, Call, node, none, more, loc, locs_then}
use Rattle.asp_model.specs.Contraction.{member_at}

-- a call to a place, with the arguments at these places
abbrev pub call_to : Text → ℕ → List ℕ → Tree
call_to l n ks = node (Call l) (more (loc n) (locs_then ks none))

-- the member of a number, which may be negative
abbrev pub member_of : List ℕ → ℤ → Option ℕ
member_of ns (pos k) = member_at ns k
member_of ns (negsuc k) = None
