-- Lists that grow by a push, as the machine of the definitions has them.
use Rattle.std.proofs.Common.{◌≡◌, List, [], ◌∷◌, ◌++◌, map, reverse, ap, ◌∙◌}
use Rattle.std.proofs.lemmas.List.{map-append, reverse-append}
use Rattle.syntax_terms.specs.declared.open.Open as declared_open
use Rattle.syntax_terms.specs.Shapes.{open_shape, stack}

pub stack_more : (ls : List declared_open.Open) (s : declared_open.Open) → stack (ls ++ s ∷ []) ≡ open_shape s ∷ stack ls
stack_more ls s = ap reverse (map-append open_shape ls (s ∷ [])) ∙ reverse-append (map open_shape ls) (open_shape s ∷ [])
