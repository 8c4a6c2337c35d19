-- What is asked of a term that is opened and compiled.
use Rattle.std.proofs.Common.{◌≡◌, false, [], sym, ap, subst, ◌∙◌}
use Rattle.asp_model.specs.Shapes.{tree_of}
use Rattle.asp_model.specs.Split.{Redex}
use Rattle.asp_model.specs.Term.{Tree}
use Rattle.code_compiler.specs.Closed.{IsClosed}
use Rattle.law_programs.specs.Proper.{IsProper}
use Rattle.frozen_code.specs.declared.held.Opened.{Opened}
use Rattle.frozen_code.specs.Held.{IsOpened, is_variable, redex_left}
use Rattle.frozen_code.proofs.ProperLemmas.{contexts_may_come, left_context, left_redex, redexes_may_come}
use Rattle.term_opening.specs.Holding.{IsRedexTerm, IsSomeContext, IsSomeRedex}
use Rattle.term_opening.specs.Opening.{done_in, emptied_node}
use Rattle.term_opening.proofs.ContextLemmas.{redex_done, redex_emptied}

abbrev pub MayCome : Opened → Type 0
MayCome x = IsClosed x.names.items (tree_of x.term) × (is_variable (tree_of x.term) ≡ false)

pub context_proper : (t : Tree) → IsSomeContext t → IsProper [] (emptied_node t)
context_proper t h = subst (IsProper []) (sym h.1.left) (left_context h.0 h.1.proper)

pub context_comes : (x : Opened) (t : Tree) → IsOpened x (emptied_node t) → IsSomeContext t → MayCome x
context_comes x t o h = contexts_may_come x h.0 h.1.proper h.1.context (subst (IsOpened x) h.1.left o)

pub redex_proper : (t : Tree) → IsSomeRedex t → IsProper [] (emptied_node t)
redex_proper t h = subst (IsProper []) (sym (redex_emptied h.0 h.1.redex) ∙ ap emptied_node h.1.term) (left_redex h.0 h.1.proper)

pub redex_is_left : (r : Redex) (t : Tree) → IsRedexTerm r t → emptied_node t ≡ redex_left r
redex_is_left r t h = ap emptied_node (sym h.term) ∙ redex_emptied r h.redex

pub redex_is_done : (r : Redex) (t : Tree) → IsRedexTerm r t → done_in [] t ≡ r.places
redex_is_done r t h = ap (done_in []) (sym h.term) ∙ redex_done r h.redex

pub redex_comes : (x : Opened) (t : Tree) → IsOpened x (emptied_node t) → IsSomeRedex t → MayCome x
redex_comes x t o h = redexes_may_come x h.0 h.1.proper h.1.redex (subst (IsOpened x) (redex_is_left h.0 t h.1) o)
