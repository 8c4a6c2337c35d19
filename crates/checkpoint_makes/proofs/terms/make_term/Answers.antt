use Rattle.std.proofs.Common.{refl}
use Rattle.checkpoint_makes.proofs.HeldLemmas.{contexts_asked, inner_asked, some_terms, term_made}
use Rattle.checkpoint_makes.proofs.terms.make_term.Goals as goal

pub first_of-first-requires : goal.first_of-first-requires
first_of-first-requires c = record { some = some_terms c.args.terms.items c.requires.runs }

pub make_innermost-requires : goal.make_innermost-requires
make_innermost-requires c = record { inside = inner_asked c.args.terms.items _ _ c.first_of-first.ensures.first c.requires.runs }

pub make_contexts-requires : goal.make_contexts-requires
make_contexts-requires c = record { contexts = contexts_asked c.args.terms.items _ _ c.first_of-first.ensures.first c.requires.runs }

pub returns : goal.returns
returns c = record { made = term_made _ _ _ c.args.terms.items _ _ _ _ _ _ c.first_of-first.ensures.first c.requires.runs c.in_ok-innermost.ensures.held c.in_ok-held.ensures.held c.in_ok-contexts.ensures.turned refl refl }
