use Rattle.std.proofs.Common.{rules, tests}
use Rattle.std.proofs.lemmas.Iterator.{YieldsList-from_slice}
use Rattle.std.proofs.lemmas.Iterator.Search.{all_from_yields_List}
use Rattle.frozen_runs.specs.Redexes.{is_bare_term}
use Rattle.frozen_runs.proofs.redexes.are_places.Goals as goal

pub returns : goal.returns
returns c = record { bare = all_from_yields_List is_bare_term _ _ _ c.all.ensures.ran (YieldsList-from_slice c.args.terms.now cc) (λ x b q k. search (rules, tests)) }
