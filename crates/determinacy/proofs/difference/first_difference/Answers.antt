use Rattle.std.proofs.Common.{rules}
use Rattle.asp_model.specs.Shapes.{services_shape}
use Rattle.determinacy.specs.Walks.{first_polled, first_told, lesser_of}
use Rattle.determinacy.proofs.DifferenceLemmas.{both_clauses, difference_is}
use Rattle.determinacy.proofs.difference.first_difference.Goals as goal

pub returns-clause-same : goal.returns-clause-same
returns-clause-same c =
    let a = services_shape c.args.a.now in
    let b = services_shape c.args.b.now in
    (both_clauses a b c.lesser.result (lesser_of (first_told a b) (first_polled b)) (search rules) (difference_is a b c.requires.ascending c.requires.ascending_too)).0

pub returns-clause-least : goal.returns-clause-least
returns-clause-least c =
    let a = services_shape c.args.a.now in
    let b = services_shape c.args.b.now in
    (both_clauses a b c.lesser.result (lesser_of (first_told a b) (first_polled b)) (search rules) (difference_is a b c.requires.ascending c.requires.ascending_too)).1
