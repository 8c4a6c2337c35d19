use Rattle.std.proofs.Common.{◌≡◌, ◌∙◌, ◌++◌, List, ap, length, map, rules, sym, subst}
use Rattle.std.proofs.lemmas.List.{length-map}
use Rattle.asp_model.specs.Contraction.{LineShape}
use Rattle.asp_model.specs.Names.{Name}
use Rattle.asp_model.specs.Shapes.{line_shape}
use Rattle.law_chases.proofs.FutureLemmas.{some_is}
use Rattle.law_steps.specs.Waking.{labels_wanted}
use Rattle.replay_parts.proofs.RosterLemmas.{number_named, number_within}
use Rattle.replay_parts.specs.Notes.{noted_as, served_by}
use Rattle.replay_one.proofs.telling.before.Goals as goal

pub name-by-requires : goal.name-by-requires
name-by-requires g c = let n = c.requires.known in record { within = number_within c.args.population.now.roster n.0 c.args.number n.1 }

pub returns-then-not-listens-clause-told : goal.returns-then-not-listens-clause-told
returns-then-not-listens-clause-told g c = λ xs k a n t pop has at.
    c.listens.ensures.deaf (search rules) xs (xs ++ map (noted_as n a.reductions) (served_by (labels_wanted a))) t

pub returns-clause-known : goal.returns-clause-known
returns-clause-known g c = λ k a n pop has at. record {
  count = c.count-count.ensures.count k a n pop has at;
  lines = sym (length-map c.lines_of-lines.result.now line_shape) ∙ ap (λ (ls : List LineShape). length ls) (c.lines_of-lines.ensures.lines k a n pop has at);
}

pub returns-clause-told : goal.returns-clause-told
returns-clause-told g c = λ xs k a n t pop has at.
    let m : Name = c.name-by.result.now in
    let name : m ≡ n = some_is (sym c.name-by.ensures.name ∙ number_named c.args.population.now.roster n c.args.number has) in
    let count = c.count-count.ensures.count k a n pop has at in
    let told = c.in_ok-tell_service.ensures.told xs a t count (c.in_ok-wanted.ensures.wanted k a n pop has at) in
    subst (λ (w : Name). g.N.Notes.tells c.tell_service.new.notes (xs ++ map (noted_as w a.reductions) (served_by (labels_wanted a)))) name told
