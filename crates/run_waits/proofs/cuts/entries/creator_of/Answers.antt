use Rattle.std.proofs.Common.{◌∙◌, take, ap}
use Rattle.law_cuts.specs.Wants.{creator_of}
use Rattle.run_waits.proofs.TurnLemmas.{creator_is}
use Rattle.run_waits.proofs.cuts.entries.creator_of.Goals as goal

pub returns : goal.returns
returns c = record {
  creator =
      c.of_path.ensures.name
      ∙ c.in_ok-to_vec.ensures.items_if_clones_equal (λ x y e. e)
      ∙ ap (λ k. take k c.path-path.result.now) c.saturating_sub-last.ensures
      ∙ creator_is c.path-path.result.now
      ∙ ap creator_of c.path-path.ensures.path;
}
