use Rattle.std.proofs.Common.{refl, subst, sym}
use Rattle.outcomes_text.specs.Tallies.{AreWithin}
use Rattle.outcomes_top.proofs.survey.Survey.none.Goals as goal

pub returns : goal.returns
returns c = record {
  none = λ depth program. record {
    tally = c.new-tally.ensures.none;
    within = subst (AreWithin 0) (sym c.new-tally.ensures.none) tt;
    longest = refl;
    worst = refl;
  };
}
