use Rattle.std.proofs.Common.{◌∙◌, sym}
use Rattle.asp_model.specs.Shapes.{tree_of}
use Rattle.checkpoint_makes.proofs.HeldLemmas.{at_place, at_redex, redex_asked}
use Rattle.checkpoint_makes.proofs.terms.make_innermost.Goals as goal

pub hold_redex-requires : goal.hold_redex-requires
hold_redex-requires c = record { redex = redex_asked (tree_of c.args.term) (sym c.place_of.ensures.place ∙ c.in-None.is) c.requires.inside }

pub returns-in_ok-at-in-Some : goal.returns-in_ok-at-in-Some
returns-in_ok-at-in-Some c = record { held = at_place _ (tree_of c.args.term) _ _ (sym c.place_of.ensures.place ∙ c.in-Some.is) c.in_ok-at-in-Some.ensures.same }

pub returns-in_ok-held-in-None : goal.returns-in_ok-held-in-None
returns-in_ok-held-in-None c = record { held = at_redex _ _ (tree_of c.args.term) c.in_ok-held-in-None.held (sym c.place_of.ensures.place ∙ c.in-None.is) c.requires.inside c.in_ok-held-in-None.ensures.grows c.in_ok-held-in-None.ensures.redex }
