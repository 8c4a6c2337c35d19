use Rattle.std.proofs.Common.{◌∙◌, sym, ap}
use Rattle.asp_model.specs.Names.{Name}
use Rattle.def_journals.specs.Journals.{number_of}
use Rattle.law_chases.proofs.FutureLemmas.{some_is}
use Rattle.law_cuts.specs.Wants.{creator_of}
use Rattle.replay_parts.proofs.RosterLemmas.{number_named}
use Rattle.run_waits.proofs.cuts.turns.creator.Goals as goal

pub returns : goal.returns
returns c = record {
  creator = λ n has.
      c.number.ensures.number ∙ ap (λ (m : Name). number_of m c.args.roster.now) (c.in_ok-name.ensures.creator ∙ ap creator_of (some_is (sym c.name.ensures.name ∙ number_named c.args.roster.now n c.args.number has)));
}
