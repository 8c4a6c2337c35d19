use Rattle.std.proofs.Common.{◌∙◌, sym, subst}
use Rattle.law_chases.proofs.FutureLemmas.{some_is}
use Rattle.law_cuts.specs.Wants.{enterer_of}
use Rattle.replay_parts.proofs.RosterLemmas.{number_named, number_within}
use Rattle.run_waits.specs.Turns.{IsWanted}
use Rattle.run_waits.proofs.cuts.turns.next_number.Goals as goal

pub name-requires : goal.name-requires
name-requires c = record { within = number_within c.args.population.now.roster c.requires.known.0 c.args.to c.requires.known.1 }

pub returns : goal.returns
returns c = record {
  next = λ k n pop has there.
      let name = some_is (sym c.name.ensures.name ∙ number_named c.args.population.now.roster n c.args.to has) in
      let same = c.enterer_of.ensures ∙ (λ i. enterer_of (name i) (c.next_entry-entry.ensures.next k n pop has there i)) in
      subst (λ w. IsWanted w c.args.population.now.roster c.number_in.result) same c.number_in.ensures;
}
