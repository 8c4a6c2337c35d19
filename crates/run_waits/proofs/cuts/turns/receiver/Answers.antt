use Rattle.std.proofs.Common.{◌∙◌, ap}
use Rattle.def_journals.specs.Journals.{number_of}
use Rattle.law_chases.proofs.FutureLemmas.{no_some, some_is}
use Rattle.wait_circles.specs.Targets.{Place}
use Rattle.run_waits.proofs.TurnLemmas.{waited_told}
use Rattle.run_waits.proofs.cuts.turns.receiver.Goals as goal

pub returns-in-Some : goal.returns-in-Some
returns-in-Some c = record {
  receiver = λ k n sound told st m w.
      let t = waited_told k n m c.args.future.now c.args.receipts.now sound told st w in
      c.number.ensures.number ∙ ap (λ q. number_of q c.args.roster.now) (ap (λ (p : Place). p.0) (some_is (c.in-Some.ensures.target ∙ t.1)) ∙ t.2);
}

pub returns-in-None : goal.returns-in-None
returns-in-None c = record {
  receiver = λ k n sound told st m w.
      let t = waited_told k n m c.args.future.now c.args.receipts.now sound told st w in
      no_some (c.in-None.ensures.target ∙ t.1);
}
