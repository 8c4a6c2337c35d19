use Rattle.std.proofs.Common.{◌∙◌, rules, tests}
use Rattle.std.proofs.lemmas.Iterator.{YieldsList-from_slice}
use Rattle.std.proofs.lemmas.Iterator.Search.{all_from_yields_List}
use Rattle.checkpoint_files.specs.Running.{is_context_term}
use Rattle.checkpoint_files.proofs.RunningLemmas.{all_contexts}
use Rattle.checkpoint_files.proofs.running.are_contexts.Goals as goal

pub returns : goal.returns
returns c = record {
  contexts = all_from_yields_List is_context_term _ _ _ c.all.ensures.ran
      (YieldsList-from_slice c.args.terms.now cc) (λ x b q k. search (rules, tests)) ∙ all_contexts c.args.terms.now;
}
