use Rattle.asp_model.specs.Chase.{chase}
use Rattle.code_table.specs.Shapes.{store_of}
use Rattle.future_table.specs.Values.{values_of}
use Rattle.step_reads.specs.Strict.{strict_in}
use Rattle.step_reads.proofs.PassedLemmas.{passed_first}
use Rattle.step_reads.proofs.telling.prospect_of.Goals as goal

pub prospect_from-requires-clause-passed : goal.prospect_from-requires-clause-passed
prospect_from-requires-clause-passed c = passed_first (chase (values_of c.args.futures.now)) (store_of c.args.code.now c.args.store.now.cells) (strict_in c.args.redex)
