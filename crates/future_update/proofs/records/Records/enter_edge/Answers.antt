use Rattle.future_update.proofs.GrowthLemmas.{renamed_records, renamed_shape}
use Rattle.future_update.proofs.records.Records.enter_edge.Goals as goal

pub returns-clause-records : goal.returns-clause-records
returns-clause-records c = renamed_records c.args.self.now c.enter_edge.new.self c.requires.records c.enter_edge.ensures.names c.enter_edge.ensures.keeps

pub returns-clause-shape : goal.returns-clause-shape
returns-clause-shape c = renamed_shape c.args.self.now c.enter_edge.new.self c.requires.records c.enter_edge.ensures.keeps
