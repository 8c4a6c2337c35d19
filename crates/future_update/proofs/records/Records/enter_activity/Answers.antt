use Rattle.future_update.proofs.GrowthLemmas.{renamed_records, renamed_shape}
use Rattle.future_update.proofs.records.Records.enter_activity.Goals as goal

pub returns-clause-records : goal.returns-clause-records
returns-clause-records c = renamed_records c.args.self.now c.enter.new.self c.requires.records c.enter.ensures.names c.enter.ensures.keeps

pub returns-clause-shape : goal.returns-clause-shape
returns-clause-shape c = renamed_shape c.args.self.now c.enter.new.self c.requires.records c.enter.ensures.keeps
