use Rattle.future_update.proofs.GrowthLemmas.{renamed_records, renamed_shape}
use Rattle.future_update.proofs.records.Records.enter_home.Goals as goal

pub returns-clause-records : goal.returns-clause-records
returns-clause-records c = renamed_records c.args.self.now c.enter_home.new.self c.requires.records c.enter_home.ensures.names c.enter_home.ensures.keeps

pub returns-clause-shape : goal.returns-clause-shape
returns-clause-shape c = renamed_shape c.args.self.now c.enter_home.new.self c.requires.records c.enter_home.ensures.keeps
