use Rattle.asp_model.specs.Shapes.{future_shape}
use Rattle.future_update.specs.Records.{names_of}
use Rattle.future_update.proofs.PlaceLemmas.{home_nowhere}
use Rattle.future_update.proofs.records.Records.find_home.Goals as goal

pub returns-in-None : goal.returns-in-None
returns-in-None c = record { home = home_nowhere (names_of c.args.self.now) (future_shape c.args.future.now) c.args.self.now.homes.entries c.requires.records.homes c.in-None.ensures.found }
