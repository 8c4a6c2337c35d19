use Rattle.std.proofs.Common.{◌∙◌}
use Rattle.code_table.specs.Cells.{coded_in}
use Rattle.code_table.proofs.PlacesLemmas.{read_some}
use Rattle.code_table.proofs.cells.Cell.view_by.Goals as goal

pub returns : goal.returns
returns c = record { view = c.read.ensures.view ∙ read_some c.args.shift (coded_in c.args.words.now c.args.self.now) }
