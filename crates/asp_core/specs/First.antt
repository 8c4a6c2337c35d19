-- Codes of where a run begins.
use Rattle.std.specs.Prelude.{Option}
use Rattle.std.specs.Coded.{codes}
use base.Stored.{Coded}
use Rattle.asp_model.specs.History.{FirstShape, coded_first}

-- with its program, or in a configuration
pub coded_begin : Coded (Option FirstShape)
coded_begin = hlevel (codes, coded_first)
