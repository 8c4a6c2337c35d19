-- What a redex comes to, as far as it is told without a change.
use Rattle.asp_model.specs.Names.{Name, FutureShape}
use Rattle.asp_model.specs.Split.{Redex}
use Rattle.asp_model.specs.Contraction as contraction
use Rattle.asp_model.specs.Contraction.{Contraction, FaultShape, contract}
use Rattle.asp_model.specs.Intent.{Ready, Reads, Lacks}
use Rattle.asp_model.specs.Shapes.{fault_shape, future_shape}
use Rattle.step_reads.specs.declared.prospect.Prospect.{Prospect}
use Rattle.step_reads.specs.declared.prospect.Prospect.TheVariants as prospect

pub data ProspectShape : Type 0 where
  -- a reduction that needs no other activity, or makes one
  Goes : ProspectShape
  -- a request to this activity
  GoesTo : (n : Name) → ProspectShape
  Stops : (fault : FaultShape) → ProspectShape
  -- a `serve`
  Asks : ProspectShape
  -- a poll
  Polls : ProspectShape
  -- the value of this future is needed
  Awaits : (f : FutureShape) → ProspectShape
  Still : ProspectShape

abbrev pub prospect_by : Contraction → ProspectShape
prospect_by (contraction.Becomes t s lines) = Goes
prospect_by (contraction.Faults fault) = Stops fault
prospect_by (contraction.Communicates (contraction.Creates i service)) = Goes
prospect_by (contraction.Communicates (contraction.Sends n l ks)) = GoesTo n
prospect_by (contraction.Communicates (contraction.Serves labels)) = Asks
prospect_by (contraction.Communicates (contraction.Polls labels)) = Polls
prospect_by (contraction.Needs n) = Still
prospect_by contraction.Breaks = Still

-- by the store where its strict operands are read
abbrev pub comes_to : Ready → Redex → ProspectShape
comes_to (Reads s) r = prospect_by (contract s r)
comes_to (Lacks f) r = Awaits f

abbrev pub prospect_shape : Prospect → ProspectShape
prospect_shape prospect.Goes = Goes
prospect_shape (prospect.GoesTo n) = GoesTo n.now
prospect_shape (prospect.Stops fault) = Stops (fault_shape fault)
prospect_shape prospect.Asks = Asks
prospect_shape prospect.Polls = Polls
prospect_shape (prospect.Awaits f) = Awaits (future_shape f.now)
prospect_shape prospect.Still = Still
