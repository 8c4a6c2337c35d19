use Rattle.std.proofs.Common.{◌≡◌, ◌+◌, ◌-◌, ◌≤◌, length, drop}
use Rattle.asp_model.specs.Parcel.{number_in}
use Rattle.code_table.proofs.moves.number_in_few.Given as goal

abbrev pub invariant-loop-number : goal.invariant-loop-number
invariant-loop-number l = record {
  within : l.number ≤ length l.order;
  rest : number_in l.order l.place ≡ l.number + number_in (drop l.number l.order) l.place;
}

abbrev pub decreases-loop-number : goal.decreases-loop-number
decreases-loop-number l = length l.order - l.number
