-- Numbers that ascend.
use Rattle.std.specs.Prelude.{ℕ, List}
use Rattle.std.specs.List.Sorted.{IsStrictlySortedBy}
use Rattle.std.specs.Ordering.{nat_cmp}
use Rattle.request_queue.specs.declared.numbers.Numbers.TheInside.{Inside}

abbrev pub ascending : Inside → List ℕ
ascending q = q.numbers.items

-- each number is below those after it
abbrev pub Ascend : Inside → Type 0
Ascend q = IsStrictlySortedBy nat_cmp q.numbers.items
