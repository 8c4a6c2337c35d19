use Rattle.std.proofs.Common.{◌≡◌, ◌||◌, ℕ, vec_len}
use Rattle.core_ranks.specs.Numbers.{has_number}
use Rattle.core_ranks.proofs.numbers.Numbers.add_all.Given as goal

abbrev pub invariant-loop-number : goal.invariant-loop-number
invariant-loop-number l = (k : ℕ) → (has_number k l.more.items || has_number k l.self.keys) ≡ (has_number k l.fn.more.items || has_number k l.initial.self.keys)

abbrev pub decreases-loop-number : goal.decreases-loop-number
decreases-loop-number l = vec_len l.more
