use Rattle.std.proofs.Common.{◌≡◌, ◌+◌, ◌≤◌, ◌++◌, length, take, vec_capacity, vec_len}
use Rattle.step_machine.proofs.rows.push_all.Given as goal

-- so many are moved, and there is room for the others
abbrev pub invariant-loop-place : goal.invariant-loop-place
invariant-loop-place l =
    (l.env.items ≡ l.fn.env.items ++ take l.place-index l.places)
    × (vec_len l.env + length l.places ≤ vec_capacity l.env + l.place-index)
