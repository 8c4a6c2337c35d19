-- What the signs give on numbers of 64 bits.
use Rattle.std.specs.Prelude.{ℤ, [], pos, negsuc, zero, suc, ◌+ℤ◌, ◌-ℤ◌, ◌*ℤ◌, int_le, int_lt, int_div, int_rem, ◌&&◌, Bool, true, false, Result, Ok, Err}
use Rattle.asp_model.specs.declared.outcome.Fault.{Fault}
use Rattle.asp_model.specs.declared.outcome.Fault.TheVariants.{Overflow, ZeroDivisor}
use Rattle.asp_model.specs.Term.{SignShape, Add, Subtract, Multiply, Divide, Remainder, Less, Equal}
use Rattle.asp_model.specs.Store.{Store, Number}
use Rattle.asp_model.specs.Contraction.{Contraction, Faults, allots, is_in_range, truth}
use Rattle.asp_model.specs.Shapes.{fault_shape}

abbrev pub Answer : Type 0
Answer = Result ℤ Fault

abbrev pub kept_if : Bool → ℤ → Answer
kept_if true z = Ok z
kept_if false z = Err Overflow

abbrev pub divided : ℤ → Answer → Answer
divided (pos zero) a = Err ZeroDivisor
divided (pos (suc n)) a = a
divided (negsuc n) a = a

-- a number, or the fault
abbrev pub answer : SignShape → ℤ → ℤ → Answer
answer Add x y = kept_if (is_in_range (x +ℤ y)) (x +ℤ y)
answer Subtract x y = kept_if (is_in_range (x -ℤ y)) (x -ℤ y)
answer Multiply x y = kept_if (is_in_range (x *ℤ y)) (x *ℤ y)
answer Divide x y = divided y (kept_if (is_in_range (int_div x y)) (int_div x y))
answer Remainder x y = divided y (kept_if (is_in_range (int_div x y)) (int_rem x y))
answer Less x y = Ok (truth (int_lt x y))
answer Equal x y = Ok (truth (int_le x y && int_le y x))

-- the contraction to an answer
abbrev pub answered : Store → Answer → Contraction
answered s (Ok z) = allots s (Number z) []
answered s (Err fault) = Faults (fault_shape fault)
