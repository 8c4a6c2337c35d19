-- The signs' answers as contractions.
use Rattle.std.proofs.Common.{◌≡◌, ℤ, Bool, true, false, [], refl}
use Rattle.std.specs.Prelude.{pos, negsuc, zero, suc, ◌+ℤ◌, ◌-ℤ◌, ◌*ℤ◌, int_div, int_rem}
use Rattle.asp_model.specs.Term.{SignShape, Add, Subtract, Multiply, Divide, Remainder, Less, Equal}
use Rattle.asp_model.specs.Store.{Store, Number}
use Rattle.asp_model.specs.Contraction.{Contraction, Faults, Overflow, allots, is_in_range, operate, unless_zero}
use Rattle.step_rows.specs.Numbers.{Answer, answer, answered, divided, kept_if}

kept : (s : Store) (b : Bool) (z : ℤ) → answered s (kept_if b z) ≡ elim b [ true ↦ allots s (Number z) [] | false ↦ Faults Overflow ]
kept s true z = refl
kept s false z = refl

zero_kept : (s : Store) (y : ℤ) (a : Answer) (c : Contraction) → answered s a ≡ c → answered s (divided y a) ≡ unless_zero y c
zero_kept s (pos zero) a c e = refl
zero_kept s (pos (suc n)) a c e = e
zero_kept s (negsuc n) a c e = e

pub operate_answers : (s : Store) (sign : SignShape) (x y : ℤ) → answered s (answer sign x y) ≡ operate s sign x y
operate_answers s Add x y = kept s (is_in_range (x +ℤ y)) (x +ℤ y)
operate_answers s Subtract x y = kept s (is_in_range (x -ℤ y)) (x -ℤ y)
operate_answers s Multiply x y = kept s (is_in_range (x *ℤ y)) (x *ℤ y)
operate_answers s Divide x y = zero_kept s y _ _ (kept s (is_in_range (int_div x y)) (int_div x y))
operate_answers s Remainder x y = zero_kept s y _ _ (kept s (is_in_range (int_div x y)) (int_rem x y))
operate_answers s Less x y = refl
operate_answers s Equal x y = refl
