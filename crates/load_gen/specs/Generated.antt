-- The generated program.
use Rattle.std.specs.Prelude.{ℕ, List, [], ◌∷◌, ◌++◌, codes}
use Rattle.std.specs.Fmt.{decimal}

abbrev pub ended : List ℕ → List ℕ
ended text = text ++ 10 ∷ []

-- the activity that keeps the sum, up to the number of additions that it serves, and from there on
abbrev pub counter : List ℕ
counter = codes "let c = active([sum = 0; run(s) = s.many("

abbrev pub counter_rest : List ℕ
counter_rest = ended (codes "); serve(total), many(s, k) = if (k == 0) { 0 } else { serve(add); s.many(k - 1) }, add(s, v) = s.sum := s.sum + v; 0, total(s) = s.sum], run) in")

-- the object that creates the pairs
abbrev pub maker : List ℕ
maker = ended (codes "let m = [; pairs(s, k) = if (k == 0) { 0 } else { let b = active([; twice(t, v) = v * 2]) in let f = active([; go(t, v) = c.add(b.twice(v))]) in f.go(k); s.pairs(k - 1) }] in")

-- the number of pairs stands where the sum counts its additions, and where the pairs are made
abbrev pub generated : ℕ → List ℕ
generated n =
    counter ++ decimal n ++ counter_rest
    ++ maker
    ++ (codes "m.pairs(" ++ decimal n ++ ended (codes ");"))
    ++ ended (codes "print(c.total())")
