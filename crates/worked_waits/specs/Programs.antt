-- Programs in which somebody waits for good.
use Rattle.std.specs.Prelude.{[], ◌∷◌}
use Rattle.asp_model.specs.Term.{Tree}
use Rattle.worked_rows.specs.Programs.{number, variable, method, object, call, active, active_by, serve, divide, let_in, steps, print}

-- [; ask(s, r) = print(r.two()), two(s) = 2]
abbrev pub asker : Tree
asker = object []
    (method "ask" "s" ("r" ∷ []) (print (call (variable "r") "two" []))
    ∷ method "two" "s" [] (number 2)
    ∷ [])

-- let a = active(asker) in let b = active(asker) in a.ask(b); print(b.ask(a))
abbrev pub asking_each_other : Tree
asking_each_other = let_in "a" (active asker)
    (let_in "b" (active asker)
    (steps (
    call (variable "a") "ask" (variable "b" ∷ [])
    ∷ print (call (variable "b") "ask" (variable "a" ∷ []))
    ∷ [])))

-- let a = active([; go(s) = body]) in print(a.go())
abbrev pub going : Tree → Tree
going body = let_in "a" (active (object [] (method "go" "s" [] body ∷ []))) (print (call (variable "a") "go" []))

-- it serves `come`, which nobody sends
abbrev pub unserved : Tree
unserved = going (serve ("come" ∷ []))

-- it divides by 0
abbrev pub faulted : Tree
faulted = going (divide (number 1) (number 0))

-- let a = active([; run(s) = 1, go(s) = 2], run) in print(a.go())
abbrev pub ended : Tree
ended = let_in "a" (active_by (object [] (method "run" "s" [] (number 1) ∷ method "go" "s" [] (number 2) ∷ [])) "run")
    (print (call (variable "a") "go" []))
