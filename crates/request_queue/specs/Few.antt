-- A few requests in order.
use Rattle.std.specs.Prelude.{ℕ, suc, true, false, List, [], ◌∷◌, Option, Some, None, map}
use Rattle.std.specs.Option.{option_map}
use Rattle.std.specs.Ordering.{nat_cmp}
use Rattle.std.specs.BTreeMap.{is_at}
use Rattle.asp_model.specs.Intent.{Numbered}
use Rattle.request_queue.specs.declared.request.Request.{Request}
use Rattle.request_queue.specs.declared.few.Arrival.{Arrival}
use Rattle.request_queue.specs.declared.few.Few.TheInside.{Inside}
use Rattle.request_queue.specs.Requests.{request_shape}

-- requests with their numbers
abbrev pub entries : List Arrival → List (ℕ × Request)
entries xs = map (λ x. (x.number, x.request)) xs

abbrev pub few_view : Inside → List (ℕ × Request)
few_view q = entries q.arrivals.items

-- requests as the definitions have them
abbrev pub told : List (ℕ × Request) → List Numbered
told es = map (λ e. (e.0, request_shape e.1)) es

-- where the request of a number stands
abbrev pub place : ℕ → List Arrival → Option ℕ
place n [] = None
place n (x ∷ xs) = elim (is_at (nat_cmp n) x.number) [ true ↦ Some 0 | false ↦ option_map suc (place n xs) ]
