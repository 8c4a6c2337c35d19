-- What the components of futures keep.
use Rattle.std.specs.Prelude.{◌≡◌, ℕ, ◌<◌, ◌≤◌, ◌+◌, cond, nat_lt, max, false, List, Some, None, length, set}
use Rattle.std.specs.Ordering.{is_lt}
use Rattle.asp_model.specs.Names.{FutureShape, future_cmp, future_lt}
use Rattle.asp_model.specs.Chase.{Values, Chase, chase}
use Rattle.law_chases.specs.Walks.{IsFilled}
use Rattle.future_table.specs.declared.links.Link.{Link}
use Rattle.future_table.specs.declared.links.End.{End}
use Rattle.future_table.specs.declared.links.End.TheVariants as ends
use Rattle.future_table.specs.Values.{Told, Value, Unfilled, Cycle, told}
use Rattle.future_table.specs.Numbers.{named, number_of}
use Rattle.future_table.specs.Links.{IsHead, LeadUp, StaysUp, link_at}

-- where the walk from the future of a number ends
abbrev pub chase_at : Values → List FutureShape → ℕ → Chase
chase_at values names i = chase values (named names i)

-- how walks end, by names; a cycle has that of the least future of its component
abbrev pub end_told : List FutureShape → ℕ → End → Told
end_told names least (ends.Value k) = Value (named names k)
end_told names least (ends.Unfilled k) = Unfilled (named names k)
end_told names least ends.Cycle = Cycle (named names least)

abbrev pub EndsWithin : ℕ → End → Type 0
EndsWithin n (ends.Value k) = k < n
EndsWithin n (ends.Unfilled k) = k < n
EndsWithin n ends.Cycle = Unit {0}

-- the head of a component has how its walks end, and its least future
pub record IsHeadLink (values : Values) (names : List FutureShape) (i : ℕ) (x : Link) : Type 0 where
  pub ends : told (chase_at values names i) ≡ end_told names x.least x.end
  pub within : EndsWithin (length names) x.end
  pub known : x.least < length names
  pub member : chase_at values names x.least ≡ chase_at values names i
  pub least : (j : ℕ) → j < length names → chase_at values names j ≡ chase_at values names i → future_lt (named names j) (named names x.least) ≡ false

-- futures whose walks end alike have one head
pub record AreComponents (values : Values) (names : List FutureShape) (links : List Link) : Type 0 where
  pub count : length links ≡ length names
  pub numbered : (f : FutureShape) → IsFilled values f → (n : ℕ) × (number_of f names ≡ Some n)
  pub lead : LeadUp links
  pub low : (i : ℕ) → i < length links → (link_at links i).height ≤ length values
  pub alike : StaysUp links (chase_at values names)
  pub heads : (i : ℕ) → IsHead links i → IsHeadLink values names i (link_at links i)
  pub apart : (i j : ℕ) → IsHead links i → IsHead links j → chase_at values names i ≡ chase_at values names j → i ≡ j

-- How links change

-- a future that was not met before, alone
abbrev pub alone : ℕ → Link
alone n = record { up = None; height = 0; least = n; end = ends.Unfilled n }

abbrev pub with_end : List Link → ℕ → End → List Link
with_end links i e = let x = link_at links i in set links i (record { up = x.up; height = x.height; least = x.least; end = e })

abbrev pub lesser_of : List FutureShape → ℕ → ℕ → ℕ
lesser_of names m n = cond (is_lt (future_cmp (named names n) (named names m))) n m

-- one head below another, which has this least future and this end then
abbrev pub put_below : List Link → ℕ → ℕ → ℕ → End → List Link
put_below links low high least e =
    let x = link_at links low in
    let y = link_at links high in
    let under = set links low (record { up = Some high; height = x.height; least = x.least; end = x.end }) in
    set under high (record { up = None; height = max y.height (x.height + 1); least = least; end = e })

-- the lower of two heads below the other
abbrev pub joined : List FutureShape → List Link → ℕ → ℕ → List Link
joined names links a b =
    let least = lesser_of names (link_at links a).least (link_at links b).least in
    let e = (link_at links b).end in
    cond (nat_lt (link_at links a).height (link_at links b).height) (put_below links a b least e) (put_below links b a least e)
