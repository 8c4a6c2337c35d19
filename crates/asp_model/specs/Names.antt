-- Names of activities and of futures, and their order.
use Rattle.std.specs.Prelude.{ℕ, Bool, List, [], ◌∷◌, ◌++◌, bytes_eq}
use Rattle.std.specs.declared.cmp.Ordering.{Ordering}
use Rattle.std.specs.Ordering.{nat_cmp, then_cmp, on, eq_by_cmp, is_lt}
use Rattle.std.specs.Cmp.Lexicographic.{slice_cmp}

-- an activity, by the creations that lead to it from the main activity
abbrev pub Name : Type 0
Name = List ℕ

-- the main activity
abbrev pub main_name : Name
main_name = 0 ∷ []

-- the k-th activity that one creates, from 1
abbrev pub created_name : Name → ℕ → Name
created_name creator k = creator ++ k ∷ []

-- the answer of the request that an activity sends under this number, from 1
pub record FutureShape : Type 0 where
  pub by : Name
  pub index : ℕ

-- lists of numbers in lexicographic order
abbrev pub name_cmp : Name → Name → Ordering
name_cmp = slice_cmp nat_cmp

-- by the sender, then by the number
abbrev pub future_cmp : FutureShape → FutureShape → Ordering
future_cmp = then_cmp (on (λ f. f.by) name_cmp) (on (λ f. f.index) nat_cmp)

-- two names are equal
abbrev pub same_name : Name → Name → Bool
same_name = eq_by_cmp name_cmp

-- two futures are equal
abbrev pub same_future : FutureShape → FutureShape → Bool
same_future = eq_by_cmp future_cmp

-- the first future stands before the second
abbrev pub future_lt : FutureShape → FutureShape → Bool
future_lt f g = is_lt (future_cmp f g)

-- a word or a label, as its bytes
abbrev pub Text : Type 0
Text = List ℕ

-- two texts are equal
abbrev pub same_text : Text → Text → Bool
same_text = bytes_eq

-- words and labels in lexicographic order of their bytes
abbrev pub text_cmp : Text → Text → Ordering
text_cmp = slice_cmp nat_cmp
