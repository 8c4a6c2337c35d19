-- Numbers that are noted under labels.
use Rattle.std.specs.Prelude.{◌≡◌, ℕ, ◌<◌, ◌&&◌, Bool, true, cond, nat_lt, List, [], Option, Some, None}
use Rattle.std.specs.Ordering.{eq_by_cmp, nat_cmp}
use Rattle.std.specs.declared.cmp.Ordering.{Ordering}
use Rattle.std.specs.BTreeMap.{get}
use Rattle.asp_model.specs.declared.word.Label.{Label}
use Rattle.asp_model.specs.contracts.word.LabelOrd.TheImpl as ordering
use Rattle.asp_model.specs.Names.{Text}
use Rattle.asp_model.specs.Term.{has_text}
use Rattle.request_queue.specs.declared.notes.Notes.{Notes}
use Rattle.request_queue.specs.Numbers.{IsUpTo, has_number}

abbrev pub label_order : Label → Label → Ordering
label_order = ordering.ghosts.cmp

abbrev pub or_none : Option (List ℕ) → List ℕ
or_none None = []
or_none (Some ns) = ns

abbrev pub numbers_in : Notes → Label → List ℕ
numbers_in w l = or_none (get label_order w.numbers l)

-- a number is noted under a label
abbrev pub is_noted : Notes → Label → ℕ → Bool
is_noted w l k = has_number k (numbers_in w l)

-- all numbers that are noted are below this one
abbrev pub IsAbove : ℕ → Notes → Type 0
IsAbove n w = (l : Label) (k : ℕ) → is_noted w l k ≡ true → k < n

-- this number and this label
abbrev pub is_that : Label → ℕ → Label → ℕ → Bool
is_that l k m j = eq_by_cmp label_order l m && eq_by_cmp nat_cmp k j

-- this number is noted under this label or not, and nothing else changes
abbrev pub Changes : Label → ℕ → Bool → Notes → Notes → Type 0
Changes l k b old new = (m : Label) (j : ℕ) → is_noted new m j ≡ cond (is_that l k m j) b (is_noted old m j)

abbrev pub AreAlike : Notes → Notes → Type 0
AreAlike old new = (m : Label) (j : ℕ) → is_noted new m j ≡ is_noted old m j

-- a label of the list, with a number
abbrev pub IsAsked : List Text → Notes → Label → ℕ → Type 0
IsAsked asked w l k = (has_text l.text asked ≡ true) × (is_noted w l k ≡ true)

-- the least number that is noted under one of the labels
pub record IsOldest (asked : List Text) (w : Notes) (o : Option ℕ) : Type 0 where
  pub found : (n : ℕ) → o ≡ Some n → (l : Label) × IsAsked asked w l n
  pub least : (l : Label) (k : ℕ) → IsAsked asked w l k → IsUpTo k o

-- the least number that is noted under this label
pub record IsOldestWith (w : Notes) (l : Label) (o : Option ℕ) : Type 0 where
  pub found : (n : ℕ) → o ≡ Some n → is_noted w l n ≡ true
  pub least : (k : ℕ) → is_noted w l k ≡ true → IsUpTo k o

-- the lesser of two numbers, where there are both
abbrev pub earlier : Option ℕ → Option ℕ → Option ℕ
earlier None o = o
earlier (Some n) None = Some n
earlier (Some n) (Some m) = Some (cond (nat_lt m n) m n)
