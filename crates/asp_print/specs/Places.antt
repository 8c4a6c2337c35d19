-- Programs, places aside.
use Rattle.std.specs.Prelude.{ℕ, map}
use Rattle.asp_model.specs.Marked.{MarkShape, Marked, MarkedList, marked, no_marked, and_marked}

-- the mark with f of each place
abbrev pub moved_mark : (ℕ → ℕ) → MarkShape → MarkShape
moved_mark f m = record { at = f m.at; parentheses = m.parentheses; left = m.left; names = map f m.names }

abbrev mutual
  -- the program with f of each place
  pub moved : (ℕ → ℕ) → Marked → Marked
  moved f (marked h m ts) = marked h (moved_mark f m) (moved_below f ts)

  pub moved_below : (ℕ → ℕ) → MarkedList → MarkedList
  moved_below f no_marked = no_marked
  moved_below f (and_marked t ts) = and_marked (moved f t) (moved_below f ts)

-- the program with each place set to 0: heads, parentheses and the number of names stay
abbrev pub unplaced : Marked → Marked
unplaced = moved (λ n. 0)
