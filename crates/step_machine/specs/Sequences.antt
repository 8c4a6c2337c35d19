-- Sequences whose first terms are gone.
use Rattle.std.specs.Prelude.{ℕ, zero, suc, ◌+◌}
use Rattle.asp_model.specs.Term.{Steps, Repeat}
use Rattle.code_table.specs.Pieces.{Piece, piece}
use Rattle.code_table.specs.declared.code.Kind.{Kind}
use Rattle.code_table.specs.declared.code.Kind.TheVariants as kind
use Rattle.code_laws.specs.Nodes.{after, unrolled}

-- what a node is once so many of its terms are gone: a sequence loses them, and a `repeat` becomes `a; repeat(a)`
abbrev pub later : ℕ → Piece → Piece
later zero p = p
later (suc k) (piece Steps ps) = piece Steps (after (suc k) ps)
later (suc k) (piece Repeat ps) = unrolled ps
later (suc k) p = p

-- the number of its next child, where so many others are done
abbrev pub child_number : Kind → (from done : ℕ) → ℕ
child_number kind.Steps from done = from + done
child_number k from done = done
