-- What a lease does that reads values while others run: contractions, and values that it puts where they are needed.
use Rattle.std.specs.Prelude.{◌≡◌, ℕ, zero, suc, ◌+◌, List, [], ◌∷◌, ◌++◌, Some}
use Rattle.asp_model.specs.Names.{Name}
use Rattle.asp_model.specs.Split.{Context, Redex, Splits, split}
use Rattle.asp_model.specs.Store.{Future, cell}
use Rattle.asp_model.specs.Contraction.{Needs, contract}
use Rattle.asp_model.specs.Chase.{Values, chase}
use Rattle.asp_model.specs.Configuration.{Activity, Configuration}
use Rattle.def_journals.specs.Journals.{reduced}
use Rattle.def_journals.specs.Owed.{need_of}
use Rattle.law_chases.specs.Chases.{IsValueOf}
use Rattle.law_steps.specs.Linked.{Each}
use Rattle.law_steps.specs.Reached.{IsAt}
use Rattle.law_paths.specs.Whole.{IsWhole}
use Rattle.activity_step.specs.Local.{IsLocalStep, LocalRun}
use Rattle.law_core.specs.Commits.{with_activity}
use Rattle.law_peeks.specs.Needs.{Peek, with_peek}

-- what a lease does by itself: a contraction, or a value that it reads and puts in its place
pub data LeaseMove : Type 0 where
  Contracts : LeaseMove
  Peeks : (peek : Peek) → LeaseMove

-- the redex of the activity needs a value at the place, where this future stands
pub record IsPeeked (a : Activity) (x : Peek) : Type 0 where
  pub contexts : List Context
  pub redex : Redex
  pub splits : split a.term ≡ Splits contexts redex
  pub needs : contract a.store redex ≡ Needs x.place
  pub holds : cell a.store x.place ≡ Future x.future

-- moves lead from the one activity to the other: a fact of the lease alone, whatever futures are filled
abbrev pub IsMoved : List LeaseMove → Activity → Activity → Type 0
IsMoved [] a b = a ≡ b
IsMoved (Contracts ∷ ms) a b = (m : Activity) × IsLocalStep a m × IsMoved ms m b
IsMoved (Peeks x ∷ ms) a b = IsPeeked a x × IsMoved ms (with_peek a x) b

-- how many of them are contractions
abbrev pub contractions : List LeaseMove → ℕ
contractions [] = 0
contractions (Contracts ∷ ms) = suc (contractions ms)
contractions (Peeks x ∷ ms) = contractions ms

-- all values that were read, in order
abbrev pub peeks : List LeaseMove → List Peek
peeks [] = []
peeks (Contracts ∷ ms) = peeks ms
peeks (Peeks x ∷ ms) = x ∷ peeks ms

-- a value before others, where no contraction follows it
abbrev pub unless_followed : ℕ → Peek → List Peek → List Peek
unless_followed zero x xs = x ∷ xs
unless_followed (suc k) x xs = xs

-- those behind the last contraction, in order
abbrev pub trailing : List LeaseMove → List Peek
trailing [] = []
trailing (Contracts ∷ ms) = trailing ms
trailing (Peeks x ∷ ms) = unless_followed (contractions ms) x (trailing ms)

-- each is its future's own value, whose root is no future
abbrev pub AreConfirmed : Values → List Peek → Type 0
AreConfirmed values = Each (λ x. IsValueOf values x.future x.value)

-- so what is read is the need of the activity
abbrev pub PeeksAreNeeds : Type 0
PeeksAreNeeds = (values : Values) (a : Activity) (x : Peek) → IsPeeked a x → IsValueOf values x.future x.value
    → need_of (chase values) a ≡ Some (x.future, x.place)

-- the reductions behind the moves are those of the activity to which the moves lead
abbrev pub MovesAreReduced : Type 0
MovesAreReduced = (ms : List LeaseMove) (k : ℕ) (c : Configuration) (n : Name) (a b : Activity) → IsWhole c → IsAt c n a
    → IsMoved ms a b → AreConfirmed c.futures (peeks ms)
    → reduced (contractions ms + suc k) n c ≡ reduced (suc k) n (with_activity n b c)

-- How moves go on

-- so many contractions, and nothing else
abbrev pub bare : ℕ → List LeaseMove
bare zero = []
bare (suc r) = Contracts ∷ bare r

-- values are behind the last contraction until another one follows
abbrev pub trailing_then : ℕ → List Peek → List Peek
trailing_then zero xs = xs
trailing_then (suc r) xs = []

-- with contractions: so many more, and nothing is read
abbrev pub MovesRunOn : Type 0
MovesRunOn = (ms : List LeaseMove) (r : ℕ) (a b c : Activity) → IsMoved ms a b → LocalRun r b c
    → let ns : List LeaseMove = ms ++ bare r in IsMoved ns a c × (contractions ns ≡ contractions ms + r)
    × (peeks ns ≡ peeks ms) × (trailing ns ≡ trailing_then r (trailing ms))

-- with a value: it is the last one, and behind all contractions
abbrev pub MovesReadOn : Type 0
MovesReadOn = (ms : List LeaseMove) (a b : Activity) (x : Peek) → IsMoved ms a b → IsPeeked b x
    → let ns : List LeaseMove = ms ++ Peeks x ∷ [] in IsMoved ns a (with_peek b x) × (contractions ns ≡ contractions ms)
    × (peeks ns ≡ peeks ms ++ x ∷ []) × (trailing ns ≡ trailing ms ++ x ∷ [])
