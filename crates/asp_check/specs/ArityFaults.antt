-- Faults of arities: too many parameters or arguments, and an arity that is not the label's.
use Rattle.std.specs.Prelude.{ℕ, suc, Bool, true, false, nat_lt, nat_eq, List, [], ◌∷◌, ◌++◌, Option, Some, None, length, map}
use Rattle.asp_model.specs.declared.limits.TheConstants.{MOST_PARAMETERS}
use Rattle.asp_model.specs.Names.{Text, same_text}
use Rattle.asp_model.specs.Term.{Head, Make, Call, Active, Scatter, MethodHead}
use Rattle.asp_model.specs.Marked.{MarkShape, Marked, MarkedList, marked, no_marked, and_marked}
use Rattle.asp_check.specs.declared.fault.CheckFault.{CheckFault}
use Rattle.asp_check.specs.declared.fault.CheckKind.{CheckKind}
use Rattle.asp_check.specs.declared.fault.CheckKind.TheVariants.{TooManyParameters, Arity, ServiceArity}
use Rattle.asp_check.specs.Placed.{place_or, later, behind}
use Rattle.asp_check.specs.NameFaults.{fault_at, when, unless}

-- a place where a label has an arity
pub record LabelArity : Type 0 where
  pub label : Text
  pub arity : ℕ
  pub place : ℕ
  -- the fault where the label has another arity
  pub kind : CheckKind

abbrev pub label_arity : CheckKind → Text → ℕ → ℕ → LabelArity
label_arity k l n p = record { label = l; arity = n; place = p; kind = k }

abbrev pub marked_count : MarkedList → ℕ
marked_count no_marked = 0
marked_count (and_marked t ts) = suc (marked_count ts)

-- the terms behind the receiver
abbrev pub argument_count : MarkedList → ℕ
argument_count no_marked = 0
argument_count (and_marked t ts) = marked_count ts

-- of each method its own
abbrev pub method_arities : ℕ → List MethodHead → List ℕ → List (List LabelArity)
method_arities at [] ps = []
method_arities at (m ∷ ms) ps =
    (label_arity Arity m.label (length m.parameters) (place_or at ps) ∷ [])
    ∷ method_arities at ms (behind (m.slf ∷ m.parameters) (later ps))

-- a created activity calls the method that it begins with without arguments
abbrev pub service_arities : Option Text → ℕ → List LabelArity
service_arities None p = []
service_arities (Some l) p = label_arity ServiceArity l 0 p ∷ []

-- those that stand in a node itself: for each term below, what stands before it and behind the term before
abbrev pub arities_at : Head → MarkShape → MarkedList → List (List LabelArity)
arities_at (Make fields methods) m ts = map (λ l. []) fields ++ method_arities m.at methods (behind fields m.names)
arities_at (Call l) m ts = [] ∷ (label_arity Arity l (argument_count ts) (place_or m.at m.names) ∷ []) ∷ []
arities_at (Active service) m ts = [] ∷ service_arities service (place_or m.at m.names) ∷ []
arities_at (Scatter l) m ts = [] ∷ (label_arity Arity l 1 (place_or m.at m.names) ∷ []) ∷ []
arities_at h m ts = []

abbrev pub joined : List (List LabelArity) → List LabelArity
joined [] = []
joined (xs ∷ xss) = xs ++ joined xss

abbrev mutual
  -- those of a term, in text order
  pub arities_in : Marked → List LabelArity
  arities_in (marked h m ts) = arities_among (arities_at h m ts) ts

  -- a node's own, each at its turn among those of the terms below
  pub arities_among : List (List LabelArity) → MarkedList → List LabelArity
  arities_among own no_marked = joined own
  arities_among [] (and_marked t ts) = arities_in t ++ arities_among [] ts
  arities_among (xs ∷ own) (and_marked t ts) = xs ++ (arities_in t ++ arities_among own ts)

-- the arity of a label, by the first of its places
abbrev pub first_arity : Text → List LabelArity → Option ℕ
first_arity l [] = None
first_arity l (x ∷ xs) = elim (same_text x.label l) [ true ↦ Some x.arity | false ↦ first_arity l xs ]

abbrev pub is_arity : ℕ → Option ℕ → Bool
is_arity n None = false
is_arity n (Some k) = nat_eq n k

abbrev pub arity_faults_at : LabelArity → Option ℕ → List CheckFault
arity_faults_at x first =
    when (nat_lt MOST_PARAMETERS x.arity) (fault_at x.place TooManyParameters)
    ++ unless (is_arity x.arity first) (fault_at x.place x.kind)

-- at each of these places, against the first in the whole text
abbrev pub arity_faults : List LabelArity → List LabelArity → List CheckFault
arity_faults text [] = []
arity_faults text (x ∷ xs) = arity_faults_at x (first_arity x.label text) ++ arity_faults text xs
