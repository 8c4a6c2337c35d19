-- Who needs a value asks others only by sending or creating: a redex that serves or polls has no strict operand.
use Rattle.std.proofs.Common.{◌≡◌, ◌∷◌, ◌++◌, ◌||◌, ◌+ℤ◌, ◌-ℤ◌, ◌*ℤ◌, [], ℕ, ℤ, pos, negsuc, zero, suc, Bool, true, false, List, Option, Some, None, int_div, is_some, refl, ap}
use Rattle.asp_model.specs.Names.{Name, FutureShape, Text}
use Rattle.asp_model.specs.Term.{SignShape, Add, Subtract, Multiply, Divide, Remainder, Less, Equal, Head, Tree, Trees, none, more, Make, Get, Put, Call, Clone, Active, Serve, Let, Steps, If, Repeat, Operate, Print, Echo, Scatter, Size, Member, WaitAll, Pending, Environment}
use Rattle.asp_model.specs.Term as term
use Rattle.asp_model.specs.Split.{Context, Redex, Split, Splits, Stands, split}
use Rattle.asp_model.specs.Store.{MethodShape, CellShape, Number, Object, Reference, Future, Group, Store, cell}
use Rattle.asp_model.specs.Contraction.{Contraction, Becomes, Faults, Needs, Communicates, Breaks, Creates, Sends, Serves, Polls, contract, first_future, row, strict_members, strict_operands}
use Rattle.asp_model.specs.Contraction as rows
use Rattle.asp_model.specs.Chase.{Chase}
use Rattle.asp_model.specs.Configuration.{Activity, RequestShape}
use Rattle.asp_model.specs.Intent.{Acts, Awaits, Effect, Lacks, Reads, Ready, Rests, contracts, ends_service, newest, redex_ready}
use Rattle.def_journals.specs.Communications.{is_asking}
use Rattle.def_journals.specs.Owed.{need_at}
use Rattle.law_chases.proofs.FutureLemmas.{no_some}
use Rattle.law_steps.proofs.FactLemmas.{acts_is, no_acts}
use Rattle.law_core.proofs.OperandLemmas.{operands}
use Rattle.law_redo.specs.Reduced.{NeedersAsk}

-- no service and no poll
abbrev IsNoTurn : Contraction → Type 0
IsNoTurn (Becomes t store lines) = Unit {0}
IsNoTurn (Faults fault) = Unit {0}
IsNoTurn (Needs place) = Unit {0}
IsNoTurn (Communicates (Creates object service)) = Unit {0}
IsNoTurn (Communicates (Sends to label arguments)) = Unit {0}
IsNoTurn (Communicates (Serves labels)) = ⊥
IsNoTurn (Communicates (Polls labels)) = ⊥
IsNoTurn Breaks = Unit {0}

module _ (s : Store) where
  in_range : (b : Bool) (z : ℤ) → IsNoTurn (elim b [ true ↦ rows.allots s (Number z) [] | false ↦ Faults rows.Overflow ])
  in_range true z = tt
  in_range false z = tt

  unless_zero : (z : ℤ) (r : Contraction) → IsNoTurn r → IsNoTurn (rows.unless_zero z r)
  unless_zero (pos zero) r h = tt
  unless_zero (pos (suc n)) r h = h
  unless_zero (negsuc n) r h = h

  signs : (sign : SignShape) (x y : ℤ) → IsNoTurn (rows.operate s sign x y)
  signs Add x y = in_range (rows.is_in_range (x +ℤ y)) (x +ℤ y)
  signs Subtract x y = in_range (rows.is_in_range (x -ℤ y)) (x -ℤ y)
  signs Multiply x y = in_range (rows.is_in_range (x *ℤ y)) (x *ℤ y)
  signs Divide x y = unless_zero y _ (in_range (rows.is_in_range (int_div x y)) (int_div x y))
  signs Remainder x y = unless_zero y _ (in_range (rows.is_in_range (int_div x y)) _)
  signs Less x y = tt
  signs Equal x y = tt

  numbers : (sign : SignShape) (c d : CellShape) → IsNoTurn (rows.operate_row s sign c d)
  numbers sign (Number x) (Number y) = signs sign x y
  numbers sign c d = tt

  field : (n : Option ℕ) → IsNoTurn (rows.field_found s n)
  field None = tt
  field (Some n) = tt

  reads : (l : Text) (c : CellShape) → IsNoTurn (rows.get_row s l c)
  reads l (Object fields methods) = field (rows.field_place l fields)
  reads l c = tt

  field_set : (i : ℕ) (c : CellShape) (n : Option ℕ) → IsNoTurn (rows.field_set s i c n)
  field_set i c None = tt
  field_set i c (Some n) = tt

  writes : (l : Text) (i j : ℕ) (c : CellShape) → IsNoTurn (rows.put_row s l i j c)
  writes l i j (Object fields methods) = field_set i _ (rows.field_place l fields)
  writes l i j c = tt

  invoked : (body : Tree) (bs : Option Environment) → IsNoTurn (rows.invoked s body bs)
  invoked body None = tt
  invoked body (Some bs) = tt

  method : (i : ℕ) (js : List ℕ) (m : Option MethodShape) → IsNoTurn (rows.method_found s i js m)
  method i js None = tt
  method i js (Some m) = invoked m.body (rows.bindings (m.head.slf ∷ m.head.parameters) (i ∷ js))

  calls : (l : Text) (i : ℕ) (js : List ℕ) (c : CellShape) → IsNoTurn (rows.call_row s l i js c)
  calls l i js (Object fields methods) = method i js (rows.method_at l methods)
  calls l i js (Group ns) = tt
  calls l i js (Reference n) = tt
  calls l i js (Number z) = tt
  calls l i js (Future f) = tt

  active : (i : ℕ) (service : Option Text) (c : CellShape) → IsNoTurn (rows.active_row i service c)
  active i service (Object fields methods) = tt
  active i service c = tt

  chooses : (a b : Tree) (c : CellShape) → IsNoTurn (rows.if_row s a b c)
  chooses a b (Number (pos zero)) = tt
  chooses a b (Number (pos (suc n))) = tt
  chooses a b (Number (negsuc n)) = tt
  chooses a b c = tt

  prints : (i : ℕ) (c : CellShape) → IsNoTurn (rows.print_row s i c)
  prints i (Number z) = tt
  prints i c = tt

  sizes : (ts : Option Trees) → IsNoTurn (rows.sizes_compared s ts)
  sizes None = tt
  sizes (Some ts) = tt

  scatters : (l : Text) (c d : CellShape) → IsNoTurn (rows.scatter_row s l c d)
  scatters l (Group ns) (Group js) = sizes (rows.scattered l ns js)
  scatters l c d = tt

  size : (c : CellShape) → IsNoTurn (rows.size_row s c)
  size (Group ns) = tt
  size c = tt

  found : (n : Option ℕ) → IsNoTurn (rows.member_found s n)
  found None = tt
  found (Some n) = tt

  member : (c d : CellShape) → IsNoTurn (rows.member_row s c d)
  member (Group ns) (Number (pos n)) = found (rows.member_at ns n)
  member (Group ns) (Number (negsuc n)) = tt
  member (Group ns) d = tt
  member c d = tt

  waits : (i : ℕ) (c : CellShape) → IsNoTurn (rows.wait_row s i c)
  waits i (Group ns) = tt
  waits i c = tt

  -- the row of a redex that has a strict operand, over whatever store
  no_row_turns : (h : Head) (ns : List ℕ) (ts : Trees) (t : Store) (p : ℕ) → first_future t (strict_operands h ns ++ strict_members t h ns) ≡ Some p → IsNoTurn (row s h ns ts)
  no_row_turns (term.Number z) [] none t p e = tt
  no_row_turns (Make ls ms) ns ts t p e = tt
  no_row_turns (Echo w) [] none t p e = tt
  no_row_turns (Get l) (i ∷ []) none t p e = reads l (cell s i)
  no_row_turns (Put l) (i ∷ j ∷ []) none t p e = writes l i j (cell s i)
  no_row_turns (Call l) (i ∷ js) none t p e = calls l i js (cell s i)
  no_row_turns Clone (i ∷ []) none t p e = tt
  no_row_turns (Active l) (i ∷ []) none t p e = active i l (cell s i)
  no_row_turns (Serve ls) [] none t p e = no_some e
  no_row_turns (Pending ls) [] none t p e = no_some e
  no_row_turns (Let x) (i ∷ []) (more a none) t p e = tt
  no_row_turns Steps (i ∷ []) ts t p e = tt
  no_row_turns If (i ∷ []) (more a (more b none)) t p e = chooses a b (cell s i)
  no_row_turns Repeat [] (more a none) t p e = tt
  no_row_turns (Operate sign) (i ∷ j ∷ []) none t p e = numbers sign (cell s i) (cell s j)
  no_row_turns Print (i ∷ []) none t p e = prints i (cell s i)
  no_row_turns term.Group ns none t p e = tt
  no_row_turns (Scatter l) (i ∷ j ∷ []) none t p e = scatters l (cell s i) (cell s j)
  no_row_turns Size (i ∷ []) none t p e = size (cell s i)
  no_row_turns Member (i ∷ j ∷ []) none t p e = member (cell s i) (cell s j)
  no_row_turns WaitAll (i ∷ []) none t p e = waits i (cell s i)
  no_row_turns h ns ts t p e = tt

-- An activity that needs a value

module _ (chases : FutureShape → Chase) (requests : List RequestShape) (n : Name) (a : Activity) (e : Effect) where
  abbrev gives : Effect → Bool
  gives d = is_some d.sent || is_some d.made

  -- by the contraction of its redex
  asks_by : (contexts : List Context) (s : Store) (r : Contraction) → IsNoTurn r → contracts requests n a contexts s r ≡ Acts e → is_asking r ≡ gives e
  asks_by contexts s (Becomes t store lines) free acts = ap gives (acts_is acts)
  asks_by contexts s (Faults fault) free acts = no_acts acts
  asks_by contexts s (Needs place) free acts = no_acts acts
  asks_by contexts s (Communicates (Creates object service)) free acts = ap gives (acts_is acts)
  asks_by contexts s (Communicates (Sends to label arguments)) free acts = ap gives (acts_is acts)
  asks_by contexts s (Communicates (Serves labels)) free acts = absurd free
  asks_by contexts s (Communicates (Polls labels)) free acts = absurd free
  asks_by contexts s Breaks free acts = no_acts acts

  abbrev contracted_or : Option ℕ → Contraction → Contraction
  contracted_or o c = elim o [ Some k ↦ Needs k | None ↦ c ]

  free_or : (o : Option ℕ) (c : Contraction) → IsNoTurn c → IsNoTurn (contracted_or o c)
  free_or (Some k) c h = tt
  free_or None c h = h

  module _ (contexts : List Context) (r : Redex) (p : ℕ) (first : first_future a.store (operands a.store r) ≡ Some p) where
    free : (s : Store) → IsNoTurn (contract s r)
    free s = free_or (first_future s (operands s r)) (row s r.head r.places r.behind) (no_row_turns s r.head r.places r.behind a.store p first)

    asks_ready : (o : Ready) → elim o [ Lacks f ↦ Rests (Awaits f) | Reads s ↦ contracts requests n a contexts s (contract s r) ] ≡ Acts e → elim o [ Lacks f ↦ false | Reads s ↦ is_asking (contract s r) ] ≡ gives e
    asks_ready (Lacks f) acts = no_acts acts
    asks_ready (Reads s) acts = asks_by contexts s (contract s r) (free s) acts

  needs_some : (s : Store) (o : Option ℕ) (x : FutureShape × ℕ) → need_at chases s o ≡ Some x → (p : ℕ) × (o ≡ Some p)
  needs_some s None x h = no_some h
  needs_some s (Some p) x h = (p, refl)

  asks_split : (t : Split) (x : FutureShape × ℕ)
      → elim t [ Stands place ↦ None | Splits contexts r ↦ need_at chases a.store (first_future a.store (operands a.store r)) ] ≡ Some x
      → elim t [ Stands place ↦ ends_service a place (newest a.services) | Splits contexts r ↦ elim (redex_ready chases a.store r) [ Lacks f ↦ Rests (Awaits f) | Reads s ↦ contracts requests n a contexts s (contract s r) ] ] ≡ Acts e
      → elim t [ Stands place ↦ is_some (newest a.services) | Splits contexts r ↦ elim (redex_ready chases a.store r) [ Lacks f ↦ false | Reads s ↦ is_asking (contract s r) ] ] ≡ gives e
  asks_split (Stands place) x needs acts = no_some needs
  asks_split (Splits contexts r) x needs acts =
      let p = needs_some a.store (first_future a.store (operands a.store r)) x needs in
      asks_ready contexts r p.0 p.1 (redex_ready chases a.store r) acts

pub needers_ask : NeedersAsk
needers_ask chases requests n a e x needs acts = asks_split chases requests n a e (split a.term) x needs acts
