-- What holds of each head of a redex and of a store holds of what a contraction leaves.
use Rattle.std.specs.Prelude.{ℕ, ℤ, pos, negsuc, zero, suc, ◌+ℤ◌, ◌-ℤ◌, ◌*ℤ◌, int_lt, int_le, int_div, int_rem, ◌&&◌, true, false, List, [], ◌∷◌, Option, Some, None, length}
use Rattle.asp_model.specs.Names.{Text, same_text}
use Rattle.asp_model.specs.Term.{SignShape, Add, Subtract, Multiply, Divide, Remainder, Less, Equal, MethodHead, Head, Tree, Trees, node, none, more, loc, Make, Get, Put, Call, Clone, Active, Serve, Pending, Let, Steps, If, Repeat, Operate, Print, Echo, Scatter, Size, Member, WaitAll, Environment}
use Rattle.asp_model.specs.Term as term
use Rattle.asp_model.specs.Split.{Redex}
use Rattle.asp_model.specs.Store.{MethodShape, Field, CellShape, Number, Object, Group, Store, cell}
use Rattle.asp_model.specs.Contraction.{Contraction, Becomes, Faults, Needs, LineShape, TextLine, row, contract}
use Rattle.asp_model.specs.Contraction as rows
use Rattle.law_steps.specs.Linked.{Each}
use Rattle.law_steps.proofs.EachLemmas.{each_both}
use Rattle.law_outcomes.specs.Heads.{EachHead, EachBelow, LabelHas, MethodHas, HoldsOfWritten, CellHas, LineHas}
use Rattle.law_outcomes.proofs.HeadLemmas.{locs_have, put_in_has, cell_has, written_has}

module _ (P : Head → Type 0) where
  -- it holds of the term, the store and the lines that a contraction leaves
  abbrev pub Keeps : Contraction → Type 0
  Keeps (Becomes t store lines) = EachHead P t × Each (CellHas P) store × Each (LineHas P) lines
  Keeps r = Unit {0}

  abbrev FieldsHave : List Field → Type 0
  FieldsHave = Each (λ x. LabelHas P x.label)

  abbrev MethodsHave : List MethodShape → Type 0
  MethodsHave = Each (λ m. MethodHas P m.head × EachHead P m.body)

  fields_have : (ls : List Text) (ns : List ℕ) → Each (LabelHas P) ls → FieldsHave (rows.fields_at ls ns)
  fields_have [] ns h = tt
  fields_have (l ∷ ls) [] h = tt
  fields_have (l ∷ ls) (n ∷ ns) h = (h.0, fields_have ls ns h.1)

  field_has : (l : Text) (n : ℕ) (fs : List Field) → FieldsHave fs → FieldsHave (rows.with_field l n fs)
  field_has l n [] h = tt
  field_has l n (f ∷ fs) h = elim (same_text l f.label) as (λ b. FieldsHave (elim b [ true ↦ record { label = f.label; place = n } ∷ fs | false ↦ f ∷ rows.with_field l n fs ])) [ true ↦ h | false ↦ (h.0, field_has l n fs h.1) ]

  methods_have : (ms : List MethodHead) (ts : Trees) → Each (MethodHas P) ms → EachBelow P ts → MethodsHave (rows.methods_with ms ts)
  methods_have [] ts g h = tt
  methods_have (m ∷ ms) none g h = tt
  methods_have (m ∷ ms) (more t ts) g h = ((g.0, h.0), methods_have ms ts g.1 h.1)

  abbrev BodyHas : Option MethodShape → Type 0
  BodyHas None = Unit {0}
  BodyHas (Some m) = EachHead P m.body

  body_has : (l : Text) (ms : List MethodShape) → MethodsHave ms → BodyHas (rows.method_at l ms)
  body_has l [] h = tt
  body_has l (m ∷ ms) h = elim (same_text l m.head.label) as (λ b. BodyHas (elim b [ true ↦ Some m | false ↦ rows.method_at l ms ])) [ true ↦ h.0.1 | false ↦ body_has l ms h.1 ]

  remaining_has : P Steps → (ts : Trees) → EachBelow P ts → EachHead P (rows.remaining ts)
  remaining_has steps none h = (steps, tt)
  remaining_has steps (more t none) h = h.0
  remaining_has steps (more t (more u ts)) h = (steps, h)

module _ (P : Head → Type 0) (w : HoldsOfWritten P) where
  calls_have : (l : Text) (ns ks : List ℕ) → EachBelow P (rows.broadcast l ns ks)
  calls_have l [] ks = tt
  calls_have l (n ∷ ns) ks = ((w.call l, ((w.loc n, tt), locs_have P w ks none tt)), calls_have l ns ks)

  abbrev TermsHave : Option Trees → Type 0
  TermsHave None = Unit {0}
  TermsHave (Some ts) = EachBelow P ts

  scattered_more : (l : Text) (n k : ℕ) (o : Option Trees) → TermsHave o → TermsHave (elim o [ None ↦ None | Some ts ↦ Some (more (node (Call l) (more (loc n) (more (loc k) none))) ts) ])
  scattered_more l n k None h = tt
  scattered_more l n k (Some ts) h = ((w.call l, ((w.loc n, tt), ((w.loc k, tt), tt))), h)

  scattered_has : (l : Text) (ns ks : List ℕ) → TermsHave (rows.scattered l ns ks)
  scattered_has l [] [] = tt
  scattered_has l [] (k ∷ ks) = tt
  scattered_has l (n ∷ ns) [] = tt
  scattered_has l (n ∷ ns) (k ∷ ks) = scattered_more l n k (rows.scattered l ns ks) (scattered_has l ns ks)

module _ (P : Head → Type 0) (w : HoldsOfWritten P) (s : Store) (k : Each (CellHas P) s) where
  allots_keeps : (c : CellShape) (lines : List LineShape) → CellHas P c → Each (LineHas P) lines → Keeps P (rows.allots s c lines)
  allots_keeps c lines h l = ((w.loc (length s), tt), each_both (CellHas P) s (c ∷ []) k (h, tt), l)

  becomes : (t : Tree) → EachHead P t → Keeps P (Becomes t s [])
  becomes t h = (h, k, tt)

  stays : (n : ℕ) → Keeps P (rows.stays_at n s)
  stays n = becomes (loc n) (w.loc n, tt)

  -- Numbers

  range_keeps : (z : ℤ) → Keeps P (rows.in_range s z)
  range_keeps z = elim (rows.is_in_range z) as (λ b. Keeps P (elim b [ true ↦ rows.allots s (Number z) [] | false ↦ Faults rows.Overflow ])) [ true ↦ allots_keeps (Number z) [] tt tt | false ↦ tt ]

  remainder_keeps : (x y : ℤ) → Keeps P (rows.remainder_in_range s x y)
  remainder_keeps x y = elim (rows.is_in_range (int_div x y)) as (λ b. Keeps P (elim b [ true ↦ rows.allots s (Number (int_rem x y)) [] | false ↦ Faults rows.Overflow ])) [ true ↦ allots_keeps (Number (int_rem x y)) [] tt tt | false ↦ tt ]

  unless_keeps : (z : ℤ) (r : Contraction) → Keeps P r → Keeps P (rows.unless_zero z r)
  unless_keeps (pos zero) r h = tt
  unless_keeps (pos (suc n)) r h = h
  unless_keeps (negsuc n) r h = h

  operate_keeps : (sign : SignShape) (x y : ℤ) → Keeps P (rows.operate s sign x y)
  operate_keeps Add x y = range_keeps (x +ℤ y)
  operate_keeps Subtract x y = range_keeps (x -ℤ y)
  operate_keeps Multiply x y = range_keeps (x *ℤ y)
  operate_keeps Divide x y = unless_keeps y _ (range_keeps (int_div x y))
  operate_keeps Remainder x y = unless_keeps y _ (remainder_keeps x y)
  operate_keeps Less x y = allots_keeps (Number (rows.truth (int_lt x y))) [] tt tt
  operate_keeps Equal x y = allots_keeps (Number (rows.truth (int_le x y && int_le y x))) [] tt tt

  numbers_keep : (sign : SignShape) (c d : CellShape) → Keeps P (rows.operate_row s sign c d)
  numbers_keep sign (Number x) (Number y) = operate_keeps sign x y
  numbers_keep sign c d = tt

  if_keeps : (a b : Tree) (c : CellShape) → EachHead P a → EachHead P b → Keeps P (rows.if_row s a b c)
  if_keeps a b (Number (pos zero)) h g = becomes b g
  if_keeps a b (Number (pos (suc n))) h g = becomes a h
  if_keeps a b (Number (negsuc n)) h g = becomes a h
  if_keeps a b c h g = tt

  print_keeps : (i : ℕ) (c : CellShape) → Keeps P (rows.print_row s i c)
  print_keeps i (Number z) = ((w.loc i, tt), k, (tt, tt))
  print_keeps i c = tt

  -- Objects

  field_keeps : (n : Option ℕ) → Keeps P (rows.field_found s n)
  field_keeps None = tt
  field_keeps (Some n) = stays n

  get_keeps : (l : Text) (c : CellShape) → Keeps P (rows.get_row s l c)
  get_keeps l (Object fields methods) = field_keeps (rows.field_place l fields)
  get_keeps l c = tt

  set_keeps : (i : ℕ) (c : CellShape) (n : Option ℕ) → CellHas P c → Keeps P (rows.field_set s i c n)
  set_keeps i c None h = tt
  set_keeps i c (Some n) h = ((w.loc i, tt), written_has P w s i c k h, tt)

  put_keeps : (l : Text) (i j : ℕ) (c : CellShape) → CellHas P c → Keeps P (rows.put_row s l i j c)
  put_keeps l i j (Object fields methods) h = set_keeps i (Object (rows.with_field l j fields) methods) (rows.field_place l fields) (field_has P l j fields h.0, h.1)
  put_keeps l i j c h = tt

  invoked_keeps : (body : Tree) (bs : Option Environment) → EachHead P body → Keeps P (rows.invoked s body bs)
  invoked_keeps body None h = tt
  invoked_keeps body (Some bs) h = becomes (term.put_in bs body) (put_in_has P w bs body h)

  method_keeps : (i : ℕ) (js : List ℕ) (m : Option MethodShape) → BodyHas P m → Keeps P (rows.method_found s i js m)
  method_keeps i js None h = tt
  method_keeps i js (Some m) h = invoked_keeps m.body (rows.bindings (m.head.slf ∷ m.head.parameters) (i ∷ js)) h

  call_keeps : (l : Text) (i : ℕ) (js : List ℕ) (c : CellShape) → CellHas P c → Keeps P (rows.call_row s l i js c)
  call_keeps l i js (Object fields methods) h = method_keeps i js (rows.method_at l methods) (body_has P l methods h.1)
  call_keeps l i js (Group ns) h = becomes (node term.Group (rows.broadcast l ns js)) (w.group, calls_have P w l ns js)
  call_keeps l i js c h = tt

  active_keeps : (i : ℕ) (service : Option Text) (c : CellShape) → Keeps P (rows.active_row i service c)
  active_keeps i service (Object fields methods) = tt
  active_keeps i service c = tt

  -- Groups

  sizes_keep : (ts : Option Trees) → TermsHave P w ts → Keeps P (rows.sizes_compared s ts)
  sizes_keep None h = tt
  sizes_keep (Some ts) h = becomes (node term.Group ts) (w.group, h)

  scatter_keeps : (l : Text) (c d : CellShape) → Keeps P (rows.scatter_row s l c d)
  scatter_keeps l (Group ns) (Group js) = sizes_keep (rows.scattered l ns js) (scattered_has P w l ns js)
  scatter_keeps l c d = tt

  size_keeps : (c : CellShape) → Keeps P (rows.size_row s c)
  size_keeps (Group ns) = allots_keeps (Number (pos (length ns))) [] tt tt
  size_keeps c = tt

  found_keeps : (n : Option ℕ) → Keeps P (rows.member_found s n)
  found_keeps None = tt
  found_keeps (Some n) = stays n

  member_keeps : (c d : CellShape) → Keeps P (rows.member_row s c d)
  member_keeps (Group ns) (Number (pos n)) = found_keeps (rows.member_at ns n)
  member_keeps (Group ns) (Number (negsuc n)) = tt
  member_keeps (Group ns) d = tt
  member_keeps c d = tt

  wait_keeps : (i : ℕ) (c : CellShape) → Keeps P (rows.wait_row s i c)
  wait_keeps i (Group ns) = stays i
  wait_keeps i c = tt

  -- The table

  row_keeps : (h : Head) (ns : List ℕ) (ts : Trees) → P h → EachBelow P ts → Keeps P (row s h ns ts)
  row_keeps (term.Number z) [] none p b = allots_keeps (Number z) [] tt tt
  row_keeps (Make ls ms) ns ts p b = allots_keeps (Object (rows.fields_at ls ns) (rows.methods_with ms ts)) [] (fields_have P ls ns (w.fields ls ms p), methods_have P ms ts (w.methods ls ms p) b) tt
  row_keeps (Echo t) [] none p b = allots_keeps (Object [] []) (TextLine t ∷ []) (tt, tt) (p, tt)
  row_keeps (Get l) (i ∷ []) none p b = get_keeps l (cell s i)
  row_keeps (Put l) (i ∷ j ∷ []) none p b = put_keeps l i j (cell s i) (cell_has P w s k i)
  row_keeps (Call l) (i ∷ js) none p b = call_keeps l i js (cell s i) (cell_has P w s k i)
  row_keeps Clone (i ∷ []) none p b = allots_keeps (cell s i) [] (cell_has P w s k i) tt
  row_keeps (Active l) (i ∷ []) none p b = active_keeps i l (cell s i)
  row_keeps (Serve ls) [] none p b = tt
  row_keeps (Pending ls) [] none p b = tt
  row_keeps (Let x) (i ∷ []) (more t none) p b = becomes (term.put_in ((x, i) ∷ []) t) (put_in_has P w ((x, i) ∷ []) t b.0)
  row_keeps Steps (i ∷ []) ts p b = becomes (rows.remaining ts) (remaining_has P p ts b)
  row_keeps If (i ∷ []) (more t (more u none)) p b = if_keeps t u (cell s i) b.0 b.1.0
  row_keeps Repeat [] (more t none) p b = becomes (node Steps (more t (more (node Repeat (more t none)) none))) (w.steps, (b.0, ((p, b), tt)))
  row_keeps (Operate sign) (i ∷ j ∷ []) none p b = numbers_keep sign (cell s i) (cell s j)
  row_keeps Print (i ∷ []) none p b = print_keeps i (cell s i)
  row_keeps term.Group ns none p b = allots_keeps (Group ns) [] tt tt
  row_keeps (Scatter l) (i ∷ j ∷ []) none p b = scatter_keeps l (cell s i) (cell s j)
  row_keeps Size (i ∷ []) none p b = size_keeps (cell s i)
  row_keeps Member (i ∷ j ∷ []) none p b = member_keeps (cell s i) (cell s j)
  row_keeps WaitAll (i ∷ []) none p b = wait_keeps i (cell s i)
  row_keeps h ns ts p b = tt

  needed_keeps : (n : Option ℕ) (r : Contraction) → Keeps P r → Keeps P (elim n [ Some m ↦ Needs m | None ↦ r ])
  needed_keeps None r h = h
  needed_keeps (Some n) r h = tt

  pub contract_keeps : (r : Redex) → P r.head → EachBelow P r.behind → Keeps P (contract s r)
  contract_keeps r p b = needed_keeps _ _ (row_keeps r.head r.places r.behind p b)
