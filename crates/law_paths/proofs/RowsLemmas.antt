-- Redexes that are alike contract alike: the table of reductions, row by row.
use Rattle.std.specs.Prelude.{◌≡◌, ℕ, ℤ, pos, negsuc, zero, suc, ◌+ℤ◌, ◌-ℤ◌, ◌*ℤ◌, int_lt, int_le, int_div, int_rem, ◌&&◌, Bool, true, false, List, [], ◌∷◌, Option, Some, None, length}
use Rattle.std.proofs.Common.{refl, subst}
use Rattle.asp_model.specs.Names.{Name, Text, same_text}
use Rattle.asp_model.specs.Term.{SignShape, Add, Subtract, Multiply, Divide, Remainder, Less, Equal, MethodHead, Head, Loc, Hole, Var, Tree, Trees, node, none, more, loc, locs_then, own_locations, child_count, Make, Get, Put, Call, Clone, Active, Serve, Let, Steps, If, Repeat, Operate, Print, Echo, Scatter, Size, Member, WaitAll, Environment}
use Rattle.asp_model.specs.Term as term
use Rattle.asp_model.specs.Store.{MethodShape, Field, CellShape, Number, Group, Store, cell}
use Rattle.asp_model.specs.Contraction.{Contraction, Becomes, Faults, Needs, Communicates, Breaks, Creates, Sends, Serves, Polls, LineShape, NumberLine, TextLine, row, is_future, strict_operands}
use Rattle.asp_model.specs.Contraction as rows
use Rattle.def_paths.specs.Places.{Place, Side}
use Rattle.def_paths.specs.Agree.{Pairs, no_pair, pair, MayBoth, neither, both}
use Rattle.law_paths.specs.Alike.{AreAlike, at_locs, at_node, AreAlikeBelow, no_more, one_more, AlikeFields, AlikeMethods, AlikeCells, numbers, objects, references, groups}
use Rattle.law_paths.proofs.PairLemmas.{pairs_length}
use Rattle.law_paths.proofs.AlikeLemmas.{alike_locs, alike_put_in, AlikeEnvironments}
use Rattle.law_paths.proofs.GrownLemmas.{over}
use Rattle.law_paths.proofs.OnwardLemmas.{Stored, Sides, Onward, here, cells_at, alike_shows, new_onward, new_related, write_onward}

-- what the same redex contracts to on both sides
pub data AlikeContractions (a b : Side) (R : Place → Place → Type 0) : Contraction → Contraction → Type 1 where
  becomes : {t u : Tree} {s s' : Store} {lines : List LineShape} (o : Onward R (over a s) (over b s')) → AreAlike (Stored o.rel) t u → AlikeContractions a b R (Becomes t s lines) (Becomes u s' lines)
  faults : (f : rows.FaultShape) → AlikeContractions a b R (Faults f) (Faults f)
  creates : {i j : ℕ} (service : Option Text) → Stored R i j → AlikeContractions a b R (Communicates (Creates i service)) (Communicates (Creates j service))
  sends : (to : Name) (label : Text) {xs ys : List ℕ} → Pairs (Stored R) xs ys → AlikeContractions a b R (Communicates (Sends to label xs)) (Communicates (Sends to label ys))
  serves : (labels : List Text) → AlikeContractions a b R (Communicates (Serves labels)) (Communicates (Serves labels))
  polls : (labels : List Text) → AlikeContractions a b R (Communicates (Polls labels)) (Communicates (Polls labels))
  breaks : AlikeContractions a b R Breaks Breaks

-- Objects, bindings and groups

module _ (L : ℕ → ℕ → Type 0) where
  pub fields_alike : (ls : List Text) (xs ys : List ℕ) → Pairs L xs ys → Pairs (AlikeFields L) (rows.fields_at ls xs) (rows.fields_at ls ys)
  fields_alike [] _ _ ps = no_pair
  fields_alike (l ∷ ls) _ _ no_pair = no_pair
  fields_alike (l ∷ ls) _ _ (pair r rs) = pair (record { label = refl; place = r }) (fields_alike ls _ _ rs)

  pub methods_alike : (ms : List MethodHead) (ts us : Trees) → AreAlikeBelow L ts us → Pairs (AlikeMethods L) (rows.methods_with ms ts) (rows.methods_with ms us)
  methods_alike [] _ _ b = no_pair
  methods_alike (m ∷ ms) _ _ no_more = no_pair
  methods_alike (m ∷ ms) _ _ (one_more a b) = pair (record { head = refl; body = a }) (methods_alike ms _ _ b)

  place_case : (l x y : Text) (i j : ℕ) (o p : Option ℕ) → x ≡ y → L i j → MayBoth L o p → MayBoth L (elim (same_text l x) [ true ↦ Some i | false ↦ o ]) (elim (same_text l y) [ true ↦ Some j | false ↦ p ])
  place_case l x y i j o p e r m = subst (λ w. MayBoth L (elim (same_text l x) [ true ↦ Some i | false ↦ o ]) (elim (same_text l w) [ true ↦ Some j | false ↦ p ])) e
      (elim (same_text l x) as (λ b. MayBoth L (elim b [ true ↦ Some i | false ↦ o ]) (elim b [ true ↦ Some j | false ↦ p ])) [ true ↦ both r | false ↦ m ])

  place_alike : (l : Text) (fs gs : List Field) → Pairs (AlikeFields L) fs gs → MayBoth L (rows.field_place l fs) (rows.field_place l gs)
  place_alike l _ _ no_pair = neither
  place_alike l _ _ (pair {x = f} {y = g} r rs) = place_case l f.label g.label f.place g.place _ _ r.label r.place (place_alike l _ _ rs)

  abbrev set_in : Bool → ℕ → Field → List Field → List Field → List Field
  set_in b n f fs others = elim b [ true ↦ record { label = f.label; place = n } ∷ fs | false ↦ f ∷ others ]

  set_case : (l : Text) (i j : ℕ) (f g : Field) (fs gs os ps : List Field) → L i j → AlikeFields L f g → Pairs (AlikeFields L) fs gs → Pairs (AlikeFields L) os ps → Pairs (AlikeFields L) (set_in (same_text l f.label) i f fs os) (set_in (same_text l g.label) j g gs ps)
  set_case l i j f g fs gs os ps r e same others = subst (λ w. Pairs (AlikeFields L) (set_in (same_text l f.label) i f fs os) (set_in (same_text l w) j g gs ps)) e.label
      (elim (same_text l f.label) as (λ b. Pairs (AlikeFields L) (set_in b i f fs os) (set_in b j g gs ps)) [ true ↦ pair (record { label = e.label; place = r }) same | false ↦ pair e others ])

  set_alike : (l : Text) (i j : ℕ) (fs gs : List Field) → L i j → Pairs (AlikeFields L) fs gs → Pairs (AlikeFields L) (rows.with_field l i fs) (rows.with_field l j gs)
  set_alike l i j _ _ r no_pair = no_pair
  set_alike l i j _ _ r (pair {x = f} {y = g} e rs) = set_case l i j f g _ _ _ _ r e rs (set_alike l i j _ _ r rs)

  method_case : (l : Text) (m n : MethodShape) (o p : Option MethodShape) → AlikeMethods L m n → MayBoth (AlikeMethods L) o p → MayBoth (AlikeMethods L) (elim (same_text l m.head.label) [ true ↦ Some m | false ↦ o ]) (elim (same_text l n.head.label) [ true ↦ Some n | false ↦ p ])
  method_case l m n o p e r = subst (λ w. MayBoth (AlikeMethods L) (elim (same_text l m.head.label) [ true ↦ Some m | false ↦ o ]) (elim (same_text l w.label) [ true ↦ Some n | false ↦ p ])) e.head
      (elim (same_text l m.head.label) as (λ b. MayBoth (AlikeMethods L) (elim b [ true ↦ Some m | false ↦ o ]) (elim b [ true ↦ Some n | false ↦ p ])) [ true ↦ both e | false ↦ r ])

  method_alike : (l : Text) (ms ns : List MethodShape) → Pairs (AlikeMethods L) ms ns → MayBoth (AlikeMethods L) (rows.method_at l ms) (rows.method_at l ns)
  method_alike l _ _ no_pair = neither
  method_alike l _ _ (pair {x = m} {y = n} e rs) = method_case l m n _ _ e (method_alike l _ _ rs)

  abbrev bind : Text → ℕ → Option Environment → Option Environment
  bind x n o = elim o [ None ↦ None | Some bs ↦ Some ((x, n) ∷ bs) ]

  bound_alike : (x : Text) (i j : ℕ) (o p : Option Environment) → L i j → MayBoth (AlikeEnvironments L) o p → MayBoth (AlikeEnvironments L) (bind x i o) (bind x j p)
  bound_alike x i j _ _ r neither = neither
  bound_alike x i j _ _ r (both e) = both (pair (refl, r) e)

  bindings_alike : (names : List Text) (xs ys : List ℕ) → Pairs L xs ys → MayBoth (AlikeEnvironments L) (rows.bindings names xs) (rows.bindings names ys)
  bindings_alike [] _ _ no_pair = both no_pair
  bindings_alike [] _ _ (pair r rs) = neither
  bindings_alike (n ∷ names) _ _ no_pair = neither
  bindings_alike (n ∷ names) _ _ (pair r rs) = bound_alike n _ _ _ _ r (bindings_alike names _ _ rs)

  calls_alike : (l : Text) (xs ys ks ms : List ℕ) → Pairs L xs ys → Pairs L ks ms → AreAlikeBelow L (rows.broadcast l xs ks) (rows.broadcast l ys ms)
  calls_alike l _ _ ks ms no_pair q = no_more
  calls_alike l _ _ ks ms (pair r rs) q = one_more (at_node (Call l) refl (one_more (at_locs r no_more) (alike_locs L ks ms none none q no_more))) (calls_alike l _ _ ks ms rs q)

  abbrev scatter_on : Text → ℕ → ℕ → Option Trees → Option Trees
  scatter_on l n k o = elim o [ None ↦ None | Some ts ↦ Some (more (node (Call l) (more (loc n) (more (loc k) none))) ts) ]

  scatter_more : (l : Text) (i j k m : ℕ) (o p : Option Trees) → L i j → L k m → MayBoth (AreAlikeBelow L) o p → MayBoth (AreAlikeBelow L) (scatter_on l i k o) (scatter_on l j m p)
  scatter_more l i j k m _ _ r q neither = neither
  scatter_more l i j k m _ _ r q (both b) = both (one_more (at_node (Call l) refl (one_more (at_locs r no_more) (one_more (at_locs q no_more) no_more))) b)

  scattered_alike : (l : Text) (xs ys ks ms : List ℕ) → Pairs L xs ys → Pairs L ks ms → MayBoth (AreAlikeBelow L) (rows.scattered l xs ks) (rows.scattered l ys ms)
  scattered_alike l _ _ _ _ no_pair no_pair = both no_more
  scattered_alike l _ _ _ _ no_pair (pair q qs) = neither
  scattered_alike l _ _ _ _ (pair r rs) no_pair = neither
  scattered_alike l _ _ _ _ (pair r rs) (pair q qs) = scatter_more l _ _ _ _ _ _ r q (scattered_alike l _ _ _ _ rs qs)

  member_alike : (k : ℕ) (xs ys : List ℕ) → Pairs L xs ys → MayBoth L (rows.member_at xs k) (rows.member_at ys k)
  member_alike k _ _ no_pair = neither
  member_alike zero _ _ (pair r rs) = both r
  member_alike (suc k) _ _ (pair r rs) = member_alike k _ _ rs

  pub remaining_alike : (ts us : Trees) → AreAlikeBelow L ts us → AreAlike L (rows.remaining ts) (rows.remaining us)
  remaining_alike _ _ no_more = at_node Steps refl no_more
  remaining_alike _ _ (one_more a no_more) = a
  remaining_alike _ _ (one_more a (one_more c b)) = at_node Steps refl (one_more a (one_more c b))

-- Rows

module _ (a b : Side) (R : Place → Place → Type 0) (s : Sides a b R) where
  abbrev pub L : ℕ → ℕ → Type 0
  L = Stored R

  abbrev pub Both : Contraction → Contraction → Type 1
  Both = AlikeContractions a b R

  pub goes : (t u : Tree) (lines : List LineShape) → AreAlike L t u → Both (Becomes t a.store lines) (Becomes u b.store lines)
  goes t u lines e = becomes (here a b R s) e

  pub stays : (i j : ℕ) → L i j → Both (rows.stays_at i a.store) (rows.stays_at j b.store)
  stays i j r = goes (loc i) (loc j) [] (at_locs r no_more)

  pub allot : (c d : CellShape) (lines : List LineShape) → AlikeCells L c d → Both (rows.allots a.store c lines) (rows.allots b.store d lines)
  allot c d lines k = let w = alike_shows a b R s c d k in becomes (new_onward a b R s c d w) (at_locs (new_related a b R s c d w) no_more)

  pub number : (z : ℤ) → Both (rows.allots a.store (Number z) []) (rows.allots b.store (Number z) [])
  number z = allot (Number z) (Number z) [] (numbers z)

  in_range : (z : ℤ) → Both (rows.in_range a.store z) (rows.in_range b.store z)
  in_range z = elim (rows.is_in_range z) as (λ t. Both (elim t [ true ↦ rows.allots a.store (Number z) [] | false ↦ Faults rows.Overflow ]) (elim t [ true ↦ rows.allots b.store (Number z) [] | false ↦ Faults rows.Overflow ])) [ true ↦ number z | false ↦ faults rows.Overflow ]

  remains : (x y : ℤ) → Both (rows.remainder_in_range a.store x y) (rows.remainder_in_range b.store x y)
  remains x y = elim (rows.is_in_range (int_div x y)) as (λ t. Both (elim t [ true ↦ rows.allots a.store (Number (int_rem x y)) [] | false ↦ Faults rows.Overflow ]) (elim t [ true ↦ rows.allots b.store (Number (int_rem x y)) [] | false ↦ Faults rows.Overflow ])) [ true ↦ number (int_rem x y) | false ↦ faults rows.Overflow ]

  unless : (z : ℤ) (c d : Contraction) → Both c d → Both (rows.unless_zero z c) (rows.unless_zero z d)
  unless (pos zero) c d k = faults rows.ZeroDivisor
  unless (pos (suc n)) c d k = k
  unless (negsuc n) c d k = k

  operates : (sign : SignShape) (x y : ℤ) → Both (rows.operate a.store sign x y) (rows.operate b.store sign x y)
  operates Add x y = in_range (x +ℤ y)
  operates Subtract x y = in_range (x -ℤ y)
  operates Multiply x y = in_range (x *ℤ y)
  operates Divide x y = unless y _ _ (in_range (int_div x y))
  operates Remainder x y = unless y _ _ (remains x y)
  operates Less x y = number (rows.truth (int_lt x y))
  operates Equal x y = number (rows.truth (int_le x y && int_le y x))

  pub operate_by : (sign : SignShape) (c d c' d' : CellShape) → AlikeCells L c c' → AlikeCells L d d' → Both (rows.operate_row a.store sign c d) (rows.operate_row b.store sign c' d')
  operate_by sign _ _ _ _ (numbers x) (numbers y) = operates sign x y
  operate_by sign _ _ _ _ (numbers x) (objects fs ms) = faults rows.NotNumber
  operate_by sign _ _ _ _ (numbers x) (references n) = faults rows.NotNumber
  operate_by sign _ _ _ _ (numbers x) (groups ps) = faults rows.NotNumber
  operate_by sign _ d _ d' (objects fs ms) k = faults rows.NotNumber
  operate_by sign _ d _ d' (references n) k = faults rows.NotNumber
  operate_by sign _ d _ d' (groups ps) k = faults rows.NotNumber

  field_by : (o p : Option ℕ) → MayBoth L o p → Both (rows.field_found a.store o) (rows.field_found b.store p)
  field_by _ _ neither = faults rows.NoField
  field_by _ _ (both r) = stays _ _ r

  pub get_by : (l : Text) (c d : CellShape) → AlikeCells L c d → Both (rows.get_row a.store l c) (rows.get_row b.store l d)
  get_by l _ _ (numbers z) = faults rows.NotObject
  get_by l _ _ (objects fs ms) = field_by _ _ (place_alike L l _ _ fs)
  get_by l _ _ (references n) = faults rows.ActiveField
  get_by l _ _ (groups ps) = faults rows.NotObject

  -- a strict operand on both sides
  pub record Operand (i j : ℕ) : Type 0 where
    pub related : L i j
    pub left : is_future (cell a.store i) ≡ false
    pub right : is_future (cell b.store j) ≡ false

  pub at : (i j : ℕ) → Operand i j → AlikeCells L (cell a.store i) (cell b.store j)
  at i j o = cells_at a b R s i j o.related o.left o.right

  set_by : (i j : ℕ) (c d : CellShape) (o p : Option ℕ) → Operand i j → AlikeCells L c d → MayBoth L o p → Both (rows.field_set a.store i c o) (rows.field_set b.store j d p)
  set_by i j c d _ _ x k neither = faults rows.NoField
  set_by i j c d _ _ x k (both r) = let o = write_onward a b R s i j c d x.related x.left x.right (alike_shows a b R s c d k) in becomes o (at_locs (o.keeps i j x.related) no_more)

  pub put_by : (l : Text) (i j k m : ℕ) (c d : CellShape) → Operand i j → L k m → AlikeCells L c d → Both (rows.put_row a.store l i k c) (rows.put_row b.store l j m d)
  put_by l i j k m _ _ x r (numbers z) = faults rows.NotObject
  put_by l i j k m _ _ x r (objects fs ms) = set_by i j _ _ _ _ x (objects (set_alike L l k m _ _ r fs) ms) (place_alike L l _ _ fs)
  put_by l i j k m _ _ x r (references n) = faults rows.ActiveField
  put_by l i j k m _ _ x r (groups ps) = faults rows.NotObject

  invoked_by : (t u : Tree) (o p : Option Environment) → AreAlike L t u → MayBoth (AlikeEnvironments L) o p → Both (rows.invoked a.store t o) (rows.invoked b.store u p)
  invoked_by t u _ _ e neither = faults rows.NoMethod
  invoked_by t u _ _ e (both r) = goes _ _ [] (alike_put_in L _ _ t u r e)

  method_by : (i j : ℕ) (ks ms : List ℕ) (o p : Option MethodShape) → L i j → Pairs L ks ms → MayBoth (AlikeMethods L) o p → Both (rows.method_found a.store i ks o) (rows.method_found b.store j ms p)
  method_by i j ks ms _ _ r rs neither = faults rows.NoMethod
  method_by i j ks ms _ _ r rs (both {x = m} {y = n} e) = subst (λ h. Both (rows.method_found a.store i ks (Some m)) (rows.invoked b.store n.body (rows.bindings (h.slf ∷ h.parameters) (j ∷ ms)))) e.head
      (invoked_by m.body n.body _ _ e.body (bindings_alike L (m.head.slf ∷ m.head.parameters) (i ∷ ks) (j ∷ ms) (pair r rs)))

  pub call_by : (l : Text) (i j : ℕ) (ks ms : List ℕ) (c d : CellShape) → L i j → Pairs L ks ms → AlikeCells L c d → Both (rows.call_row a.store l i ks c) (rows.call_row b.store l j ms d)
  call_by l i j ks ms _ _ r rs (numbers z) = faults rows.NotObject
  call_by l i j ks ms _ _ r rs (objects fs es) = method_by i j ks ms _ _ r rs (method_alike L l _ _ es)
  call_by l i j ks ms _ _ r rs (references n) = sends n l rs
  call_by l i j ks ms _ _ r rs (groups ps) = goes _ _ [] (at_node term.Group refl (calls_alike L l _ _ ks ms ps rs))

  pub active_by : (i j : ℕ) (service : Option Text) (c d : CellShape) → L i j → AlikeCells L c d → Both (rows.active_row i service c) (rows.active_row j service d)
  active_by i j service _ _ r (numbers z) = faults rows.NotObject
  active_by i j service _ _ r (objects fs ms) = creates service r
  active_by i j service _ _ r (references n) = faults rows.NotObject
  active_by i j service _ _ r (groups ps) = faults rows.NotObject

  number_if : (t u t' u' : Tree) (z : ℤ) → AreAlike L t t' → AreAlike L u u' → Both (rows.if_row a.store t u (Number z)) (rows.if_row b.store t' u' (Number z))
  number_if t u t' u' (pos zero) e d = goes u u' [] d
  number_if t u t' u' (pos (suc n)) e d = goes t t' [] e
  number_if t u t' u' (negsuc n) e d = goes t t' [] e

  pub if_by : (t u t' u' : Tree) (c d : CellShape) → AreAlike L t t' → AreAlike L u u' → AlikeCells L c d → Both (rows.if_row a.store t u c) (rows.if_row b.store t' u' d)
  if_by t u t' u' _ _ e d (numbers z) = number_if t u t' u' z e d
  if_by t u t' u' _ _ e d (objects fs ms) = faults rows.NotNumber
  if_by t u t' u' _ _ e d (references n) = faults rows.NotNumber
  if_by t u t' u' _ _ e d (groups ps) = faults rows.NotNumber

  pub print_by : (i j : ℕ) (c d : CellShape) → L i j → AlikeCells L c d → Both (rows.print_row a.store i c) (rows.print_row b.store j d)
  print_by i j _ _ r (numbers z) = goes (loc i) (loc j) (NumberLine z ∷ []) (at_locs r no_more)
  print_by i j _ _ r (objects fs ms) = faults rows.NotNumber
  print_by i j _ _ r (references n) = faults rows.NotNumber
  print_by i j _ _ r (groups ps) = faults rows.NotNumber

  sizes_by : (o p : Option Trees) → MayBoth (AreAlikeBelow L) o p → Both (rows.sizes_compared a.store o) (rows.sizes_compared b.store p)
  sizes_by _ _ neither = faults rows.BadMember
  sizes_by _ _ (both e) = goes _ _ [] (at_node term.Group refl e)

  pub scatter_by : (l : Text) (c d c' d' : CellShape) → AlikeCells L c c' → AlikeCells L d d' → Both (rows.scatter_row a.store l c d) (rows.scatter_row b.store l c' d')
  scatter_by l _ _ _ _ (groups ps) (groups qs) = sizes_by _ _ (scattered_alike L l _ _ _ _ ps qs)
  scatter_by l _ _ _ _ (groups ps) (numbers z) = faults rows.NotGroup
  scatter_by l _ _ _ _ (groups ps) (objects fs ms) = faults rows.NotGroup
  scatter_by l _ _ _ _ (groups ps) (references n) = faults rows.NotGroup
  scatter_by l _ d _ d' (numbers z) k = faults rows.NotGroup
  scatter_by l _ d _ d' (objects fs ms) k = faults rows.NotGroup
  scatter_by l _ d _ d' (references n) k = faults rows.NotGroup

  pub size_by : (c d : CellShape) → AlikeCells L c d → Both (rows.size_row a.store c) (rows.size_row b.store d)
  size_by _ _ (groups {xs = xs} {ys = ys} ps) = subst (λ n. Both (rows.allots a.store (Number (pos (length xs))) []) (rows.allots b.store (Number (pos n)) [])) (pairs_length L xs ys ps) (number (pos (length xs)))
  size_by _ _ (numbers z) = faults rows.NotGroup
  size_by _ _ (objects fs ms) = faults rows.NotGroup
  size_by _ _ (references n) = faults rows.NotGroup

  found_by : (o p : Option ℕ) → MayBoth L o p → Both (rows.member_found a.store o) (rows.member_found b.store p)
  found_by _ _ neither = faults rows.BadMember
  found_by _ _ (both r) = stays _ _ r

  member_number : (xs ys : List ℕ) (z : ℤ) → Pairs L xs ys → Both (rows.member_row a.store (Group xs) (Number z)) (rows.member_row b.store (Group ys) (Number z))
  member_number xs ys (pos k) ps = found_by _ _ (member_alike L k xs ys ps)
  member_number xs ys (negsuc k) ps = faults rows.BadMember

  pub member_by : (c d c' d' : CellShape) → AlikeCells L c c' → AlikeCells L d d' → Both (rows.member_row a.store c d) (rows.member_row b.store c' d')
  member_by _ _ _ _ (groups ps) (numbers z) = member_number _ _ z ps
  member_by _ _ _ _ (groups ps) (objects fs ms) = faults rows.NotNumber
  member_by _ _ _ _ (groups ps) (references n) = faults rows.NotNumber
  member_by _ _ _ _ (groups ps) (groups qs) = faults rows.NotNumber
  member_by _ d _ d' (numbers z) k = faults rows.NotGroup
  member_by _ d _ d' (objects fs ms) k = faults rows.NotGroup
  member_by _ d _ d' (references n) k = faults rows.NotGroup

  pub wait_by : (i j : ℕ) (c d : CellShape) → L i j → AlikeCells L c d → Both (rows.wait_row a.store i c) (rows.wait_row b.store j d)
  wait_by i j _ _ r (groups ps) = stays i j r
  wait_by i j _ _ r (numbers z) = faults rows.NotGroup
  wait_by i j _ _ r (objects fs ms) = faults rows.NotGroup
  wait_by i j _ _ r (references n) = faults rows.NotGroup
