-- Homes in the order of futures, and the edges that were not delivered.
use Rattle.std.proofs.Common.{◌≡◌, ◌∙◌, ℕ, zero, suc, ◌+◌, ◌<◌, Bool, true, false, cond, List, [], ◌∷◌, Some, None, length, map, drop, get_or, refl, sym, ap, subst, arith}
use Rattle.std.specs.Prelude.{filter, is_some, not, slice_get, unwrap_or}
use Rattle.std.specs.BTreeMap.{insert_entry}
use Rattle.std.specs.Cmp.{IsTotalOrder, nat_cmp_total, on_total, then_total}
use Rattle.std.specs.Cmp.Lexicographic.{nat_list_cmp_total}
use Rattle.std.specs.FinMap.{find, put}
use Rattle.std.specs.FinMap.Entries.{by_order, find-put, is_sorted-put}
use Rattle.std.specs.Iterator.{Yields}
use Rattle.std.specs.Map.Iter.{TakesFirst}
use Rattle.std.specs.Ordering.{match_ordering}
use Rattle.std.specs.declared.cmp.Ordering.{Ordering}
use Rattle.std.specs.declared.cmp.Ordering.TheVariants.{Less, Equal, Greater}
use Rattle.std.proofs.lemmas.List.{drop_all}
use Rattle.std.proofs.lemmas.List.Sums.{sum_by-cons}
use Rattle.asp_model.specs.declared.name.FutureName.{FutureName}
use Rattle.asp_model.specs.contracts.name.FutureNameOrd.TheImpl as ordering
use Rattle.asp_model.specs.Names.{FutureShape, Name, future_cmp, same_future}
use Rattle.asp_model.specs.Shapes.{future_shape}
use Rattle.def_journals.specs.Edges.{has_edge, home_of}
use Rattle.core_sets.specs.Ticks.{open_count}
use Rattle.future_update.specs.declared.records.Records.{Records}
use Rattle.future_update.specs.Holders.{AreHomes, home_shape, undelivered}
use Rattle.future_update.specs.Names.{edge_of}
use Rattle.future_update.specs.Records.{AreRecords, names_of, shape_of}
use Rattle.future_update.proofs.NameLemmas.{clash}
use Rattle.future_update.proofs.RecordLemmas.{delivered_so}

future_total : IsTotalOrder future_cmp
future_total = then_total (on_total (λ f. f.by) nat_list_cmp_total) (on_total (λ f. f.index) nat_cmp_total)

-- Homes

abbrev Homes : Type 0
Homes = List (FutureName × Name)

-- what a map makes of one more home is that it is put
pub put_as_shapes : (es : Homes) (f : FutureName) (n : Name) → map home_shape (insert_entry ordering.ghosts.cmp es f n) ≡ put future_cmp (future_shape f) n (map home_shape es)
put_as_shapes [] f n = refl
put_as_shapes (e ∷ es) f n = by (future_cmp (future_shape f) (future_shape e.0)) (put_as_shapes es f n)
  where
    by : (o : Ordering) → map home_shape (insert_entry ordering.ghosts.cmp es f n) ≡ put future_cmp (future_shape f) n (map home_shape es)
        → map home_shape (match_ordering o ((f, n) ∷ e ∷ es) ((e.0, n) ∷ es) (e ∷ insert_entry ordering.ghosts.cmp es f n))
        ≡ by_order o ((future_shape f, n) ∷ map home_shape (e ∷ es)) ((future_shape e.0, n) ∷ map home_shape es) (home_shape e ∷ put future_cmp (future_shape f) n (map home_shape es))
    by Less next = refl
    by Equal next = refl
    by Greater next = ap (λ (xs : List (FutureShape × Name)). home_shape e ∷ xs) next

-- a home before others counts where its future is looked up
home_first : (f : FutureShape) (n : Name) (homes entries : List (FutureShape × Name)) → AreHomes homes entries → AreHomes ((f, n) ∷ homes) (put future_cmp f n entries)
home_first f n homes entries h = record {
  found = λ q. find-put future_cmp future_total q f n entries ∙ by q (same_future q f) (h.found q);
  ascending = is_sorted-put future_cmp future_total f n entries h.ascending;
}
  where
    by : (q : FutureShape) (b : Bool) → find future_cmp q entries ≡ home_of q homes → cond b (Some n) (find future_cmp q entries) ≡ elim b [ true ↦ Some n | false ↦ home_of q homes ]
    by q true e = refl
    by q false e = e

dropped : {X : Type 0} (xs : List X) (i : ℕ) (x : X) → slice_get xs i ≡ Some x → drop i xs ≡ x ∷ drop (suc i) xs
dropped [] i x is = clash (ap is_some is) refl
dropped (y ∷ xs) zero x is = ap (λ o. unwrap_or o y ∷ xs) is
dropped (y ∷ xs) (suc i) x is = dropped xs i x is

-- at first there is none
pub no_homes : (homes : List (FutureShape × Name)) (entries : Homes) (k : ℕ) → k ≡ length homes → entries ≡ [] → AreHomes (drop k homes) (map home_shape entries)
no_homes homes entries k last none =
    subst (λ xs. AreHomes xs (map home_shape entries)) (sym (drop_all k homes (omega (arith, last))))
    (subst (λ (es : Homes). AreHomes [] (map home_shape es)) (sym none) (record { found = λ f. refl; ascending = tt }))

-- and then one before those that are there
pub one_home : (homes old new : List (FutureShape × Name)) (i k : ℕ) (f : FutureShape) (n : Name) → k ≡ suc i → slice_get homes i ≡ Some (f, n) → new ≡ put future_cmp f n old → AreHomes (drop k homes) old → AreHomes (drop i homes) new
one_home homes old new i k f n next here is h =
    subst (λ xs. AreHomes xs new) (sym (dropped homes i (f, n) here))
    (subst (AreHomes ((f, n) ∷ drop (suc i) homes)) (sym is) (home_first f n (drop (suc i) homes) old (subst (λ j. AreHomes (drop j homes) old) next h)))

-- what is taken from a list until there is nothing left is that list
pub drained : {X : Type 0} (xs all left : List X) → Yields (TakesFirst (λ (x : X). x)) xs all left → (end : List X) → TakesFirst (λ (x : X). x) left None end → all ≡ xs
drained xs [] left taken end last = sym (taken ∙ last.0)
drained xs (x ∷ all) left taken end last = ap (λ ys. x ∷ ys) (drained taken.0 all left taken.2 end last) ∙ sym taken.1

-- Edges that were not delivered

module _ {X Y : Type 0} (done : Y → Bool) (h : X → Y) (d : X) where
  counted_by : (y : Y) (ys : List Y) (a b : Bool) (n : ℕ) → a ≡ b → length ys ≡ n → length (cond (not a) (y ∷ ys) ys) ≡ elim b as (λ b. ℕ) [ true ↦ 0 | false ↦ 1 ] + n
  counted_by y ys true true n e is = let none : n ≡ 0 + n = omega arith in is ∙ none
  counted_by y ys false false n e is = let one : suc n ≡ 1 + n = omega arith in ap suc is ∙ one
  counted_by y ys true false n e is = clash refl e
  counted_by y ys false true n e is = clash e refl

  -- those that are not ticked off are as many as the ticks that are open
  counted : (xs : List X) (ticks : List Bool) → length ticks ≡ length xs → ((p : ℕ) → p < length xs → done (h (get_or xs p d)) ≡ get_or ticks p false) → length (filter (λ y. not (done y)) (map h xs)) ≡ open_count ticks
  counted [] [] same told = refl
  counted [] (b ∷ bs) same told = absurd (omega (arith, same))
  counted (x ∷ xs) [] same told = absurd (omega (arith, same))
  counted (x ∷ xs) (b ∷ bs) same told =
      counted_by (h x) (filter (λ y. not (done y)) (map h xs)) (done (h x)) b (open_count bs) (told 0 (omega arith)) (counted xs bs (omega (arith, same)) (λ p lt. told (suc p) (omega (arith, lt))))
      ∙ sym (sum_by-cons (λ b. elim b [ true ↦ 0 | false ↦ 1 ]) b bs)

pub left_so : (r : Records) → AreRecords r → length (undelivered (shape_of r)) + length r.delivered.order.items ≡ length r.edges.keys
left_so r k =
    let open_edges = counted (λ x. has_edge x (shape_of r).delivered) (edge_of (names_of r)) _ r.edges.keys r.delivered.done.items k.delivered_size
    (λ p lt. delivered_so r k p lt ∙ sym (k.delivered.told p)) in
    omega (arith, open_edges, k.delivered.count, k.delivered_size)
