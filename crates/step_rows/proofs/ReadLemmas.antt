-- Strict operands that are read.
use Rattle.std.proofs.Common.{◌≡◌, ◌<◌, ◌++◌, ℕ, zero, suc, ℤ, Bool, true, false, List, [], ◌∷◌, Option, Some, None, length, refl, sym, ap, ◌∙◌, arith}
use Rattle.asp_model.specs.Names.{Text}
use Rattle.asp_model.specs.Term.{Head, SignShape, Get, Put, Clone, Active, Operate, Print, Size, Member, If, Scatter, Call, Tree, none, more}
use Rattle.asp_model.specs.Store.{CellShape, Store, Number, Object, Reference, Future, Group, cell}
use Rattle.asp_model.specs.Contraction.{Contraction, Faults, Needs, NotNumber, Communicates, Creates, contract, first_future, is_future, allots, get_row, put_row, active_row, print_row, operate_row, size_row, member_row, if_row, scatter_row, call_row}
use Rattle.code_table.specs.declared.class.Class.{Class}
use Rattle.code_table.specs.declared.code.Node.{Node}
use Rattle.code_table.specs.Cells.{CodedStore, CodedCell, cell_at}
use Rattle.code_table.specs.Shapes.{class_object, cell_of, store_of}
use Rattle.code_table.proofs.CodedLemmas.{cell-store_of}
use Rattle.step_rows.specs.declared.seen.Seen.{Seen}
use Rattle.step_rows.specs.declared.seen.Seen.TheVariants as seen
use Rattle.step_rows.specs.Decisions.{read, needs_or, value_redex}
use Rattle.step_rows.specs.Sights.{IsOther, IsSeen, operated, printed, tested, seen_or}

-- Objects

-- an object is no future
pub object_read : (i : ℕ) (f : CellShape → Contraction) (k : List Node) (ns : List ℕ) (o : Option Class) → read i f (class_object k ns o) ≡ f (class_object k ns o)
object_read i f k ns None = refl
object_read i f k ns (Some x) = refl

pub object_other : (k : List Node) (ns : List ℕ) (o : Option Class) → IsOther (class_object k ns o)
object_other k ns None = tt
object_other k ns (Some x) = tt

pub object_active : (i : ℕ) (service : Option Text) (k : List Node) (ns : List ℕ) (o : Option Class) → read i (active_row i service) (class_object k ns o) ≡ Communicates (Creates i service)
object_active i service k ns None = refl
object_active i service k ns (Some x) = refl

-- the cell that was looked at
pub cell_seen : (k : List Node) (s : CodedStore) (p : ℕ) (c : CodedCell) → c ≡ cell_at s p → cell (store_of k s) p ≡ cell_of k c
cell_seen k s p c e = cell-store_of k s p ∙ ap (cell_of k) (sym e)

-- a cell stays where the store grows
pub cell_kept : (s added : CodedStore) (p : ℕ) → p < length s → cell_at (s ++ added) p ≡ cell_at s p
cell_kept [] added p h = absurd (omega arith)
cell_kept (c ∷ cs) added zero h = refl
cell_kept (c ∷ cs) added (suc p) h = cell_kept cs added p (omega arith)

-- the cell that was added
pub cell_added : (s added : CodedStore) (c : CodedCell) → cell_at (s ++ c ∷ added) (length s) ≡ c
cell_added [] added c = refl
cell_added (d ∷ s) added c = cell_added s added c

-- First futures

abbrev pub first_or : ℕ → Option ℕ → Bool → Option ℕ
first_or i o true = Some i
first_or i o false = o

one_at : (i : ℕ) (f : CellShape → Contraction) (c : CellShape) → needs_or (f c) (first_or i None (is_future c)) ≡ read i f c
one_at i f (Future g) = refl
one_at i f c = refl

two_at : (i j : ℕ) (f : CellShape → CellShape → Contraction) (c d : CellShape) → needs_or (f c d) (first_or i (first_or j None (is_future d)) (is_future c)) ≡ read i (λ x. read j (f x) d) c
two_at i j f (Future g) d = refl
two_at i j f (Number n) d = one_at j (f (Number n)) d
two_at i j f (Object fields methods) d = one_at j (f (Object fields methods)) d
two_at i j f (Reference n) d = one_at j (f (Reference n)) d
two_at i j f (Group ns) d = one_at j (f (Group ns)) d

pub elim_first : (S : Store) (i : ℕ) (o : Option ℕ) → elim (is_future (cell S i)) [ true ↦ Some i | false ↦ o ] ≡ first_or i o (is_future (cell S i))
elim_first S i o = elim (is_future (cell S i)) as (λ (b : Bool). elim b [ true ↦ Some i | false ↦ o ] ≡ first_or i o b) [ true ↦ refl | false ↦ refl ]

pub first_of_one : (S : Store) (i : ℕ) (f : CellShape → Contraction) → needs_or (f (cell S i)) (first_future S (i ∷ [])) ≡ read i f (cell S i)
first_of_one S i f = ap (needs_or (f (cell S i))) (elim_first S i None) ∙ one_at i f (cell S i)

pub first_of_two : (S : Store) (i j : ℕ) (f : CellShape → CellShape → Contraction) → needs_or (f (cell S i) (cell S j)) (first_future S (i ∷ j ∷ [])) ≡ read i (λ x. read j (f x) (cell S j)) (cell S i)
first_of_two S i j f =
    ap (needs_or (f (cell S i) (cell S j))) (elim_first S i (first_future S (j ∷ [])) ∙ ap (λ (o : Option ℕ). first_or i o (is_future (cell S i))) (elim_first S j None))
    ∙ two_at i j f (cell S i) (cell S j)

pub to_needs : (c : Contraction) (o : Option ℕ) → elim o [ Some n ↦ Needs n | None ↦ c ] ≡ needs_or c o
to_needs c None = refl
to_needs c (Some n) = refl

-- Rows of one strict operand

pub get_reads : (S : Store) (l : Text) (i : ℕ) → contract S (record { head = Get l; places = i ∷ []; behind = none }) ≡ read i (get_row S l) (cell S i)
get_reads S l i = to_needs (get_row S l (cell S i)) (first_future S (i ∷ [])) ∙ first_of_one S i (get_row S l)

pub put_reads : (S : Store) (l : Text) (i j : ℕ) → contract S (record { head = Put l; places = i ∷ j ∷ []; behind = none }) ≡ read i (put_row S l i j) (cell S i)
put_reads S l i j = to_needs (put_row S l i j (cell S i)) (first_future S (i ∷ [])) ∙ first_of_one S i (put_row S l i j)

pub clone_reads : (S : Store) (i : ℕ) → contract S (record { head = Clone; places = i ∷ []; behind = none }) ≡ read i (λ c. allots S c []) (cell S i)
clone_reads S i = to_needs (allots S (cell S i) []) (first_future S (i ∷ [])) ∙ first_of_one S i (λ c. allots S c [])

pub active_reads : (S : Store) (service : Option Text) (i : ℕ) → contract S (record { head = Active service; places = i ∷ []; behind = none }) ≡ read i (active_row i service) (cell S i)
active_reads S service i = to_needs (active_row i service (cell S i)) (first_future S (i ∷ [])) ∙ first_of_one S i (active_row i service)

pub print_reads : (S : Store) (i : ℕ) → contract S (record { head = Print; places = i ∷ []; behind = none }) ≡ read i (print_row S i) (cell S i)
print_reads S i = to_needs (print_row S i (cell S i)) (first_future S (i ∷ [])) ∙ first_of_one S i (print_row S i)

pub size_reads : (S : Store) (i : ℕ) → contract S (record { head = Size; places = i ∷ []; behind = none }) ≡ read i (size_row S) (cell S i)
size_reads S i = to_needs (size_row S (cell S i)) (first_future S (i ∷ [])) ∙ first_of_one S i (size_row S)

pub if_reads : (S : Store) (i : ℕ) (a b : Tree) → contract S (record { head = If; places = i ∷ []; behind = more a (more b none) }) ≡ read i (if_row S a b) (cell S i)
if_reads S i a b = to_needs (if_row S a b (cell S i)) (first_future S (i ∷ [])) ∙ first_of_one S i (if_row S a b)

pub call_reads : (S : Store) (l : Text) (i : ℕ) (ks : List ℕ) → contract S (record { head = Call l; places = i ∷ ks; behind = none }) ≡ read i (call_row S l i ks) (cell S i)
call_reads S l i ks = to_needs (call_row S l i ks (cell S i)) (first_future S (i ∷ [])) ∙ first_of_one S i (call_row S l i ks)

-- Rows of two

pub operate_reads : (S : Store) (sign : SignShape) (i j : ℕ) → contract S (record { head = Operate sign; places = i ∷ j ∷ []; behind = none }) ≡ read i (λ c. read j (operate_row S sign c) (cell S j)) (cell S i)
operate_reads S sign i j = to_needs (operate_row S sign (cell S i) (cell S j)) (first_future S (i ∷ j ∷ [])) ∙ first_of_two S i j (operate_row S sign)

pub member_reads : (S : Store) (i j : ℕ) → contract S (record { head = Member; places = i ∷ j ∷ []; behind = none }) ≡ read i (λ c. read j (member_row S c) (cell S j)) (cell S i)
member_reads S i j = to_needs (member_row S (cell S i) (cell S j)) (first_future S (i ∷ j ∷ [])) ∙ first_of_two S i j (member_row S)

pub scatter_reads : (S : Store) (l : Text) (i j : ℕ) → contract S (record { head = Scatter l; places = i ∷ j ∷ []; behind = none }) ≡ read i (λ c. read j (scatter_row S l c) (cell S j)) (cell S i)
scatter_reads S l i j = to_needs (scatter_row S l (cell S i) (cell S j)) (first_future S (i ∷ j ∷ [])) ∙ first_of_two S i j (scatter_row S l)

-- What is seen

other_operates : (S : Store) (sign : SignShape) (c d : CellShape) → IsOther c → operate_row S sign c d ≡ Faults NotNumber
other_operates S sign (Number n) d h = absurd h
other_operates S sign (Future f) d h = absurd h
other_operates S sign c d h = refl

then_other : (S : Store) (sign : SignShape) (n : ℤ) (d : CellShape) → IsOther d → operate_row S sign (Number n) d ≡ Faults NotNumber
then_other S sign n (Number m) h = absurd h
then_other S sign n (Future f) h = absurd h
then_other S sign n d h = refl

pub other_read : (i : ℕ) (f : CellShape → Contraction) (c : CellShape) → IsOther c → read i f c ≡ f c
other_read i f (Number n) h = absurd h
other_read i f (Future g) h = absurd h
other_read i f c h = refl

pub operates : (S : Store) (sign : SignShape) (i j : ℕ) (c d : CellShape) (x y : Seen) → IsSeen c x → IsSeen d y → read i (λ c. read j (operate_row S sign c) d) c ≡ operated S sign i j x y
operates S sign i j c d seen.Future y h g = ap (read i (λ c. read j (operate_row S sign c) d)) h.1
operates S sign i j c d (seen.Number n) seen.Future h g = ap (read i (λ c. read j (operate_row S sign c) d)) h ∙ ap (read j (operate_row S sign (Number n))) g.1
operates S sign i j c d (seen.Number n) (seen.Number m) h g = ap (read i (λ c. read j (operate_row S sign c) d)) h ∙ ap (read j (operate_row S sign (Number n))) g
operates S sign i j c d (seen.Number n) seen.Other h g = ap (read i (λ c. read j (operate_row S sign c) d)) h ∙ other_read j (operate_row S sign (Number n)) d g ∙ then_other S sign n d g
operates S sign i j c d seen.Other seen.Future h g = other_read i (λ c. read j (operate_row S sign c) d) c h ∙ ap (read j (operate_row S sign c)) g.1
operates S sign i j c d seen.Other (seen.Number m) h g = other_read i (λ c. read j (operate_row S sign c) d) c h ∙ ap (read j (operate_row S sign c)) g ∙ other_operates S sign c (Number m) h
operates S sign i j c d seen.Other seen.Other h g = other_read i (λ c. read j (operate_row S sign c) d) c h ∙ other_read j (operate_row S sign c) d g ∙ other_operates S sign c d h

-- a row that wants a number faults at what is none
other_prints : (S : Store) (i : ℕ) (c : CellShape) → IsOther c → read i (print_row S i) c ≡ Faults NotNumber
other_prints S i (Number n) h = absurd h
other_prints S i (Future f) h = absurd h
other_prints S i c h = refl

other_tests : (S : Store) (i : ℕ) (a b : Tree) (c : CellShape) → IsOther c → read i (if_row S a b) c ≡ Faults NotNumber
other_tests S i a b (Number n) h = absurd h
other_tests S i a b (Future f) h = absurd h
other_tests S i a b c h = refl

pub prints : (S : Store) (i : ℕ) (c : CellShape) (x : Seen) → IsSeen c x → read i (print_row S i) c ≡ printed S i x
prints S i c (seen.Number n) h = ap (read i (print_row S i)) h
prints S i c seen.Future h = ap (read i (print_row S i)) h.1
prints S i c seen.Other h = other_prints S i c h

pub tests : (S : Store) (i : ℕ) (a b : Tree) (c : CellShape) (x : Seen) → IsSeen c x → read i (if_row S a b) c ≡ tested S i a b x
tests S i a b c (seen.Number n) h = ap (read i (if_row S a b)) h
tests S i a b c seen.Future h = ap (read i (if_row S a b)) h.1
tests S i a b c seen.Other h = other_tests S i a b c h

-- Redexes whose operands were looked at

pub one_row : (k : List Node) (s : CodedStore) (h : Head) (ops : List ℕ) (i : ℕ) (c : CodedCell) (f : CellShape → Contraction) → ops ≡ i ∷ [] → c ≡ cell_at s i
    → contract (store_of k s) (value_redex h (i ∷ [])) ≡ read i f (cell (store_of k s) i) → contract (store_of k s) (value_redex h ops) ≡ read i f (cell_of k c)
one_row k s h ops i c f e g r = ap (λ (ns : List ℕ). contract (store_of k s) (value_redex h ns)) e ∙ r ∙ ap (read i f) (cell_seen k s i c g)

pub two_row : (k : List Node) (s : CodedStore) (h : Head) (ops : List ℕ) (i j : ℕ) (c d : CodedCell) (f : CellShape → CellShape → Contraction) → ops ≡ i ∷ j ∷ [] → c ≡ cell_at s i → d ≡ cell_at s j
    → contract (store_of k s) (value_redex h (i ∷ j ∷ [])) ≡ read i (λ x. read j (f x) (cell (store_of k s) j)) (cell (store_of k s) i)
    → contract (store_of k s) (value_redex h ops) ≡ read i (λ x. read j (f x) (cell_of k d)) (cell_of k c)
two_row k s h ops i j c d f e g g2 r =
    ap (λ (ns : List ℕ). contract (store_of k s) (value_redex h ns)) e ∙ r
    ∙ (λ m. read i (λ x. read j (f x) (cell_seen k s j d g2 m)) (cell_seen k s i c g m))

pub number_read : (i : ℕ) (f : CellShape → Contraction) (c : CellShape) (n : ℤ) → c ≡ Number n → read i f c ≡ f c
number_read i f c n h = ap (read i f) h ∙ sym (ap f h)

pub seen_read : (i : ℕ) (f : CellShape → Contraction) (c : CellShape) (x : Seen) → IsSeen c x → read i f c ≡ seen_or i (f c) x
seen_read i f c (seen.Number n) h = number_read i f c n h
seen_read i f c seen.Future h = ap (read i f) h.1
seen_read i f c seen.Other h = other_read i f c h
