-- Rows of groups, by what their operands are seen as.
use Rattle.std.proofs.Common.{◌≡◌, ℕ, zero, suc, ◌≤◌, true, false, List, [], ◌∷◌, Option, Some, None, length, refl, sym, ap, ◌∙◌, arith}
use Rattle.std.specs.Prelude.{pos, slice_get}
use Rattle.asp_model.specs.Names.{Text}
use Rattle.asp_model.specs.Term.{WaitAll, Trees, none, more, node, loc, Call}
use Rattle.asp_model.specs.Store.{CellShape, Store, Number, Future, Group, cell}
use Rattle.asp_model.specs.Contraction.{Contraction, Faults, NotGroup, NotNumber, contract, first_future, is_future, member_at, member_row, members_of, scatter_row, scattered, size_row, wait_row}
use Rattle.code_table.specs.declared.code.Node.{Node}
use Rattle.code_table.specs.Cells as cells
use Rattle.code_table.specs.Cells.{CodedStore, cell_at}
use Rattle.code_table.specs.Places.{placed}
use Rattle.code_table.specs.Shapes.{store_of}
use Rattle.code_table.proofs.CodedLemmas.{cell-store_of}
use Rattle.step_rows.specs.declared.groups.SeenGroup.{SeenGroup}
use Rattle.step_rows.specs.declared.groups.SeenGroup.TheVariants as party
use Rattle.step_rows.specs.declared.seen.Seen.{Seen}
use Rattle.step_rows.specs.declared.seen.Seen.TheVariants as seen
use Rattle.step_rows.specs.Decisions.{read, needs_or, value_redex}
use Rattle.step_rows.specs.Sights.{IsOther, IsSeen}
use Rattle.step_rows.specs.Groups.{IsNoGroup, IsSeenGroup, awaited, chosen_member, dealt, no_group, not_dealt, numbered, scatters, sized}
use Rattle.step_rows.proofs.ReadLemmas.{first_or, elim_first, to_needs, other_read}

-- Places

pub member_is : (ns : List ℕ) (k : ℕ) → member_at ns k ≡ slice_get ns k
member_is [] k = refl
member_is (n ∷ ns) zero = refl
member_is (n ∷ ns) (suc k) = member_is ns k

past_end : (s : CodedStore) (p : ℕ) → length s ≤ p → cell_at s p ≡ cells.Number (pos 0)
past_end [] p h = refl
past_end (c ∷ cs) zero h = absurd (omega (arith, h))
past_end (c ∷ cs) (suc p) h = let less : length cs ≤ p = omega (arith, h) in past_end cs p less

-- past the end stands no future
pub past_future : (k : List Node) (s : CodedStore) (p : ℕ) → length s ≤ p → false ≡ is_future (cell (store_of k s) p)
past_future k s p h = sym (ap is_future (cell-store_of k s p ∙ ap (λ c. Rattle.code_table.specs.Shapes.cell_of k c) (past_end s p h)))

no_future : (c : CellShape) → IsOther c → is_future c ≡ false
no_future (Number n) h = absurd h
no_future (Future f) h = absurd h
no_future c h = refl

pub is_future_seen : (c : CellShape) (x : Seen) → IsSeen c x → is_future c ≡ elim x [ seen.Future ↦ true | seen.Number n ↦ false | seen.Other ↦ false ]
is_future_seen c (seen.Number n) h = ap is_future h
is_future_seen c seen.Future h = ap is_future h.1
is_future_seen c seen.Other h = no_future c h

-- a future comes first, or the others are looked at
pub future_here : (S : Store) (n : ℕ) (ns : List ℕ) → is_future (cell S n) ≡ true → first_future S (n ∷ ns) ≡ Some n
future_here S n ns e = elim_first S n (first_future S ns) ∙ ap (first_or n (first_future S ns)) e

pub future_later : (S : Store) (n : ℕ) (ns : List ℕ) → is_future (cell S n) ≡ false → first_future S (n ∷ ns) ≡ first_future S ns
future_later S n ns e = elim_first S n (first_future S ns) ∙ ap (first_or n (first_future S ns)) e

-- What is seen as no group

no_size : (S : Store) (i : ℕ) (c : CellShape) → IsNoGroup c → read i (size_row S) c ≡ Faults NotGroup
no_size S i (Group ns) h = absurd h
no_size S i (Future f) h = absurd h
no_size S i c h = refl

no_members : (S : Store) (c d : CellShape) → IsNoGroup c → member_row S c d ≡ Faults NotGroup
no_members S (Group ns) d h = absurd h
no_members S (Future f) d h = absurd h
no_members S c d h = refl

no_scatter : (S : Store) (l : Text) (c d : CellShape) → IsNoGroup c → scatter_row S l c d ≡ Faults NotGroup
no_scatter S l (Group ns) d h = absurd h
no_scatter S l (Future f) d h = absurd h
no_scatter S l c d h = refl

no_partner : (S : Store) (l : Text) (ns : List ℕ) (d : CellShape) → IsNoGroup d → scatter_row S l (Group ns) d ≡ Faults NotGroup
no_partner S l ns (Group ks) h = absurd h
no_partner S l ns (Future f) h = absurd h
no_partner S l ns d h = refl

no_group_read : (i : ℕ) (f : CellShape → Contraction) (c : CellShape) → IsNoGroup c → read i f c ≡ f c
no_group_read i f (Group ns) h = absurd h
no_group_read i f (Future g) h = absurd h
no_group_read i f c h = refl

no_number : (S : Store) (ns : List ℕ) (d : CellShape) → IsOther d → member_row S (Group ns) d ≡ Faults NotNumber
no_number S ns (Number n) h = absurd h
no_number S ns (Future f) h = absurd h
no_number S ns d h = refl

-- The rows

pub sizes : (S : Store) (i : ℕ) (c : CellShape) (x : SeenGroup) → IsSeenGroup c x → read i (size_row S) c ≡ sized S i x
sizes S i c (party.Members ns) h = ap (read i (size_row S)) h
sizes S i c party.Future h = ap (read i (size_row S)) h.1
sizes S i c party.Other h = no_size S i c h

pub numbers : (S : Store) (j : ℕ) (ns : List ℕ) (d : CellShape) (y : Seen) → IsSeen d y → read j (member_row S (Group ns)) d ≡ numbered S j ns y
numbers S j ns d (seen.Number n) h = ap (read j (member_row S (Group ns))) h
numbers S j ns d seen.Future h = ap (read j (member_row S (Group ns))) h.1
numbers S j ns d seen.Other h = other_read j (member_row S (Group ns)) d h ∙ no_number S ns d h

pub no_numbers : (S : Store) (j : ℕ) (c d : CellShape) (y : Seen) → IsNoGroup c → IsSeen d y → read j (member_row S c) d ≡ no_group j y
no_numbers S j c d (seen.Number n) g h = ap (read j (member_row S c)) h ∙ no_members S c (Number n) g
no_numbers S j c d seen.Future g h = ap (read j (member_row S c)) h.1
no_numbers S j c d seen.Other g h = other_read j (member_row S c) d h ∙ no_members S c d g

pub chooses : (S : Store) (i j : ℕ) (c d : CellShape) (x : SeenGroup) (y : Seen) → IsSeenGroup c x → IsSeen d y → read i (λ c. read j (member_row S c) d) c ≡ chosen_member S i j x y
chooses S i j c d (party.Members ns) y h g = ap (read i (λ c. read j (member_row S c) d)) h ∙ numbers S j (placed ns) d y g
chooses S i j c d party.Future y h g = ap (read i (λ c. read j (member_row S c) d)) h.1
chooses S i j c d party.Other y h g = no_group_read i (λ c. read j (member_row S c) d) c h ∙ no_numbers S j c d y h g

deals : (S : Store) (l : Text) (j : ℕ) (ns : List ℕ) (d : CellShape) (y : SeenGroup) → IsSeenGroup d y → read j (scatter_row S l (Group ns)) d ≡ dealt S l j ns y
deals S l j ns d (party.Members ks) h = ap (read j (scatter_row S l (Group ns))) h
deals S l j ns d party.Future h = ap (read j (scatter_row S l (Group ns))) h.1
deals S l j ns d party.Other h = no_group_read j (scatter_row S l (Group ns)) d h ∙ no_partner S l ns d h

deals_not : (S : Store) (l : Text) (j : ℕ) (c d : CellShape) (y : SeenGroup) → IsNoGroup c → IsSeenGroup d y → read j (scatter_row S l c) d ≡ not_dealt j y
deals_not S l j c d (party.Members ks) g h = ap (read j (scatter_row S l c)) h ∙ no_scatter S l c (Group (placed ks)) g
deals_not S l j c d party.Future g h = ap (read j (scatter_row S l c)) h.1
deals_not S l j c d party.Other g h = no_group_read j (scatter_row S l c) d h ∙ no_scatter S l c d g

pub scattering : (S : Store) (l : Text) (i j : ℕ) (c d : CellShape) (x y : SeenGroup) → IsSeenGroup c x → IsSeenGroup d y → read i (λ c. read j (scatter_row S l c) d) c ≡ scatters S l i j x y
scattering S l i j c d (party.Members ns) y h g = ap (read i (λ c. read j (scatter_row S l c) d)) h ∙ deals S l j (placed ns) d y g
scattering S l i j c d party.Future y h g = ap (read i (λ c. read j (scatter_row S l c) d)) h.1
scattering S l i j c d party.Other y h g = no_group_read i (λ c. read j (scatter_row S l c) d) c h ∙ deals_not S l j c d y h g

-- no calls where the sizes differ
pub differ : (l : Text) (ns ks : List ℕ) → (length ns ≡ length ks → ⊥) → scattered l ns ks ≡ None
differ l [] [] h = absurd (h refl)
differ l [] (k ∷ ks) h = refl
differ l (n ∷ ns) [] h = refl
differ l (n ∷ ns) (k ∷ ks) h =
    let others : scattered l ns ks ≡ None = differ l ns ks (λ e. h (ap suc e)) in
    ap (λ (o : Option Trees). elim o [ None ↦ None | Some ts ↦ Some (more (node (Call l) (more (loc n) (more (loc k) none))) ts) ]) others

-- `waitall` reads its group, then the members

abbrev waits : Store → ℕ → CellShape → Contraction
waits S i c = needs_or (wait_row S i c) (first_or i (first_future S (members_of c)) (is_future c))

no_wait : (S : Store) (i : ℕ) (c : CellShape) → IsNoGroup c → waits S i c ≡ Faults NotGroup
no_wait S i (Group ns) h = absurd h
no_wait S i (Future f) h = absurd h
no_wait S i c h = refl

waits_so : (S : Store) (i : ℕ) (c : CellShape) (x : SeenGroup) → IsSeenGroup c x → waits S i c ≡ awaited S i x
waits_so S i c (party.Members ns) h = ap (waits S i) h
waits_so S i c party.Future h = ap (waits S i) h.1
waits_so S i c party.Other h = no_wait S i c h

pub awaits : (S : Store) (i : ℕ) (x : SeenGroup) → IsSeenGroup (cell S i) x → contract S (value_redex WaitAll (i ∷ [])) ≡ awaited S i x
awaits S i x h =
    to_needs (wait_row S i (cell S i)) (first_future S (i ∷ members_of (cell S i)))
    ∙ ap (needs_or (wait_row S i (cell S i))) (elim_first S i (first_future S (members_of (cell S i))))
    ∙ waits_so S i (cell S i) x h
