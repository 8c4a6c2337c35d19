-- Redexes that choose a term, or that may ask something of other activities.
use Rattle.std.proofs.Common.{◌≡◌, ℕ, List, [], ◌∷◌, Option, sym, ap, ◌∙◌}
use Rattle.asp_model.specs.Names.{Text}
use Rattle.asp_model.specs.Term.{If, Active, Tree, none, more}
use Rattle.asp_model.specs.Store.{Store}
use Rattle.asp_model.specs.Contraction.{Contraction, active_row, contract, if_row}
use Rattle.code_table.specs.declared.code.Node.{Node}
use Rattle.code_table.specs.Cells.{CodedCell, CodedStore, cell_at}
use Rattle.code_table.specs.Shapes.{cell_of, store_of}
use Rattle.step_rows.specs.declared.asks.Creation.{Creation}
use Rattle.step_rows.specs.declared.asks.Creation.TheVariants as creation
use Rattle.step_rows.specs.declared.seen.Seen.{Seen}
use Rattle.step_rows.specs.Asks.{IsCreation, IsCreationAt}
use Rattle.step_rows.specs.Decisions.{read, value_redex}
use Rattle.step_rows.specs.Sights.{IsSeen, tested}
use Rattle.step_rows.proofs.ReadLemmas.{active_reads, if_reads, one_row, cell_seen, tests}

pub creation_row : (k : List Node) (s : CodedStore) (ops : List ℕ) (service : Option Text) (i : ℕ) (c : CodedCell) (r : Creation) → ops ≡ i ∷ [] → c ≡ cell_at s i → IsCreationAt k (cell_of k c) i service r → IsCreation k s ops service r
creation_row k s ops service i c (creation.Creates p) e g h =
    let row_is : contract (store_of k s) (value_redex (Active service) ops) ≡ read i (active_row i service) (cell_of k c) = one_row k s (Active service) ops i c (active_row i service) e g (active_reads (store_of k s) service i) in
    let there : i ≡ p = sym h.0 in
    (e ∙ ap (λ (n : ℕ). n ∷ []) there, row_is ∙ h.1 ∙ ap (λ (n : ℕ). Rattle.asp_model.specs.Contraction.Communicates (Rattle.asp_model.specs.Contraction.Creates n service)) there)
creation_row k s ops service i c (creation.Other d) e g h = one_row k s (Active service) ops i c (active_row i service) e g (active_reads (store_of k s) service i) ∙ h s

pub test_is : (k : List Node) (s : CodedStore) (ops : List ℕ) (i : ℕ) (c : CodedCell) (x : Seen) (a b : Tree) → ops ≡ i ∷ [] → c ≡ cell_at s i → IsSeen (cell_of k c) x
    → contract (store_of k s) (record { head = If; places = ops; behind = more a (more b none) }) ≡ tested (store_of k s) i a b x
test_is k s ops i c x a b e g h =
    let S : Store = store_of k s in
    ap (λ (ns : List ℕ). contract S (record { head = If; places = ns; behind = more a (more b none) })) e ∙ if_reads S i a b
    ∙ ap (read i (if_row S a b)) (cell_seen k s i c g) ∙ tests S i a b (cell_of k c) x h
