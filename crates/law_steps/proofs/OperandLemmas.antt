-- Redexes of which no strict operand is a future.
use Rattle.std.proofs.Common.{◌≡◌, ◌++◌, ◌∷◌, [], ℕ, Bool, true, false, List, Option, Some, None, refl, sym, ap, ◌∙◌}
use Rattle.std.proofs.lemmas.List.{append-nil}
use Rattle.asp_model.specs.Names.{FutureShape}
use Rattle.asp_model.specs.Term.{Tree}
use Rattle.asp_model.specs.Split.{Redex}
use Rattle.asp_model.specs.Store as stores
use Rattle.asp_model.specs.Store.{Store, CellShape, cell}
use Rattle.asp_model.specs.Contraction.{Contraction, LineShape, Becomes, Needs, first_future, is_future, row, strict_members, strict_operands}
use Rattle.asp_model.specs.Chase.{Chase}
use Rattle.asp_model.specs.Intent.{Reads, Lacks, operand_ready, operands_ready, redex_ready}
use Rattle.law_chases.proofs.FutureLemmas.{no_some, none_true}

abbrev or_later : Bool → ℕ → Option ℕ → Option ℕ
or_later b n o = elim b [ true ↦ Some n | false ↦ o ]

first_is_none : (b : Bool) (n : ℕ) (o : Option ℕ) → or_later b n o ≡ None → (b ≡ false) × (o ≡ None)
first_is_none true n o h = no_some (sym h)
first_is_none false n o h = (refl, h)

abbrev row_unless : Store → Redex → Option ℕ → Contraction
row_unless s r o = elim o [ Some n ↦ Needs n | None ↦ row s r.head r.places r.behind ]

-- a contraction is there where no strict operand is a future
pub no_future : (s : Store) (r : Redex) (o : Option ℕ) (t : Tree) (u : Store) (ls : List LineShape) → row_unless s r o ≡ Becomes t u ls → o ≡ None
no_future s r None t u ls h = refl
no_future s r (Some n) t u ls h = cc

module _ (chases : FutureShape → Chase) (s : Store) where
  reads_it : (n : ℕ) (c : CellShape) → is_future c ≡ false → operand_ready chases s n c ≡ Reads s
  reads_it n (stores.Future f) h = none_true (sym h)
  reads_it n c h = refl

  reads_all : (ns ms : List ℕ) → first_future s (ns ++ ms) ≡ None → (operands_ready chases s ns ≡ Reads s) × (first_future s ms ≡ None)
  reads_all [] ms h = (refl, h)
  reads_all (n ∷ ns) ms h =
      let first = first_is_none (is_future (cell s n)) n (first_future s (ns ++ ms)) h in
      let rest = reads_all ns ms first.1 in (
        ap (λ r. elim r [ Reads t ↦ operands_ready chases t ns | Lacks f ↦ Lacks f ]) (reads_it n (cell s n) first.0) ∙ rest.0,
        rest.1,
      )

  -- where no strict operand is a future, the redex is read as it stands
  pub redex_reads : (r : Redex) → first_future s (strict_operands r.head r.places ++ strict_members s r.head r.places) ≡ None → redex_ready chases s r ≡ Reads s
  redex_reads r h =
      let ms = strict_members s r.head r.places in
      let operands = reads_all (strict_operands r.head r.places) ms h in
      ap (λ q. elim q [ Reads t ↦ operands_ready chases t (strict_members t r.head r.places) | Lacks f ↦ Lacks f ]) operands.0
      ∙ (reads_all ms [] (ap (first_future s) (append-nil ms) ∙ operands.1)).0
