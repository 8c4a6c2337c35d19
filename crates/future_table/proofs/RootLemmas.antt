-- The root of a value, by its cells.
use Rattle.std.proofs.Common.{◌≡◌, ◌≤◌, ℕ, List, [], ◌∷◌, Option, Some, None, length, refl, sym, ap, ◌∙◌, arith}
use Rattle.asp_model.specs.Names.{FutureShape}
use Rattle.asp_model.specs.Store.{Store, cell}
use Rattle.asp_model.specs.Parcel.{ParcelShape}
use Rattle.asp_model.specs.Chase.{Ends, Goes, lead_by}
use Rattle.code_table.specs.declared.class.Class.{Class}
use Rattle.code_table.specs.declared.code.Node.{Node}
use Rattle.code_table.specs.Classes.{class_at}
use Rattle.code_table.specs.Cells as coded
use Rattle.code_table.specs.Cells.{CodedCell, CodedStore, cell_at}
use Rattle.code_table.specs.Shapes.{cell_of, class_object, store_of}
use Rattle.code_table.proofs.CodedLemmas.{cell-store_of}
use Rattle.future_table.specs.Walks.{IsRoot, future_in}

no_going : (p : ParcelShape) (g : FutureShape) → Ends p ≡ Goes g → ⊥
no_going p g e = cc

no_object : (p : ParcelShape) (k : List Node) (ns : List ℕ) (o : Option Class) (g : FutureShape) → lead_by p (class_object k ns o) ≡ Goes g → ⊥
no_object p k ns None g e = no_going p g e
no_object p k ns (Some x) g e = no_going p g e

module _ (p : ParcelShape) (k : List Node) (s : CodedStore) (is : p.cells ≡ store_of k s) where
  led : (c : CodedCell) → c ≡ cell_at s 0 → lead_by p (cell p.cells 0) ≡ lead_by p (cell_of k c)
  led c e = ap (lead_by p) (ap (λ (q : Store). cell q 0) is ∙ cell-store_of k s 0 ∙ ap (cell_of k) (sym e))

  -- the first cell tells
  pub root_is : (c : CodedCell) → c ≡ cell_at s 0 → IsRoot p (future_in c)
  root_is (coded.Future f) e = led (coded.Future f) e
  root_is (coded.Number n) e = λ g d. no_going p g (sym (led (coded.Number n) e) ∙ d)
  root_is (coded.Object c ns) e = λ g d. no_object p k ns (class_at k c) g (sym (led (coded.Object c ns) e) ∙ d)
  root_is (coded.Reference a) e = λ g d. no_going p g (sym (led (coded.Reference a) e) ∙ d)
  root_is (coded.Group ns) e = λ g d. no_going p g (sym (led (coded.Group ns) e) ∙ d)

-- no cell, no future
pub no_root : (p : ParcelShape) (k : List Node) (s : CodedStore) → p.cells ≡ store_of k s → length s ≤ 0 → IsRoot p None
no_root p k [] is le = root_is p k [] is (cell_at [] 0) refl
no_root p k (c ∷ s) is le = absurd (omega arith)
