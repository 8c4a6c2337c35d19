-- The need of a cell by its code, and what operands give by needs.
use Rattle.std.specs.Prelude.{◌≡◌, ℕ, List, Option, Some, None}
use Rattle.std.proofs.Common.{refl, sym, ap, ◌∙◌}
use Rattle.std.specs.FinMap.{find}
use Rattle.asp_model.specs.Names.{FutureShape, future_cmp}
use Rattle.asp_model.specs.Store.{CellShape, Number, Object, Reference, Future, Group, Store, cell}
use Rattle.asp_model.specs.Parcel.{ParcelShape, unpack_at}
use Rattle.asp_model.specs.Chase.{Values, Chase, Value, Unfilled, Cycle, chase}
use Rattle.asp_model.specs.Intent.{Reads, Lacks, fetched, operand_ready}
use Rattle.asp_model.specs.Intent as intent
use Rattle.code_table.specs.declared.code.Node.{Node}
use Rattle.code_table.specs.Cells.{CodedCell, CodedStore, cell_at}
use Rattle.code_table.specs.Shapes.{cell_of, store_of}
use Rattle.code_table.proofs.CodedLemmas.{cell-store_of}
use Rattle.law_chases.proofs.FutureLemmas.{no_some, some_is}
use Rattle.law_chases.proofs.ChaseLemmas.{chase_finds}
use Rattle.wait_need.specs.Needs.{NeedShape, Ready, Fill, Awaits, need_by, need_of}
use Rattle.wait_need.specs.Operands.{GivesByNeed, NeedsAreOfOperands}

-- a cell that is read stands for the one at its place
pub cell_there : (k : List Node) (s : CodedStore) (p : ℕ) (c : CodedCell) → c ≡ cell_at s p → cell_of k c ≡ cell (store_of k s) p
cell_there k s p c e = ap (cell_of k) e ∙ sym (cell-store_of k s p)

-- what is at a place needs what the coded cell there stands for
pub cell_needs : (chases : FutureShape → Chase) (k : List Node) (s : CodedStore) (p : ℕ) (c : CodedCell) → c ≡ cell_at s p → need_of chases (cell_of k c) ≡ need_of chases (cell (store_of k s) p)
cell_needs chases k s p c e = ap (need_of chases) (cell_there k s p c e)

abbrev filled_in : NeedShape → Option FutureShape
filled_in (Fill f) = Some f
filled_in x = None

abbrev awaited_in : NeedShape → Option FutureShape
awaited_in (Awaits f) = Some f
awaited_in x = None

abbrev lacked_in : intent.Ready → Option FutureShape
lacked_in (Lacks f) = Some f
lacked_in (Reads s) = None

module _ (values : Values) (s : Store) (n : ℕ) (c : CellShape) where
  -- it needs nothing
  where_ready : need_of (chase values) c ≡ Ready → operand_ready (chase values) s n c ≡ Reads s → GivesByNeed values s n c
  where_ready needs gives = record {
    ready = λ e. gives;
    fill = λ f e. no_some (ap filled_in (sym needs ∙ e));
    awaits = λ f. (λ e. no_some (ap awaited_in (sym needs ∙ e)), λ e. no_some (ap lacked_in (sym gives ∙ e)));
  }

  -- it awaits a future
  where_awaited : (g : FutureShape) → need_of (chase values) c ≡ Awaits g → operand_ready (chase values) s n c ≡ Lacks g → GivesByNeed values s n c
  where_awaited g needs gives = record {
    ready = λ e. no_some (ap awaited_in (sym e ∙ needs));
    fill = λ f e. no_some (ap filled_in (sym needs ∙ e));
    awaits = λ f. (λ e. gives ∙ ap Lacks (some_is (ap awaited_in (sym needs ∙ e))), λ e. needs ∙ ap Awaits (some_is (ap lacked_in (sym gives ∙ e))));
  }

  -- it is filled by a future's own value
  where_filled : (g : FutureShape) (p : ParcelShape) → find future_cmp g values ≡ Some p → need_of (chase values) c ≡ Fill g
      → operand_ready (chase values) s n c ≡ Reads (unpack_at s n p) → GivesByNeed values s n c
  where_filled g p found needs gives = record {
    ready = λ e. no_some (ap filled_in (sym e ∙ needs));
    fill = λ f e. (p, ap (λ (h : FutureShape). find future_cmp h values) (sym (some_is (ap filled_in (sym needs ∙ e)))) ∙ found, gives);
    awaits = λ f. (λ e. no_some (ap awaited_in (sym needs ∙ e)), λ e. no_some (ap lacked_in (sym gives ∙ e)));
  }

at_chase : (values : Values) (s : Store) (n : ℕ) (f : FutureShape) (c : Chase) → chase values f ≡ c → GivesByNeed values s n (Future f)
at_chase values s n f (Value g p) e =
    where_filled values s n (Future f) g p (chase_finds values f g p e).0 (ap need_by e) (ap (fetched s n) e)
at_chase values s n f (Unfilled g) e = where_awaited values s n (Future f) g (ap need_by e) (ap (fetched s n) e)
at_chase values s n f (Cycle g) e = where_awaited values s n (Future f) g (ap need_by e) (ap (fetched s n) e)

pub needs_are_of_operands : NeedsAreOfOperands
needs_are_of_operands values s n (Future f) = at_chase values s n f (chase values f) refl
needs_are_of_operands values s n (Number z) = where_ready values s n (Number z) refl refl
needs_are_of_operands values s n (Object fields methods) = where_ready values s n (Object fields methods) refl refl
needs_are_of_operands values s n (Reference a) = where_ready values s n (Reference a) refl refl
needs_are_of_operands values s n (Group ns) = where_ready values s n (Group ns) refl refl
