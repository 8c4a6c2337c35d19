-- What a strict operand gives, by the need of its cell.
use Rattle.std.specs.Prelude.{◌≡◌, ◌↔◌, ℕ, Some}
use Rattle.std.specs.FinMap.{find}
use Rattle.asp_model.specs.Names.{FutureShape, future_cmp}
use Rattle.asp_model.specs.Store.{CellShape, Store}
use Rattle.asp_model.specs.Parcel.{ParcelShape, unpack_at}
use Rattle.asp_model.specs.Chase.{Values, chase}
use Rattle.asp_model.specs.Intent.{Reads, Lacks, operand_ready}
use Rattle.wait_need.specs.Needs.{Ready, Fill, Awaits, need_of}

-- the operand is read, with the value of the future that is told unpacked at its place, or lacks that of the awaited one
pub record GivesByNeed (values : Values) (s : Store) (n : ℕ) (c : CellShape) : Type 0 where
  pub ready : need_of (chase values) c ≡ Ready → operand_ready (chase values) s n c ≡ Reads s
  pub fill : (f : FutureShape) → need_of (chase values) c ≡ Fill f
      → (p : ParcelShape) × (find future_cmp f values ≡ Some p) × (operand_ready (chase values) s n c ≡ Reads (unpack_at s n p))
  pub awaits : (f : FutureShape)
      → (need_of (chase values) c ≡ Awaits f) ↔ (operand_ready (chase values) s n c ≡ Lacks f)

abbrev pub NeedsAreOfOperands : Type 0
NeedsAreOfOperands = (values : Values) (s : Store) (n : ℕ) (c : CellShape) → GivesByNeed values s n c
