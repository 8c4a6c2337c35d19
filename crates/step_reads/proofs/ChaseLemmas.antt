-- What a chase that is told shows.
use Rattle.std.proofs.Common.{◌≡◌, ◌<◌, false, Some, None, length, sym, ap, ◌∙◌}
use Rattle.std.specs.FinMap.{find}
use Rattle.asp_model.specs.Names.{FutureShape, future_cmp}
use Rattle.asp_model.specs.Store.{cell}
use Rattle.asp_model.specs.Parcel.{ParcelShape}
use Rattle.asp_model.specs.Contraction.{is_future}
use Rattle.asp_model.specs.Chase.{Values, Chase, Value, Unfilled, Cycle, chase}
use Rattle.future_table.specs.Values as table
use Rattle.future_table.specs.Values.{told}
use Rattle.law_chases.proofs.ChaseLemmas.{chase_finds}
use Rattle.law_chases.proofs.FutureLemmas.{no_some, some_is}
use Rattle.deep_copy.proofs.UnpackLemmas.{some_cell}
use Rattle.step_reads.specs.Faces.{face}
use Rattle.step_reads.specs.Sights.{Shows, value_sight}
use Rattle.step_reads.specs.Values.{AreClosedValues}

-- each value that a chase comes to has a root, and it is no future
abbrev pub HaveRoots : (FutureShape → Chase) → Type 0
HaveRoots chases = (f g : FutureShape) (p : ParcelShape) → chases f ≡ Value g p → (0 < length p.cells) × (is_future (cell p.cells 0) ≡ false)

pub roots_of : (values : Values) → AreClosedValues values → HaveRoots (chase values)
roots_of values closed f g p e =
    let v = chase_finds values f g p e in
    (some_cell p (closed g p v.0), v.1)

-- a chase that is told as one with a value
pub told_value : (k : Chase) (g : FutureShape) → told k ≡ table.Value g → (p : ParcelShape) × (k ≡ Value g p)
told_value (Value f p) g e = let same : f ≡ g = cc in (p, ap (λ (h : FutureShape). Value h p) same)
told_value (Unfilled f) g e = absurd cc
told_value (Cycle f) g e = absurd cc

module _ (values : Values) (f g : FutureShape) (e : table.Value g ≡ told (chase values f)) where
  -- the future that is told holds a value
  pub value_held : {A : Type 0} → None ≡ find future_cmp g values → A
  value_held none =
      let v = told_value (chase values f) g (sym e) in
      no_some (none ∙ (chase_finds values f g v.0 v.1).0)

  -- which is the one that the chase comes to
  pub value_is : (q : ParcelShape) → Some q ≡ find future_cmp g values → chase values f ≡ Value g q
  value_is q held =
      let v = told_value (chase values f) g (sym e) in
      v.1 ∙ ap (Value g) (sym (some_is (held ∙ (chase_finds values f g v.0 v.1).0)))

  pub value_shows : (q : ParcelShape) → Some q ≡ find future_cmp g values → Shows (face (cell q.cells 0)) ≡ value_sight (chase values f)
  value_shows q held = sym (ap value_sight (value_is q held))
