-- What the end of a replay tells.
use Rattle.std.proofs.Common.{◌≡◌, ◌<◌, ℕ, List, [], ◌++◌, Option, Some, length, sym, ap, ◌∙◌, arith}
use Rattle.std.specs.List.{slice_get}
use Rattle.std.proofs.lemmas.List.{length-map}
use Rattle.std.proofs.lemmas.Option.{slice_get_within}
use Rattle.asp_model.specs.declared.name.FutureName.{FutureName}
use Rattle.asp_model.specs.declared.outcome.ActivityReport.{ActivityReport}
use Rattle.asp_model.specs.Names.{Name}
use Rattle.asp_model.specs.Term.{Tree}
use Rattle.asp_model.specs.Configuration.{Configuration}
use Rattle.asp_model.specs.Step.{ListsShape}
use Rattle.asp_model.specs.Replay.{CountsShape, replay}
use Rattle.asp_model.specs.Status.{IsStuck}
use Rattle.code_table.specs.declared.cells.Parcel.{Parcel}
use Rattle.future_table.specs.Values.{values_of}
use Rattle.law_steps.specs.Sound.{IsSound}
use Rattle.replay_parts.specs.Listening.{AreToldPlaces}
use Rattle.replay_parts.specs.Notes.{places_in, replay_notes}
use Rattle.wait_circles.specs.declared.ways.End.{End}
use Rattle.wait_circles.specs.declared.ways.Circle.{Circle}
use Rattle.wait_circles.specs.declared.whys.Why.{Why}
use Rattle.wait_circles.specs.Ways.{AreCircles, IsEnd}
use Rattle.wait_circles.specs.Whys.{AreOf, AreOnce, AreWaits, IsToldWhy, names_of}
use Rattle.run_waits.specs.Explains.{IsEndTold, IsExplained}
use Rattle.run_waits.specs.Targets.{Keeps, place_in}
use Rattle.run_waits.specs.declared.explained.Explained.{Explained}
use Rattle.run_waits.specs.declared.receipts.Receipts.{Receipts}
use Rattle.run_waits.proofs.TargetLemmas.{replay_told}

pub end_told : (program : Tree) (lists : ListsShape) (counts : CountsShape) (rs : List ActivityReport) (futures : List (FutureName × Parcel)) (r : Receipts) → let c : Configuration = replay program lists counts in
    AreOf c rs → values_of futures ≡ c.futures → AreToldPlaces (Keeps r) ([] ++ replay_notes program lists counts) c → IsEndTold c rs futures r
end_told program lists counts rs futures r of fs told =
    let c : Configuration = replay program lists counts in
    let t = replay_told program lists counts told.0 in
    record {
      sound = t.0;
      activities = of;
      futures_are = fs;
      targets = λ f m k q at e. told.2 f ∙ ap (place_in (replay_notes program lists counts ++ places_in c told.0)) (sym e) ∙ t.1 m k q at;
    }

-- the end of an activity's way is told
pub end_is : (c : Configuration) (x : Explained) (k : ℕ) (n : Name) → IsExplained c x → slice_get (names_of x.end.outcome.activities.items) k ≡ Some n → (e : End) × (slice_get x.ways.ends.items k ≡ Some e) × IsEnd x.next.items x.ways.circles.items k e
end_is c x k n h at =
    let names = names_of x.end.outcome.activities.items in
    let size : length x.next.items ≡ length names = h.size ∙ sym (length-map x.end.outcome.activities.items (λ a. a.name)) in
    let within : k < length names = slice_get_within names k n at in
    h.ends k (omega (arith, within, size))

-- the clause of `why_of`
abbrev pub IsWhyFor : List ActivityReport → End → Option Why → Type 0
IsWhyFor rs end o = (c : Configuration) (ns : List (Option ℕ)) (zs : List Circle) (i : ℕ) (n : Name) → IsSound c → IsStuck c → AreOf c rs → AreOnce (names_of rs) → AreWaits c ns (names_of rs) → AreCircles ns zs
    → slice_get (names_of rs) i ≡ Some n → IsEnd ns zs i end → IsToldWhy c (names_of rs) zs n o
