use Rattle.std.proofs.Common.{◌≡◌, ◌∙◌, ◌<◌, Some, ap, arith, drop, length, map, slice_get, subst, suc, sym, take}
use Rattle.std.proofs.lemmas.Option.{slice_get-get_or}
use Rattle.asp_model.specs.Names.{Name}
use Rattle.asp_model.specs.Shapes.{future_shape}
use Rattle.asp_model.specs.declared.name.FutureName.{FutureName}
use Rattle.def_journals.specs.Edges.{home_of}
use Rattle.future_table.specs.Values.{values_of}
use Rattle.future_update.specs.Holders.{home_shape}
use Rattle.core_thaws.specs.Telling.{AreTold}
use Rattle.core_thaws.proofs.ToldLemmas.{home_next, rest_then, taken_more, taken_split}
use Rattle.core_thaws.proofs.edges.begin_all.Goals as goal

pub begin-requires : goal.begin-requires
begin-requires g c =
    let hs = c.args.homes.now in
    let i = c.loop-place.place in
    let h : FutureName × Name = c.index-homes-place.result in
    let lt : i < length hs = omega arith in
    let here : slice_get hs i ≡ Some h = slice_get-get_or hs i h lt ∙ ap Some (sym c.index-homes-place.is) in
    let r = c.requires.homes in
    record { new = ap (home_of (future_shape h.0)) c.loop-place.invariant.0.homes ∙ home_next (map home_shape hs) r.0 (map home_shape (take i hs)) (map home_shape (drop (suc i) hs)) (home_shape h) r.1.homes (taken_split hs i h here) }

pub loop-place-preserved : goal.loop-place-preserved
loop-place-preserved g c =
    let hs = c.args.homes.now in
    let i = c.loop-place.place in
    let h : FutureName × Name = c.index-homes-place.result in
    let lt : i < length hs = omega arith in
    let here : slice_get hs i ≡ Some h = slice_get-get_or hs i h lt ∙ ap Some (sym c.index-homes-place.is) in
    let inv = c.loop-place.invariant in (
      subst (λ xs. AreTold xs (values_of c.args.futures.now) c.begin.new.edges.holders.holders) (sym (taken_more hs i h here)) (c.in_ok-begin.ensures.told (map home_shape (take i hs)) inv.0),
      rest_then c.args.edges.now c.loop-place.edges c.begin.new.edges inv.1 c.in_ok-begin.ensures.rest,
    )
