use Rattle.std.proofs.Common.{◌∙◌, IsSome, is_some, sym, ap, subst}
use Rattle.std.specs.Option.{option_map}
use Rattle.asp_model.specs.Shapes.{future_shape}
use Rattle.code_table.specs.Shapes.{parcel_shape}
use Rattle.def_journals.specs.Edges.{HoldersShape, home_of}
use Rattle.future_table.specs.Values.{values_of}
use Rattle.future_update.specs.Changes.{once_filled}
use Rattle.core_thaws.proofs.ToldLemmas.{filled_told, home_there, waits_told}
use Rattle.core_thaws.proofs.edges.begin.Goals as goal

pub filled-requires : goal.filled-requires
filled-requires g c =
    let f = future_shape c.args.home.now.0 in
    record { told = subst (λ (h : HoldersShape). IsSome (home_of f h.homes)) (sym c.in_ok-begun.ensures.begun) (home_there c.args.edges.now.holders.holders.homes f c.args.home.now.1 c.requires.new) }

pub returns-in-Some-clause-told : goal.returns-in-Some-clause-told
returns-in-Some-clause-told g c = λ homes told.
    let f = future_shape c.args.home.now.0 in
    let old = c.args.edges.now.holders.holders in
    let value = sym (ap is_some c.value.ensures.value) ∙ ap is_some (ap (option_map (λ p. parcel_shape p.now)) c.in-Some.is) in
    filled_told homes (values_of c.args.futures.now) old told f c.args.home.now.1 (sym (ap (home_of f) told.homes) ∙ c.requires.new) c.filled.new.self.holders.holders
    (c.filled.ensures.filled ∙ ap (once_filled f) c.in_ok-begun.ensures.begun) value

pub returns-in-None-clause-told : goal.returns-in-None-clause-told
returns-in-None-clause-told g c = λ homes told.
    let f = future_shape c.args.home.now.0 in
    let old = c.args.edges.now.holders.holders in
    waits_told homes (values_of c.args.futures.now) old told f c.args.home.now.1 (sym (ap (home_of f) told.homes) ∙ c.requires.new) c.begun.new.self.holders.holders
    c.in_ok-begun.ensures.begun (sym c.value.ensures.value ∙ ap (option_map (λ p. parcel_shape p.now)) c.in-None.is)
