use Rattle.std.proofs.Common.{◌≡◌, ◌∙◌, List, None, sym, ap, subst}
use Rattle.std.specs.FinMap.{find, put}
use Rattle.asp_model.specs.declared.name.FutureName.{FutureName}
use Rattle.asp_model.specs.Shapes.{future_shape}
use Rattle.code_table.specs.declared.cells.Parcel.{Parcel}
use Rattle.future_table.specs.Values.{StayOfCode, by_name, values_of}
use Rattle.future_table.specs.Walks.{filled_in}
use Rattle.future_table.proofs.TableLemmas.{none_found, put_shape, stays_of_code}
use Rattle.future_table.proofs.walks.fill.Goals as goal

-- the entries are those from before, where none are written between
kept_unfilled : (f : FutureName) (old new : List (FutureName × Parcel)) → new ≡ old → find by_name f old ≡ None → find by_name f new ≡ None
kept_unfilled f old new e none = ap (λ es. find by_name f es) e ∙ none

pub fill_plain-requires-clause-at : goal.fill_plain-requires-clause-at
fill_plain-requires-clause-at c =
    let f = c.args.name in
    let old = filled_in c.args.walks.now in
    (f, (c.in_ok-at.ensures.number, kept_unfilled f old (filled_in c.enter.new.walks) c.enter.ensures.filled (none_found f old c.requires.absent)))

pub fill_going-requires-clause-at : goal.fill_going-requires-clause-at
fill_going-requires-clause-at c =
    let f = c.args.name in
    let old = filled_in c.args.walks.now in
    (f, (c.number.ensures.stay (future_shape f) c.in_ok-at.at c.in_ok-at.ensures.number, kept_unfilled f old (filled_in c.number.new.walks) (c.number.ensures.filled ∙ c.enter.ensures.filled) (none_found f old c.requires.absent)))

pub returns-in-None-clause-values : goal.returns-in-None-clause-values
returns-in-None-clause-values c =
    let f = c.args.name in
    let old = filled_in c.args.walks.now in
    let none = kept_unfilled f old (filled_in c.enter.new.walks) c.enter.ensures.filled (none_found f old c.requires.absent) in
    ap values_of (c.fill_plain.ensures.filled f (c.in_ok-at.ensures.number, none) ∙ ap (put by_name f c.args.value) c.enter.ensures.filled) ∙ put_shape f c.args.value old

pub returns-in-None-clause-code : goal.returns-in-None-clause-code
returns-in-None-clause-code c =
    let f = c.args.name in
    let old = filled_in c.args.walks.now in
    let none = kept_unfilled f old (filled_in c.enter.new.walks) c.enter.ensures.filled (none_found f old c.requires.absent) in
    subst (StayOfCode c.args.value old) (sym (c.fill_plain.ensures.filled f (c.in_ok-at.ensures.number, none) ∙ ap (put by_name f c.args.value) c.enter.ensures.filled)) (stays_of_code f c.args.value old)

pub returns-in_ok-next-in-Some-clause-values : goal.returns-in_ok-next-in-Some-clause-values
returns-in_ok-next-in-Some-clause-values c =
    let f = c.args.name in
    let old = filled_in c.args.walks.now in
    let same = c.number.ensures.filled ∙ c.enter.ensures.filled in
    let none = kept_unfilled f old (filled_in c.number.new.walks) same (none_found f old c.requires.absent) in
    ap values_of (c.fill_going.ensures.filled f (c.number.ensures.stay (future_shape f) c.in_ok-at.at c.in_ok-at.ensures.number, none) ∙ ap (put by_name f c.args.value) same) ∙ put_shape f c.args.value old

pub returns-in_ok-next-in-Some-clause-code : goal.returns-in_ok-next-in-Some-clause-code
returns-in_ok-next-in-Some-clause-code c =
    let f = c.args.name in
    let old = filled_in c.args.walks.now in
    let same = c.number.ensures.filled ∙ c.enter.ensures.filled in
    let none = kept_unfilled f old (filled_in c.number.new.walks) same (none_found f old c.requires.absent) in
    subst (StayOfCode c.args.value old) (sym (c.fill_going.ensures.filled f (c.number.ensures.stay (future_shape f) c.in_ok-at.at c.in_ok-at.ensures.number, none) ∙ ap (put by_name f c.args.value) same)) (stays_of_code f c.args.value old)
