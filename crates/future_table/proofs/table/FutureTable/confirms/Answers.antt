use Rattle.std.proofs.Common.{◌≡◌, ◌∙◌, T, None, Some, refl, sym, subst, ap}
use Rattle.std.specs.FinMap.{find}
use Rattle.std.specs.Option.{option_copied}
use Rattle.code_table.specs.Seen.{seen_by}
use Rattle.future_table.specs.Values.{by_name}
use Rattle.future_table.proofs.ConfirmedLemmas.{confirmed, confirmed_value, unconfirmed}
use Rattle.future_table.proofs.table.FutureTable.confirms.Goals as goal

pub returns-in-Some : goal.returns-in-Some
returns-in-Some c =
    let es = c.args.self.now in
    let f = c.args.future.now.name in
    let q = c.in-Some.value.now in
    let seen = seen_by c.args.sighting.now in
    let found : find by_name f es ≡ Some q =
    ap (find by_name f) (sym c.self.view_is) ∙ sym c.value.ensures.value ∙ ap option_copied c.in-Some.is in
    let same = c.is_value.ensures.same in
    record {
      confirms = confirmed f es q found seen c.is_value.result c.requires.seen same;
      value = λ k of e. confirmed_value f es q found k seen of (same.0 e);
      kept = c.is_value.ensures.kept;
      of = c.is_value.ensures.of;
    }

pub returns-in-None : goal.returns-in-None
returns-in-None c =
    let es = c.args.self.now in
    let f = c.args.future.now.name in
    let none : find by_name f es ≡ None =
    ap (find by_name f) (sym c.self.view_is) ∙ sym c.value.ensures.value ∙ ap option_copied c.in-None.is in
    record {
      confirms = unconfirmed f es (seen_by c.args.sighting.now) none c.requires.seen;
      value = λ k of e. absurd (subst T (sym e) tt);
      kept = refl;
      of = c.requires.of;
    }
