use Rattle.std.proofs.Common.{rules}
use Rattle.std.specs.declared.cmp.Ordering.{Ordering}
use Rattle.asp_model.specs.declared.outcome.ActivityReport.{ActivityReport}
use Rattle.asp_model.specs.Names.{name_cmp}
use Rattle.std.proofs.lemmas.Fn.{always_returns_same}
use Rattle.path_equal.proofs.ViewLemmas.{found_at, nowhere}
use Rattle.run_waits.proofs.waits.number_of.Goals as goal

pub returns-in-Ok : goal.returns-in-Ok
returns-in-Ok c =
    let q = c.args.name.now in
    let ord : ActivityReport → Ordering = λ r. name_cmp r.name q in
    record {
      found = found_at c.args.activities.now q c.in-Ok.number c.in-Ok.ensures.bound (c.in-Ok.ensures.position ord (always_returns_same _ _ _ (λ a r f k. (search rules, search rules))));
      none = λ h. tt;
    }

pub returns-in-Err : goal.returns-in-Err
returns-in-Err c =
    let q = c.args.name.now in
    let ord : ActivityReport → Ordering = λ r. name_cmp r.name q in
    record {
      found = tt;
      none = λ h. nowhere c.args.activities.now q c.in-Err.field-0 h (c.in-Err.ensures.position ord (always_returns_same _ _ _ (λ a r f k. (search rules, search rules))));
    }
