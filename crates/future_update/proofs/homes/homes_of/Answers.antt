use Rattle.std.proofs.Common.{◌≡◌, ◌∙◌, List, map, sym, subst}
use Rattle.std.proofs.lemmas.Result.{IfOk-weaker}
use Rattle.asp_model.specs.declared.name.FutureName.{FutureName}
use Rattle.asp_model.specs.Names.{Name}
use Rattle.future_update.specs.Holders.{AreHomes, home_shape}
use Rattle.future_update.specs.Records.{shape_of}
use Rattle.future_update.proofs.HomeLemmas.{drained}
use Rattle.future_update.proofs.homes.homes_of.Goals as goal

pub returns : goal.returns
returns c =
    let homes = (shape_of c.args.records.now).homes in
    record {
      homes = IfOk-weaker c.from_iter.result _ _ (λ v h.
          let last = h.3.2 tt in
          let all : v.items ≡ c.in_ok-homes_by_future.field-0.entries = h.4.0 ∙ drained h.0 h.1 h.3.0 h.3.1 last.0 last.1 ∙ h.2.0 in
          subst (λ (es : List (FutureName × Name)). AreHomes homes (map home_shape es)) (sym all) c.in_ok-homes_by_future.ensures.homes) c.from_iter.ensures.ran;
    }
