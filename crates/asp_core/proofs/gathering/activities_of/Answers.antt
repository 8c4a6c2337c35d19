use Rattle.std.proofs.Common.{◌≡◌, ◌∙◌, List, length, ap}
use Rattle.std.proofs.IntoIterSteps.{All-taken}
use Rattle.std.proofs.lemmas.Result.{IfOk-weaker}
use Rattle.std.specs.BTreeMap.{get}
use Rattle.std.specs.Global.{Box}
use Rattle.asp_model.specs.Names.{Name, name_cmp}
use Rattle.core_seats.specs.Seats.{names_in, seats_in}
use Rattle.step_activity.specs.declared.actor.Actor.{Actor}
use Rattle.asp_core.specs.Gathering.{held_in}
use Rattle.asp_core.proofs.EndOfRunLemmas.{same_before}
use Rattle.asp_core.proofs.gathering.activities_of.Goals as goal

pub returns : goal.returns
returns c =
    let xs : List (Name × Box Actor) = c.in_ok-gathered.field-0.items in
    let ns = names_in c.args.seats.now in
    let seats = seats_in c.args.seats.now in
    record {
      all = IfOk-weaker c.from_iter.result _ _ (λ m h.
          let all : h.1 ≡ xs = All-taken h.0 h.1 ((h.3.2 tt).0, (h.3.0, h.3.1, (h.3.2 tt).1)) ∙ h.2.0 in
          same_before ns seats (length seats) (get name_cmp m) (held_in xs) (λ n. h.4.0 n ∙ ap (λ ys. held_in ys n) all) c.in_ok-gathered.ensures.all) c.from_iter.ensures.ran;
    }
