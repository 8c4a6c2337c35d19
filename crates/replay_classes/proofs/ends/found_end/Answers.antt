use Rattle.std.proofs.Common.{◌≡◌, ◌∙◌, false, List, sym, ap, subst}
use Rattle.std.specs.List.{Contains}
use Rattle.std.specs.Prelude.{IfSome}
use Rattle.asp_model.specs.Names.{Name, Text}
use Rattle.asp_model.specs.Replay.{replay}
use Rattle.asp_model.specs.Shapes.{counts_shape, lists_shape, marked_of, services_shape, tree_of}
use Rattle.class_search.specs.Logs.{logs_of}
use Rattle.law_classes.specs.Alike.{AreOneClass}
use Rattle.law_classes.specs.Families.{IsClassEnd}
use Rattle.law_classes.specs.Requests.{request_logs}
use Rattle.law_programs.specs.Programs.{IsSoundProgram}
use Rattle.law_services.specs.Told.{AreServicesOf, entry_at}
use Rattle.replay_classes.specs.Classes.{class_in}
use Rattle.replay_classes.specs.Sendings.{logs_from}
use Rattle.replay_classes.proofs.EndLemmas.{ended_by_classes, shown_logs}
use Rattle.replay_classes.proofs.ends.found_end.Goals as goal

pub returns : goal.returns
returns c =
    let K = class_in c.args.classes.now in
    let root = c.args.program.now.program.root in
    let ls = lists_shape c.args.run.lists in
    let cs = counts_shape c.args.run.counts in
    let s = services_shape c.in-Some.services in
    let sound : IsSoundProgram (marked_of root) = record { readable = c.args.program.now.readable; checked = c.args.program.now.checked } in
    let of : AreServicesOf (tree_of root) ls cs s = subst (λ o. IfSome o (λ t. AreServicesOf (tree_of root) ls cs (services_shape t))) c.in-Some.is c.in_ok-services.ensures.services in
    let polled : (n : Name) → (entry_at s n).polled ≡ false = λ n. c.nobody_polls.ensures.polled n c.if-not-nobody_polls.false in
    let one : (n : Name) (labels : List Text) → Contains (entry_at s n).sets labels → AreOneClass K labels = λ n labels h. c.ask_in_classes.ensures.one n labels c.if-not-ask_in_classes.false h in
    let shown = shown_logs K (marked_of root) sound ls cs c.requires.end s of polled one in
    let same : request_logs K (replay (tree_of root) ls cs) ≡ logs_of c.in_ok-logs.logs.items = λ i q κ.
    (ap (λ l. l q κ) shown ∙ sym (c.in_ok-logs.ensures.logs q κ ∙ ap (λ ss. logs_from ss q κ) c.deref.ensures.value ∙ c.in_ok-sendings.ensures.logs q κ)) i in
    record { end = (c.requires.end, subst (λ l. IsClassEnd K (tree_of root) (replay (tree_of root) ls cs, l)) same (ended_by_classes K (marked_of root) sound ls cs c.requires.end s of polled one)) }
