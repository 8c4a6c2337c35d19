use Rattle.std.proofs.Common.{◌≡◌, ◌∙◌, ◌++◌, List, ap, map, subst, sym}
use Rattle.std.specs.Prelude.{reverse, string_bytes}
use Rattle.asp_model.specs.declared.term.Term.{Term}
use Rattle.asp_model.specs.Shapes.{tree_of}
use Rattle.checkpoint_text.specs.Items.{Items, list_items, running_items, service_items}
use Rattle.checkpoint_text.specs.Writing.{words}
use Rattle.checkpoint_text.proofs.WritingLemmas.{onward}
use Rattle.code_reading.specs.Shown.{IsShown, service_shown}
use Rattle.frozen_runs.specs.Pieces.{suspended_items}
use Rattle.frozen_runs.proofs.ServiceLemmas.{services_laid}
use Rattle.frozen_runs.proofs.activities.put_machine.Goals as goal

pub returns : goal.returns
returns c =
    let old = string_bytes c.args.text.now in
    let r = c.in_ok-shown.shown in
    let told = map service_shown r.services.items in
    record {
      adds = λ t vs standing.
          let s = c.in_ok-shown.ensures.shown t vs standing in
          let services : string_bytes c.put_services.new.text ≡ old ++ words (list_items service_items (reverse vs)) =
          c.in_ok-put_services.ensures.adds
          ∙ ap (λ (us : Items). old ++ words us) (ap (list_items suspended_items) c.deref.ensures.value ∙ services_laid r.services.items (reverse vs) s.suspended) in
          let term : string_bytes c.put_running.new.text ≡ string_bytes c.put_services.new.text ++ words (running_items t) =
          c.in_ok-put_running.ensures.adds t vs told (subst (λ (ts : List Term). IsShown t vs (map tree_of ts) told) (sym c.deref-2.ensures.value) s) in
          onward old (list_items service_items (reverse vs)) (running_items t) services term;
    }
