use Rattle.std.proofs.Common.{◌≡◌, ◌∙◌, List, length, map, sym, ap, string_bytes}
use Rattle.asp_model.specs.Term.{Tree}
use Rattle.law_families.specs.Families.{RunLogs}
use Rattle.outcome_search.specs.Ends.{run_logs}
use Rattle.replay_offers.specs.Programs.{tree_in}
use Rattle.outcomes_text.specs.Told.{told}
use Rattle.def_paths.specs.Outcomes.{whole_outcome_of}
use Rattle.outcomes_text.specs.Outcomes.{text_seen}
use Rattle.outcomes_top.specs.Families.{end_of, seen_of, status_with}
use Rattle.outcomes_top.proofs.FamilyLemmas.{all_of, length_mapped}
use Rattle.outcomes_top.proofs.answer.all.Goals as goal

pub returns : goal.returns
returns c = record {
  all = λ depth s.
      let t : Tree = tree_in c.args.family.now.runs in
      let ends : List RunLogs = map run_logs c.args.family.now.ends.items in
      let count : c.count-ends.result ≡ length (seen_of depth t ends) =
      c.count-ends.ensures ∙ ap length c.deref.ensures.value ∙ sym (length_mapped run_logs c.args.family.now.ends.items) ∙ sym (length_mapped (λ x. text_seen depth (whole_outcome_of (end_of t x))) ends) in
      all_of depth t c.args.family.now.whole ends c.of_text.result (string_bytes c.in_ok-text.text) c.status_for-status.result c.of_text.ensures.text c.of_text.ensures.status
      (c.in_ok-text.ensures.text ∙ (λ i. told c.args.family.now.whole (count i) (s.longest i) (s.tally i)))
      (c.status_for-status.ensures ∙ ap (status_with c.args.family.now.whole) s.worst);
}
