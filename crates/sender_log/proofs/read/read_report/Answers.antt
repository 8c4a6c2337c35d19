use Rattle.std.proofs.Common.{◌≡◌, ◌≤◌, true, map}
use Rattle.std.specs.FinMap.{is_sorted}
use Rattle.asp_model.specs.declared.limits.TheConstants.{MOST_REDUCTIONS}
use Rattle.asp_model.specs.declared.outcome.Lists.{Lists}
use Rattle.asp_model.specs.declared.outcome.Counts.{Counts}
use Rattle.asp_model.specs.Names.{name_cmp}
use Rattle.asp_model.specs.Replay.{total}
use Rattle.asp_model.specs.Shapes.{lists_shape, counts_shape}
use Rattle.sender_log.proofs.ReadLemmas.{IsLog}
use Rattle.sender_log.proofs.AnswerLemmas.{if_then, log_read}
use Rattle.sender_log.proofs.read.read_report.Goals as goal

abbrev Log : Lists × Counts → Type 0
Log x = IsLog (lists_shape x.0) (counts_shape x.1)

pub returns : goal.returns
returns c =
    let r = c.read_bytes.result in
    let log = log_read c.args.bytes.now r c.read_bytes.ensures.ok in
    record {
      ok = c.read_bytes.ensures.ok;
      bad_line = c.read_bytes.ensures.bad_line;
      same = if_then Log (λ (x : Lists × Counts). map (λ y. y.0) (lists_shape x.0) ≡ map (λ y. y.0) (counts_shape x.1)) r (λ x h. h.same) log;
      ascending = if_then Log (λ (x : Lists × Counts). is_sorted name_cmp (counts_shape x.1) ≡ true) r (λ x h. h.ascending) log;
      within = if_then Log (λ (x : Lists × Counts). total (counts_shape x.1) ≤ MOST_REDUCTIONS) r (λ x h. h.within) log;
    }
