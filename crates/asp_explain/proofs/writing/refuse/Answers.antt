use Rattle.std.proofs.Common.{◌⊎◌, ℕ, List, sym, ap, subst, inl}
use Rattle.std.specs.Prelude.{string_bytes}
use Rattle.asp_explain.specs.declared.stop.Stop.{Stop}
use Rattle.asp_explain.specs.Refusals.{Diverges, LongReport, NoActivity, NoCount, NoMemory, NoReport, Unread, bad_line, diverging_line, long_line, message_of, refusal_of}
use Rattle.explain_writing.specs.Writing.{Sight, sight_between}
use Rattle.asp_explain.specs.Written.{IsToldOf}
use Rattle.asp_explain.proofs.TellLemmas.{if_named, made_told}
use Rattle.asp_explain.proofs.writing.refuse.Goals as goal

abbrev IsTold : Sight → ℕ → Stop → Type 0
IsTold s result stop = IsToldOf (refusal_of stop) s result ⊎ IsToldOf NoMemory s result

pub returns-in-Usage : goal.returns-in-Usage
returns-in-Usage g c =
    let s = sight_between g.E.Sink.told c.args.err.now c.tell.new.err in
    subst (IsTold s c.tell.result) (sym c.in-Usage.is) (inl c.tell.ensures.told)

pub returns-in-Unread : goal.returns-in-Unread
returns-in-Unread g c =
    let s = sight_between g.E.Sink.told c.args.err.now c.tell_made.new.err in
    subst (IsTold s c.tell_made.result) (sym c.in-Unread.is)
    (made_told string_bytes (Unread c.in-Unread.name.now) c.unread_message.result s c.tell_made.result c.unread_message.ensures c.tell_made.ensures.made c.tell_made.ensures.no_memory)

pub returns-in-TooLong : goal.returns-in-TooLong
returns-in-TooLong g c =
    let s = sight_between g.E.Sink.told c.args.err.now c.tell-in-TooLong.new.err in
    subst (IsTold s c.tell-in-TooLong.result) (sym c.in-TooLong.is) (inl c.tell-in-TooLong.ensures.told)

pub returns-in-LongReport : goal.returns-in-LongReport
returns-in-LongReport g c =
    let s = sight_between g.E.Sink.told c.args.err.now c.tell_made-in-LongReport.new.err in
    let which = c.in-LongReport.which in
    let made = if_named string_bytes c.long_message-message.result (long_line c.report_text.result.now) (message_of (LongReport which)) (ap (λ (k : List ℕ). long_line k) c.report_text.ensures) c.long_message-message.ensures in
    subst (IsTold s c.tell_made-in-LongReport.result) (sym c.in-LongReport.is)
    (made_told string_bytes (LongReport which) c.long_message-message.result s c.tell_made-in-LongReport.result made c.tell_made-in-LongReport.ensures.made c.tell_made-in-LongReport.ensures.no_memory)

pub returns-in-BadLine : goal.returns-in-BadLine
returns-in-BadLine g c =
    let s = sight_between g.E.Sink.told c.args.err.now c.tell_made-in-BadLine.new.err in
    let which = c.in-BadLine.which in
    let line = c.in-BadLine.line in
    let report = c.report_text-in-BadLine in
    let made = if_named string_bytes c.bad_line_message-message.result (bad_line report.result.now line) (message_of (NoReport which line)) (ap (λ (k : List ℕ). bad_line k line) report.ensures) c.bad_line_message-message.ensures in
    subst (IsTold s c.tell_made-in-BadLine.result) (sym c.in-BadLine.is)
    (made_told string_bytes (NoReport which line) c.bad_line_message-message.result s c.tell_made-in-BadLine.result made c.tell_made-in-BadLine.ensures.made c.tell_made-in-BadLine.ensures.no_memory)

pub returns-in-Diverged : goal.returns-in-Diverged
returns-in-Diverged g c =
    let s = sight_between g.E.Sink.told c.args.err.now c.tell_made-in-Diverged.new.err in
    let which = c.in-Diverged.which in
    let activity = c.in-Diverged.activity in
    let report = c.report_text-in-Diverged in
    let made = if_named string_bytes c.diverges_message-message.result (diverging_line report.result.now activity) (message_of (Diverges which activity)) (ap (λ (k : List ℕ). diverging_line k activity) report.ensures) c.diverges_message-message.ensures in
    subst (IsTold s c.tell_made-in-Diverged.result) (sym c.in-Diverged.is)
    (made_told string_bytes (Diverges which activity) c.diverges_message-message.result s c.tell_made-in-Diverged.result made c.tell_made-in-Diverged.ensures.made c.tell_made-in-Diverged.ensures.no_memory)

pub returns-in-NoActivity : goal.returns-in-NoActivity
returns-in-NoActivity g c =
    let s = sight_between g.E.Sink.told c.args.err.now c.tell_made-in-NoActivity.new.err in
    subst (IsTold s c.tell_made-in-NoActivity.result) (sym c.in-NoActivity.is)
    (made_told string_bytes (NoActivity c.in-NoActivity.name.now) c.no_activity_message.result s c.tell_made-in-NoActivity.result c.no_activity_message.ensures c.tell_made-in-NoActivity.ensures.made c.tell_made-in-NoActivity.ensures.no_memory)

pub returns-in-NoCount : goal.returns-in-NoCount
returns-in-NoCount g c =
    let s = sight_between g.E.Sink.told c.args.err.now c.tell_made-in-NoCount.new.err in
    subst (IsTold s c.tell_made-in-NoCount.result) (sym c.in-NoCount.is)
    (made_told string_bytes (NoCount c.in-NoCount.activity.now c.in-NoCount.count) c.count_message.result s c.tell_made-in-NoCount.result c.count_message.ensures c.tell_made-in-NoCount.ensures.made c.tell_made-in-NoCount.ensures.no_memory)

pub returns-in-LargePicture : goal.returns-in-LargePicture
returns-in-LargePicture g c =
    let s = sight_between g.E.Sink.told c.args.err.now c.tell-in-LargePicture.new.err in
    subst (IsTold s c.tell-in-LargePicture.result) (sym c.in-LargePicture.is) (inl c.tell-in-LargePicture.ensures.told)

pub returns-in-Memory : goal.returns-in-Memory
returns-in-Memory g c =
    let s = sight_between g.E.Sink.told c.args.err.now c.tell-in-Memory.new.err in
    subst (IsTold s c.tell-in-Memory.result) (sym c.in-Memory.is) (inl c.tell-in-Memory.ensures.told)
