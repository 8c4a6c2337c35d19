use Rattle.std.proofs.Common.{ℕ, List, sym, ap, subst, inl}
use Rattle.std.specs.Prelude.{string_bytes}
use Rattle.asp_top.specs.declared.stop.Stop.{Stop}
use Rattle.asp_top.specs.Seen.{sight_between}
use Rattle.asp_top.specs.Refusals.{Unread, NoProgram, Unchecked, LongReport, NoReport, Diverges, NoTrace, Unlawful, bad_line, diverging_line, fault_line, long_line, message_of}
use Rattle.asp_top.specs.Stops.{refusal_of}
use Rattle.asp_top.specs.Ready.{ToldOf}
use Rattle.asp_top.proofs.StopLemmas.{if_named, made_told}
use Rattle.asp_top.proofs.writing.refuse.Goals as goal

pub returns-in-Usage : goal.returns-in-Usage
returns-in-Usage g c =
    let s = sight_between g.E.Sink.told c.args.err.now c.tell.new.err in
    subst (λ (stop : Stop). ToldOf (refusal_of stop) s c.tell.result) (sym c.in-Usage.is) (inl c.tell.ensures)

pub returns-in-Unread : goal.returns-in-Unread
returns-in-Unread g c =
    let s = sight_between g.E.Sink.told c.args.err.now c.tell_made.new.err in
    subst (λ (stop : Stop). ToldOf (refusal_of stop) s c.tell_made.result) (sym c.in-Unread.is)
    (made_told string_bytes (Unread c.in-Unread.name.now) c.unread_message.result s c.tell_made.result c.unread_message.ensures c.tell_made.ensures.made c.tell_made.ensures.no_memory)

pub returns-in-LongProgram : goal.returns-in-LongProgram
returns-in-LongProgram g c =
    let s = sight_between g.E.Sink.told c.args.err.now c.tell-in-LongProgram.new.err in
    subst (λ (stop : Stop). ToldOf (refusal_of stop) s c.tell-in-LongProgram.result) (sym c.in-LongProgram.is) (inl c.tell-in-LongProgram.ensures)

pub returns-in-Syntax : goal.returns-in-Syntax
returns-in-Syntax g c =
    let s = sight_between g.E.Sink.told c.args.err.now c.tell_made-in-Syntax.new.err in
    let f = c.in-Syntax.fault in
    let made = if_named string_bytes c.fault_message-message.result (fault_line c.kind_text.result.now f.at) (message_of (NoProgram f)) (ap (λ (k : List ℕ). fault_line k f.at) c.kind_text.ensures) c.fault_message-message.ensures in
    subst (λ (stop : Stop). ToldOf (refusal_of stop) s c.tell_made-in-Syntax.result) (sym c.in-Syntax.is)
    (made_told string_bytes (NoProgram f) c.fault_message-message.result s c.tell_made-in-Syntax.result made c.tell_made-in-Syntax.ensures.made c.tell_made-in-Syntax.ensures.no_memory)

pub returns-in-Check : goal.returns-in-Check
returns-in-Check g c =
    let s = sight_between g.E.Sink.told c.args.err.now c.tell_made-in-Check.new.err in
    let f = c.in-Check.fault in
    let made = if_named string_bytes c.fault_message-message-in-Check.result (fault_line c.check_text.result.now f.at) (message_of (Unchecked f)) (ap (λ (k : List ℕ). fault_line k f.at) c.check_text.ensures) c.fault_message-message-in-Check.ensures in
    subst (λ (stop : Stop). ToldOf (refusal_of stop) s c.tell_made-in-Check.result) (sym c.in-Check.is)
    (made_told string_bytes (Unchecked f) c.fault_message-message-in-Check.result s c.tell_made-in-Check.result made c.tell_made-in-Check.ensures.made c.tell_made-in-Check.ensures.no_memory)

pub returns-in-LongReport : goal.returns-in-LongReport
returns-in-LongReport g c =
    let s = sight_between g.E.Sink.told c.args.err.now c.tell_made-in-LongReport.new.err in
    let which = c.in-LongReport.which in
    let made = if_named string_bytes c.long_message-message.result (long_line c.option_text.result.now) (message_of (LongReport which)) (ap (λ (k : List ℕ). long_line k) c.option_text.ensures) c.long_message-message.ensures in
    subst (λ (stop : Stop). ToldOf (refusal_of stop) s c.tell_made-in-LongReport.result) (sym c.in-LongReport.is)
    (made_told string_bytes (LongReport which) c.long_message-message.result s c.tell_made-in-LongReport.result made c.tell_made-in-LongReport.ensures.made c.tell_made-in-LongReport.ensures.no_memory)

pub returns-in-BadLine : goal.returns-in-BadLine
returns-in-BadLine g c =
    let s = sight_between g.E.Sink.told c.args.err.now c.tell_made-in-BadLine.new.err in
    let which = c.in-BadLine.which in
    let line = c.in-BadLine.line in
    let option = c.option_text-in-BadLine in
    let made = if_named string_bytes c.bad_line_message-message.result (bad_line option.result.now line) (message_of (NoReport which line)) (ap (λ (k : List ℕ). bad_line k line) option.ensures) c.bad_line_message-message.ensures in
    subst (λ (stop : Stop). ToldOf (refusal_of stop) s c.tell_made-in-BadLine.result) (sym c.in-BadLine.is)
    (made_told string_bytes (NoReport which line) c.bad_line_message-message.result s c.tell_made-in-BadLine.result made c.tell_made-in-BadLine.ensures.made c.tell_made-in-BadLine.ensures.no_memory)

pub returns-in-Diverged : goal.returns-in-Diverged
returns-in-Diverged g c =
    let s = sight_between g.E.Sink.told c.args.err.now c.tell_made-in-Diverged.new.err in
    let which = c.in-Diverged.which in
    let activity = c.in-Diverged.activity in
    let option = c.option_text-in-Diverged in
    let made = if_named string_bytes c.diverges_message-message.result (diverging_line option.result.now activity) (message_of (Diverges which activity)) (ap (λ (k : List ℕ). diverging_line k activity) option.ensures) c.diverges_message-message.ensures in
    subst (λ (stop : Stop). ToldOf (refusal_of stop) s c.tell_made-in-Diverged.result) (sym c.in-Diverged.is)
    (made_told string_bytes (Diverges which activity) c.diverges_message-message.result s c.tell_made-in-Diverged.result made c.tell_made-in-Diverged.ensures.made c.tell_made-in-Diverged.ensures.no_memory)

pub returns-in-LongTrace : goal.returns-in-LongTrace
returns-in-LongTrace g c =
    let s = sight_between g.E.Sink.told c.args.err.now c.tell-in-LongTrace.new.err in
    subst (λ (stop : Stop). ToldOf (refusal_of stop) s c.tell-in-LongTrace.result) (sym c.in-LongTrace.is) (inl c.tell-in-LongTrace.ensures)

pub returns-in-NoTrace : goal.returns-in-NoTrace
returns-in-NoTrace g c =
    let s = sight_between g.E.Sink.told c.args.err.now c.tell_made-in-NoTrace.new.err in
    let line = c.in-NoTrace.line in
    subst (λ (stop : Stop). ToldOf (refusal_of stop) s c.tell_made-in-NoTrace.result) (sym c.in-NoTrace.is)
    (made_told string_bytes (NoTrace line) c.trace_message.result s c.tell_made-in-NoTrace.result c.trace_message.ensures c.tell_made-in-NoTrace.ensures.made c.tell_made-in-NoTrace.ensures.no_memory)

pub returns-in-Unlawful : goal.returns-in-Unlawful
returns-in-Unlawful g c =
    let s = sight_between g.E.Sink.told c.args.err.now c.tell_made-in-Unlawful.new.err in
    let entry = c.in-Unlawful.entry in
    subst (λ (stop : Stop). ToldOf (refusal_of stop) s c.tell_made-in-Unlawful.result) (sym c.in-Unlawful.is)
    (made_told string_bytes (Unlawful entry) c.unlawful_message.result s c.tell_made-in-Unlawful.result c.unlawful_message.ensures c.tell_made-in-Unlawful.ensures.made c.tell_made-in-Unlawful.ensures.no_memory)

pub returns-in-Unfinished : goal.returns-in-Unfinished
returns-in-Unfinished g c =
    let s = sight_between g.E.Sink.told c.args.err.now c.tell-in-Unfinished.new.err in
    subst (λ (stop : Stop). ToldOf (refusal_of stop) s c.tell-in-Unfinished.result) (sym c.in-Unfinished.is) (inl c.tell-in-Unfinished.ensures)

pub returns-in-LongCheckpoint : goal.returns-in-LongCheckpoint
returns-in-LongCheckpoint g c =
    let s = sight_between g.E.Sink.told c.args.err.now c.tell-in-LongCheckpoint.new.err in
    subst (λ (stop : Stop). ToldOf (refusal_of stop) s c.tell-in-LongCheckpoint.result) (sym c.in-LongCheckpoint.is) (inl c.tell-in-LongCheckpoint.ensures)

pub returns-in-OtherCheckpoint : goal.returns-in-OtherCheckpoint
returns-in-OtherCheckpoint g c =
    let s = sight_between g.E.Sink.told c.args.err.now c.tell-in-OtherCheckpoint.new.err in
    subst (λ (stop : Stop). ToldOf (refusal_of stop) s c.tell-in-OtherCheckpoint.result) (sym c.in-OtherCheckpoint.is) (inl c.tell-in-OtherCheckpoint.ensures)

pub returns-in-NoCheckpoint : goal.returns-in-NoCheckpoint
returns-in-NoCheckpoint g c =
    let s = sight_between g.E.Sink.told c.args.err.now c.tell-in-NoCheckpoint.new.err in
    subst (λ (stop : Stop). ToldOf (refusal_of stop) s c.tell-in-NoCheckpoint.result) (sym c.in-NoCheckpoint.is) (inl c.tell-in-NoCheckpoint.ensures)

pub returns-in-Overspent : goal.returns-in-Overspent
returns-in-Overspent g c =
    let s = sight_between g.E.Sink.told c.args.err.now c.tell-in-Overspent.new.err in
    subst (λ (stop : Stop). ToldOf (refusal_of stop) s c.tell-in-Overspent.result) (sym c.in-Overspent.is) (inl c.tell-in-Overspent.ensures)
