-- The events of a run, and a run beside another one, from what was found.
use Rattle.std.proofs.Common.{◌≡◌, ◌≤◌, ℕ, Bool, ◌||◌, List, [], ◌∷◌, Result, Ok, Err, IfOk, IfErr, map, refl, ap, subst, inl, inr}
use Rattle.std.specs.List.{list_any}
use Rattle.asp_model.specs.declared.outcome.ActivityReport.{ActivityReport}
use Rattle.asp_model.specs.declared.outcome.Counts.{Counts}
use Rattle.asp_model.specs.Names.{Name, same_name}
use Rattle.asp_model.specs.declared.outcome.Lists.{Lists}
use Rattle.asp_model.specs.Outcome.{OutcomeShape, outcome_of}
use Rattle.asp_model.specs.Replay.{CountsShape, Fits, replay}
use Rattle.asp_model.specs.Shapes.{activity_shape, counts_shape, lists_shape, outcome_shape, tree_of}
use Rattle.asp_model.specs.Step.{ListsShape}
use Rattle.asp_model.specs.Term.{Tree}
use Rattle.asp_edge.specs.Told.{SourceTells}
use Rattle.explain.specs.declared.events.EventsRun.{EventsRun}
use Rattle.explain.specs.declared.events.page.Wish.{Wish}
use Rattle.explain.specs.EventRuns.{AreEventsOf}
use Rattle.explain.specs.declared.differences.order.OrderedRun.{OrderedRun}
use Rattle.explain.specs.OrderKept.{entry_shape}
use Rattle.explain.specs.Orders.{EntryShape}
use Rattle.asp_explain.specs.declared.answer.Answer.{Answer}
use Rattle.asp_explain.specs.declared.loading.Given.{Given}
use Rattle.asp_explain.specs.declared.stop.Stop.{Stop}
use Rattle.asp_explain.specs.declared.stop.Which.TheVariants.{Second}
use Rattle.asp_explain.specs.Tasks.{PageShape}
use Rattle.asp_explain.specs.Refusals.{Refusal, refusal_of}
use Rattle.asp_explain.specs.Seen.{outside_between}
use Rattle.asp_explain.specs.Given.{IsGiven, IsReportIn, StopsAtReport, program_in}
use Rattle.asp_explain.specs.OfEvents.{AreEventsSeen, AreEventsTold, IsAbsent, IsThere, IsWish, StopsAtEvents}
use Rattle.asp_explain.specs.OfPicture.{StopsAtPicture, StopsDrawing}
use Rattle.asp_explain.specs.OfOther.{AreBothGiven, IsCompared, IsOrdered, IsOtherTold, StopsCompared, StopsOther, TellsOfOther}
use Rattle.asp_explain.proofs.GivenLemmas.{asked_then, report_stops}

module _ (program : Tree) (lists : ListsShape) (counts : CountsShape) (page : PageShape) (run : EventsRun) where
  -- the events of a run that has the activity
  pub events_seen : (wish : Wish) → Fits program lists counts → outcome_shape run.outcome ≡ outcome_of (replay program lists counts) → IsWish page wish
      → AreEventsOf program lists counts wish run → IsThere page.activity (map activity_shape run.outcome.activities.items) → AreEventsSeen program lists counts page run
  events_seen wish f same w es h = record {
    fits = f;
    there = subst (λ (o : OutcomeShape). IsThere page.activity o.activities) same h;
    wish = wish;
    is = w;
    events = es;
  }

  -- a run without it
  pub events_stop : (r : Refusal) → Fits program lists counts → outcome_shape run.outcome ≡ outcome_of (replay program lists counts)
      → IsAbsent page.activity (map activity_shape run.outcome.activities.items) r → StopsAtEvents program lists counts page r
  events_stop r f same h = inr (f, subst (λ (o : OutcomeShape). IsAbsent page.activity o.activities r) same h)

-- events of which a picture is drawn
pub drawn_told : (program : Tree) (lists : ListsShape) (counts : CountsShape) (page : PageShape) (run : EventsRun) (r : Result Answer Stop) → AreEventsSeen program lists counts page run
    → IfOk r (λ a. a.status ≡ 0) → IfOk r (λ a. AreEventsTold program lists counts page a.status)
drawn_told program lists counts page run (Ok a) h k = record { run = run; seen = h; status_is = k }
drawn_told program lists counts page run (Err s) h k = tt

-- events of which no picture is drawn
pub not_drawn : (program : Tree) (lists : ListsShape) (counts : CountsShape) (page : PageShape) (run : EventsRun) (r : Result Answer Stop) → AreEventsSeen program lists counts page run
    → IfErr r (λ s. StopsDrawing run (refusal_of s)) → IfErr r (λ s. StopsAtPicture program lists counts page (refusal_of s))
not_drawn program lists counts page run (Ok a) h k = tt
not_drawn program lists counts page run (Err s) h k = inr (record { run = run; seen = h; stops = k })

-- the names of activities, and of what a report tells of them
pub any_shapes : (n : Name) (xs : List ActivityReport) → list_any (λ a. same_name a.name n) xs ≡ list_any (λ a. same_name a.name n) (map activity_shape xs)
any_shapes n [] = refl
any_shapes n (x ∷ xs) = ap (λ b. same_name x.name n || b) (any_shapes n xs)

-- two runs that were compared
pub other_told : (program : Tree) (lists : ListsShape) (counts : CountsShape) (others : ListsShape) (other_counts : CountsShape) (run other : OrderedRun) (status : ℕ)
    → IsOrdered program lists counts run → IsOrdered program others other_counts other → IsCompared (map entry_shape run.order.items) lists counts others other_counts status
    → IsOtherTold program lists counts others other_counts status
other_told program lists counts others other_counts run other status one two h = record {
  fits = one.fits;
  fits_too = two.fits;
  compared = subst (λ (es : List EntryShape). IsCompared es lists counts others other_counts status) one.order h;
}

module _ {S : Type 0} (told : S → SourceTells) (first middle last : S) (file report other : List ℕ) (g : Given) (h : IsGiven (outside_between told first middle) file report g) where
  both_given : (log : Lists × Counts) → IsReportIn (outside_between told middle last) other log
      → AreBothGiven (outside_between told first last) file report other (program_in g.program) (lists_shape g.lists) (counts_shape g.counts) (lists_shape log.0) (counts_shape log.1)
  both_given log k = record {
    bytes = h.given.bytes;
    is = h.given.is;
    shown = h.given.shown;
    reads = h.given.reads;
    shown_too = k.bytes;
    reads_too = k.reads;
    asked = asked_then told first middle last _ _ h.given.asked k.asked;
  }

  -- what is told of two reports
  pub tells_other : (log : Lists × Counts) (r : Result Answer Stop) → IsReportIn (outside_between told middle last) other log
      → IfOk r (λ a. IsOtherTold (tree_of g.program.program.root) (lists_shape g.lists) (counts_shape g.counts) (lists_shape log.0) (counts_shape log.1) a.status)
      → IfOk r (λ a. TellsOfOther (outside_between told first last) file report other a.text.items a.status)
  tells_other log (Ok a) k t = inr (record {
    program = program_in g.program;
    lists = lists_shape g.lists;
    counts = counts_shape g.counts;
    others = lists_shape log.0;
    other_counts = counts_shape log.1;
    given = both_given log k;
    told = t;
  })
  tells_other log (Err s) k t = tt

  -- why nothing is told of them
  pub stops_other : (picture : Bool) (log : Lists × Counts) (r : Result Answer Stop) → IsReportIn (outside_between told middle last) other log
      → IfErr r (λ s. StopsCompared picture (tree_of g.program.program.root) (lists_shape g.lists) (counts_shape g.counts) (lists_shape log.0) (counts_shape log.1) (refusal_of s))
      → IfErr r (λ s. StopsOther (outside_between told first last) file report other picture (refusal_of s))
  stops_other picture log (Ok a) k t = tt
  stops_other picture log (Err s) k t = inr (inr (record {
    program = program_in g.program;
    lists = lists_shape g.lists;
    counts = counts_shape g.counts;
    others = lists_shape log.0;
    other_counts = counts_shape log.1;
    given = both_given log k;
    stops = t;
  }))

  -- why the second report is not read
  pub stops_second : (picture : Bool) (r : Refusal) → (told first).faults ≤ (told middle).faults → StopsAtReport (outside_between told middle last) [] Second other r
      → StopsOther (outside_between told first last) file report other picture r
  stops_second picture r later s = inr (inl (record {
    bytes = h.given.bytes;
    program = program_in g.program;
    is = h.given.is;
    shown = h.given.shown;
    lists = lists_shape g.lists;
    counts = counts_shape g.counts;
    reads = h.given.reads;
    stops = report_stops told first middle last _ Second other r h.given.asked later s;
  }))
