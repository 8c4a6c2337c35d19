-- How a call ends, from what was found and what was told.
use Rattle.std.proofs.Common.{◌≡◌, ◌⊎◌, ℕ, List, Result, Ok, Err, Some, IfOk, IfErr, refl, sym, subst, inl, inr}
use Rattle.asp_explain.specs.declared.answer.Answer.{Answer}
use Rattle.asp_explain.specs.declared.stop.Stop.{Stop}
use Rattle.asp_explain.specs.declared.stop.Stop.TheVariants as stops
use Rattle.asp_explain.specs.Tasks.{TaskShape, task_of}
use Rattle.asp_explain.specs.Shapes.{StopsFor}
use Rattle.asp_explain.specs.Refusals.{NoMemory, Refusal, refusal_of}
use Rattle.explain_writing.specs.Writing.{IsUntouched}
use Rattle.asp_explain.specs.Seen.{Call, IsUnasked, Outside}
use Rattle.asp_explain.specs.Endings.{Answers, Ends, IsCause, OfMemory, OfNamed, OfTask, OfWords, Refused, StopsTask, Tells, Unheard, Unwritten, Written}
use Rattle.asp_explain.specs.Written.{IsToldOf, IsWritten}

module _ (words : List (List ℕ)) (o : Outside) where
  -- what is told for the words' task
  pub answers_task : (task : TaskShape) (r : Result Answer Stop) → task_of words ≡ Some task → IfOk r (λ a. Tells o task a.text.items a.status) → IfOk r (λ a. Answers words o a.text.items a.status)
  answers_task task (Ok a) n h = OfTask task n h
  answers_task task (Err s) n h = tt

  -- why nothing is told for it
  pub stops_task : (task : TaskShape) (r : Result Answer Stop) → task_of words ≡ Some task → IfErr r (λ s. StopsTask o task (refusal_of s)) → IfErr r (λ s. IsCause words o (refusal_of s))
  stops_task task (Ok a) n h = tt
  stops_task task (Err s) n h = OfNamed task n h

  -- the words are refused
  pub stops_words : (s : Stop) → IsUnasked o → StopsFor words s → IsCause words o (refusal_of s)
  stops_words stops.Usage u h = OfWords refl h u
  stops_words (stops.Unread name) u h = absurd h
  stops_words stops.TooLong u h = absurd h
  stops_words (stops.LongReport which) u h = absurd h
  stops_words (stops.BadLine which line) u h = absurd h
  stops_words (stops.Diverged which activity) u h = absurd h
  stops_words (stops.NoActivity name) u h = absurd h
  stops_words (stops.NoCount activity count) u h = absurd h
  stops_words stops.LargePicture u h = absurd h
  stops_words stops.Memory u h = OfMemory refl

ends_refused : (c : Call) (status : ℕ) (r : Refusal) → IsCause c.words c.outside r → IsUntouched c.out → IsToldOf r c.err status → Ends c status
ends_refused c status r h u (inl t) = Refused r h u t.1 t.0
ends_refused c status r h u (inr t) = Unheard r h u t.1 t.0

pub ends_stopped : (c : Call) (status : ℕ) (r : Refusal) → IsCause c.words c.outside r → IsUntouched c.out → IsToldOf r c.err status ⊎ IsToldOf NoMemory c.err status → Ends c status
ends_stopped c status r h u (inl t) = ends_refused c status r h u t
ends_stopped c status r h u (inr t) = ends_refused c status NoMemory (OfMemory refl) u t

pub ends_written : (c : Call) (status : ℕ) (text : List ℕ) (other : ℕ) → Answers c.words c.outside text other → IsWritten c.out c.err text other status → Ends c status
ends_written c status text other a (inl t) = Written text (subst (Answers c.words c.outside text) (sym t.0) a) t.1 t.2
ends_written c status text other a (inr t) = Unwritten text other a t.1 t.2 t.0
