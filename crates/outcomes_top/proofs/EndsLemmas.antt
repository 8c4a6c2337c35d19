-- How a call ends, from what was found and what was told.
use Rattle.std.proofs.Common.{◌≡◌, ℕ, Bool, true, false, List, [], ◌∷◌, Option, Some, None, Result, Ok, Err, IfOk, IfErr, refl, sym, ap, subst, ◌∙◌, inl, inr, arith}
use Rattle.asp_model.specs.Marked.{Marked, plain}
use Rattle.asp_model.specs.Term.{Tree}
use Rattle.law_chases.proofs.FutureLemmas.{some_is, true_false}
use Rattle.asp_model.specs.Names.{Text}
use Rattle.law_families.specs.Families.{RunLogs}
use Rattle.asp_top.specs.declared.prepare.Prepared.{Prepared}
use Rattle.asp_top.specs.Ready.{WrittenOf, text_in}
use Rattle.asp_top.specs.Ended.{IsEnded}
use Rattle.asp_top.specs.Programs.{IsInFile}
use Rattle.asp_top.specs.Refusals.{Diverges, LongCheckpoint, LongProgram, LongReport, LongTrace, NoCheckpoint, NoMemory, NoProgram, NoReport, NoTrace, OtherCheckpoint, Overspent, Refusal, Unchecked, Unfinished, Unlawful, Unread, Usage, message_of, status_of_refusal}
use Rattle.asp_top.specs.Seen.{Call, IsUntouched, Outside, Takes}
use Rattle.asp_top.specs.Stops.{refusal_of}
use Rattle.outcomes_top.specs.declared.halt.Halt.{Halt}
use Rattle.outcomes_top.specs.declared.halt.Halt.TheVariants as halts
use Rattle.outcomes_top.specs.declared.halt.Fault.{Fault}
use Rattle.outcomes_top.specs.declared.halt.Fault.TheVariants as faults
use Rattle.outcomes_top.specs.Given.{AreShown, ShowEnds, status_of_fault}
use Rattle.outcomes_top.specs.Endings.{Ends, IsAnswer, IsCause, OfFile, OfGiven, OfHelp, OfMemory, OfChoice, OfTask, OfWords, Refused, Unheard, Unwritten, Written}
use Rattle.outcomes_top.specs.Correct.{Answers, AreAsked, Completes, Found, IsWhole, Tells, TellsAll}
use Rattle.outcomes_top.specs.Families.{AreAll, status_of_family, text_of_family}
use Rattle.outcomes_words.specs.Words.{TaskShape, is_taken, task_of}
use Rattle.outcomes_words.specs.declared.task.Choice.{Choice}
use Rattle.outcomes_top.specs.Surveys.{AreChosen, Halts, HaltsAmong, HaltsAt, HaltsFor, HaltsWith, IsChosen, IsToldBy, IsToldOf, TellsOf, message_for, status_for}

ends_told : (c : Call) (result : ℕ) (message : List ℕ) (status : ℕ) → IsCause c.words c.outside message status → IsUntouched c.out → IsToldBy c.err message status result → Ends c result
ends_told c result message status h u (inl t) = Refused message (subst (IsCause c.words c.outside message) (sym t.0) h) u t.1
ends_told c result message status h u (inr t) = Unheard message status h u t.1 t.0

pub ends_halted : (c : Call) (result : ℕ) (h : Halt) → Halts c.words c.outside h → IsUntouched c.out → IsToldOf h c.err result → Ends c result
ends_halted c result h cause u (inl t) = ends_told c result (message_for h) (status_for h) cause u t
ends_halted c result h cause u (inr t) = ends_told c result (message_of NoMemory) (status_of_refusal NoMemory) (OfMemory refl refl) u t

pub ends_written : (c : Call) (result : ℕ) (p : Prepared) → IsAnswer c.words c.outside (text_in p) p.status → WrittenOf c.out c.err p result → Ends c result
ends_written c result p a (inl t) = Written (text_in p) (subst (IsAnswer c.words c.outside (text_in p)) (sym t.0) a) t.1 t.2
ends_written c result p a (inr t) = Unwritten (text_in p) p.status a t.1 t.2 t.0

-- A call that ends with 0, 1 or 4

not_at : {A : Type 0} (status n : ℕ) → IsEnded status → status ≡ n → (n ≡ 0 → ⊥) → (n ≡ 1 → ⊥) → (n ≡ 4 → ⊥) → A
not_at status n (inl h) e a b c = absurd (a (sym e ∙ h))
not_at status n (inr (inl h)) e a b c = absurd (b (sym e ∙ h))
not_at status n (inr (inr h)) e a b c = absurd (c (sym e ∙ h))

not_two : {A : Type 0} (status : ℕ) → IsEnded status → status ≡ 2 → A
not_two status h e = not_at status 2 h e (λ p. omega (arith, p)) (λ p. omega (arith, p)) (λ p. omega (arith, p))

not_three : {A : Type 0} (status : ℕ) → IsEnded status → status ≡ 3 → A
not_three status h e = not_at status 3 h e (λ p. omega (arith, p)) (λ p. omega (arith, p)) (λ p. omega (arith, p))

not_five : {A : Type 0} (status : ℕ) → IsEnded status → status ≡ 5 → A
not_five status h e = not_at status 5 h e (λ p. omega (arith, p)) (λ p. omega (arith, p)) (λ p. omega (arith, p))

not_six : {A : Type 0} (status : ℕ) → IsEnded status → status ≡ 6 → A
not_six status h e = not_at status 6 h e (λ p. omega (arith, p)) (λ p. omega (arith, p)) (λ p. omega (arith, p))

not_seven : {A : Type 0} (status : ℕ) → IsEnded status → status ≡ 7 → A
not_seven status h e = not_at status 7 h e (λ p. omega (arith, p)) (λ p. omega (arith, p)) (λ p. omega (arith, p))

not_eight : {A : Type 0} (status : ℕ) → IsEnded status → status ≡ 8 → A
not_eight status h e = not_at status 8 h e (λ p. omega (arith, p)) (λ p. omega (arith, p)) (λ p. omega (arith, p))

not_nine : {A : Type 0} (status : ℕ) → IsEnded status → status ≡ 9 → A
not_nine status h e = not_at status 9 h e (λ p. omega (arith, p)) (λ p. omega (arith, p)) (λ p. omega (arith, p))

not_ten : {A : Type 0} (status : ℕ) → IsEnded status → status ≡ 10 → A
not_ten status h e = not_at status 10 h e (λ p. omega (arith, p)) (λ p. omega (arith, p)) (λ p. omega (arith, p))

not_eleven : {A : Type 0} (status : ℕ) → IsEnded status → status ≡ 11 → A
not_eleven status h e = not_at status 11 h e (λ p. omega (arith, p)) (λ p. omega (arith, p)) (λ p. omega (arith, p))

not_refused : {A : Type 0} (status : ℕ) (r : Refusal) → IsEnded status → status ≡ status_of_refusal r → A
not_refused status Usage h e = not_two status h e
not_refused status (Unread name) h e = not_six status h e
not_refused status LongProgram h e = not_three status h e
not_refused status (NoProgram fault) h e = not_three status h e
not_refused status (Unchecked fault) h e = not_three status h e
not_refused status (LongReport which) h e = not_nine status h e
not_refused status (NoReport which line) h e = not_nine status h e
not_refused status (Diverges which activity) h e = not_nine status h e
not_refused status LongTrace h e = not_ten status h e
not_refused status (NoTrace line) h e = not_ten status h e
not_refused status (Unlawful entry) h e = not_ten status h e
not_refused status Unfinished h e = not_ten status h e
not_refused status LongCheckpoint h e = not_eleven status h e
not_refused status OtherCheckpoint h e = not_eleven status h e
not_refused status NoCheckpoint h e = not_eleven status h e
not_refused status Overspent h e = not_eleven status h e
not_refused status NoMemory h e = not_eight status h e

not_fault : {A : Type 0} (status : ℕ) (fault : Fault) → IsEnded status → status ≡ status_of_fault fault → A
not_fault status faults.Unread h e = not_six status h e
not_fault status faults.Long h e = not_nine status h e
not_fault status (faults.Line number) h e = not_nine status h e
not_fault status (faults.Diverges activity) h e = not_nine status h e
not_fault status faults.GoesOn h e = not_nine status h e

not_caused : {A : Type 0} (words : List (List ℕ)) (o : Outside) (message : List ℕ) (status : ℕ) → IsEnded status → IsCause words o message status → A
not_caused words o message status h (OfWords a m e) = not_two status h e
not_caused words o message status h (OfMemory m e) = not_eight status h e
not_caused words o message status h (OfFile task a r c m e) = not_refused status r h e
not_caused words o message status h (OfGiven task a program g name fault r m e) = not_fault status fault h e
not_caused words o message status h (OfChoice task a program g choice r f m e) = not_two status h e

whole_told : (c : Call) (task : TaskShape) (text : List ℕ) (status : ℕ) (program : Marked) → IsInFile c.outside task.file program → (f : Found (plain program)) → AreAsked c.outside task (plain program) f
    → text ≡ text_of_family task.depth (plain program) f.whole f.ends → status ≡ status_of_family (plain program) f.whole f.ends
    → IsEnded status → Takes c.out text → IsUntouched c.err → IsWhole c task status
whole_told c task text status program given f asked told is ended takes untouched = by f.whole f.family.complete told is
  where
    by : (b : Bool) → (b ≡ true → AreAll f.by_classes (plain program) f.ends) → text ≡ text_of_family task.depth (plain program) b f.ends → status ≡ status_of_family (plain program) b f.ends → IsWhole c task status
    by true complete told is = record {
      program = program;
      given = given;
      ends = f.ends;
      shown = asked.shown;
      by_classes = f.by_classes;
      orders = asked.orders;
      complete = complete refl;
      status_is = is;
      written = subst (Takes c.out) told takes;
      silent = untouched;
    }
    by false complete told is = not_five status ended is

told_all : (depth : Option ℕ) (program : Tree) (whole : Bool) (ends : List RunLogs) (choice : Option Choice) (text : List ℕ) (status : ℕ) → choice ≡ None → Tells depth program whole ends choice text status → TellsAll depth program whole ends text status
told_all depth program whole ends None text status e h = h
told_all depth program whole ends (Some choice) text status e h = absurd cc

pub ends_complete : (c : Call) (status : ℕ) → Ends c status → Completes c status
ends_complete c status (Written text (OfTask task asked a) takes untouched) other taken asks none ended =
    let same : task ≡ other = some_is (sym asked ∙ asks) in
    let f : Found (plain a.0) = a.2 in
    let tells = told_all task.depth (plain a.0) f.whole f.ends task.choice text status (ap (λ (t : TaskShape). t.choice) same ∙ none) a.4 in
    subst (λ (t : TaskShape). IsWhole c t status) same
    (whole_told c task text status a.0 a.1 f a.3 tells.0 tells.1 ended takes untouched)
ends_complete c status (Written text (OfHelp not_taken e) takes untouched) other taken asks none ended = absurd (true_false (is_taken c.words) taken not_taken)
ends_complete c status (Refused message cause u t) other taken asks none ended = not_caused c.words c.outside message status ended cause
ends_complete c status (Unheard message code cause u t e) other taken asks none ended = not_seven status ended e
ends_complete c status (Unwritten text code a t u e) other taken asks none ended = not_seven status ended e

-- What there is to tell of a task

shown_chosen : (o : Outside) (program : Tree) (names : List Text) (given ends : List RunLogs) → AreChosen names given ends → ShowEnds o 1 program names given → AreShown o program names ends
shown_chosen o program [] given ends e h = tt
shown_chosen o program (name ∷ names) given ends e h = subst (ShowEnds o 1 program (name ∷ names)) (sym e) h

asked_chosen : (o : Outside) (task : TaskShape) (program : Tree) (given : List RunLogs) (f : Found program) → IsChosen task program given f → ShowEnds o 1 program task.given given → AreAsked o task program f
asked_chosen o task program given f chosen shown = record {
  shown = shown_chosen o program task.given given f.ends chosen.ends shown;
  orders = chosen.orders;
}

halt_with : (o : Outside) (task : TaskShape) (program : Tree) (given : List RunLogs) (h : Halt) → ShowEnds o 1 program task.given given → HaltsAt task program given h → HaltsWith o task program h
halt_with o task program given halts.Usage shown h = absurd h
halt_with o task program given (halts.Stop s) shown h = h
halt_with o task program given (halts.Given name fault) shown h = absurd h
halt_with o task program given (halts.Missing n) shown h = (h.0, (h.1, asked_chosen o task program given h.1 h.2 shown, h.3))

halt_given : (o : Outside) (task : TaskShape) (program : Tree) (h : Halt) → HaltsAmong o 1 program task.given h → HaltsWith o task program h
halt_given o task program halts.Usage h = absurd h
halt_given o task program (halts.Stop s) h = h
halt_given o task program (halts.Given name fault) h = h
halt_given o task program (halts.Missing n) h = absurd h

pub answers_of : (o : Outside) (task : TaskShape) (r : Result Prepared Halt) (program : Marked) (given : List RunLogs) → IsInFile o task.file program → ShowEnds o 1 (plain program) task.given given
    → IfOk r (λ p. TellsOf task (plain program) given (text_in p) p.status) → IfOk r (λ p. Answers o task (text_in p) p.status)
answers_of o task (Ok p) program given file shown h = (program, file, h.0, asked_chosen o task (plain program) given h.0 h.1 shown, h.2)
answers_of o task (Err s) program given file shown h = tt

pub halts_of : (o : Outside) (task : TaskShape) (r : Result Prepared Halt) (program : Marked) (given : List RunLogs) → IsInFile o task.file program → ShowEnds o 1 (plain program) task.given given
    → IfErr r (HaltsAt task (plain program) given) → IfErr r (HaltsFor o task)
halts_of o task (Ok p) program given file shown h = tt
halts_of o task (Err s) program given file shown h = inr (program, file, halt_with o task (plain program) given s shown h)

pub halts_among : (o : Outside) (task : TaskShape) (h : Halt) (program : Marked) → IsInFile o task.file program → HaltsAmong o 1 (plain program) task.given h → HaltsFor o task h
halts_among o task h program file among = inr (program, file, halt_given o task (plain program) h among)

pub answers_task : (words : List (List ℕ)) (o : Outside) (task : TaskShape) (r : Result Prepared Halt) → task_of words ≡ Some task
    → IfOk r (λ p. Answers o task (text_in p) p.status) → IfOk r (λ p. IsAnswer words o (text_in p) p.status)
answers_task words o task (Ok p) asked h = OfTask task asked h
answers_task words o task (Err s) asked h = tt

halts_at : (words : List (List ℕ)) (o : Outside) (task : TaskShape) (h : Halt) (program : Marked) → task_of words ≡ Some task → IsInFile o task.file program → HaltsWith o task (plain program) h → Halts words o h
halts_at words o task halts.Usage program asked file at = absurd at
halts_at words o task (halts.Stop s) program asked file at = OfMemory (ap message_of at) (ap status_of_refusal at)
halts_at words o task (halts.Given name fault) program asked file at = OfGiven task asked program file name.now fault at refl refl
halts_at words o task (halts.Missing n) program asked file at = OfChoice task asked program file n at.0 at.1 refl refl

pub halts_task : (words : List (List ℕ)) (o : Outside) (task : TaskShape) (r : Result Prepared Halt) → task_of words ≡ Some task → IfErr r (HaltsFor o task) → IfErr r (Halts words o)
halts_task words o task (Ok p) asked h = tt
halts_task words o task (Err s) asked (inl f) = subst (Halts words o) (sym f.1) (OfFile task asked (refusal_of f.0) f.2 refl refl)
halts_task words o task (Err s) asked (inr f) = halts_at words o task s f.0 asked f.1 f.2
