-- The causes of stops.
use Rattle.std.proofs.Common.{◌≡◌, ℕ, List, Result, Ok, Err, sym, subst, ◌∙◌, ◌⊎◌, inl, inr, refl, ap}
use Rattle.std.specs.Prelude.{IfOk, IfErr, OnErr}
use Rattle.std.specs.Result.{IsErrAnd}
use Rattle.asp_model.specs.declared.limits.TheConstants.{MOST_PROGRAM_BYTES}
use Rattle.asp_model.specs.declared.term.Program.{Program}
use Rattle.asp_model.specs.Marked.{Marked}
use Rattle.asp_model.specs.Shapes.{marked_of}
use Rattle.asp_syntax.specs.declared.error.SyntaxError.{SyntaxError}
use Rattle.asp_syntax.specs.declared.error.SyntaxError.TheVariants as syntax
use Rattle.syntax_tokens.specs.Tokens.{lexemes_of}
use Rattle.asp_syntax.specs.Faults.{FirstFault}
use Rattle.asp_syntax.specs.Correct.{IsProgramText, IfFault, IsOkWith}
use Rattle.asp_check.specs.declared.checked.Checked.{Checked}
use Rattle.asp_check.specs.declared.fault.CheckError.{CheckError}
use Rattle.asp_check.specs.declared.fault.CheckError.TheVariants as check
use Rattle.asp_check.specs.declared.fault.CheckFault.{CheckFault}
use Rattle.asp_check.specs.Faults.{IsChecked, IsFirstFault}
use Rattle.asp_top.specs.declared.stop.Stop.{Stop}
use Rattle.asp_top.specs.Seen.{Sight, Outside}
use Rattle.asp_top.specs.Refusals.{Refusal, Usage, Unread, LongProgram, NoProgram, Unchecked, LongReport, NoReport, Diverges, LongTrace, NoTrace, Unlawful, Unfinished, LongCheckpoint, OtherCheckpoint, NoCheckpoint, Overspent, NoMemory, status_of_refusal, message_of}
use Rattle.command_line.specs.Task.{TaskShape}
use Rattle.asp_top.specs.Programs.{IsFile, IsText, IsProgramOf, NamesProgram}
use Rattle.asp_top.specs.Endings.{HoldsFor, OfProgram}
use Rattle.asp_top.specs.Stops.{IsCheckedFile, RefusedAt, RefusedInFile, StopsAt, StopsInFile, syntax_stop, check_stop, program_in, refusal_of}
use Rattle.asp_top.specs.Ready.{Told, ToldRefusal}

-- a fault that was found stops there
pub stops_at : (bytes : List ℕ) (e : SyntaxError) → (let r : Result Program SyntaxError = Err e in IfFault r (λ f. FirstFault (lexemes_of bytes) f)) → ((m : Marked) → IsProgramText bytes m → let r : Result Program SyntaxError = Err e in IsOkWith r m) → StopsAt bytes (syntax_stop e)
stops_at bytes (syntax.Fault f) h g = record { first = h; none = g }
stops_at bytes syntax.Memory h g = tt

-- so does a fault of the program that the bytes are
pub check_stops_at : (bytes : List ℕ) (m : Marked) (e : CheckError) → IsProgramText bytes m → ((n : Marked) → IsProgramText bytes n → m ≡ n) → ((f : CheckFault) → e ≡ check.Fault f → IsFirstFault m f) → (IsChecked m → e ≡ check.Memory) → StopsAt bytes (check_stop e)
check_stops_at bytes m (check.Fault f) h one first only =
    record {
      program = m;
      is_read = h;
      first = first f refl;
      none = λ n r k. let no : check.Fault f ≡ check.Memory = only (subst IsChecked (sym (one n r)) k) in absurd cc;
    }
check_stops_at bytes m check.Memory h one first only = tt

pub program_is : (bytes : List ℕ) (p : Program) (c : Checked) → IsProgramText bytes (marked_of p.root) → ((n : Marked) → IsProgramText bytes n → marked_of p.root ≡ n) → (c.program ≡ p) × IsChecked (marked_of p.root) → IsProgramOf bytes (program_in c)
program_is bytes p c h one k =
    let same : marked_of p.root ≡ program_in c = ap (λ (q : Program). marked_of q.root) (sym k.0) in
    subst (IsProgramOf bytes) same (record { is_read = h; only = one; checked = k.1 })

-- a result that is an error with this stop
pub stops_if : {T : Type 0} (P : Stop → Type 0) (r : Result T Stop) (stop : Stop) → IsErrAnd r (λ s. s ≡ stop) → P stop → IfErr r P
stops_if P (Ok x) stop e h = tt
stops_if P (Err s) stop e h = subst P (sym e) h

-- the message that was made is told, or that there is no memory
pub made_told : {S E : Type 0} (text : S → List ℕ) (r : Refusal) (message : Result S E) (s : Sight) (result : ℕ) → IfOk message (λ t. text t ≡ message_of r) → IfOk message (λ t. Told s (text t) (status_of_refusal r) result) → IfErr message (λ e. ToldRefusal NoMemory s result)
    → ToldRefusal r s result ⊎ ToldRefusal NoMemory s result
made_told text r (Ok t) s result e h g = inl (subst (λ (l : List ℕ). Told s l (status_of_refusal r) result) e h)
made_told text r (Err x) s result e h g = inr g

pub if_failed : {T E : Type 0} (r : Result T E) (P : Type 0) → P → OnErr r P
if_failed (Ok x) P h = tt
if_failed (Err e) P h = h

-- what a text is, or why it is refused, is so of the file that it is

pub in_file : (o : Outside) (name bytes : List ℕ) (r : Result Checked Stop) → IsFile o 0 name MOST_PROGRAM_BYTES bytes → IfOk r (λ c. IsProgramOf bytes (program_in c)) → IfOk r (IsCheckedFile o name)
in_file o name bytes (Ok c) f h = record { bytes = bytes; text = f; is = h }
in_file o name bytes (Err s) f h = tt

refused_in_file : (o : Outside) (name bytes : List ℕ) (r : Refusal) → IsFile o 0 name MOST_PROGRAM_BYTES bytes → RefusedAt bytes r → RefusedInFile o name r
refused_in_file o name bytes Usage f h = absurd h
refused_in_file o name bytes (Unread other) f h = absurd h
refused_in_file o name bytes LongProgram f h = absurd h
refused_in_file o name bytes (NoProgram fault) f h = (bytes, f, h)
refused_in_file o name bytes (Unchecked fault) f h = (bytes, f, h)
refused_in_file o name bytes (LongReport which) f h = absurd h
refused_in_file o name bytes (NoReport which line) f h = absurd h
refused_in_file o name bytes (Diverges which activity) f h = absurd h
refused_in_file o name bytes LongTrace f h = absurd h
refused_in_file o name bytes (NoTrace line) f h = absurd h
refused_in_file o name bytes (Unlawful entry) f h = absurd h
refused_in_file o name bytes Unfinished f h = absurd h
refused_in_file o name bytes LongCheckpoint f h = absurd h
refused_in_file o name bytes OtherCheckpoint f h = absurd h
refused_in_file o name bytes NoCheckpoint f h = absurd h
refused_in_file o name bytes Overspent f h = absurd h
refused_in_file o name bytes NoMemory f h = tt

pub stops_in_file : (o : Outside) (name bytes : List ℕ) (r : Result Checked Stop) → IsFile o 0 name MOST_PROGRAM_BYTES bytes → IfErr r (StopsAt bytes) → IfErr r (StopsInFile o name)
stops_in_file o name bytes (Ok c) f h = tt
stops_in_file o name bytes (Err s) f h = refused_in_file o name bytes (refusal_of s) f h

-- why there is no program in the file of a task
pub no_program : (o : Outside) (task : TaskShape) (file : List ℕ) → NamesProgram task file → ((bytes : List ℕ) → IsFile o 0 file MOST_PROGRAM_BYTES bytes → IsText o task bytes) → (r : Refusal) → RefusedInFile o file r → HoldsFor o task r
no_program o task file named text Usage h = absurd h
no_program o task file named text (Unread name) h = OfProgram (subst (NamesProgram task) h.0 named) h.1
no_program o task file named text LongProgram h = record { name = file; named = named; long = h }
no_program o task file named text (NoProgram fault) h = (h.0, text h.0 h.1, h.2)
no_program o task file named text (Unchecked fault) h = (h.0, text h.0 h.1, h.2)
no_program o task file named text (LongReport which) h = absurd h
no_program o task file named text (NoReport which line) h = absurd h
no_program o task file named text (Diverges which activity) h = absurd h
no_program o task file named text LongTrace h = absurd h
no_program o task file named text (NoTrace line) h = absurd h
no_program o task file named text (Unlawful entry) h = absurd h
no_program o task file named text Unfinished h = absurd h
no_program o task file named text LongCheckpoint h = absurd h
no_program o task file named text OtherCheckpoint h = absurd h
no_program o task file named text NoCheckpoint h = absurd h
no_program o task file named text Overspent h = absurd h
no_program o task file named text NoMemory h = tt

pub if_named : {S E : Type 0} (f : S → List ℕ) (r : Result S E) (a b : List ℕ) → a ≡ b → IfOk r (λ s. f s ≡ a) → IfOk r (λ s. f s ≡ b)
if_named f (Ok s) a b e h = h ∙ e
if_named f (Err x) a b e h = tt
