-- What definitions see of how far a report has been read.
use Rattle.std.specs.Prelude.{◌≡◌, ℕ, Bool, true, false, [], ◌∷◌, ◌++◌, map, Option, Some, None}
use Rattle.asp_model.specs.Names.{Name, Text, main_name, same_name}
use Rattle.asp_model.specs.Shapes.{reception_shape}
use Rattle.asp_model.specs.ReadReport.{Next as NextShape, Title, Verdict, Main, Senders, Later, Progress as ProgressShape, is_behind, behind, with_activity, ended, Reading}
use Rattle.sender_log.specs.declared.progress.Next.{Next}
use Rattle.sender_log.specs.declared.progress.Next.TheVariants as next
use Rattle.sender_log.specs.declared.progress.Progress.{Progress}

abbrev pub next_shape : Next → NextShape
next_shape next.Title = Title
next_shape next.Verdict = Verdict
next_shape next.Main = Main
next_shape (next.Senders n) = Senders n
next_shape (next.Later n) = Later n

abbrev pub progress_shape : Progress → ProgressShape
progress_shape p = record {
  next = next_shape p.next;
  lists = map (λ x. (x.0, map reception_shape x.1.items)) p.lists.items;
  counts = p.counts.items;
  polls = p.polls;
}

-- before the first line
abbrev pub before_lines : ProgressShape
before_lines = record { next = Title; lists = []; counts = []; polls = false }

-- with the activity line of this name
abbrev pub with_entry : ProgressShape → Name → ℕ → ProgressShape
with_entry p name count = record p {
  next = Senders name;
  counts = p.counts ++ (name, count) ∷ [];
}

-- whether the activity line of this name may be the next
abbrev pub fits_at : NextShape → Name → Bool
fits_at Main n = same_name main_name n
fits_at (Later m) n = is_behind m n
fits_at next n = false

-- what was read with a line, and whether the line fits, are these
abbrev pub Shows : Option ProgressShape → Progress → Bool → Type 0
Shows shape p fits = elim fits [ true ↦ Some (progress_shape p) | false ↦ None ] ≡ shape

-- what stands behind one more line
abbrev pub behind_line : Progress → Text → Option ProgressShape
behind_line p line = behind (next_shape p.next) (progress_shape p) line

-- with the activity line that was found, where it may be the next
abbrev pub with_found : Progress → Option (Name × ℕ) → Option ProgressShape
with_found p found = with_activity (fits_at (next_shape p.next)) (progress_shape p) found

-- what is read at the end, with what stands behind the last line feed
abbrev pub end_of : Progress → ℕ → Text → Reading
end_of p number rest = ended (next_shape p.next) (progress_shape p) number rest
