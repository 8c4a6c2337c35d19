-- Outcomes that their reports show whole.
use Rattle.std.specs.Prelude.{◌≡◌, ℕ, ◌≤◌, ◌^◌, nat_le, nat_lt, ◌==◌, ◌&&◌, Bool, true, false, List, [], ◌∷◌}
use Rattle.std.specs.List.{list_all}
use Rattle.std.specs.FinMap.{is_sorted}
use Rattle.asp_model.specs.declared.limits.TheConstants.{MOST_REDUCTIONS}
use Rattle.asp_model.specs.Names.{Name, FutureShape, main_name, name_cmp, same_name}
use Rattle.asp_model.specs.Contraction.{LineShape, NumberLine, TextLine}
use Rattle.asp_model.specs.Configuration.{ReceptionShape, From, Poll}
use Rattle.asp_model.specs.Intent.{StatusShape, Awaits}
use Rattle.asp_model.specs.Replay.{total}
use Rattle.asp_model.specs.Outcome.{ActivityReportShape, OutcomeShape, counts_in}

-- the number of a creation or of a request: 1 to 4294967295
abbrev pub is_index : ℕ → Bool
is_index n = nat_le 1 n && nat_lt n (2 ^ 32)

-- 0, and then the numbers of creations
abbrev pub is_name : Name → Bool
is_name [] = false
is_name (n ∷ ns) = n == 0 && list_all is_index ns

-- the name of a future: that of an activity, and the number of a request
abbrev pub is_future_name : FutureShape → Bool
is_future_name f = is_name f.by && is_index f.index

-- what it awaits, where it awaits anything, is the name of a future
abbrev pub is_named_status : StatusShape → Bool
is_named_status (Awaits f) = is_future_name f
is_named_status s = true

-- the sender has a name
abbrev pub is_named_reception : ReceptionShape → Bool
is_named_reception (From n) = is_name n
is_named_reception Poll = true

-- bytes 0x20 to 0x7E
abbrev pub is_printable : ℕ → Bool
is_printable b = nat_le 32 b && nat_le b 126

-- a text of output is printable
abbrev pub is_printable_line : LineShape → Bool
is_printable_line (NumberLine n) = true
is_printable_line (TextLine text) = list_all is_printable text

-- all names and texts of an activity are so
abbrev pub is_sound_report : ActivityReportShape → Bool
is_sound_report a = is_name a.name
    && (is_named_status a.status && (list_all is_named_reception a.senders && list_all is_printable_line a.lines))

-- the first activity is main
abbrev pub begins_with_main : List ActivityReportShape → Bool
begins_with_main [] = false
begins_with_main (a ∷ activities) = same_name main_name a.name

-- the first activity is main, the names rise strictly, and the counts sum to at most 10,000,000
pub record IsWellFormed (o : OutcomeShape) : Type 0 where
  pub main : begins_with_main o.activities ≡ true
  pub ascending : is_sorted name_cmp (counts_in o) ≡ true
  pub sound : list_all is_sound_report o.activities ≡ true
  pub within : total (counts_in o) ≤ MOST_REDUCTIONS
