-- The cells of a value that is shown, as those of a store, and which cells may be shown.
use Rattle.std.specs.Prelude.{◌≡◌, ℕ, ◌<◌, ◌≤◌, ◌&&◌, Bool, true, false, bytes_eq, nat_eq, nat_lt, List, length, map}
use Rattle.std.specs.List.{list_all}
use Rattle.std.specs.Ordering.{int_eq}
use Rattle.asp_model.specs.Names.{same_future, same_name}
use Rattle.code_table.specs.declared.answer.Shown.{Shown}
use Rattle.code_table.specs.declared.answer.Shown.TheVariants as shown
use Rattle.code_table.specs.declared.answer.Listed.{Listed}
use Rattle.code_table.specs.declared.answer.Held.{Held}
use Rattle.code_table.specs.declared.answer.Held.TheVariants as held
use Rattle.code_table.specs.declared.cells.Cell.{Cell}
use Rattle.code_table.specs.declared.cells.Cell.TheVariants as cells
use Rattle.code_table.specs.Cells.{CodedCell, CodedStore, all_coded, span_of}
use Rattle.code_table.specs.Cells as coded
use Rattle.code_table.specs.Columns.{AreLaid}
use Rattle.code_table.specs.Answers.{ShownCell, AnswerView, answer_view}
use Rattle.code_table.specs.Answers as answers

-- a shown cell as one of a store
abbrev pub coded_shown : ShownCell → CodedCell
coded_shown (answers.Number n) = coded.Number n
coded_shown (answers.Object k ns) = coded.Object k ns
coded_shown (answers.Reference n) = coded.Reference n
coded_shown (answers.Group ns) = coded.Group ns

abbrev pub answer_items : AnswerView → CodedStore
answer_items a = map coded_shown a.cells

-- Which cells may be shown

-- places that are numbers of so many cells
abbrev pub all_under : ℕ → List ℕ → Bool
all_under size ns = list_all (λ n. nat_lt n size) ns

-- no future, and its places are numbers of so many cells
abbrev pub may_hold : ℕ → CodedCell → Bool
may_hold size (coded.Number n) = true
may_hold size (coded.Object k ns) = all_under size ns
may_hold size (coded.Reference n) = true
may_hold size (coded.Future f) = false
may_hold size (coded.Group ns) = all_under size ns

-- few cells, which hold each other and no future
pub record MayBeShown (s : CodedStore) : Type 0 where
  pub some : 0 < length s
  pub few : length s ≤ 64
  pub cells : list_all (may_hold (length s)) s ≡ true

-- What a shown value keeps

-- a cell as a store keeps it
abbrev pub kept : Shown → Cell
kept (shown.Number n) = cells.Number n
kept (shown.Object k start count) = cells.Object k start count
kept (shown.Group start count) = cells.Group start count
kept (shown.Reference n) = cells.Reference n

abbrev pub shown_items : Listed → CodedStore
shown_items s = all_coded s.words.items (map kept s.cells.items)

abbrev pub AreShownLaid : Listed → Type 0
AreShownLaid s = AreLaid (length s.words.items) (map span_of (map kept s.cells.items))

abbrev pub IsAnswer : Held → Type 0
IsAnswer (held.Listed s) = AreShownLaid s.value × MayBeShown (answer_items (answer_view (held.Listed s)))
IsAnswer h = Unit {0}

-- two cells are equal
abbrev pub same_coded : CodedCell → CodedCell → Bool
same_coded (coded.Number n) (coded.Number m) = int_eq n m
same_coded (coded.Object k ns) (coded.Object l ms) = nat_eq k l && bytes_eq ns ms
same_coded (coded.Reference n) (coded.Reference m) = same_name n m
same_coded (coded.Future f) (coded.Future g) = same_future f g
same_coded (coded.Group ns) (coded.Group ms) = bytes_eq ns ms
same_coded c d = false
