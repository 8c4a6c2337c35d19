-- The places round a term, and before it.
use Rattle.std.specs.Prelude.{◌≡◌, ℕ, List, [], ◌∷◌, ◌++◌, drop, reverse, slice_index_or}
use Rattle.std.specs.List.{flat_map}
use Rattle.asp_model.specs.Split.{Context}
use Rattle.asp_model.specs.Term.{locations_below}
use Rattle.code_table.specs.declared.code.Node.{Node}
use Rattle.step_machine.specs.declared.frames.Spread.{Spread}
use Rattle.step_machine.specs.declared.frames.Spread.TheVariants as spread
use Rattle.step_machine.specs.Calls.{IsLaid}
use Rattle.step_machine.specs.Items.{Item, Waits, Suspends, contexts_of}
use Rattle.step_machine.specs.Stacks.{IsStack}
use Rattle.code_reading.specs.declared.cursor.Cursor.{Cursor}
use Rattle.def_paths.specs.Agree.{places_round}
use Rattle.path_equal.specs.declared.calls.Laid.{Laid}
use Rattle.path_equal.specs.declared.search.Search.{Search}
use Rattle.path_equal.specs.Searches.{searched}
use Rattle.path_equal.specs.declared.stack.Part.{Part}
use Rattle.path_equal.specs.declared.stack.Part.TheVariants as part

-- what the frames from a cursor outward stand for
abbrev pub StandsAt : List Node → Cursor → List Item → Type 0
StandsAt k x items = IsStack k (reverse x.frames.now) x.env.now x.operands.now items

-- all places of these lists
abbrev pub all_of : List (List ℕ) → List ℕ
all_of = flat_map (λ ns. ns)

-- the places before the hole of the innermost context, behind those before the outer holes
abbrev pub places_before : List Context → List ℕ
places_before [] = []
places_before (c ∷ cs) = places_before cs ++ c.before

-- the places behind the hole, or all
abbrev pub part_places : Part → Context → List ℕ
part_places part.Behind c = locations_below c.behind
part_places part.Whole c = places_round c

abbrev pub parts_places : Part → List Context → List ℕ
parts_places p cs = flat_map (part_places p) cs

-- with the next frame: the term that waits for a service's end is no part of the service's term
abbrev pub next_before : Item → (start old : Search) → Search
next_before (Waits c) start old = searched c.before old
next_before (Suspends f) start old = start

-- with the next frame: a service suspends the contexts outside it
abbrev pub next_service : Item → (outer : List Item) → Search → Search
next_service (Waits c) xs old = old
next_service (Suspends f) xs old = searched (flat_map places_round (contexts_of xs)) old

-- Groups of calls

-- the places of the call with a number
abbrev pub call_places : Spread → (given members beside : List ℕ) → ℕ → List ℕ
call_places spread.Same given ns ks n = slice_index_or ns n 0 ∷ drop 1 given
call_places spread.Own given ns ks n = slice_index_or ns n 0 ∷ slice_index_or ks n 0 ∷ []

-- the parts of the operands are these
pub record IsLaidOut (k : List Node) (s : Spread) (number n : ℕ) (own : List ℕ) (l : IsLaid k s number n own) (x : Laid) : Type 0 where
  pub given : x.given.now ≡ l.given
  pub members : x.members.now ≡ l.receivers
  pub beside : x.beside.now ≡ l.beside
  pub results : x.results.now ≡ l.results
