-- No item has a space or a line feed.
use Rattle.std.proofs.Common.{◌≡◌, ℕ, ℤ, pos, negsuc, zero, suc, true, List, [], ◌∷◌, ◌++◌, length, map, take, drop, Option, Some, None, arith}
use Rattle.std.specs.List.{flat_map}
use Rattle.std.specs.Fmt.{decimal, signed_decimal}
use Rattle.asp_model.specs.Names.{Name, FutureShape, Text}
use Rattle.asp_model.specs.Term.{MethodHead, Head, Loc, Hole, Var, Number, Make, Get, Put, Call, Clone, Active, Serve, Let, Steps, If, Repeat, Operate, Print, Echo, Group, Scatter, Size, Member, WaitAll, Pending, Tree, Trees, node, none, more, leaf, loc}
use Rattle.asp_model.specs.Store.{MethodShape, Field, CellShape, Object, Reference, Future}
use Rattle.asp_model.specs.Store as cells
use Rattle.asp_model.specs.Parcel.{ParcelShape}
use Rattle.asp_model.specs.Split.{Split, Stands, Splits, split}
use Rattle.asp_model.specs.Contraction.{LineShape, NumberLine, TextLine}
use Rattle.asp_model.specs.Configuration.{RequestShape, ServiceShape, ReceptionShape, From, Poll}
use Rattle.code_laws.specs.Splitting.{redex_node}
use Rattle.code_reading.specs.Shown.{hole_tree}
use Rattle.law_frozen.specs.Frozen.{FrozenActivity}
use Rattle.law_reports.proofs.PartsLemmas.{lacks}
use Rattle.law_reports.proofs.DigitLemmas.{decimal_lacks}
use Rattle.checkpoint_text.specs.Items.{Items, joined, number_items, signed_items, list_items, text_items, option_items, pair_items, name_items, future_items, reception_items, output_items, sign_number, field_items, method_items, methods_items, terms_items, label_behind, head_items, term_items, items_below, split_items, running_items, place_items, cell_items, store_items, parcel_items, request_items, service_items}
use Rattle.checkpoint_text.specs.Lines.{activity_items}
use Rattle.checkpoint_text.specs.Writable.{AreAll}

abbrev pub IsWord : Text → Type 0
IsWord t = (lacks 10 t ≡ true) × (lacks 32 t ≡ true)

abbrev pub AreWords : Items → Type 0
AreWords = AreAll IsWord

both_words : (a b : Items) → AreWords a → AreWords b → AreWords (a ++ b)
both_words [] b h g = g
both_words (w ∷ a) b h g = (h.0, both_words a b h.1 g)

decimal_word : (n : ℕ) → IsWord (decimal n)
decimal_word n = (decimal_lacks 10 n (omega arith), decimal_lacks 32 n (omega arith))

signed_word : (z : ℤ) → IsWord (signed_decimal z)
signed_word (pos n) = decimal_word n
signed_word (negsuc n) = (decimal_lacks 10 (suc n) (omega arith), decimal_lacks 32 (suc n) (omega arith))

number_words : (n : ℕ) → AreWords (number_items n)
number_words n = (decimal_word n, tt)

signed_words : (z : ℤ) → AreWords (signed_items z)
signed_words z = (signed_word z, tt)

flat_words : {X : Type 0} (f : X → Items) → ((x : X) → AreWords (f x)) → (xs : List X) → AreWords (flat_map f xs)
flat_words f h [] = tt
flat_words f h (x ∷ xs) = both_words (f x) (flat_map f xs) (h x) (flat_words f h xs)

list_words : {X : Type 0} (f : X → Items) → ((x : X) → AreWords (f x)) → (xs : List X) → AreWords (list_items f xs)
list_words f h xs = (decimal_word (length xs), flat_words f h xs)

text_words : (t : Text) → AreWords (text_items t)
text_words t = list_words number_items number_words t

texts_words : (ts : List Text) → AreWords (list_items text_items ts)
texts_words ts = list_words text_items text_words ts

option_words : {X : Type 0} (f : X → Items) → ((x : X) → AreWords (f x)) → (o : Option X) → AreWords (option_items f o)
option_words f h None = number_words 0
option_words f h (Some x) = (decimal_word 1, h x)

pub name_words : (n : Name) → AreWords (name_items n)
name_words n = list_words number_items number_words n

pub future_words : (f : FutureShape) → AreWords (future_items f)
future_words f = both_words (name_items f.by) (number_items f.index) (name_words f.by) (number_words f.index)

reception_words : (x : ReceptionShape) → AreWords (reception_items x)
reception_words (From n) = (decimal_word 0, name_words n)
reception_words Poll = number_words 1

output_words : (x : LineShape) → AreWords (output_items x)
output_words (NumberLine n) = (decimal_word 0, signed_words n)
output_words (TextLine t) = (decimal_word 1, text_words t)

-- Terms

AreTexts : List Items → Type 0
AreTexts = AreAll AreWords

joined_words : (ts : List Items) → AreAll AreWords ts → AreWords (joined ts)
joined_words [] h = tt
joined_words (t ∷ ts) h = both_words t (joined ts) h.0 (joined_words ts h.1)

all_words : (ts : List Items) → AreAll AreWords ts → AreWords (terms_items ts)
all_words ts h = (decimal_word (length ts), joined_words ts h)

take_words : (n : ℕ) (ts : List Items) → AreAll AreWords ts → AreAll AreWords (take n ts)
take_words zero ts h = tt
take_words (suc n) [] h = tt
take_words (suc n) (t ∷ ts) h = (h.0, take_words n ts h.1)

drop_words : (n : ℕ) (ts : List Items) → AreAll AreWords ts → AreAll AreWords (drop n ts)
drop_words zero ts h = h
drop_words (suc n) [] h = tt
drop_words (suc n) (t ∷ ts) h = drop_words n ts h.1

field_words : (ls : List Text) (ts : List Items) → AreAll AreWords ts → AreWords (field_items ls ts)
field_words [] ts h = tt
field_words (l ∷ ls) [] h = tt
field_words (l ∷ ls) (t ∷ ts) h = both_words (text_items l ++ t) (field_items ls ts) (both_words (text_items l) t (text_words l) h.0) (field_words ls ts h.1)

method_words : (m : MethodHead) (t : Items) → AreWords t → AreWords (method_items m t)
method_words m t h = both_words ((text_items m.label ++ text_items m.slf) ++ list_items text_items m.parameters) t
    (both_words (text_items m.label ++ text_items m.slf) (list_items text_items m.parameters) (both_words (text_items m.label) (text_items m.slf) (text_words m.label) (text_words m.slf)) (texts_words m.parameters)) h

methods_words : (ms : List MethodHead) (ts : List Items) → AreAll AreWords ts → AreWords (methods_items ms ts)
methods_words [] ts h = tt
methods_words (m ∷ ms) [] h = tt
methods_words (m ∷ ms) (t ∷ ts) h = both_words (method_items m t) (methods_items ms ts) (method_words m t h.0) (methods_words ms ts h.1)

label_words : (l : Text) (ts : List Items) (f : List Items → Items) → ((us : List Items) → AreAll AreWords us → AreWords (f us)) → AreAll AreWords ts → AreWords (label_behind l ts f)
label_words l [] f g h = both_words (text_items l) (f []) (text_words l) (g [] tt)
label_words l (t ∷ ts) f g h = both_words (t ++ text_items l) (f ts) (both_words t (text_items l) h.0 (text_words l)) (g ts h.1)

head_words : (h : Head) (ts : List Items) → AreAll AreWords ts → AreWords (head_items h ts)
head_words (Loc n) ts g = number_words n
head_words Hole ts g = tt
head_words (Var x) ts g = text_words x
head_words (Number n) ts g = signed_words n
head_words (Make ls ms) ts g =
    both_words (decimal (length ls) ∷ field_items ls (take (length ls) ts)) (decimal (length ms) ∷ methods_items ms (drop (length ls) ts))
    (decimal_word (length ls), field_words ls (take (length ls) ts) (take_words (length ls) ts g))
    (decimal_word (length ms), methods_words ms (drop (length ls) ts) (drop_words (length ls) ts g))
head_words (Get l) ts g = label_words l ts joined joined_words g
head_words (Put l) ts g = label_words l ts joined joined_words g
head_words (Call l) ts g = label_words l ts terms_items all_words g
head_words Clone ts g = joined_words ts g
head_words (Active s) ts g = both_words (joined ts) (option_items text_items s) (joined_words ts g) (option_words text_items text_words s)
head_words (Serve ls) ts g = texts_words ls
head_words (Let x) ts g = both_words (text_items x) (joined ts) (text_words x) (joined_words ts g)
head_words Steps ts g = all_words ts g
head_words If ts g = joined_words ts g
head_words Repeat ts g = joined_words ts g
head_words (Operate s) ts g = both_words (number_items (sign_number s)) (joined ts) (number_words (sign_number s)) (joined_words ts g)
head_words Print ts g = joined_words ts g
head_words (Echo t) ts g = text_words t
head_words Group ts g = all_words ts g
head_words (Scatter l) ts g = label_words l ts joined joined_words g
head_words Size ts g = joined_words ts g
head_words Member ts g = joined_words ts g
head_words WaitAll ts g = joined_words ts g
head_words (Pending ls) ts g = texts_words ls

kind_words : (k : ℕ) (t : Items) → AreWords t → AreWords (decimal k ∷ t)
kind_words k t h = (decimal_word k, h)

mutual
  term_words : (t : Tree) → AreWords (term_items t)
  term_words (node h ts) = kind_words _ (head_items h (items_below ts)) (head_words h (items_below ts) (below_words ts))

  below_words : (ts : Trees) → AreAll AreWords (items_below ts)
  below_words none = tt
  below_words (more t ts) = (term_words t, below_words ts)

trees_words : (ts : List Tree) → AreAll AreWords (map term_items ts)
trees_words [] = tt
trees_words (t ∷ ts) = (term_words t, trees_words ts)

split_words : (x : Split) → AreWords (split_items x)
split_words (Stands n) = all_words (term_items (loc n) ∷ []) (term_words (loc n), tt)
split_words (Splits cs r) = all_words (map term_items (redex_node r ∷ map hole_tree cs)) (trees_words (redex_node r ∷ map hole_tree cs))

-- Cells, parcels, requests and services

place_words : (x : Field) → AreWords (place_items x)
place_words x = both_words (text_items x.label) (number_items x.place) (text_words x.label) (number_words x.place)

stored_words : (m : MethodShape) → AreWords (method_items m.head (term_items m.body))
stored_words m = method_words m.head (term_items m.body) (term_words m.body)

cell_words : (x : CellShape) → AreWords (cell_items x)
cell_words (cells.Number n) = (decimal_word 0, signed_words n)
cell_words (Object fields methods) =
    both_words (decimal 1 ∷ list_items place_items fields) (list_items (λ m. method_items m.head (term_items m.body)) methods)
    (decimal_word 1, list_words place_items place_words fields) (list_words (λ m. method_items m.head (term_items m.body)) stored_words methods)
cell_words (Reference n) = (decimal_word 2, name_words n)
cell_words (Future f) = (decimal_word 3, future_words f)
cell_words (cells.Group ns) = (decimal_word 4, list_words number_items number_words ns)

store_words : (s : List CellShape) → AreWords (store_items s)
store_words s = list_words cell_items cell_words s

pub parcel_words : (p : ParcelShape) → AreWords (parcel_items p)
parcel_words p = both_words (store_items p.cells) (list_items number_items p.roots) (store_words p.cells) (list_words number_items number_words p.roots)

request_words : (r : RequestShape) → AreWords (request_items r)
request_words r = both_words ((text_items r.label ++ name_items r.sender) ++ future_items r.future) (parcel_items r.arguments)
    (both_words (text_items r.label ++ name_items r.sender) (future_items r.future) (both_words (text_items r.label) (name_items r.sender) (text_words r.label) (name_words r.sender)) (future_words r.future)) (parcel_words r.arguments)

service_words : (v : ServiceShape) → AreWords (service_items v)
service_words v = both_words (terms_items (map term_items (leaf Hole ∷ map hole_tree v.contexts))) (option_items future_items v.future)
    (all_words (map term_items (leaf Hole ∷ map hole_tree v.contexts)) (trees_words (leaf Hole ∷ map hole_tree v.contexts))) (option_words future_items future_words v.future)

-- Lines

twelve : (a b c d e f g h i j k l : Items) → AreWords a → AreWords b → AreWords c → AreWords d → AreWords e → AreWords f → AreWords g → AreWords h → AreWords i → AreWords j → AreWords k → AreWords l
    → AreWords (a ++ b ++ c ++ d ++ e ++ f ++ g ++ h ++ i ++ j ++ k ++ l)
twelve a b c d e f g h i j k l wa wb wc wd we wf wg wh wi wj wk wl =
    both_words (a ++ b ++ c ++ d ++ e ++ f ++ g ++ h ++ i ++ j ++ k) l (both_words (a ++ b ++ c ++ d ++ e ++ f ++ g ++ h ++ i ++ j) k (both_words (a ++ b ++ c ++ d ++ e ++ f ++ g ++ h ++ i) j
    (both_words (a ++ b ++ c ++ d ++ e ++ f ++ g ++ h) i (both_words (a ++ b ++ c ++ d ++ e ++ f ++ g) h (both_words (a ++ b ++ c ++ d ++ e ++ f) g (both_words (a ++ b ++ c ++ d ++ e) f
    (both_words (a ++ b ++ c ++ d) e (both_words (a ++ b ++ c) d (both_words (a ++ b) c (both_words a b wa wb) wc) wd) we) wf) wg) wh) wi) wj) wk) wl

pub activity_words : (x : FrozenActivity) → AreWords (activity_items x)
activity_words x = twelve (name_items x.name) (number_items x.activity.reductions) (number_items x.activity.sends) (number_items x.activity.creations)
    (list_items output_items x.activity.lines) (list_items reception_items x.log) (list_items request_items x.queue) (option_items future_items x.activity.present)
    (list_items service_items x.activity.services) (running_items x.activity.term) (store_items x.activity.store) (number_items x.activity.active)
    (name_words x.name) (number_words x.activity.reductions) (number_words x.activity.sends) (number_words x.activity.creations)
    (list_words output_items output_words x.activity.lines) (list_words reception_items reception_words x.log) (list_words request_items request_words x.queue)
    (option_words future_items future_words x.activity.present) (list_words service_items service_words x.activity.services) (split_words (split x.activity.term)) (store_words x.activity.store) (number_words x.activity.active)

pub homes_words : (hs : List (FutureShape × Name)) → AreWords (list_items (pair_items future_items name_items) hs)
homes_words hs = list_words (pair_items future_items name_items) (λ h. both_words (future_items h.0) (name_items h.1) (future_words h.0) (name_words h.1)) hs

pub filled_words : (vs : List (FutureShape × ParcelShape)) → AreWords (list_items (pair_items future_items parcel_items) vs)
filled_words vs = list_words (pair_items future_items parcel_items) (λ v. both_words (future_items v.0) (parcel_items v.1) (future_words v.0) (parcel_words v.1)) vs
