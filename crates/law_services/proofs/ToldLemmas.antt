-- What no service can tell of two replays, by the data of both.
use Rattle.std.specs.Prelude.{◌≡◌, ◌&&◌, not, Bool, true, false, cond, List, [], ◌∷◌, map, filter}
use Rattle.std.specs.Bool.{Decides}
use Rattle.std.specs.Cmp.Derive.{both_true}
use Rattle.std.specs.List.{Contains, list_all}
use Rattle.std.proofs.Common.{refl, sym, ap, subst, ◌∙◌, get_or, ◌⊎◌, inl, inr}
use Rattle.std.proofs.lemmas.Bool.{and_parts, not_from_false}
use Rattle.std.proofs.lemmas.List.Elements.{All-contains, All-contains_itself}
use Rattle.std.proofs.lemmas.List.Sums.{AllPass-from_list_all, list_all-from_AllPass}
use Rattle.std.proofs.lemmas.Slice.Eq.{bytes_eq-Decides, slice_eq-Decides}
use Rattle.asp_model.specs.Names.{Name, Text, same_name, same_text}
use Rattle.asp_model.specs.Term.{Tree, has_text}
use Rattle.asp_model.specs.Configuration.{RequestShape, Configuration, requests_of}
use Rattle.asp_model.specs.Services.{ArrivalShape, ServicesShape}
use Rattle.asp_model.specs.Step.{ListsShape}
use Rattle.asp_model.specs.Replay.{CountsShape, replay}
use Rattle.law_chases.proofs.FutureLemmas.{none_true}
use Rattle.law_steps.proofs.NameLemmas.{name_itself, names_tied}
use Rattle.law_services.specs.Services.{arrival_of, has_one_of, arrivals_within, StoodAt, AreServedAlike, IsServedAlike}
use Rattle.law_services.specs.Told.{HaveSameTexts, IsKept, entry_at, with_labels, same_arrival, finds_same, AreSameServices, AreServicesOf, ServicesTell, ServicesTellAt, is_same_at}

pub arrivals_decided : (x y : ArrivalShape) → Decides (same_arrival x y) (x ≡ y)
arrivals_decided x y = (
  λ e.
      let p = and_parts (same_name x.sender y.sender) (same_text x.label y.label) e in
      let sender : x.sender ≡ y.sender = names_tied x.sender y.sender p.0 in
      let label : x.label ≡ y.label = (bytes_eq-Decides x.label y.label).0 p.1 in
      λ i. record { sender = sender i; label = label i },
  λ e. subst (λ z. same_arrival x z ≡ true) e (both_true (name_itself x.sender) ((bytes_eq-Decides x.label x.label).1 refl)),
)

finds_decided : (xs ys : List ArrivalShape) (labels : List Text) → Decides (finds_same xs ys labels) (with_labels labels xs ≡ with_labels labels ys)
finds_decided xs ys labels = slice_eq-Decides arrivals_decided (with_labels labels xs) (with_labels labels ys) (finds_same xs ys labels) refl

-- arrivals may be told apart before or behind the choice by labels
within_told : (labels : List Text) (rs : List RequestShape) → map arrival_of (filter (has_one_of labels) rs) ≡ with_labels labels (map arrival_of rs)
within_told labels [] = refl
within_told labels (r ∷ rs) = elim (has_one_of labels r) as (λ b. map arrival_of (cond b (r ∷ filter (has_one_of labels) rs) (filter (has_one_of labels) rs)) ≡ cond b (arrival_of r ∷ with_labels labels (map arrival_of rs)) (with_labels labels (map arrival_of rs))) [
  | true ↦ ap (λ l. arrival_of r ∷ l) (within_told labels rs)
  | false ↦ within_told labels rs
]

-- only which labels there are is looked at
with_same : (labels others : List Text) → HaveSameTexts labels others → (xs : List ArrivalShape) → with_labels labels xs ≡ with_labels others xs
with_same labels others same [] = refl
with_same labels others same (x ∷ xs) = λ i. cond (same x.label i) (x ∷ with_same labels others same xs i) (with_same labels others same xs i)

with_none : (labels : List Text) → labels ≡ [] → (xs : List ArrivalShape) → with_labels labels xs ≡ []
with_none labels e [] = refl
with_none labels e (x ∷ xs) = ap (λ ls. cond (has_text x.label ls) (x ∷ with_labels labels xs) (with_labels labels xs)) e ∙ with_none labels e xs

not_is : (b : Bool) → not b ≡ true → b ≡ false
not_is true e = none_true e
not_is false e = refl

module _ (program : Tree) (lists : ListsShape) (counts : CountsShape) (s : ServicesShape) (of : AreServicesOf program lists counts s) where
  abbrev end : Configuration
  end = replay program lists counts

  within_is : (n : Name) (labels : List Text) → arrivals_within labels end n ≡ with_labels labels (entry_at s n).arrivals
  within_is n labels = within_told labels (requests_of end n) ∙ sym (ap (with_labels labels) (of.arrivals n))

module _ (program : Tree) (lists : ListsShape) (counts : CountsShape) (others : ListsShape) (other_counts : CountsShape) (a b : ServicesShape)
    (x : AreServicesOf program lists counts a) (y : AreServicesOf program others other_counts b) where
  abbrev finds : Name → List Text → Bool
  finds n = finds_same (entry_at a n).arrivals (entry_at b n).arrivals

  abbrev rest : Name → Bool
  rest n = not (entry_at b n).polled && list_all (finds n) (entry_at a n).sets

  both_find : (n : Name) (labels : List Text) → list_all (finds n) (entry_at a n).sets ≡ true → IsKept (entry_at a n).sets labels → with_labels labels (entry_at a n).arrivals ≡ with_labels labels (entry_at b n).arrivals
  both_find n labels found (inl e) = with_none labels e (entry_at a n).arrivals ∙ sym (with_none labels e (entry_at b n).arrivals)
  both_find n labels found (inr k) =
      let one : finds n k.0 ≡ true = All-contains (λ l. finds n l ≡ true) (entry_at a n).sets k.0 (AllPass-from_list_all (finds n) (entry_at a n).sets found) k.1 in
      sym (with_same k.0 labels k.2 (entry_at a n).arrivals) ∙ (finds_decided (entry_at a n).arrivals (entry_at b n).arrivals k.0).0 one ∙ with_same k.0 labels k.2 (entry_at b n).arrivals

  served_at : (n : Name) → is_same_at a b n ≡ true → IsServedAlike program lists counts others other_counts n
  served_at n same =
      let first = and_parts (not (entry_at a n).polled) (rest n) same in
      let second = and_parts (not (entry_at b n).polled) (list_all (finds n) (entry_at a n).sets) first.1 in
      record {
        unpolled = sym (x.polled n) ∙ not_is (entry_at a n).polled first.0;
        unpolled_too = sym (y.polled n) ∙ not_is (entry_at b n).polled second.0;
        arrivals = λ labels stood. within_is program lists counts a x n labels ∙ both_find n labels second.1 (x.sets n labels stood) ∙ sym (within_is program others other_counts b y n labels);
      }

  same_at : (n : Name) → IsServedAlike program lists counts others other_counts n → is_same_at a b n ≡ true
  same_at n alike = both_true (not_from_false (entry_at a n).polled (x.polled n ∙ alike.unpolled)) (both_true (not_from_false (entry_at b n).polled (y.polled n ∙ alike.unpolled_too))
      (list_all-from_AllPass (finds n) (entry_at a n).sets (λ k d lt. each (get_or (entry_at a n).sets k d) (All-contains_itself (entry_at a n).sets k d lt))))
    where
      other : (labels : List Text) → (labels ≡ []) ⊎ StoodAt program lists counts n labels → with_labels labels (entry_at a n).arrivals ≡ with_labels labels (entry_at b n).arrivals
      other labels (inl e) = with_none labels e (entry_at a n).arrivals ∙ sym (with_none labels e (entry_at b n).arrivals)
      other labels (inr st) = sym (within_is program lists counts a x n labels) ∙ alike.arrivals labels st ∙ within_is program others other_counts b y n labels

      each : (labels : List Text) → Contains (entry_at a n).sets labels → finds n labels ≡ true
      each labels h =
          let k = x.stood n labels h in
          (finds_decided (entry_at a n).arrivals (entry_at b n).arrivals labels).1
          (with_same labels k.0 k.1 (entry_at a n).arrivals ∙ other k.0 k.2 ∙ sym (with_same labels k.0 k.1 (entry_at b n).arrivals))

  served_alike : AreSameServices a b → AreServedAlike program lists counts others other_counts
  served_alike same = record {
    unpolled = λ n. (served_at n (same n)).unpolled;
    unpolled_too = λ n. (served_at n (same n)).unpolled_too;
    arrivals = λ n labels stood. (served_at n (same n)).arrivals labels stood;
  }

  same_services : AreServedAlike program lists counts others other_counts → AreSameServices a b
  same_services alike n = same_at n (record { unpolled = alike.unpolled n; unpolled_too = alike.unpolled_too n; arrivals = λ labels stood. alike.arrivals n labels stood })

pub services_tell_at : ServicesTellAt
services_tell_at program lists counts others other_counts a b n x y = (served_at program lists counts others other_counts a b x y n, same_at program lists counts others other_counts a b x y n)

pub services_tell : ServicesTell
services_tell program lists counts others other_counts a b x y = (served_alike program lists counts others other_counts a b x y, same_services program lists counts others other_counts a b x y)
