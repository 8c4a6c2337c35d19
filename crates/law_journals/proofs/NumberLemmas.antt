-- Entries keep the numbers of activities.
use Rattle.std.proofs.Common.{◌≡◌, ◌∷◌, ◌++◌, [], ℕ, suc, arith, true, false, Bool, cond, List, Option, Some, None, is_none, is_some, map, refl, sym, ap, subst, ◌∙◌, inl, ⊎_elim}
use Rattle.std.specs.FinMap.{find}
use Rattle.asp_model.specs.Names.{Name, name_cmp, main_name, same_name}
use Rattle.asp_model.specs.Configuration.{Activity, Configuration}
use Rattle.asp_model.specs.Configuration.{begun as begins}
use Rattle.asp_model.specs.Term.{Tree}
use Rattle.asp_model.specs.Step.{name_at}
use Rattle.asp_model.specs.History.{Edge, Need, EntryShape, HistoryShape, Lent, Committed, Delivered}
use Rattle.asp_model.specs.Store.{Object}
use Rattle.def_journals.specs.Journals.{RunShape, all_entered, begun, first_in, first_run, newcomers, run_from, start_of}
use Rattle.law_journals.proofs.GrowLemmas.{Grows, grows_itself, grows_then, move_grows}
use Rattle.law_journals.proofs.JournalLemmas.{Done, entry_done, entry_keeps, first_entered, reduced_keeps}
use Rattle.law_steps.specs.Reached.{IsThere, Makes, Move}
use Rattle.law_steps.specs.Sound.{IsSound}
use Rattle.law_steps.proofs.DeliveryLemmas.{edge_done, need_done, same_there}
use Rattle.law_steps.proofs.EntryLemmas.{In, entry_found, found_entry}
use Rattle.law_steps.proofs.NameLemmas.{is_there, name_itself, names_tied}
use Rattle.law_chases.proofs.FutureLemmas.{none_true, some_is}
use Rattle.law_steps.proofs.WholeLemmas.{moves_keep_sound, start_is_sound}
use Rattle.law_journals.specs.Numbered.{AreNumbered, EntriesKeepNumbers, HistoriesAreNumbered, IsFirst, StartIsFirst}
use Rattle.law_journals.proofs.NameListLemmas.{AreApart, apart_both, apart_passed, entry_of, in_back, in_both, in_front, in_numbered, in_passed, name_in, names_apart_in, numbered_in, one_number, passed_in}

-- the same in terms of lists
pub record AreNamed (s : RunShape) : Type 0 where
  pub apart : AreApart s.names
  pub there : (n : Name) → In n s.names → IsThere s.configuration n
  pub named : (n : Name) → IsThere s.configuration n → In n s.names

pub numbered_by : (s : RunShape) → AreNamed s → AreNumbered s
numbered_by s h = record {
  apart = one_number s.names h.apart;
  there = λ k n is. h.there n (numbered_in s.names k n is);
  numbered = λ n t. in_numbered s.names n (h.named n t);
}

-- no list of names has one twice, where nobody has two numbers
apart_from : (ns : List Name) → ((i k : ℕ) (n : Name) → name_at ns i ≡ Some n → name_at ns k ≡ Some n → i ≡ k) → AreApart ns
apart_from [] h = tt
apart_from (n ∷ ns) h = (
  λ i. let k = in_numbered ns n i in zero_apart k.0 (h 0 (suc k.0) n refl k.1),
  apart_from ns (λ i k m a b. one_less i k (h (suc i) (suc k) m a b)),
)
  where
    zero_apart : (k : ℕ) → 0 ≡ suc k → ⊥
    zero_apart k e = cc

    one_less : (i k : ℕ) → suc i ≡ suc k → i ≡ k
    one_less i k e = omega (arith, e)

pub named_by : (s : RunShape) → AreNumbered s → AreNamed s
named_by s h = record {
  apart = apart_from s.names h.apart;
  there = λ n i. let k = in_numbered s.names n i in h.there k.0 n k.1;
  named = λ n t. let k = h.numbered n t in numbered_in s.names k.0 n k.1;
}

-- Entries

-- the same are there
same_named : (s : RunShape) (d : Configuration) → ((n : Name) → is_some (find name_cmp n d.activities) ≡ is_some (find name_cmp n s.configuration.activities)) → AreNamed s → AreNamed (record s { configuration = d })
same_named s d same h = record { apart = h.apart; there = λ n i. same n ∙ h.there n i; named = λ n t. h.named n (sym (same n) ∙ t) }

abbrev not_there : Configuration → Name → Bool
not_there c m = is_none (find name_cmp m c.activities)

none_there : (o : Option Activity) → is_none o ≡ true → is_some o ≡ true → ⊥
none_there None p q = none_true q
none_there (Some a) p q = none_true p

-- those who come are named behind the others
module _ (s : RunShape) (d : Configuration) (sound : IsSound d) (grows : Grows s.configuration d) (h : AreNamed s) where
  abbrev all : List Name
  all = map (λ x. x.0) d.activities

  abbrev new : List Name
  new = newcomers s.configuration d

  new_there : (n : Name) → In n new → IsThere d n
  new_there n i =
      let e = entry_of d.activities n (passed_in (not_there s.configuration) all n i).0 in
      ap is_some (ap (λ m. find name_cmp m d.activities) (sym e.2) ∙ entry_found d.activities e.0 sound.ordered.activities e.1)

  named_there : (n : Name) → IsThere d n → In n (s.names ++ new)
  named_there n t = elim (is_some (find name_cmp n s.configuration.activities)) as (λ b. is_some (find name_cmp n s.configuration.activities) ≡ b → In n (s.names ++ new)) [
    | true ↦ λ was. in_front s.names new n (h.named n was)
    | false ↦ λ not.
        let a = is_there (find name_cmp n d.activities) t in
        let e = found_entry d.activities n a.0 a.1 in
        in_back s.names new n (in_passed (not_there s.configuration) all n (subst (λ m. In m all) e.2 (name_in d.activities e.0 e.1)) (none_is (find name_cmp n s.configuration.activities) not))
  ] refl
    where
      none_is : (o : Option Activity) → is_some o ≡ false → is_none o ≡ true
      none_is None p = refl
      none_is (Some a) p = none_true (sym p)

  pub come_named : (left : ℕ) (out : List (ℕ × ℕ)) → AreNamed (record { configuration = d; names = s.names ++ new; left = left; out = out })
  come_named left out = record {
    apart = apart_both s.names new h.apart (apart_passed (not_there s.configuration) all (names_apart_in d.activities sound.ordered.activities)) (λ n i j. none_there (find name_cmp n s.configuration.activities) (passed_in (not_there s.configuration) all n j).1 (h.there n i));
    there = λ n i. ⊎_elim (λ j. grows.there n (h.there n j)) (λ j. new_there n j) (in_both s.names new n i);
    named = named_there;
  }

-- what steps keep, and whom they add
abbrev GoesOn : Configuration → Configuration → Type 0
GoesOn c d = IsSound d × Grows c d

goes_on : (c : Configuration) (move : Move) (d e : Configuration) → GoesOn c d → Makes move d e → GoesOn c e
goes_on c move d e h m = (moves_keep_sound move d e h.0 m, grows_then c d e h.1 (move_grows move d e h.0 m))

pub entry_named : (x : EntryShape) (s t : RunShape) → Done x s t → IsSound s.configuration → AreNamed s → AreNamed t
entry_named (Lent k) s t x sound h = subst AreNamed (sym x.result) (record { apart = h.apart; there = h.there; named = h.named })
entry_named (Committed k r) s t x sound h =
    let on = reduced_keeps (GoesOn s.configuration) (λ move c d. goes_on s.configuration move c d) r x.name s.configuration x.end x.reduces (sound, grows_itself s.configuration) in
    subst AreNamed (some_is x.result) (come_named s x.end on.0 on.1 h _ _)
entry_named (Delivered (Edge f from to)) s t x sound h =
    let y = edge_done s.configuration f to x.end x.delivers in
    subst AreNamed (sym x.result) (same_named s x.end (λ n. ap (λ z. is_some (find name_cmp n z.activities)) y.result ∙ same_there s.configuration to y.receiver _ y.at n) h)
entry_named (Delivered (Need f to place)) s t x sound h =
    let y = need_done s.configuration f to place x.end x.delivers in
    subst AreNamed (sym x.result) (same_named s x.end (λ n. ap (λ z. is_some (find name_cmp n z.activities)) y.result ∙ same_there s.configuration to y.receiver _ y.at n) h)

pub entries_named : (entries : List EntryShape) (s t : RunShape) → all_entered entries s ≡ Some t → IsSound s.configuration → AreNamed s → AreNamed t
entries_named [] s t e sound h = subst AreNamed (some_is e) h
entries_named (x ∷ entries) s t e sound h =
    let u = first_entered x entries s t e in
    let done = entry_done x s u.0 u.1 in
    entries_named entries u.0 t u.2 (entry_keeps IsSound moves_keep_sound x s u.0 done sound) (entry_named x s u.0 done sound h)

only_main : (n : Name) (a : Activity) → is_some (find name_cmp n ((main_name, a) ∷ [])) ≡ true → n ≡ main_name
only_main n a t = by (same_name n main_name) refl t
  where
    by : (b : Bool) → same_name n main_name ≡ b → is_some (cond b (Some a) None) ≡ true → n ≡ main_name
    by true e h = names_tied n main_name e
    by false e h = none_true h

begun_named : (program : Tree) (budget : ℕ) → AreNamed (begun program budget)
begun_named program budget =
    let main : Activity = begins program (Object [] [] ∷ []) in
    record {
      apart = (λ i. i, tt);
      there = λ n i. ⊎_elim (λ e. ap (λ m. is_some (find name_cmp m ((main_name, main) ∷ []))) e ∙ ap (λ b. is_some (cond b (Some main) None)) (name_itself main_name)) (λ j. absurd j) i;
      named = λ n t. inl (only_main n main t);
    }

pub entries_keep_numbers : EntriesKeepNumbers
entries_keep_numbers entries s t e sound h = numbered_by t (entries_named entries s t e sound (named_by s h))

-- the run of a history before its entries
pub first_named : (h : HistoryShape) → IsFirst (first_in h) → AreNamed (first_run h)
first_named h f = named_by (first_run h) (record { apart = f.numbered.apart; there = f.numbered.there; numbered = f.numbered.numbered })

pub start_is_first : StartIsFirst
start_is_first program = record { sound = start_is_sound program; numbered = numbered_by (run_from (start_of program) 0) (begun_named program 0) }

pub histories_are_numbered : HistoriesAreNumbered
histories_are_numbered h s first e = numbered_by s (entries_named h.entries (first_run h) s e first.sound (first_named h first))
