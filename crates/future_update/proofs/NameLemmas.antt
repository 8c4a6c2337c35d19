-- Activities by their numbers, as an index set finds them.
use Rattle.std.proofs.Common.{◌≡◌, ℕ, zero, suc, ◌+◌, ◌<◌, Bool, true, false, List, [], ◌∷◌, ◌++◌, Some, length, refl, sym, ap, ◌∙◌, subst, T, arith, length-append}
use Rattle.std.specs.Prelude.{◌||◌, if◌then◌else◌, position, slice_get, unwrap_or}
use Rattle.std.proofs.lemmas.List.{get_or_push}
use Rattle.std.proofs.lemmas.Option.{slice_get-get_or, slice_get_within}
use Rattle.std.specs.List.{list_any}
use Rattle.std.proofs.lemmas.List.Quantifiers.{position-Some}
use Rattle.std.proofs.lemmas.List.Folds.{list_any_at}
use Rattle.std.proofs.lemmas.Cmp.{eq_by_cmp_equiv}
use Rattle.std.specs.Cmp.Lexicographic.{nat_list_cmp_total}
use Rattle.asp_model.specs.Names.{FutureShape, Name, same_name}
use Rattle.asp_model.specs.Order.{same_name_same}
use Rattle.future_update.specs.Names.{IsFutureOf, IsNew, IsNumberOf, Keeps, name_of}

pub clash : {b : Bool} {C : Type 0} → b ≡ true → b ≡ false → C
clash e d = absurd (subst T (sym e ∙ d) tt)

pub name_itself : (n : Name) → same_name n n ≡ true
name_itself n = (eq_by_cmp_equiv nat_list_cmp_total).refl n

pub new_absent : (ns : List Name) (n : Name) → IsNew ns n → list_any (same_name n) ns ≡ false
new_absent [] n new = refl
new_absent (m ∷ ms) n new = both (same_name n m) (list_any (same_name n) ms) refl (new_absent ms n (λ k lt e. new (suc k) (omega (arith, lt)) e))
  where
    both : (a b : Bool) → same_name n m ≡ a → b ≡ false → (a || b) ≡ false
    both true b e h = absurd (new zero (omega arith) (sym (same_name_same n m e)))
    both false b e h = h

pub found_at : (ns : List Name) (n : Name) (k : ℕ) → position (same_name n) ns ≡ Some k → IsNumberOf ns n k
found_at ns n k e = let h = position-Some (same_name n) ns k [] e in (h.0, sym (same_name_same n (name_of ns k) h.1))

pub absent_new : (ns : List Name) (n : Name) → list_any (same_name n) ns ≡ false → IsNew ns n
absent_new ns n absent k lt e = clash (list_any_at (same_name n) ns k [] lt (ap (same_name n) e ∙ name_itself n)) absent

pub added : (ns ms : List Name) (n m : Name) → m ≡ n → IsNew ns n → ms ≡ (if list_any (same_name m) ns then ns else ns ++ m ∷ []) → IsNumberOf ms n (length ns)
added ns ms n m same new keys =
    let absent : list_any (same_name m) ns ≡ false = ap (λ x. list_any (same_name x) ns) same ∙ new_absent ns n new in
    let appended : ms ≡ ns ++ m ∷ [] = keys ∙ ap (λ b. if b then ns else (ns ++ m ∷ [])) absent in
    let long : length (ns ++ m ∷ []) ≡ length ns + 1 = length-append ns (m ∷ []) in
    (subst (λ xs. length ns < length xs) (sym appended) (omega (arith, long)), ap (λ xs. name_of xs (length ns)) appended ∙ get_or_push ns m [] (length ns) refl ∙ same)

pub named_at : (ns : List Name) (n m : Name) (k : ℕ) → slice_get ns k ≡ Some m → same_name m n ≡ true → IsNumberOf ns n k
named_at ns n m k e same =
    let within : k < length ns = slice_get_within ns k m e in
    (within, ap (λ o. unwrap_or o m) (sym (slice_get-get_or ns k [] within) ∙ e) ∙ same_name_same m n same)

-- what stays of some activities stays of those before

pub keeps_then : (ns ms ls : List Name) → Keeps ns ms → Keeps ms ls → Keeps ns ls
keeps_then ns ms ls first next = record {
  more = omega (arith, first.more, next.more);
  same = λ k lt. next.same k (omega (arith, lt, first.more)) ∙ first.same k lt;
}

pub number_kept : (ns ms : List Name) (n : Name) (k : ℕ) → Keeps ns ms → IsNumberOf ns n k → IsNumberOf ms n k
number_kept ns ms n k keeps is = (omega (arith, is.0, keeps.more), keeps.same k is.0 ∙ is.1)

pub future_numbered : (ns : List Name) (f : FutureShape) (k : ℕ) → IsNumberOf ns f.by k → IsFutureOf ns f (record { by = k; index = f.index })
future_numbered ns f k is = (is.0, λ i. record { by = is.1 i; index = f.index })
