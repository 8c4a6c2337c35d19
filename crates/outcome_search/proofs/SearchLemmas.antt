-- What the loops of the search keep, and one turn of each.
use Rattle.std.specs.Prelude.{◌≡◌, ◌<◌, ◌≤◌, ℕ, zero, suc, ◌+◌, List, [], ◌∷◌, ◌++◌, Option, Some, length, map, take}
use Rattle.std.proofs.Common.{refl, sym, ap, subst, ◌∙◌, arith, inl, slice_index_or, Result, Ok, Err, IfOk, length-append}
use Rattle.std.proofs.lemmas.List.{append-nil, length-map, map-append, take_more}
use Rattle.std.specs.Global.{Vec}
use Rattle.asp_model.specs.Names.{Name}
use Rattle.asp_model.specs.Term.{Tree}
use Rattle.asp_model.specs.Shapes.{lists_shape}
use Rattle.asp_model.specs.declared.outcome.Lists.{Lists}
use Rattle.asp_model.specs.declared.outcome.Reception.{Reception}
use Rattle.asp_model.specs.Step.{ListsShape}
use Rattle.law_families.specs.Families.{RunLogs, Has, IsWithin, IsComplete}
use Rattle.outcome_search.specs.declared.runs.EndedRun.{EndedRun}
use Rattle.outcome_search.specs.declared.runs.Stop.{Stop}
use Rattle.outcome_search.specs.declared.runs.Stop.TheVariants as stop
use Rattle.outcome_search.specs.Ends.{run_logs, AreReplayableEnds, IsEndFrom}
use Rattle.outcome_search.specs.Found.{AreFound, Grows, AreWithin, IsClosedAt, IsClosedIn, AreClosed, IfComplete}
use Rattle.outcome_search.proofs.LogLemmas.{row, rows_more}
use Rattle.outcome_search.proofs.GrownLemmas.{has_grown, has_last, grows_on, grows_by, ends_one_more, all_within_grown, within_more}
use Rattle.outcome_search.proofs.ClosedLemmas.{run_grown, logs_more, runs_grown, all_closed}

-- Answers

pub if_ok_more : {A E : Type 0} (r : Result A E) (P Q : A → Type 0) → ((x : A) → P x → Q x) → IfOk r P → IfOk r Q
if_ok_more (Ok x) P Q f h = f x h
if_ok_more (Err e) P Q f h = h

pub if_complete : (P Q : Type 0) → (P → Q) → (s : Stop) → IfComplete P s → IfComplete Q s
if_complete P Q f stop.Complete h = f h
if_complete P Q f stop.Most h = h
if_complete P Q f (stop.Unended lists) h = h

-- An end that is met

pub record Met (program : Tree) (most : ℕ) (old new : List RunLogs) (lists : ListsShape) : Type 0 where
  pub found : AreFound program most new
  pub grows : Grows old new
  pub within : IsWithin new lists

pub met : (program : Tree) (most : ℕ) (old new : List EndedRun) (e : EndedRun) (lists : ListsShape) (o : Option EndedRun) → AreFound program most (map run_logs old) → suc (length old) ≤ most → (IsWithin (map run_logs old) lists → ⊥) → IsEndFrom program lists o → o ≡ Some e → new ≡ old ++ e ∷ [] → Met program most (map run_logs old) (map run_logs new) lists
met program most old new e lists o found room none end is items =
    let x = run_logs e in
    let p : map run_logs new ≡ map run_logs old ++ x ∷ [] = ap (map run_logs) items ∙ map-append run_logs old (e ∷ []) in
    let f : IsEndFrom program lists (Some e) = subst (IsEndFrom program lists) is end in
    let len : length (map run_logs old ++ x ∷ []) ≤ most = omega (arith, room, length-map old run_logs, length-append (map run_logs old) (x ∷ [])) in
    record {
      found = subst (AreFound program most) (sym p) (record { ends = ends_one_more program (map run_logs old) x found.ends f.0; room = len });
      grows = subst (Grows (map run_logs old)) (sym p) (grows_by (map run_logs old) x (λ h. none (x, h, f.1)));
      within = (x, subst (λ l. Has l x) (sym p) (has_last (map run_logs old) x), f.1);
    }

-- What the loops keep

pub record Meeting (program : Tree) (most : ℕ) (old now : List RunLogs) (done : List ListsShape) : Type 0 where
  pub found : AreFound program most now
  pub grows : Grows old now
  pub within : AreWithin now done

pub record Listing (program : Tree) (most : ℕ) (old now : List RunLogs) (x : RunLogs) (done : ListsShape) : Type 0 where
  pub found : AreFound program most now
  pub grows : Grows old now
  pub closed : IsClosedIn program now x done

pub record Closing (program : Tree) (most : ℕ) (old now : List RunLogs) (done : ℕ) : Type 0 where
  pub found : AreFound program most now
  pub grows : Grows old now
  pub closed : AreClosed program now (take done now)

-- One turn of each loop

pub meeting : (program : Tree) (most : ℕ) (old now new : List RunLogs) (offers : List Lists) (k : ℕ) (l : Lists) → k < length offers → l ≡ slice_index_or offers k l → Meeting program most old now (map lists_shape (take k offers)) → AreFound program most new → Grows now new → IsWithin new (lists_shape l) → Meeting program most old new (map lists_shape (take (k + 1) offers))
meeting program most old now new offers k l lt is m found grows within =
    let p : take (k + 1) offers ≡ take k offers ++ l ∷ [] = take_more offers k l lt ∙ ap (λ z. take k offers ++ z ∷ []) (sym is) in
    let q : map lists_shape (take (k + 1) offers) ≡ map lists_shape (take k offers) ++ lists_shape l ∷ [] = ap (map lists_shape) p ∙ map-append lists_shape (take k offers) (l ∷ []) in
    record {
      found = found;
      grows = grows_on old now new m.grows grows;
      within = subst (AreWithin new) (sym q) (within_more new (map lists_shape (take k offers)) (lists_shape l ∷ []) (all_within_grown now new (map lists_shape (take k offers)) grows m.within) (within, tt));
    }

pub listing : (program : Tree) (most : ℕ) (old now new : List RunLogs) (x : RunLogs) (rows : List (Name × Vec Reception)) (k : ℕ) (l : Name × Vec Reception) → k < length rows → l ≡ slice_index_or rows k l → Listing program most old now x (map row (take k rows)) → AreFound program most new → Grows now new → IsClosedAt program new x l.0 → Listing program most old new x (map row (take (k + 1) rows))
listing program most old now new x rows k l lt is m found grows closed = record {
  found = found;
  grows = grows_on old now new m.grows grows;
  closed = subst (IsClosedIn program new x) (sym (rows_more rows k l lt is)) (logs_more program new x (map row (take k rows)) (row l ∷ []) (run_grown program now new x (map row (take k rows)) grows m.closed) (closed, tt));
}

none_closed : (program : Tree) (ends xs : List RunLogs) → AreClosed program ends (take zero xs)
none_closed program ends [] = tt
none_closed program ends (x ∷ xs) = tt

pub begun : (program : Tree) (most : ℕ) (ends : List RunLogs) → AreFound program most ends → Grows ends ends → Closing program most ends ends zero
begun program most ends found grows = record { found = found; grows = grows; closed = none_closed program ends ends }

closed_next : (program : Tree) (ends : List RunLogs) (now : List EndedRun) (more : List RunLogs) (k : ℕ) (e y : EndedRun) → k < length now → e ≡ slice_index_or now k y → AreClosed program ends (take k (map run_logs now)) → IsClosedIn program ends (run_logs e) (run_logs e).0 → AreClosed program ends (take (suc k) (map run_logs now ++ more))
closed_next program ends [] more k e y lt is c d = absurd (omega (arith, lt))
closed_next program ends (z ∷ zs) more zero e y lt is c d = (subst (λ w. IsClosedIn program ends (run_logs w) (run_logs w).0) is d, none_closed program ends (map run_logs zs ++ more))
closed_next program ends (z ∷ zs) more (suc k) e y lt is c d = (c.0, closed_next program ends zs more k e y (omega (arith, lt)) is c.1 d)

pub closing : (program : Tree) (most : ℕ) (old new : List RunLogs) (now : List EndedRun) (k : ℕ) (e y : EndedRun) → k < length now → e ≡ slice_index_or now k y → Closing program most old (map run_logs now) k → AreFound program most new → Grows (map run_logs now) new → IsClosedIn program new (run_logs e) (run_logs e).0 → Closing program most old new (k + 1)
closing program most old new now k e y lt is m found grows closed = let p : suc k ≡ k + 1 = omega arith in record {
  found = found;
  grows = grows_on old (map run_logs now) new m.grows grows;
  closed = subst (λ j. AreClosed program new (take j new)) p (subst (λ l. AreClosed program new (take (suc k) l)) grows.is (closed_next program new now grows.more k e y lt is (runs_grown program (map run_logs now) new (take k (map run_logs now)) grows m.closed) closed));
}

closed_whole : (program : Tree) (ends xs : List RunLogs) (k : ℕ) → length xs ≤ k → AreClosed program ends (take k xs) → AreClosed program ends xs
closed_whole program ends [] k le c = tt
closed_whole program ends (x ∷ xs) zero le c = absurd (omega (arith, le))
closed_whole program ends (x ∷ xs) (suc k) le c = (c.0, closed_whole program ends xs k (omega (arith, le)) c.1)

-- all is closed where as many are done as there are
pub closed : (program : Tree) (most : ℕ) (old now : List RunLogs) (k : ℕ) → length now ≤ k → Closing program most old now k → AreClosed program now now
closed program most old now k le m = closed_whole program now now k le m.closed

pub complete : (program : Tree) (first ends : List RunLogs) (x : RunLogs) → Has first x → AreReplayableEnds program ends → Grows first ends → AreClosed program ends ends → IsComplete program ends
complete program first ends x has all grows closed = record {
  one = x;
  has = has_grown first ends x grows has;
  ended = λ y h. (all y h).0;
  closed = all_closed program ends closed;
}

-- Given ends

empty_of : (xs : List RunLogs) → length xs ≡ 0 → xs ≡ []
empty_of [] h = refl
empty_of (x ∷ xs) h = absurd (omega (arith, h))

-- where there is no room none is added
pub none_added : (old new : List RunLogs) → Grows old new → length new ≤ length old → new ≡ old
none_added old new g le =
    let h : length new ≡ length (old ++ g.more) = ap length (sym g.is) in
    sym g.is ∙ ap (λ m. old ++ m) (empty_of g.more (omega (arith, h, length-append old g.more, le))) ∙ append-nil old

pub one_of : (xs : List EndedRun) → (length xs ≡ 0 → ⊥) → (x : RunLogs) × Has (map run_logs xs) x
one_of [] some = absurd (some refl)
one_of (x ∷ xs) some = (run_logs x, inl refl)
