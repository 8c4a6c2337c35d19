-- What was asked of a source, in one call and in two.
use Rattle.std.proofs.Common.{◌≡◌, ℕ, ◌<◌, ◌≤◌, suc, List, [], ◌∷◌, ◌++◌, length, Option, Some, None, Result, Ok, Err, true, false, refl, sym, ap, subst, ◌∙◌, append_assoc, arith}
use Rattle.std.specs.Prelude.{is_ok}
use Rattle.std.proofs.lemmas.List.{append-nil, append_cancel_left}
use Rattle.asp_edge.specs.Told.{Asks, SourceTells}
use Rattle.asp_edge.specs.Causes.{Rose, IsContent, IsLonger, FailedOnly}
use Rattle.asp_edge.specs.declared.edge.ReadError.{ReadError}
use Rattle.asp_edge.specs.declared.edge.ReadError.TheVariants.{Failed, TooLong, Memory}
use Rattle.asp_top.specs.Seen.{Outside, Asked, Gave, Rises, ReadFails, IsLong, IsLongContent, outside_between}
use Rattle.asp_top.specs.Programs.{IsFile, AsksInTurn}
use Rattle.asp_top.specs.Stops.{AsksOnce}

-- equal lists have one entry at a place

entry_at : {X : Type 0} (front back others more : List X) (x y : X) → length front ≡ length others → front ++ x ∷ back ≡ others ++ y ∷ more → x ≡ y
entry_at [] back [] more x y l e = cc
entry_at [] back (z ∷ others) more x y l e = absurd (omega (arith, l))
entry_at (z ∷ front) back [] more x y l e = absurd (omega (arith, l))
entry_at (z ∷ front) back (w ∷ others) more x y l e =
    let tails : front ++ x ∷ back ≡ others ++ y ∷ more = cc in
    entry_at front back others more x y (omega (arith, l)) tails

-- one place has one answer
pub one_answer : (o : Outside) (place : ℕ) (name other : List ℕ) (a b : Result (List ℕ) ReadError) → Gave o place name a → Gave o place other b → a ≡ b
one_answer o place name other a b g h =
    let rest = append_cancel_left o.asked_before (g.front ++ (name, a) ∷ g.back) (h.front ++ (other, b) ∷ h.back) (sym g.asked ∙ h.asked) in
    ap (λ (x : List ℕ × Result (List ℕ) ReadError). x.1) (entry_at g.front g.back h.front h.back (name, a) (other, b) (g.at ∙ sym h.at) rest)

-- the one answer
pub gave_at : (o : Outside) (name : List ℕ) (answer : Result (List ℕ) ReadError) → Asked o ((name, answer) ∷ []) → Gave o 0 name answer
gave_at o name answer h = record { front = []; back = []; at = refl; asked = h }

pub first_file : (o : Outside) (name : List ℕ) (most : ℕ) (bytes : List ℕ) → Asked o ((name, Ok bytes) ∷ []) → IsContent (o.content name) bytes → length bytes ≤ most → IsFile o 0 name most bytes
first_file o name most bytes asked told within = record { gave = gave_at o name (Ok bytes) asked; told = told; within = within }

pub first_fails : (o : Outside) (name : List ℕ) (e : ReadError) → e ≡ Failed → Asked o ((name, Err e) ∷ []) → FailedOnly (Rises o.faults) e → ReadFails o 0 name
first_fails o name Failed h asked rises = record { gave = gave_at o name (Err Failed) asked; rises = rises }
first_fails o name (TooLong taken) h asked rises = absurd cc
first_fails o name Memory h asked rises = absurd cc

-- more bytes than the most were taken
long_content : (content : Option (List ℕ)) (most taken : ℕ) → IsLonger content most (TooLong taken) → (most < taken) × IsLongContent most content
long_content None most taken h = (h, tt)
long_content (Some bytes) most taken h = (h.0, omega (arith, h.0, h.1))

pub first_long : (o : Outside) (name : List ℕ) (most : ℕ) (e : ReadError) (taken : ℕ) → e ≡ TooLong taken → Asked o ((name, Err e) ∷ []) → IsLonger (o.content name) most e → IsLong o 0 name most
first_long o name most Failed taken h asked more = absurd cc
first_long o name most (TooLong count) taken h asked more =
    let l = long_content (o.content name) most count more in
    record { taken = count; beyond = l.0; gave = gave_at o name (Err (TooLong count)) asked; content = l.1 }
first_long o name most Memory taken h asked more = absurd cc

pub in_turn_none : (o : Outside) (names : List (List ℕ)) → o.asked ≡ o.asked_before → AsksInTurn o names
in_turn_none o names e = record { asks = []; asked = e ∙ sym (append-nil o.asked_before); turn = tt }

pub in_turn_once : (o : Outside) (name : List ℕ) (names : List (List ℕ)) → AsksOnce o name → AsksInTurn o (name ∷ names)
in_turn_once o name names h = record { asks = (name, h.answer) ∷ []; asked = h.asked; turn = (refl, tt, λ no. refl) }

-- a count that rose after it had not fallen
rose_later : (a b c : ℕ) → a ≤ b → Rose b c → Rose a c
rose_later a b c h r = omega (arith, h, r)

-- a read of one file, and then of others
module _ {S : Type 0} (told : S → SourceTells) (first middle last : S) (file : List ℕ) (names : List (List ℕ))
    (one : AsksOnce (outside_between told first middle) file) (two : AsksInTurn (outside_between told middle last) names) where
  abbrev before : Outside
  before = outside_between told first middle

  abbrev behind : Outside
  behind = outside_between told middle last

  abbrev whole : Outside
  whole = outside_between told first last

  asked_then : (asks more : Asks) → Asked before asks → Asked behind more → Asked whole (asks ++ more)
  asked_then asks more h g = g ∙ ap (λ (l : Asks). l ++ more) h ∙ append_assoc (told first).asked asks more

  pub gave_first : (place : ℕ) (name : List ℕ) (a : Result (List ℕ) ReadError) → Gave before place name a → Gave whole place name a
  gave_first place name a g = record {
    front = g.front;
    back = g.back ++ two.asks;
    at = g.at;
    asked = asked_then (g.front ++ (name, a) ∷ g.back) two.asks g.asked two.asked
        ∙ ap (λ (l : Asks). (told first).asked ++ l) (append_assoc g.front ((name, a) ∷ g.back) two.asks);
  }

  pub gave_later : (place : ℕ) (name : List ℕ) (a : Result (List ℕ) ReadError) → Gave behind place name a → Gave whole (suc place) name a
  gave_later place name a g = record {
    front = (file, one.answer) ∷ g.front;
    back = g.back;
    at = ap suc g.at;
    asked = asked_then ((file, one.answer) ∷ []) (g.front ++ (name, a) ∷ g.back) one.asked g.asked;
  }

  pub fails_later : (place : ℕ) (name : List ℕ) → (told first).faults ≤ (told middle).faults → ReadFails behind place name → ReadFails whole (suc place) name
  fails_later place name later h = record {
    gave = gave_later place name _ h.gave;
    rises = rose_later (told first).faults (told middle).faults (told last).faults later h.rises;
  }

  pub long_later : (place : ℕ) (name : List ℕ) (most : ℕ) → (told middle).content ≡ (told first).content → IsLong behind place name most → IsLong whole (suc place) name most
  long_later place name most same h = record {
    taken = h.taken;
    beyond = h.beyond;
    gave = gave_later place name _ h.gave;
    content = subst (λ (k : List ℕ → Option (List ℕ)). IsLongContent most (k name)) same h.content;
  }

  -- where the first had its bytes, all are in turn
  pub in_turn_then : (bytes : List ℕ) → Gave before 0 file (Ok bytes) → AsksInTurn whole (file ∷ names)
  in_turn_then bytes g =
      let e : one.answer ≡ Ok bytes = one_answer before 0 file file one.answer (Ok bytes) (gave_at before file one.answer one.asked) g in
      record {
        asks = (file, one.answer) ∷ two.asks;
        asked = asked_then ((file, one.answer) ∷ []) two.asks one.asked two.asked;
        turn = (refl, two.turn, λ no. let bad : true ≡ false = sym (ap is_ok e) ∙ no in absurd cc);
      }
