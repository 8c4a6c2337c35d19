-- What a program that was read and checked reaches is closed in every sense, and so has no broken redex and asks for
-- no operand that is unpacked.
use Rattle.std.specs.Prelude.{◌≡◌, ◌≢◌, ℕ, ◌++◌, List, [], ◌∷◌, Option, Some, None, length}
use Rattle.std.proofs.Common.{sym, ap, subst}
use Rattle.law_steps.specs.Systems.{Leads}
use Rattle.asp_model.specs.Names.{Name}
use Rattle.asp_model.specs.Term.{own_locations, locations_below}
use Rattle.asp_model.specs.Marked.{plain}
use Rattle.asp_model.specs.Split.{Context, Redex, Splits, split}
use Rattle.asp_model.specs.Store.{Store}
use Rattle.asp_model.specs.Contraction.{Needs, Breaks, contract, row, first_future, strict_operands, strict_members}
use Rattle.asp_model.specs.Chase.{chase}
use Rattle.asp_model.specs.Configuration.{Activity, Configuration, start}
use Rattle.asp_model.specs.Intent.{Reads, redex_ready}
use Rattle.asp_check.proofs.PlaceLemmas.{readable_has_no_places}
use Rattle.law_steps.specs.Reached.{Move, Makes, IsAt}
use Rattle.law_steps.specs.Closed.{AreBelow, SplitBelow}
use Rattle.law_steps.proofs.ClosedLaws.{closed_start, move_closed}
use Rattle.law_chases.proofs.ChaseLemmas.{chase_finds}
use Rattle.law_steps.proofs.PlacesLemmas.{front, back, split_is_below}
use Rattle.law_programs.specs.Programs.{IsWhole, ProgramsAreProper, StartIsWhole, MovesKeepWhole, ReachedAreWhole}
use Rattle.law_programs.proofs.TermLemmas.{ProperSplit, IsProperRedex, split_proper}
use Rattle.law_programs.proofs.RowLemmas.{Fits, Goes, redex_fits, contract_goes}
use Rattle.law_programs.proofs.ReadyLemmas.{AllGiven, AsksNone, redex_asks_none}
use Rattle.law_programs.proofs.ReachedLemmas.{start_proper, move_proper}
use Rattle.law_programs.proofs.CheckLemmas.{program_proper}

pub programs_are_proper : ProgramsAreProper
programs_are_proper program h = program_proper program h.readable h.checked

pub start_is_whole : StartIsWhole
start_is_whole program h = record {
  places = closed_start (plain program) (readable_has_no_places (plain program) h.readable);
  terms = start_proper (plain program) (programs_are_proper program h);
}

pub moves_keep_whole : MovesKeepWhole
moves_keep_whole move c d h makes = record { places = move_closed move c d makes h.places; terms = move_proper move c d makes h.terms }

moves_whole : (moves : List Move) (c d : Configuration) → Leads Makes c moves d → IsWhole c → IsWhole d
moves_whole [] c d r h = subst IsWhole r h
moves_whole (m ∷ moves) c d r h = moves_whole moves r.0 d r.2 (moves_keep_whole m c r.0 h r.1)

pub reached_are_whole : ReachedAreWhole
reached_are_whole program c h reached = moves_whole reached.moves (start (plain program)) c reached.run (start_is_whole program h)

-- Redexes of an activity of a whole configuration

module _ (c : Configuration) (h : IsWhole c) (n : Name) (a : Activity) (at : IsAt c n a) (contexts : List Context) (redex : Redex) (is : split a.term ≡ Splits contexts redex) where
  found_redex : IsProperRedex redex
  found_redex = let x : ProperSplit (Splits contexts redex) = subst ProperSplit is (split_proper a.term (h.terms.activities n a at).term) in x.1

  pub not_broken : (s : Store) → contract s redex ≢ Breaks
  not_broken s e = subst (Goes s) e (contract_goes s redex found_redex)

  places_below : AreBelow (length a.store) redex.places
  places_below =
      let k : ℕ = length a.store in
      let x : SplitBelow k (Splits contexts redex) = subst (SplitBelow k) is (split_is_below k a.term (h.places.activities n a at).term) in
      front k redex.places (locations_below redex.behind) (back k (own_locations redex.head) (redex.places ++ locations_below redex.behind) x.1)

  all_given : AllGiven (chase c.futures)
  all_given f y p e =
      let found = chase_finds c.futures f y p e in
      let value = h.places.values y p found.0 in
      let roots : AreBelow (length p.cells) (0 ∷ []) = subst (AreBelow (length p.cells)) value.root value.closed.roots in
      record { cells = value.closed.cells; first = roots.0; none = found.1 }

  -- a store in which the redex is read has none of its operands as a future
  none_asked : (s : Store) → redex_ready (chase c.futures) a.store redex ≡ Reads s → first_future s (strict_operands redex.head redex.places ++ strict_members s redex.head redex.places) ≡ None
  none_asked s read = subst (AsksNone redex) read (redex_asks_none (chase c.futures) all_given redex a.store places_below (h.places.activities n a at).store)

  contract_is_row : (s : Store) (o : Option ℕ) → o ≡ None → elim o [ Some m ↦ Needs m | None ↦ row s redex.head redex.places redex.behind ] ≡ row s redex.head redex.places redex.behind
  contract_is_row s o e = ap (λ (p : Option ℕ). elim p [ Some m ↦ Needs m | None ↦ row s redex.head redex.places redex.behind ]) e

  pub fits_read : (s : Store) → redex_ready (chase c.futures) a.store redex ≡ Reads s → Fits s (contract s redex)
  fits_read s read =
      let none = none_asked s read in
      subst (Fits s) (sym (contract_is_row s _ none)) (redex_fits s redex found_redex none)

  pub asks_for_none : (s : Store) (place : ℕ) → redex_ready (chase c.futures) a.store redex ≡ Reads s → contract s redex ≢ Needs place
  asks_for_none s place read e = subst (Fits s) e (fits_read s read)
