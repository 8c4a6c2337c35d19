-- Terms that are opened as contexts, with a hole in their place, or as redexes.
use Rattle.std.specs.Prelude.{◌≡◌, []}
use Rattle.asp_model.specs.Split.{Context, Redex}
use Rattle.asp_model.specs.Term.{Tree}
use Rattle.code_laws.specs.Splitting.{redex_node, IsContext, IsRedex}
use Rattle.law_programs.specs.Proper.{IsProper, IsProperContext}
use Rattle.frozen_code.specs.Held.{context_left}
use Rattle.term_opening.specs.Opening.{done_in, emptied_node}

-- a proper context
pub record IsContextTerm (c : Context) (t : Tree) : Type 0 where
  pub proper : IsProperContext c
  pub context : IsContext c
  -- what is left of it, and the places before its hole
  pub left : emptied_node t ≡ context_left c
  pub done : done_in [] t ≡ c.before

abbrev pub IsSomeContext : Tree → Type 0
IsSomeContext t = (c : Context) × IsContextTerm c t

-- a proper redex
pub record IsRedexTerm (r : Redex) (t : Tree) : Type 0 where
  pub proper : IsProper [] (redex_node r)
  pub redex : IsRedex r
  pub term : redex_node r ≡ t

abbrev pub IsSomeRedex : Tree → Type 0
IsSomeRedex t = (r : Redex) × IsRedexTerm r t
