use Rattle.std.proofs.Common.{refl, reverse, subst, sym}
use Rattle.frozen_code.specs.Restoring.{HoldAll, HoldServices}
use Rattle.checkpoint_states.proofs.StateLemmas.{state_made}
use Rattle.checkpoint_states.proofs.states.make_state.Goals as goal

pub make_cells-requires : goal.make_cells-requires
make_cells-requires c = record {
  table = c.in_ok-term.ensures.made.grows.table (c.in_ok-suspended.ensures.made.grows.table c.requires.table);
  proper = c.requires.proper;
}

pub returns : goal.returns
returns c = record {
  made = state_made _ _ _ _ c.in_ok-suspended.suspended.items _ c.in_ok-term.term _ c.in_ok-columns.columns.items _ _ _
      c.in_ok-suspended.ensures.made c.in_ok-term.ensures.made c.in_ok-columns.ensures.made
      (λ k vs cs t waiting round inner. c.in_ok-machine.ensures.stands k vs cs t (subst (λ xs. HoldServices k xs vs) (sym c.deref.ensures.value) waiting) (subst (λ xs. HoldAll k xs (reverse cs)) (sym c.deref-2.ensures.value) round) inner)
      c.in_ok-store.ensures.cells refl;
}
