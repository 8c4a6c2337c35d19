use Rattle.std.proofs.Common.{◌∙◌, sym, false, refl, subst}
use Rattle.core_ranks.specs.Numbers.{Loses}
use Rattle.core_ranks.specs.Marked.{marked_in}
use Rattle.core_ranks.proofs.MarkedLemmas.{lost_before, switched}
use Rattle.core_ranks.proofs.numbers.Numbers.remove.Goals as goal

pub returns-then-is_set : goal.returns-then-is_set
returns-then-is_set c =
    let loses = switched false c.args.number c.self.inside.marks c.self.inside.marks c.set.new.self c.self.invariant.tree (λ p. refl) c.set.ensures.tree c.set.ensures.marked in
    record { loses = subst (λ s. Loses c.args.number s.keys (marked_in c.set.new.self).keys) c.self.view_is loses }

pub returns-else-is_set : goal.returns-else-is_set
returns-else-is_set c =
    let loses = lost_before c.args.number c.self.inside.marks c.self.invariant.tree (sym c.is_set.ensures.marked ∙ c.if-is_set.false) in
    record { loses = subst (λ s. Loses c.args.number s.keys s.keys) c.self.view_is loses }
