use Rattle.std.proofs.Common.{◌≡◌, ◌++◌, ◌∷◌, [], map, refl, arith}
use Rattle.std.proofs.lemmas.Grind.{common_steps}
use Rattle.asp_model.specs.Shapes.{entry_shape}
use Rattle.core_state.proofs.journal.Journal.note.Goals as goal

pub returns-clause-begins : goal.returns-clause-begins
returns-clause-begins c = λ start first.
    let grown : map entry_shape c.push.new.self.items ≡ map entry_shape c.args.self.now.entries.items ++ entry_shape c.args.entry ∷ [] = grind (arith, common_steps) in
    record { program = refl; first = refl; budget = refl; rest = entry_shape c.args.entry ∷ []; entries = grown }
