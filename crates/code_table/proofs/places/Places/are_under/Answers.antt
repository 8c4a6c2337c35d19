use Rattle.std.proofs.Common.{◌∙◌, Option, nat_lt, sym, ap}
use Rattle.std.specs.Borrow.{Bor}
use Rattle.std.specs.List.{list_all}
use Rattle.code_table.specs.declared.places.Shift.{Shift}
use Rattle.code_table.specs.Places.{shifted}
use Rattle.code_table.proofs.PlacesLemmas.{shifted_under}
use Rattle.code_table.proofs.places.Places.are_under.Goals as goal

pub returns-in-Some : goal.returns-in-Some
returns-in-Some c =
    let ws = c.args.self.now.words.now in
    c.are_moved_under.ensures
    ∙ shifted_under c.in-Some.shift c.args.size ws
    ∙ ap (λ (s : Option (Bor Shift)). list_all (λ n. nat_lt n c.args.size) (shifted s ws)) (sym c.in-Some.is)
