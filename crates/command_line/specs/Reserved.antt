-- The reserved words, in four parts.
use Rattle.std.specs.Prelude.{List, [], ◌∷◌, codes}
use Rattle.asp_model.specs.Names.{Text}

abbrev pub words_of_choices : List Text
words_of_choices = codes "let" ∷ codes "in" ∷ codes "if" ∷ codes "else" ∷ []

abbrev pub words_of_activities : List Text
words_of_activities = codes "repeat" ∷ codes "active" ∷ codes "serve" ∷ codes "clone" ∷ []

abbrev pub words_of_values : List Text
words_of_values = codes "print" ∷ codes "echo" ∷ codes "group" ∷ codes "scatter" ∷ []

abbrev pub words_of_groups : List Text
words_of_groups = codes "size" ∷ codes "member" ∷ codes "waitall" ∷ codes "pending" ∷ []
