-- Reserved words are looked for in four parts.
use Rattle.std.proofs.Common.{◌≡◌, ◌∙◌, ◌++◌, ◌∷◌, [], ◌||◌, List, Bool, true, false, ap, refl}
use Rattle.asp_model.specs.Names.{Text, same_text}
use Rattle.asp_model.specs.Readable.{reserved_words}
use Rattle.asp_model.specs.Term.{has_text}
use Rattle.command_line.specs.Reserved.{words_of_activities, words_of_choices, words_of_groups, words_of_values}

either : (a b c : Bool) → (a || (b || c)) ≡ ((a || b) || c)
either true b c = refl
either false b c = refl

has_joined : (t : Text) (xs ys : List Text) → has_text t (xs ++ ys) ≡ (has_text t xs || has_text t ys)
has_joined t [] ys = refl
has_joined t (x ∷ xs) ys = ap (λ (b : Bool). same_text t x || b) (has_joined t xs ys) ∙ either (same_text t x) (has_text t xs) (has_text t ys)

pub reserved_in_parts : (t : Text) → has_text t reserved_words
    ≡ (has_text t words_of_choices || (has_text t words_of_activities || (has_text t words_of_values || has_text t words_of_groups)))
reserved_in_parts t =
    has_joined t words_of_choices (words_of_activities ++ words_of_values ++ words_of_groups)
    ∙ ap (λ (b : Bool). has_text t words_of_choices || b) (has_joined t words_of_activities (words_of_values ++ words_of_groups)
    ∙ ap (λ (b : Bool). has_text t words_of_activities || b) (has_joined t words_of_values words_of_groups))
