use Rattle.std.proofs.Common.{◌∙◌, ◌≡◌, Bool, List, ap, refl, true, false, subst, map, string_bytes}
use Rattle.clap.specs.Walk.{Text}
use Rattle.clap.specs.Simple.{App, HasMatchesOf, app_of, is_simple}
use Rattle.clap.specs.Takes.{takes}
use Rattle.asp_explain.specs.declared.command.Refused.{Refused}
use Rattle.asp_explain.specs.declared.command.Refused.TheVariants as refused
use Rattle.asp_explain.specs.Words.{command, is_taken, rows_given}
use Rattle.asp_explain.specs.Shapes.{IsRefusedFor}
use Rattle.asp_explain.proofs.command.matches.Goals as goal

is_simple_command : is_simple command ≡ true
is_simple_command = refl

not_taken : (b : Bool) → (b ≡ true → ⊥) → b ≡ false
not_taken true h = absurd (h refl)
not_taken false h = refl

-- words that are taken are refused for want of memory alone
refused_is : (words : List Text) (r : Refused) → (is_taken words ≡ true → r ≡ refused.Memory) → IsRefusedFor words r
refused_is words refused.Memory h = tt
refused_is words refused.Usage h = not_taken (is_taken words) (λ t. let bad : refused.Usage ≡ refused.Memory = h t in cc)
refused_is words (refused.Help text) h = not_taken (is_taken words) (λ t. let bad : refused.Help text ≡ refused.Memory = h t in cc)

pub returns-in-Ok-clause-rows : goal.returns-in-Ok-clause-rows
unfolding rows_given
returns-in-Ok-clause-rows c =
    let built : app_of c.in_ok-command.command ≡ command = c.in_ok-command.ensures in
    let exact = subst (λ (a : App). HasMatchesOf a (map string_bytes c.args.words.now) c.in-Ok.matches) built c.in-Ok.ensures.matches in
    (exact is_simple_command).0

pub returns-in-Err-clause-refused : goal.returns-in-Err-clause-refused
unfolding is_taken
returns-in-Err-clause-refused c =
    let words = map string_bytes c.args.words.now in
    let built : app_of c.in_ok-command.command ≡ command = c.in_ok-command.ensures in
    refused_is words c.refused_for.result (λ t. c.refused_for.ensures (c.in-Err.ensures.passes (ap (λ (a : App). takes a words) built ∙ t)))
