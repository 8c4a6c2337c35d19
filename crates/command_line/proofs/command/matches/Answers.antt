use Rattle.std.proofs.Common.{◌∙◌, ◌≡◌, Bool, [], ap, refl, true, false, subst, sym, map, string_bytes}
use Rattle.clap.specs.Simple.{App, HasMatchesOf, app_of, is_simple}
use Rattle.clap.specs.Faults.{fault_of, is_simple_and_free}
use Rattle.clap.specs.Takes.{takes}
use Rattle.command_line.specs.Command.{command, is_taken, rows_given}
use Rattle.command_line.proofs.Faultless.{taken_from_faultless}
use Rattle.command_line.proofs.command.matches.Goals as goal

is_simple_command : is_simple command ≡ true
is_simple_command = refl

is_free_command : is_simple_and_free command ≡ true
is_free_command = refl

not_taken : (b : Bool) → (b ≡ true → ⊥) → b ≡ false
not_taken true h = absurd (h refl)
not_taken false h = refl

pub returns-in-Ok-clause-rows : goal.returns-in-Ok-clause-rows
unfolding rows_given
returns-in-Ok-clause-rows c =
    let built : app_of c.in_ok-command.command ≡ command = c.in_ok-command.ensures in
    let exact = subst (λ (a : App). HasMatchesOf a (map string_bytes c.args.words.now) c.in-Ok.matches) built c.in-Ok.ensures.matches in
    (exact is_simple_command).0

pub returns-in-Ok-clause-taken : goal.returns-in-Ok-clause-taken
unfolding is_taken
returns-in-Ok-clause-taken c =
    let words = map string_bytes c.args.words.now in
    let built : app_of c.in_ok-command.command ≡ command = c.in_ok-command.ensures in
    let faultless : fault_of (app_of c.in_ok-command.command) words ≡ [] = c.in-Ok.ensures.kinds (ap is_simple_and_free built ∙ is_free_command) in
    taken_from_faultless words (ap (λ (a : App). fault_of a words) (sym built) ∙ faultless)

pub returns : goal.returns
unfolding is_taken
returns c =
    let words = map string_bytes c.args.words.now in
    let built : app_of c.in_ok-command.command ≡ command = c.in_ok-command.ensures in
    record {
      taken = tt;
      rows = tt;
      usage = λ _. not_taken (takes command words) (λ t. c.in_default.not-OutOfMemory
          (c.kind.ensures ∙ c.in-Err.ensures.passes (ap (λ (a : App). takes a words) built ∙ t)));
    }
