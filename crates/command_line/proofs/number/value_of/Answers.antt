use Rattle.std.proofs.Common.{◌≡◌, ◌≤◌, length, rules, arith, true}
use Rattle.std.specs.Char.{is_ascii_digit}
use Rattle.std.specs.List.{list_all}
use Rattle.std.specs.Str.Parse.{digits_value}
use Rattle.std.proofs.lemmas.Str.Parse.{IsNumeralModel, IsDigitsTest, numerals_by_value, parse_gives, digits_value_short}
use Rattle.command_line.proofs.number.value_of.Goals as goal

digits_test : IsDigitsTest (λ ds. list_all is_ascii_digit ds ≡ true)
digits_test = search rules

own : IsNumeralModel (λ ds. list_all is_ascii_digit ds ≡ true) (digits_value 10)
own = numerals_by_value _ digits_test

pub returns : goal.returns
returns c =
    let t = c.args.text.now in
    let some : 1 ≤ length t = search rules in
    let few : length t ≤ 8 = search rules in
    let digits : list_all is_ascii_digit t ≡ true = search rules in
    let small = digits_value_short own t 8 digits few in
    let read = parse_gives own 64 t c.parse.result c.parse.ensures.value.0 digits some (omega (arith, small)) in
    search (rules, read)
