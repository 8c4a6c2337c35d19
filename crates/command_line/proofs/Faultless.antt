-- Words at which a simple command has no fault are words that it takes.
use Rattle.std.proofs.Common.{◌≡◌, ◌∙◌, ◌&&◌, ◌||◌, ◌==◌, ℕ, Bool, true, false, not, zero, suc, List, [], ◌∷◌, Option, Some, None, drop, length, ap, ap₂, refl, sym, arith, is_some, codes, true≢false, ◌⊎◌, inl, inr, ⊎_elim}
use Rattle.std.proofs.lemmas.Bool.Decides.{nat_tests}
use Rattle.std.specs.Prelude.{if◌then◌else◌, nat_le, nat_lt, encode_utf8, slice_get}
use Rattle.std.specs.List.{list_all}
use Rattle.std.specs.Option.{option_map_or}
use Rattle.std.specs.Str.{bytes_eq, chars}
use Rattle.clap.specs.Lexer.{long_of, short_of}
use Rattle.clap.specs.ValueTests.{accepts}
use Rattle.clap.specs.Facts.{parser_of_value, unwrap_or_range}
use Rattle.clap.specs.Walk.{Held, Names, Row, Rule, Step, next, trailing, subcommand, value, Text, Waiting, Walk, action_of, arg_by_id, arg_by_index, arg_by_long, arg_by_short, attached_value, has_row, is_pending, most_values, nothing_held, reacted, settled, subcommand_met, takes_several, takes_values, values_or_missing, walk, walk_from, walked, word_met}
use Rattle.clap.specs.Simple.{Shape, built}
use Rattle.clap.proofs.FaultLemmas.{leaf_fault}
use Rattle.clap.proofs.TakesLemmas.{leaf_takes}
use Rattle.command_line.specs.Command.{command}
use Rattle.clap.specs.Takes.{level_passes, action_passes, bundle_step_passes, count_passes, flag_word_passes, flags_pass, long_passes, option_passes, other_passes, positional_passes, react_passes, set_passes, settle_passes, short_passes, step_passes, takes, turn_passes, use_passes, walk_passes, word_passes}
use Rattle.clap.specs.Kinds.{Kinds, or_else, range_kinds, value_kinds, values_kinds}
use Rattle.clap.specs.Faults.{action_fault, bundle_step_fault, count_fault, fault_of, level_fault, flag_word_fault, flags_fault, long_fault, option_fault, other_fault, positional_fault, react_fault, repeat_fault, set_fault, settle_fault, short_fault, step_fault, stray_fault, turn_fault, use_fault, walk_fault, word_fault}
use Rattle.clap.specs.declared.builder.action.ArgAction.{ArgAction}
use Rattle.clap.specs.declared.builder.action.ArgAction.TheVariants as action
use Rattle.clap.specs.declared.builder.value_parser.ValueParser.{ValueParser}
use Rattle.clap.specs.declared.error.kind.ErrorKind.{ErrorKind}

-- ---- lists of kinds

full : {k : ErrorKind} {ks : Kinds} {X : Type 0} → k ∷ ks ≡ [] → X
full {k} {ks} e = absurd (true≢false (ap (λ (xs : Kinds). elim xs [ [] ↦ false | _ ∷ _ ↦ true ]) e))

first_none : (a b : Kinds) → or_else a b ≡ [] → a ≡ []
first_none [] b e = refl
first_none (k ∷ ks) b e = full e

second_none : (a b : Kinds) → or_else a b ≡ [] → b ≡ []
second_none [] b e = e
second_none (k ∷ ks) b e = full e

both : {a b : Bool} → a ≡ true → b ≡ true → (a && b) ≡ true
both {a} {b} e f = ap₂ (λ x y. x && y) e f

if_fails : (b : Bool) (k : ErrorKind) (ks : Kinds) → (if b then [] else k ∷ ks) ≡ [] → b ≡ true
if_fails true k ks e = refl
if_fails false k ks e = full e

if_full : (b : Bool) (k : ErrorKind) (ks : Kinds) → (if b then k ∷ ks else []) ≡ [] → not b ≡ true
if_full true k ks e = full e
if_full false k ks e = refl

-- a test lets the rest be left out
or_rest : (b : Bool) (rest : Kinds) (passes : Bool) → (rest ≡ [] → passes ≡ true) → (if b then [] else rest) ≡ [] → (b || passes) ≡ true
or_rest true rest passes h e = refl
or_rest false rest passes h e = h e

maybe_none : {X : Type 0} (o : Option X) (f : X → Kinds) (g : X → Bool) → ((x : X) → f x ≡ [] → g x ≡ true) → option_map_or f o [] ≡ [] → option_map_or g o true ≡ true
maybe_none None f g h e = refl
maybe_none (Some x) f g h e = h x e

-- ---- one use of an argument

value_ok : (i : Bool) (p : ValueParser) (t : Text) → value_kinds i p t ≡ [] → accepts i p t ≡ true
value_ok i p t e = if_fails (accepts i p t) _ [] e

values_ok : (i : Bool) (p : ValueParser) (ts : List Text) → values_kinds i p ts ≡ [] → list_all (accepts i p) ts ≡ true
values_ok i p [] e = refl
values_ok i p (t ∷ ts) e = both (value_ok i p t (first_none _ _ e)) (values_ok i p ts (second_none (value_kinds i p t) _ e))

count_ok : (a : Rule) (vs : List Text) (rows : List Row) → count_fault a vs rows ≡ [] → count_passes a vs rows ≡ true
count_ok a [] rows e = value_ok a.ignore_case (parser_of_value a.parser) _ e
count_ok a (v ∷ vs) rows e = values_ok a.ignore_case (parser_of_value a.parser) (v ∷ vs) e

no_repeat : (has again : Bool) (k : ErrorKind) → (if has && not again then k ∷ [] else []) ≡ [] → (not has || again) ≡ true
no_repeat true true k e = refl
no_repeat true false k e = full e
no_repeat false true k e = refl
no_repeat false false k e = refl

set_ok : (again : Bool) (a : Rule) (vs : List Text) (rows : List Row) → set_fault again a vs rows ≡ [] → set_passes again a vs rows ≡ true
set_ok again a vs rows e = both (no_repeat (has_row a.id rows) again _ (first_none _ _ e))
    (values_ok a.ignore_case (parser_of_value a.parser) vs (second_none (repeat_fault again a.id rows) _ e))

action_ok : (x : ArgAction) (again : Bool) (a : Rule) (vs : List Text) (rows : List Row) → action_fault x again a vs rows ≡ [] → action_passes x again a vs rows ≡ true
action_ok action.Set again a vs rows e = set_ok again a vs rows e
action_ok action.SetTrue again a vs rows e = set_ok again a vs rows e
action_ok action.SetFalse again a vs rows e = set_ok again a vs rows e
action_ok action.Append again a vs rows e = values_ok a.ignore_case (parser_of_value a.parser) vs e
action_ok action.Count again a vs rows e = count_ok a vs rows e
action_ok action.Help again a vs rows e = full e
action_ok action.HelpShort again a vs rows e = full e
action_ok action.HelpLong again a vs rows e = full e
action_ok action.Version again a vs rows e = full e

in_range : (empty same exact few many : Bool) (k l m o : ErrorKind)
    → (if empty then k ∷ [] else (if same then (if exact then [] else l ∷ []) else (if few then m ∷ [] else (if many then o ∷ [] else [])))) ≡ []
    → ((same ≡ true) × (exact ≡ true)) ⊎ ((few ≡ false) × (many ≡ false))
in_range true same exact few many k l m o e = full e
in_range false true true few many k l m o e = inl (refl, refl)
in_range false true false few many k l m o e = full e
in_range false false exact true many k l m o e = full e
in_range false false exact false true k l m o e = full e
in_range false false exact false false k l m o e = inr (refl, refl)

range_ok : (least most n : ℕ) → range_kinds least most n ≡ [] → (nat_le least n ≡ true) × (nat_le n most ≡ true)
range_ok least most n e = ⊎_elim
    (λ h. (grind (arith, nat_tests, h.0, h.1), grind (arith, nat_tests, h.0, h.1)))
    (λ h. (grind (arith, nat_tests, h.0, h.1), grind (arith, nat_tests, h.0, h.1)))
    (in_range (nat_lt 0 least && n == 0) (least == most) (least == n) (nat_lt n least) (nat_lt most n) _ _ _ _ e)

use_ok : (again : Bool) (a : Rule) (vs : List Text) (rows : List Row) → use_fault again a vs rows ≡ [] → use_passes again a vs rows ≡ true
use_ok again a vs rows e =
    let range = range_ok (unwrap_or_range a.range).start_inclusive (most_values a) (length vs) (first_none _ _ e) in
    let acts = action_ok (action_of a) again a (values_or_missing a vs) rows (second_none (range_kinds (unwrap_or_range a.range).start_inclusive (most_values a) (length vs)) _ e) in
    both range.0 (both range.1 acts)

-- ---- a word

settle_ok : (c : List Rule) (again : Bool) (h : Held) → settle_fault c again h ≡ [] → settle_passes c again h ≡ true
settle_ok c again h e = maybe_none h.pending _ _ (λ p. maybe_none (arg_by_id c p.0) _ _ (λ a. use_ok again a p.1 h.rows)) e

react_ok : (c : List Rule) (again : Bool) (a : Rule) (vs : List Text) (h : Held) → react_fault c again a vs h ≡ [] → react_passes c again a vs h ≡ true
react_ok c again a vs h e = both (settle_ok c again h (first_none _ _ e)) (use_ok again a vs (settled c h).rows (second_none (settle_fault c again h) _ e))

option_ok : (c : List Rule) (again : Bool) (a : Rule) (v : Option Text) (h : Held) → option_fault c again a v h ≡ [] → option_passes c again a v h ≡ true
option_ok c again a None h e = settle_ok c again h e
option_ok c again a (Some v) h e = react_ok c again a (v ∷ []) h e

pick : (b : Bool) (x y : Kinds) (p q : Bool) → (x ≡ [] → p ≡ true) → (y ≡ [] → q ≡ true) → (if b then x else y) ≡ [] → (if b then p else q) ≡ true
pick true x y p q f g e = f e
pick false x y p q f g e = g e

unneeded : (b : Bool) (k : ErrorKind) (rest : Kinds) (passes : Bool) → (rest ≡ [] → passes ≡ true) → (if b then k ∷ [] else rest) ≡ [] → (not b && passes) ≡ true
unneeded true k rest passes h e = full e
unneeded false k rest passes h e = h e

long_ok : (c : List Rule) (again : Bool) (o : Option Rule) (v : Option Text) (h : Held) → long_fault c again o v h ≡ [] → long_passes c again o v h ≡ true
long_ok c again None v h e = full e
long_ok c again (Some a) v h e =
    pick (takes_values a) _ _ _ _ (option_ok c again a v h) (unneeded (is_some v) _ _ _ (react_ok c again a [] h)) e

short_ok : (c : List Rule) (again : Bool) (o : Option Rule) (rest : Text) (h : Held) (f : Held → Kinds) (g : Held → Bool) → ((k : Held) → f k ≡ [] → g k ≡ true)
    → short_fault c again o rest h f ≡ [] → short_passes c again o rest h g ≡ true
short_ok c again None rest h f g fg e = full e
short_ok c again (Some a) rest h f g fg e =
    pick (takes_values a) _ _ _ _ (option_ok c again a (attached_value rest) h)
    (λ i. both (react_ok c again a [] h (first_none _ _ i)) (fg (reacted c a [] h) (second_none (react_fault c again a [] h) _ i))) e

bundle_step_ok : (c : List Rule) (again : Bool) (x : Option ℕ) (flags : Text) (skip : ℕ) (h : Held) (f : Text → ℕ → Held → Kinds) (g : Text → ℕ → Held → Bool)
    → ((t : Text) (n : ℕ) (k : Held) → f t n k ≡ [] → g t n k ≡ true)
    → bundle_step_fault c again x flags skip h f ≡ [] → bundle_step_passes c again x flags skip h g ≡ true
bundle_step_ok c again None flags skip h f g fg e = refl
bundle_step_ok c again (Some x) flags zero h f g fg e =
    let rest = drop (length (encode_utf8 x)) flags in
    short_ok c again (arg_by_short c x) rest h (f rest 0) (g rest 0) (fg rest 0) e
bundle_step_ok c again (Some x) flags (suc skip) h f g fg e = fg _ _ _ e

flags_ok : (c : List Rule) (again : Bool) (k : ℕ) (flags : Text) (skip : ℕ) (h : Held) → flags_fault c again k flags skip h ≡ [] → flags_pass c again k flags skip h ≡ true
unfolding flags_fault flags_pass
flags_ok c again zero flags skip h e = refl
flags_ok c again (suc k) flags skip h e =
    bundle_step_ok c again (slice_get (chars flags) 0) flags skip h (flags_fault c again k) (flags_pass c again k) (flags_ok c again k) e

flag_word_ok : (c : List Rule) (again : Bool) (o : Option (Text × Option Text)) (word : Text) (h : Held) → flag_word_fault c again o word h ≡ [] → flag_word_passes c again o word h ≡ true
flag_word_ok c again (Some p) word h e = long_ok c again (arg_by_long c p.0) p.1 h e
flag_word_ok c again None word h e = maybe_none (short_of word) _ _ (λ flags. flags_ok c again (length flags) flags h.skip (record h { skip = 0 })) e

no_help : (is_help disabled : Bool) (k l : ErrorKind) → (if is_help && not disabled then k ∷ l ∷ [] else []) ≡ [] → (not is_help || disabled) ≡ true
no_help true true k l e = refl
no_help true false k l e = full e
no_help false d k l e = refl

other_ok : (s : Shape) (o : Option Text) (word : Text) (h : Held) → other_fault s o word h ≡ [] → other_passes s o word h ≡ true
other_ok s (Some name) word h e = no_help (bytes_eq name (codes "help")) s.disable_help_subcommand _ _ e
other_ok s None word h e = or_rest (bytes_eq word (45 ∷ 45 ∷ [])) _ _ (flag_word_ok s.rules s.args_override_self (long_of word) word h) e

word_ok : (s : Shape) (names : Names) (t : Bool) (waiting : Waiting) (word : Text) (h : Held) → word_fault s names t waiting word h ≡ [] → word_passes s names t waiting word h ≡ true
word_ok s names t waiting word h e = or_rest t _ _ (other_ok s (subcommand_met names waiting word) word h) e

positional_ok : (c : List Rule) (again : Bool) (a : Rule) (h : Held) → positional_fault c again a h ≡ [] → positional_passes c again a h ≡ true
positional_ok c again a h e = or_rest (is_pending a h.pending && takes_several a) _ _ (settle_ok c again h) e

stray_full : (s : Shape) (b : Bool) (k l : ErrorKind) {X : Type 0} → (if b then k ∷ [] else k ∷ l ∷ []) ≡ [] → X
stray_full s true k l e = full e
stray_full s false k l e = full e

at_place : (s : Shape) (h : Held) (o : Option Rule) → option_map_or (λ a. positional_fault s.rules s.args_override_self a h) o (stray_fault s) ≡ []
    → option_map_or (λ a. positional_passes s.rules s.args_override_self a h) o false ≡ true
at_place s h None e = stray_full s s.is_leaf _ _ e
at_place s h (Some a) e = positional_ok s.rules s.args_override_self a h e

step_ok : (s : Shape) (position : ℕ) (h : Held) (step : Step) → step_fault s position h step ≡ [] → step_passes s position h step ≡ true
step_ok s position h value e = at_place s h (arg_by_index s.rules position) e
step_ok s position h (next waiting) e = refl
step_ok s position h (trailing p) e = refl
step_ok s position h (subcommand name) e = refl

turn_ok : (s : Shape) (names : Names) (w : Walk) (word : Text) → turn_fault s names w word ≡ [] → turn_passes s names w word ≡ true
turn_ok s names w word e =
    let met = word_met s.rules names w.is_trailing w.waiting w.position word w.held in
    or_rest (is_some w.stopped) _ _ (λ i. both (word_ok s names w.is_trailing w.waiting word w.held (first_none _ _ i))
    (step_ok s w.position met.0 met.1 (second_none (word_fault s names w.is_trailing w.waiting word w.held) _ i))) e

pub walk_ok : (s : Shape) (names : Names) (w : Walk) (words : List Text) → walk_fault s names w words ≡ [] → walk_passes s names w words ≡ true
unfolding walk_fault walk_passes
walk_ok s names w [] e = refl
walk_ok s names w (word ∷ rest) e =
    both (turn_ok s names w word (first_none _ _ e)) (walk_ok s names (walked s.rules names w word) rest (second_none (turn_fault s names w word) _ e))

-- ---- this command

level_ok : (words : List Text) → level_fault (built command).top [] nothing_held words false [] ≡ [] → level_passes (built command).top [] nothing_held words false ≡ true
level_ok words e =
    let s = (built command).top in
    let end = (walk s.rules [] nothing_held words).held in
    let walked = walk_ok s [] (walk_from nothing_held) words (first_none _ _ e) in
    let rest = second_none (walk_fault s [] (walk_from nothing_held) words) _ e in
    let settles = settle_ok s.rules s.args_override_self end (first_none _ _ rest) in
    both walked (both settles refl)

-- the words that have no fault are those that the command takes
pub taken_from_faultless : (words : List Text) → fault_of command words ≡ [] → takes command words ≡ true
taken_from_faultless words e =
    leaf_takes (built command) nothing_held words refl (level_ok words (sym (leaf_fault (built command) nothing_held words refl) ∙ e))
