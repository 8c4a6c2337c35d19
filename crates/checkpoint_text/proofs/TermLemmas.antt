-- Terms: a node by its number, and the terms below it by a reader of terms.
use Rattle.std.proofs.Common.{◌≡◌, suc, ◌^◌, List, [], ◌∷◌, ◌++◌, length, map, Some, refl, ap, ◌∙◌, arith}
use Rattle.std.specs.List.{flat_map}
use Rattle.std.specs.Fmt.{decimal}
use Rattle.std.proofs.lemmas.List.{length-map}
use Rattle.asp_model.specs.Term.{SignShape, Add, Subtract, Multiply, Divide, Remainder, Less, Equal, Tree, Trees, none, more, trees, child_count}
use Rattle.checkpoint_text.specs.Items.{Items, number_items, signed_items, list_items, text_items, sign_number, terms_items, term_items, items_below}
use Rattle.checkpoint_text.specs.Reading.{Reader, nothing, number_to, signed, list_of, text, place, sign}
use Rattle.checkpoint_text.specs.Writable.{AreAll, IsList, IsByte, IsPlace, IsSigned, IsText, AllBelow}
use Rattle.checkpoint_text.proofs.NumberLemmas.{signed_is_read, signed_is_written}
use Rattle.checkpoint_text.proofs.CodecLemmas.{IsCodec, number_codec, list_codec, AreVariants, variant_gives, variant_tells, nothing_tells}

-- Texts and numbers

pub text_codec : IsCodec text text_items IsText
text_codec = list_codec (number_to (2 ^ 8)) number_items IsByte (number_codec (2 ^ 8) (omega arith))

pub texts_codec : IsCodec (list_of text) (list_items text_items) (IsList IsText)
texts_codec = list_codec text text_items IsText text_codec

pub place_codec : IsCodec place number_items IsPlace
place_codec = number_codec (2 ^ 64) (omega arith)

pub signed_codec : IsCodec signed signed_items IsSigned
signed_codec = record { gives = λ z ws h. signed_is_read z ws h; tells = λ z ws us e. signed_is_written z ws us e }

-- Operators

abbrev pub sign_items : SignShape → Items
sign_items s = number_items (sign_number s)

abbrev pub IsSign : SignShape → Type 0
IsSign s = Unit {0}

abbrev signs : List (Reader SignShape)
signs = nothing Add ∷ nothing Subtract ∷ nothing Multiply ∷ nothing Divide ∷ nothing Remainder ∷ nothing Less ∷ nothing Equal ∷ []

sign_gives : (s : SignShape) (ws : Items) → sign (sign_items s ++ ws) ≡ Some (s, ws)
sign_gives Add ws = variant_gives 0 signs [] ws Add (omega arith) refl
sign_gives Subtract ws = variant_gives 1 signs [] ws Subtract (omega arith) refl
sign_gives Multiply ws = variant_gives 2 signs [] ws Multiply (omega arith) refl
sign_gives Divide ws = variant_gives 3 signs [] ws Divide (omega arith) refl
sign_gives Remainder ws = variant_gives 4 signs [] ws Remainder (omega arith) refl
sign_gives Less ws = variant_gives 5 signs [] ws Less (omega arith) refl
sign_gives Equal ws = variant_gives 6 signs [] ws Equal (omega arith) refl

signs_tell : AreVariants sign_items IsSign 0 signs
signs_tell = (
  nothing_tells sign_items IsSign 0 Add refl tt,
  (
    nothing_tells sign_items IsSign 1 Subtract refl tt,
    (
      nothing_tells sign_items IsSign 2 Multiply refl tt,
      (
        nothing_tells sign_items IsSign 3 Divide refl tt,
        (
          nothing_tells sign_items IsSign 4 Remainder refl tt,
          (
            nothing_tells sign_items IsSign 5 Less refl tt,
            (nothing_tells sign_items IsSign 6 Equal refl tt, tt),
          ),
        ),
      ),
    ),
  ),
)

pub sign_codec : IsCodec sign sign_items IsSign
sign_codec = record { gives = λ s ws h. sign_gives s ws; tells = variant_tells sign_items IsSign signs signs_tell }

-- The terms below a node

module _ (Q : Tree → Type 0) where
  pub below_none : (ts : Trees) → child_count ts ≡ 0 → ts ≡ none
  below_none none e = refl
  below_none (more t ts) e = absurd (omega arith)

  pub below_one : (ts : Trees) → child_count ts ≡ 1 → AllBelow Q ts → (t : Tree) × (ts ≡ more t none) × Q t
  below_one none e a = absurd (omega arith)
  below_one (more t ts) e a = (t, ap (more t) (below_none ts (omega arith)), a.0)

  pub below_two : (ts : Trees) → child_count ts ≡ 2 → AllBelow Q ts → (t : Tree) × (u : Tree) × (ts ≡ more t (more u none)) × Q t × Q u
  below_two none e a = absurd (omega arith)
  below_two (more t ts) e a = let r = below_one ts (omega arith) a.1 in (t, r.0, ap (more t) r.1, a.0, r.2)

  pub below_three : (ts : Trees) → child_count ts ≡ 3 → AllBelow Q ts → (t : Tree) × (u : Tree) × (v : Tree) × (ts ≡ more t (more u (more v none))) × Q t × Q u × Q v
  below_three none e a = absurd (omega arith)
  below_three (more t ts) e a = let r = below_two ts (omega arith) a.1 in (t, r.0, r.1, ap (more t) r.2, a.0, r.3, r.4)

  -- items a list
  abbrev pub listed : Trees → List Tree
  listed none = []
  listed (more t ts) = t ∷ listed ts

  pub trees_listed : (ts : Trees) → trees (listed ts) ≡ ts
  trees_listed none = refl
  trees_listed (more t ts) = ap (more t) (trees_listed ts)

  pub length_listed : (ts : Trees) → length (listed ts) ≡ child_count ts
  length_listed none = refl
  length_listed (more t ts) = ap suc (length_listed ts)

  pub all_listed : (ts : Trees) → AllBelow Q ts → AreAll Q (listed ts)
  all_listed none a = tt
  all_listed (more t ts) a = (a.0, all_listed ts a.1)

  pub below_trees : (ts : List Tree) → AreAll Q ts → AllBelow Q (trees ts)
  below_trees [] a = tt
  below_trees (t ∷ ts) a = (a.0, below_trees ts a.1)

pub count_trees : (ts : List Tree) → child_count (trees ts) ≡ length ts
count_trees [] = refl
count_trees (t ∷ ts) = ap suc (count_trees ts)

pub items_trees : (ts : List Tree) → items_below (trees ts) ≡ map term_items ts
items_trees [] = refl
items_trees (t ∷ ts) = ap (λ (us : List Items). term_items t ∷ us) (items_trees ts)

joined_items : (ts : List Tree) → flat_map (λ (t : Items). t) (map term_items ts) ≡ flat_map term_items ts
joined_items [] = refl
joined_items (t ∷ ts) = ap (λ (us : Items). term_items t ++ us) (joined_items ts)

pub terms_are : (ts : List Tree) → terms_items (map term_items ts) ≡ list_items term_items ts
terms_are ts = λ i. decimal (length-map ts term_items i) ∷ joined_items ts i

pub below_are : (ts : List Tree) → terms_items (items_below (trees ts)) ≡ list_items term_items ts
below_are ts = ap terms_items (items_trees ts) ∙ terms_are ts
