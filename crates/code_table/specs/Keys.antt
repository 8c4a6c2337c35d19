-- Keys: numbers that tell short texts apart.
use Rattle.std.specs.Prelude.{ℕ, suc, ◌+◌, ◌*◌, ◌^◌, ◌==◌, true, false, if◌then◌else◌, nat_le, nat_lt, List, [], ◌∷◌, Option, Some, None, length}
use Rattle.asp_model.specs.Names.{Text}

-- the key of a text with this byte before one with this key; 0 if it has none
abbrev pub longer : ℕ → ℕ → ℕ
longer b k = if nat_le 256 b then 0 else (if k == 0 then 0 else (if nat_le (2 ^ 55) k then 0 else 256 * k + b))

-- the bytes of a text of at most 7 bytes, as digits behind a 1, the last byte first; 0 for a longer text
abbrev pub text_key : Text → ℕ
text_key [] = 1
text_key (b ∷ bs) = longer b (text_key bs)

-- how many keys stand before the first that is this one
abbrev pub keys_before : List ℕ → ℕ → ℕ
keys_before [] k = 0
keys_before (x ∷ xs) k = elim (k == x) [ true ↦ 0 | false ↦ suc (keys_before xs k) ]

-- its number, if there is one
abbrev pub key_number : List ℕ → ℕ → Option ℕ
key_number ks k = if nat_lt (keys_before ks k) (length ks) then Some (keys_before ks k) else None
