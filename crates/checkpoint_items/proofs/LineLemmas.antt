-- Lines read whole.
use Rattle.std.proofs.Common.{◌≡◌, Bool, true, false, List, [], ◌∷◌, Option, Some, None, refl, ap, sym, ◌∙◌}
use Rattle.asp_model.specs.Names.{Text, same_text}
use Rattle.asp_model.specs.ReportLines.{parts}
use Rattle.checkpoint_text.specs.Items.{Items}
use Rattle.checkpoint_text.specs.Reading.{Reader, line_by, line_read, whole}
use Rattle.checkpoint_items.specs.declared.error.ReadError.{ReadError}
use Rattle.checkpoint_items.specs.Answers.{Refuses}
use Rattle.checkpoint_items.specs.Lines.{behind_word, nothing_left}
use Rattle.checkpoint_items.proofs.ListLemmas.{moved, refused_by}

-- the whole of what stands behind the word
abbrev then_whole : {X : Type 0} → Reader X → Option Items → Option X
then_whole p None = None
then_whole p (Some ws) = whole (p ws)

by_test : {X : Type 0} (p : Reader X) (ws : Items) (b : Bool) → elim b as (λ _. Option X) [ true ↦ whole (p ws) | false ↦ None ] ≡ then_whole p (elim b as (λ _. Option Items) [ true ↦ Some ws | false ↦ None ])
by_test p ws true = refl
by_test p ws false = refl

by_word : {X : Type 0} (word : Text) (p : Reader X) (ws : List Text) → line_by word p ws ≡ then_whole p (behind_word word ws)
by_word word p [] = refl
by_word word p (w ∷ ws) = by_test p ws (same_text w word)

-- no line of the word
other : {X : Type 0} (word : Text) (p : Reader X) (line : Text) (e : ReadError) → Refuses (behind_word word (parts 32 line)) e → Refuses (line_read word p line) e
other word p line e r = moved (line_read word p line) _ e (by_word word p (parts 32 line)) (refused_by (then_whole p) refl (behind_word word (parts 32 line)) e r)

at_word : {X : Type 0} (word : Text) (p : Reader X) (line : Text) (ws : Items) → behind_word word (parts 32 line) ≡ Some ws → line_read word p line ≡ whole (p ws)
at_word word p line ws e = by_word word p (parts 32 line) ∙ ap (then_whole p) e

-- an item of it is not read
refused : {X : Type 0} (word : Text) (p : Reader X) (line : Text) (ws : Items) (e : ReadError) → behind_word word (parts 32 line) ≡ Some ws → Refuses (p ws) e → Refuses (line_read word p line) e
refused {X = X} word p line ws e b r =
    moved (line_read word p line) _ e (at_word word p line ws b) (refused_by (λ (o : Option (X × Items)). whole o) refl (p ws) e r)

abbrev only : {X : Type 0} → X → Option (Unit {0}) → Option X
only x None = None
only x (Some t) = Some x

left_over : {X : Type 0} (x : X) (us : Items) → whole (Some (x, us)) ≡ only x (nothing_left us)
left_over x [] = refl
left_over x (u ∷ us) = refl

-- there are items left
left : {X : Type 0} (word : Text) (p : Reader X) (line : Text) (ws us : Items) (x : X) (e : ReadError) → behind_word word (parts 32 line) ≡ Some ws → p ws ≡ Some (x, us) → Refuses (nothing_left us) e → Refuses (line_read word p line) e
left word p line ws us x e b d r =
    moved (line_read word p line) _ e (at_word word p line ws b ∙ ap whole d ∙ left_over x us) (refused_by (only x) refl (nothing_left us) e r)

-- and there are none
told : {X : Type 0} (word : Text) (p : Reader X) (line : Text) (ws us : Items) (x : X) (t : Unit {0}) → behind_word word (parts 32 line) ≡ Some ws → p ws ≡ Some (x, us) → nothing_left us ≡ Some t → line_read word p line ≡ Some x
told word p line ws us x t b d over = at_word word p line ws b ∙ ap whole d ∙ left_over x us ∙ ap (only x) over

-- The same by a word that is equal

same_line : {X : Type 0} (p : Reader X) (line w word : Text) → w ≡ word → line_read word p line ≡ line_read w p line
same_line p line w word is = ap (λ (t : Text). line_read t p line) (sym is)

pub line_other : {X : Type 0} (word : Text) (p : Reader X) (line w : Text) (e : ReadError) → w ≡ word → Refuses (behind_word w (parts 32 line)) e → Refuses (line_read word p line) e
line_other word p line w e is r = moved (line_read word p line) (line_read w p line) e (same_line p line w word is) (other w p line e r)

pub line_refused : {X : Type 0} (word : Text) (p : Reader X) (line w : Text) (ws : Items) (e : ReadError) → w ≡ word → behind_word w (parts 32 line) ≡ Some ws → Refuses (p ws) e → Refuses (line_read word p line) e
line_refused word p line w ws e is b r = moved (line_read word p line) (line_read w p line) e (same_line p line w word is) (refused w p line ws e b r)

pub line_left : {X : Type 0} (word : Text) (p : Reader X) (line w : Text) (ws us : Items) (x : X) (e : ReadError) → w ≡ word → behind_word w (parts 32 line) ≡ Some ws → p ws ≡ Some (x, us) → Refuses (nothing_left us) e → Refuses (line_read word p line) e
line_left word p line w ws us x e is b d r = moved (line_read word p line) (line_read w p line) e (same_line p line w word is) (left w p line ws us x e b d r)

pub line_told : {X : Type 0} (word : Text) (p : Reader X) (line w : Text) (ws us : Items) (x : X) (t : Unit {0}) → w ≡ word → behind_word w (parts 32 line) ≡ Some ws → p ws ≡ Some (x, us) → nothing_left us ≡ Some t → line_read word p line ≡ Some x
line_told word p line w ws us x t is b d over = same_line p line w word is ∙ told w p line ws us x t b d over
