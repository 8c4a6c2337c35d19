-- Whole checkpoints.
use denote.Ref.{Bor}
use Rattle.std.proofs.Common.{◌≡◌, ℕ, ◌+◌, ◌<◌, Bool, true, false, List, [], ◌∷◌, ◌++◌, length, take, drop, Option, Some, None, refl, ap, sym, subst, ◌∙◌, arith}
use Rattle.std.specs.Prelude.{bytes_eq}
use Rattle.std.proofs.Math.Seq.{take-append_seam}
use Rattle.std.proofs.lemmas.Bool.{false≢true}
use Rattle.std.proofs.lemmas.Bool.Decides.{same_from_decides}
use Rattle.std.proofs.lemmas.List.{append_cancel_left, take-append-drop}
use Rattle.std.proofs.lemmas.Slice.Eq.{bytes_eq-Decides}
use Rattle.asp_model.specs.Names.{FutureShape, Name, Text, same_text}
use Rattle.asp_model.specs.Parcel.{ParcelShape}
use Rattle.law_frozen.specs.Frozen.{FrozenActivity}
use Rattle.checkpoint_text.specs.Reading.{CheckpointReading, Reads, Malformed, activities_read, body_read, frozen_by, lines_read}
use Rattle.checkpoint_items.specs.declared.error.ReadError.{ReadError}
use Rattle.checkpoint_items.specs.declared.error.ReadError.TheVariants as errors
use Rattle.checkpoint_items.specs.Answers.{Refuses}
use Rattle.checkpoint_parts.specs.declared.parts.ActivityText.{ActivityText}
use Rattle.checkpoint_files.specs.Files.{TellsWhy, activity_shapes, texts}

-- The line of the program

same_told : (xs ys : Text) → same_text xs ys ≡ true → xs ≡ ys
same_told xs ys = (bytes_eq-Decides xs ys).0

same_same : (xs ys : Text) → xs ≡ ys → same_text xs ys ≡ true
same_same xs ys = (bytes_eq-Decides xs ys).1

by_false : (b : Bool) → (b ≡ true → ⊥) → b ≡ false
by_false true h = absurd (h refl)
by_false false h = refl

-- it does not begin so
pub other_program : (line w p : Text) → bytes_eq (take (length w) line) w ≡ false → same_text line (w ++ p) ≡ false
other_program line w p e = by_false (same_text line (w ++ p))
    (λ t. false≢true (sym e ∙ same_same (take (length w) line) w
    (ap (take (length w)) (same_told line (w ++ p) t) ∙ take-append_seam w p)))

begun : (line w x : Text) → bytes_eq (take (length w) line) w ≡ true → x ≡ drop (length w) line → line ≡ w ++ x
begun line w x e d =
    sym (take-append-drop (length w) line)
    ∙ (λ i. same_told (take (length w) line) w e i ++ sym d i)

-- it begins so
pub same_program : (line w p x : Text) → bytes_eq (take (length w) line) w ≡ true → x ≡ drop (length w) line
    → same_text x p ≡ same_text line (w ++ p)
same_program line w p x e d =
    same_from_decides (same_text x p) (same_text (w ++ x) (w ++ p))
    (λ t. ap (λ (y : Text). w ++ y) (same_told x p t), λ s. same_same x p (append_cancel_left w x p s))
    (bytes_eq-Decides (w ++ x) (w ++ p))
    ∙ ap (λ (t : Text). same_text t (w ++ p)) (sym (begun line w x e d))

-- Activities up to the line `end`

-- activities behind others that were read before
abbrev pub front : List FrozenActivity → Option (List FrozenActivity) → Option (List FrozenActivity)
front xs None = None
front xs (Some ys) = Some (xs ++ ys)

-- those before this line are read
abbrev pub AreFront : List (Bor (List ℕ)) → ℕ → List ActivityText → Type 0
AreFront ls i xs = activities_read (texts ls) ≡ front (activity_shapes xs) (activities_read (texts (drop i ls)))

-- The three parts

tells_by : {X : Type 0} (g : Option X → CheckpointReading) → g None ≡ Malformed → (o : Option X) (e : ReadError)
    → Refuses o e → TellsWhy (g o) e
tells_by g n o errors.Malformed h = ap g h ∙ n
tells_by g n o errors.OtherProgram h = absurd h
tells_by g n o errors.NotText h = h
tells_by g n o errors.Memory h = h

pub no_homes : (hs : Option (List (FutureShape × Name))) (fs : Option (List (FutureShape × ParcelShape)))
    (xs : Option (List FrozenActivity)) (e : ReadError) → Refuses hs e → TellsWhy (frozen_by hs fs xs) e
no_homes hs fs xs e r = tells_by (λ (o : Option (List (FutureShape × Name))). frozen_by o fs xs) refl hs e r

pub no_values : (hs : Option (List (FutureShape × Name))) (fs : Option (List (FutureShape × ParcelShape)))
    (xs : Option (List FrozenActivity)) (e : ReadError) (h : List (FutureShape × Name)) → hs ≡ Some h → Refuses fs e
    → TellsWhy (frozen_by hs fs xs) e
no_values hs fs xs e h is r =
    subst (λ (o : Option (List (FutureShape × Name))). TellsWhy (frozen_by o fs xs) e) (sym is)
    (tells_by (λ (o : Option (List (FutureShape × ParcelShape))). frozen_by (Some h) o xs) refl fs e r)

pub no_activities : (hs : Option (List (FutureShape × Name))) (fs : Option (List (FutureShape × ParcelShape)))
    (xs : Option (List FrozenActivity)) (e : ReadError) (h : List (FutureShape × Name))
    (f : List (FutureShape × ParcelShape)) → hs ≡ Some h → fs ≡ Some f → Refuses xs e
    → TellsWhy (frozen_by hs fs xs) e
no_activities hs fs xs e h f is has r =
    subst (λ (o : Option (List (FutureShape × Name))). TellsWhy (frozen_by o fs xs) e) (sym is)
    (subst (λ (o : Option (List (FutureShape × ParcelShape))). TellsWhy (frozen_by (Some h) o xs) e) (sym has)
    (tells_by (λ (o : Option (List FrozenActivity)). frozen_by (Some h) (Some f) o) refl xs e r))

pub three_parts : (hs : Option (List (FutureShape × Name))) (fs : Option (List (FutureShape × ParcelShape)))
    (xs : Option (List FrozenActivity)) (h : List (FutureShape × Name)) (f : List (FutureShape × ParcelShape))
    (x : List FrozenActivity)
    → hs ≡ Some h → fs ≡ Some f → xs ≡ Some x
    → frozen_by hs fs xs ≡ Reads (record { homes = h; filled = f; activities = x })
three_parts hs fs xs h f x is has are = λ i. frozen_by (is i) (has i) (are i)

-- fewer than two lines
pub short_body : (ls : List (Bor (List ℕ))) → length ls < 2 → body_read (texts ls) ≡ Malformed
short_body [] h = refl
short_body (l ∷ []) h = refl
short_body (l ∷ k ∷ ks) h = absurd (omega (arith, h))

pub short_text : (p : Text) (ls : List (Bor (List ℕ))) → length ls < 2 → lines_read p (texts ls) ≡ Malformed
short_text p [] h = refl
short_text p (l ∷ []) h = refl
short_text p (l ∷ k ∷ ks) h = absurd (omega (arith, h))
