-- What a redex comes to, as far as the kinds and labels of its operands tell.
use Rattle.std.specs.Prelude.{◌==◌, ℕ, ℤ, pos, negsuc, nat_lt, Bool, true, false, List, [], ◌∷◌, Option, Some, None, Ok, Err, length, map}
use Rattle.asp_model.specs.Names.{Name, Text, same_text}
use Rattle.asp_model.specs.Term.{MethodHead, SignShape, has_text}
use Rattle.asp_model.specs.Store.{CellShape, Number, Object, Reference, Future, Group}
use Rattle.asp_model.specs.Contraction as contraction
use Rattle.asp_model.specs.Shapes.{fault_shape, sign_shape}
use Rattle.step_rows.specs.Numbers.{Answer, answer}
use Rattle.step_rows.specs.declared.redex.Redex.{Redex}
use Rattle.step_rows.specs.declared.redex.Redex.TheVariants as redex
use Rattle.step_reads.specs.Prospects.{ProspectShape, Goes, GoesTo, Stops, Asks, Polls, Still}

-- a cell without its places
pub data Face : Type 0 where
  NumberFace : (n : ℤ) → Face
  ObjectFace : (fields : List Text) (methods : List MethodHead) → Face
  ReferenceFace : (n : Name) → Face
  FutureFace : Face
  GroupFace : (size : ℕ) → Face

abbrev pub face : CellShape → Face
face (Number n) = NumberFace n
face (Object fields methods) = ObjectFace (map (λ x. x.label) fields) (map (λ m. m.head) methods)
face (Reference n) = ReferenceFace n
face (Future f) = FutureFace
face (Group ns) = GroupFace (length ns)

abbrev pub field_labels : Face → List Text
field_labels (ObjectFace ls hs) = ls
field_labels f = []

abbrev pub method_heads : Face → List MethodHead
method_heads (ObjectFace ls hs) = hs
method_heads f = []

abbrev pub group_size : Face → Option ℕ
group_size (GroupFace n) = Some n
group_size f = None

abbrev pub face_number : Face → Option ℤ
face_number (NumberFace z) = Some z
face_number f = None

-- By what an operand is

abbrev pub goes_if : Bool → contraction.FaultShape → ProspectShape
goes_if true fault = Goes
goes_if false fault = Stops fault

abbrev pub at_field : Text → Face → ProspectShape
at_field l (ObjectFace ls hs) = goes_if (has_text l ls) contraction.NoField
at_field l (ReferenceFace n) = Stops contraction.ActiveField
at_field l f = Stops contraction.NotObject

abbrev pub head_at : Text → List MethodHead → Option MethodHead
head_at l [] = None
head_at l (h ∷ hs) = elim (same_text l h.label) [ true ↦ Some h | false ↦ head_at l hs ]

-- there is a method, and it has so many parameters
abbrev pub has_count : ℕ → Option MethodHead → Bool
has_count k None = false
has_count k (Some h) = length h.parameters == k

-- a call with so many arguments
abbrev pub at_call : Text → ℕ → Face → ProspectShape
at_call l k (NumberFace n) = Stops contraction.NotObject
at_call l k (ObjectFace ls hs) = goes_if (has_count k (head_at l hs)) contraction.NoMethod
at_call l k (ReferenceFace n) = GoesTo n
at_call l k FutureFace = Still
at_call l k (GroupFace n) = Goes

abbrev pub at_object : Face → ProspectShape
at_object (ObjectFace ls hs) = Goes
at_object f = Stops contraction.NotObject

abbrev pub at_number : Face → ProspectShape
at_number (NumberFace n) = Goes
at_number f = Stops contraction.NotNumber

abbrev pub at_answer : Answer → ProspectShape
at_answer (Ok n) = Goes
at_answer (Err fault) = Stops (fault_shape fault)

abbrev pub at_sign : SignShape → Face → Face → ProspectShape
at_sign sign (NumberFace x) (NumberFace y) = at_answer (answer sign x y)
at_sign sign f g = Stops contraction.NotNumber

-- where a group is wanted
abbrev pub at_group : Face → ProspectShape
at_group (GroupFace n) = Goes
at_group f = Stops contraction.NotGroup

abbrev pub at_scatter : Face → Face → ProspectShape
at_scatter (GroupFace n) (GroupFace k) = goes_if (n == k) contraction.BadMember
at_scatter f g = Stops contraction.NotGroup

-- of so many members the one with a number
abbrev pub at_number_of : ℕ → ℤ → ProspectShape
at_number_of n (pos k) = goes_if (nat_lt k n) contraction.BadMember
at_number_of n (negsuc k) = Stops contraction.BadMember

abbrev pub at_member : Face → Face → ProspectShape
at_member (GroupFace n) (NumberFace z) = at_number_of n z
at_member (GroupFace n) g = Stops contraction.NotNumber
at_member f g = Stops contraction.NotGroup

-- by the first and the second strict operand
abbrev pub prospect_at : Redex → Face → Face → ProspectShape
prospect_at redex.Goes f g = Goes
prospect_at (redex.Get i l) f g = at_field l.now.text f
prospect_at (redex.Put i l k) f g = at_field l.now.text f
prospect_at (redex.Call i l ks) f g = at_call l.now.text (length ks.now) f
prospect_at (redex.Clone i) f g = Goes
prospect_at (redex.Active i l) f g = at_object f
prospect_at (redex.Serve ls) f g = Asks
prospect_at (redex.Pending ls) f g = Polls
prospect_at (redex.If i) f g = at_number f
prospect_at (redex.Operate sign i k) f g = at_sign (sign_shape sign) f g
prospect_at (redex.Print i) f g = at_number f
prospect_at (redex.Scatter i l k) f g = at_scatter f g
prospect_at (redex.Size i) f g = at_group f
prospect_at (redex.Member i k) f g = at_member f g
prospect_at (redex.WaitAll i) f g = at_group f
