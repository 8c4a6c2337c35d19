-- What the walk over a program has seen, and what the parts of a term add to it.
use Rattle.std.specs.Prelude.{◌≡◌, ℕ, List, [], ◌∷◌, ◌++◌, Option, map}
use Rattle.std.specs.Option.{option_map}
use Rattle.asp_model.specs.declared.term.Term.{Term}
use Rattle.asp_model.specs.declared.term.Method.{Method}
use Rattle.asp_model.specs.declared.term.Mark.{Mark}
use Rattle.asp_model.specs.declared.word.Label.{Label}
use Rattle.asp_model.specs.Names.{Text}
use Rattle.asp_model.specs.Term.{MethodHead}
use Rattle.asp_model.specs.Marked.{Marked, all_marked}
use Rattle.asp_model.specs.Shapes.{marked_of}
use Rattle.asp_check.specs.declared.fault.CheckFault.{CheckFault}
use Rattle.asp_check.specs.declared.fault.CheckKind.{CheckKind}
use Rattle.asp_check.specs.declared.fault.CheckKind.TheVariants.{DoubleLabel, DoubleParameter}
use Rattle.asp_check.specs.declared.arity.ArityPlace.{ArityPlace}
use Rattle.asp_check.specs.declared.places.Places.{Places}
use Rattle.asp_check.specs.declared.walk.Walk.{Walk}
use Rattle.asp_check.specs.Least.{least_of}
use Rattle.asp_check.specs.Placed.{placed, behind}
use Rattle.asp_check.specs.NameFaults.{NameSet, repeats, method_faults, object_faults, name_faults_below}
use Rattle.asp_check.specs.ArityFaults.{LabelArity, method_arities, arities_among}
use Rattle.asp_check.specs.Sets.{names_in}

abbrev pub arity_of : ArityPlace → LabelArity
arity_of p = record { label = p.label.now; arity = p.arity; place = p.at; kind = p.kind }

abbrev pub service_text : Option Label → Option Text
service_text = option_map (λ l. l.text)

-- the names that are bound where the walk is
abbrev pub bound_in : Walk → NameSet
bound_in w = names_in w.bound

abbrev pub arities_seen : Walk → List LabelArity
arities_seen w = map arity_of w.arities.items

-- the walk has seen these arities too
abbrev pub Sees : Walk → List LabelArity → Walk → Type 0
Sees old xs new = arities_seen new ≡ arities_seen old ++ xs

-- the walk keeps the least of what it had found and these faults
abbrev pub Finds : Walk → List CheckFault → Walk → Type 0
Finds old fs new = new.least ≡ least_of old.least fs

abbrev pub field_label : Label × Term → Text
field_label f = f.0.text

abbrev pub field_term : Label × Term → Marked
field_term f = marked_of f.1

abbrev pub head_of : Method → MethodHead
head_of m = record { label = m.label.text; slf = m.slf; parameters = m.parameters.items }

abbrev pub body_of : Method → Marked
body_of m = marked_of m.body

-- the names that a method binds in its body
abbrev pub names_of : Method → List Text
names_of m = m.slf ∷ m.parameters.items

-- a fault at each name that stood earlier
abbrev pub repeats_at : CheckKind → NameSet → List Text → Places → List CheckFault
repeats_at kind earlier xs p = repeats kind earlier (placed p.node xs p.left.now)

-- a fault at each field's label that stood earlier
abbrev pub double_labels : NameSet → List (Label × Term) → Places → List CheckFault
double_labels earlier fields p = repeats_at DoubleLabel earlier (map field_label fields) p

-- a fault at each of the names of a head that stood earlier in it
abbrev pub double_parameters : NameSet → List Text → Places → List CheckFault
double_parameters earlier xs p = repeats_at DoubleParameter earlier xs p

-- the places that names leave
abbrev pub left_by : List Text → Places → List ℕ
left_by xs p = behind xs p.left.now

-- what methods' labels and heads add
abbrev pub faults_of_heads : NameSet → List Method → Places → List CheckFault
faults_of_heads labels methods p = method_faults p.node labels (map head_of methods) p.left.now

-- what an object's labels and heads add
abbrev pub faults_of_object : List (Label × Term) → List Method → Mark → List CheckFault
faults_of_object fields methods m = object_faults m.at (map field_label fields) (map head_of methods) m.names.items

-- what terms add where they stand side by side
abbrev pub faults_of_all : NameSet → List Marked → List CheckFault
faults_of_all bound ts = name_faults_below bound [] (all_marked ts)

abbrev pub arities_of_all : List Marked → List LabelArity
arities_of_all ts = arities_among [] (all_marked ts)

-- what methods add under an object, from their labels' places on
abbrev pub faults_of_bodies : NameSet → List Method → List CheckFault
faults_of_bodies bound ms = name_faults_below bound (map names_of ms) (all_marked (map body_of ms))

abbrev pub arities_of_methods : Places → List Method → List LabelArity
arities_of_methods p ms = arities_among (method_arities p.node (map head_of ms) p.left.now) (all_marked (map body_of ms))
