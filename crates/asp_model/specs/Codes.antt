-- Codes of terms, cells, parcels and configurations, by which a model may have them as its value.
use Rattle.std.specs.Prelude.{◌≡◌, Bool, T, true, false}
use Rattle.std.proofs.Common.{ap, sym, subst, refl}
use Rattle.std.specs.Coded.{codes}
use base.Stored.{Coded, Gv, gnil, gcons}
use Rattle.asp_model.specs.Term.{Head, Tree, Trees, node, none, more}
use Rattle.asp_model.specs.Store.{MethodShape, CellShape}
use Rattle.asp_model.specs.Parcel.{ParcelShape}
use Rattle.asp_model.specs.Split.{Context}
use Rattle.asp_model.specs.Configuration.{RequestShape, ServiceShape, Activity, Configuration}

-- what stands first in a pair of codes
abbrev first : Gv → Gv
first (gcons a b) = a
first c = c

-- what stands second in it
abbrev second : Gv → Gv
second (gcons a b) = b
second c = c

-- a code is a pair
abbrev is_pair : Gv → Bool
is_pair (gcons a b) = true
is_pair c = false

-- codes of nodes
pub coded_head : Coded Head
coded_head = hlevel codes

abbrev mutual
  -- the numbers of a node, then those of the terms below
  code_tree : Tree → Gv
  code_tree (node h ts) = gcons (coded_head.code h) (code_trees ts)

  code_trees : Trees → Gv
  code_trees none = gnil
  code_trees (more t ts) = gcons (code_tree t) (code_trees ts)

mutual
  tree_told : (t u : Tree) → code_tree t ≡ code_tree u → t ≡ u
  tree_told (node h ts) (node k us) p = λ i. node (coded_head.inj h k (ap first p) i) (trees_told ts us (ap second p) i)

  trees_told : (ts us : Trees) → code_trees ts ≡ code_trees us → ts ≡ us
  trees_told none none p = refl
  trees_told none (more u us) p = absurd (subst (λ g. T (is_pair g)) (sym p) tt)
  trees_told (more t ts) none p = absurd (subst (λ g. T (is_pair g)) p tt)
  trees_told (more t ts) (more u us) p = λ i. more (tree_told t u (ap first p) i) (trees_told ts us (ap second p) i)

-- codes of terms
pub coded_tree : Coded Tree
coded_tree = record { code = code_tree; inj = tree_told }

-- codes of terms below a node
pub coded_trees : Coded Trees
coded_trees = record { code = code_trees; inj = trees_told }

-- codes of the methods of objects
pub coded_method : Coded MethodShape
coded_method = hlevel (codes, coded_tree)

-- codes of cells
pub coded_cell : Coded CellShape
coded_cell = hlevel (codes, coded_method)

-- codes of deep copies
pub coded_parcel : Coded ParcelShape
coded_parcel = hlevel (codes, coded_cell)

-- codes of requests
pub coded_request : Coded RequestShape
coded_request = hlevel (codes, coded_parcel)

-- codes of contexts
pub coded_context : Coded Context
coded_context = hlevel (codes, coded_head, coded_trees)

-- codes of suspended services
pub coded_service : Coded ServiceShape
coded_service = hlevel (codes, coded_context)

-- codes of activities
pub coded_activity : Coded Activity
coded_activity = hlevel (codes, coded_tree, coded_service, coded_cell)

-- codes of configurations
pub coded_configuration : Coded Configuration
coded_configuration = hlevel (codes, coded_activity, coded_request, coded_parcel)
