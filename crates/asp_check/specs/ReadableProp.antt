-- That a program is readable has one proof at most, so a value can keep it.
use Rattle.std.specs.Prelude.{ℕ}
use denote.Struct.Props.{props}
use Rattle.asp_model.specs.Term.{Head, Make, Get, Put, Call, Clone, Active, Let, Steps, If, Repeat, Operate, Print, Group, Scatter, Size, Member, WaitAll, Tree, Trees, node, none, more, child_count}
use Rattle.asp_model.specs.Readable.{HasArity, IsReadable, AreReadable}

arity_prop : (h : Head) (k : ℕ) → IsProp (HasArity h k)
arity_prop (Make fields methods) k = hlevel props
arity_prop (Get l) k = hlevel props
arity_prop (Put l) k = hlevel props
arity_prop (Call l) k = hlevel props
arity_prop Clone k = hlevel props
arity_prop (Active service) k = hlevel props
arity_prop (Let x) k = hlevel props
arity_prop Steps k = hlevel props
arity_prop If k = hlevel props
arity_prop Repeat k = hlevel props
arity_prop (Operate sign) k = hlevel props
arity_prop Print k = hlevel props
arity_prop Group k = hlevel props
arity_prop (Scatter l) k = hlevel props
arity_prop Size k = hlevel props
arity_prop Member k = hlevel props
arity_prop WaitAll k = hlevel props
arity_prop h k = hlevel props

mutual
  pub readable_prop : (t : Tree) → IsProp (IsReadable t)
  readable_prop (node h ts) = hlevel (arity_prop h (child_count ts), all_prop ts, props)

  all_prop : (ts : Trees) → IsProp (AreReadable ts)
  all_prop none = hlevel props
  all_prop (more t ts) = hlevel (readable_prop t, all_prop ts, props)
