-- Where a request went.
use Rattle.asp_model.specs.Names.{Name, Text}
use Rattle.wait_circles.specs.declared.targets.Target.{Target}

-- who received a request, and its label
abbrev pub Place : Type 0
Place = Name × Text

abbrev pub place_of : Target → Place
place_of t = (t.to, t.label.text)
