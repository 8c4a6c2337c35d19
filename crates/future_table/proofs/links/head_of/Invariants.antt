use Rattle.std.proofs.Common.{◌≡◌, ◌<◌, length}
use Rattle.future_table.specs.Links.{IsAsAt, higher, link_at}
use Rattle.future_table.proofs.links.head_of.Given as goal

abbrev pub invariant-loop-link : goal.invariant-loop-link
invariant-loop-link l = record {
  within : l.at < length l.links;
  link : l.link ≡ link_at l.links l.at;
  alike : IsAsAt l.links l.from l.at;
}

abbrev pub decreases-loop-link : goal.decreases-loop-link
decreases-loop-link l = higher l.link.height l.links
