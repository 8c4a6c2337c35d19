use Rattle.law_families.proofs.FamilyLaws.{one_sender_is_complete}
use Rattle.law_families.proofs.families.one_sender_is_complete.Goals as goal

pub returns : goal.returns
returns c = one_sender_is_complete
