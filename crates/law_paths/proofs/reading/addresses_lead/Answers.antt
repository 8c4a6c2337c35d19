use Rattle.law_paths.proofs.AddressLemmas.{addresses_lead}
use Rattle.law_paths.proofs.reading.addresses_lead.Goals as goal

pub returns : goal.returns
returns c = addresses_lead
