use Rattle.object_store.proofs.FieldLemmas.{places_set}
use Rattle.object_store.proofs.laws.places_set_are_fields_set.Goals as goal

pub returns : goal.returns
returns c = record { law = places_set }
