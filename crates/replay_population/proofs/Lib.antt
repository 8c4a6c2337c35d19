pub mod PopulationLemmas
pub mod OutlookLemmas
pub mod GivingLemmas
pub mod DeliveryLemmas
pub mod EndLemmas
