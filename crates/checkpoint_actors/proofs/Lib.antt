mod MapLemmas
mod CountLemmas
mod QueueLemmas
mod ActorLemmas
mod ValueLemmas
mod PartLemmas
