pub mod ActLemmas
pub mod EndLemmas
pub mod RunnerLemmas
pub mod StackLemmas
pub mod DrivenLemmas
