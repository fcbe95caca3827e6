pub mod PipePairLemmas
pub mod FixedKinds
pub mod PlaceLemmas
pub mod ProcessLemmas
pub mod CommittedLemmas
pub mod SoundnessLemmas
pub mod RisingKeys
