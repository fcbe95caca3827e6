pub mod LookLemmas
pub mod SlotTurnover
pub mod StoredHolders
pub mod PipePairs
pub mod DirectoryRoom
pub mod LowestFree
pub mod KindsStay
