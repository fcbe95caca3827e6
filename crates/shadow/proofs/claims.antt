pub mod EditClaims
pub mod ClaimCounts
pub mod Reservations
pub mod NewNumbers
pub mod ReleasedClaims
pub mod Rooms
pub mod CallClaims
pub mod ReleasedDescriptions
