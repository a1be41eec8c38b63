pub mod ClaimLemmas
pub mod DigestLemmas
pub mod PlaceLemmas
