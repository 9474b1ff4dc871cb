pub mod Ranged
pub mod RoundTrip
