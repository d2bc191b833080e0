-- Laws of the bytes of a gateway.
pub mod Stored
pub mod Tags
pub mod Chains
pub mod EventLaws
pub mod Validated
pub mod Places
pub mod LeadTimeFacts
pub mod Fitting
pub mod RoundTrips
pub mod FromBytes
pub mod FourWrites
pub mod Holding
pub mod StillBytes
pub mod SoundMemory
pub mod Changes
