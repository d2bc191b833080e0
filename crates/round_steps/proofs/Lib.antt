-- The laws of the theory of rounds.
pub mod RoundQueues
pub mod RoundArcs
pub mod RoundFrames
pub mod RoundReach
pub mod RoundCarried
pub mod RoundCut
pub mod RoundFloor
pub mod ArcLaws
pub mod RoundCounts
pub mod RoundInvariants
