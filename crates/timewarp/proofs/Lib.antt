-- The laws and proofs of the theory.
pub mod Joined
pub mod Theorem
pub mod ExampleCalls
pub mod CallChains
pub mod SmallGraphs
pub mod RoundExamples
pub mod ExampleModel
pub mod EventExamples
pub mod WholeRun
