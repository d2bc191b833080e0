-- Laws and proofs of the views.
pub mod ViewParts
pub mod Measuring
pub mod Writing
pub mod ViewBranches
pub mod ViewAnswers
pub mod SeenAlike
pub mod Telling
pub mod SecrecyProved
pub mod ViewTable
