-- The gateway's calls: what they answer (Answers); what all of them come to (Effects); each on a gateway as a record of lists, in the order of document 01; then
-- all of them on the lent bytes (Calls).
pub mod Answers
pub mod Effects
pub mod SettingUp
pub mod Working
pub mod Undoing
pub mod Taking
pub mod Committing
pub mod Rounds
pub mod Calls
pub mod Examples
pub mod ReasonExamples
pub mod StockExamples
pub mod SoundnessExamples
pub mod TakingExamples
pub mod Claims
pub mod Inside
