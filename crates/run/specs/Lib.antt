-- The run of demand 3, in the words of document 01's section of that name.
pub mod Forecast
pub mod SingleQueue
pub mod Ledger
pub mod World
pub mod Demand3
pub mod Further
pub mod WhatWaits
pub mod RoundsEnd
pub mod ExampleRun
pub mod OrderExamples
pub mod HoursExamples
pub mod RunExamples
pub mod RecordsTaken
pub mod History
pub mod Balanced
pub mod HistoryExamples
