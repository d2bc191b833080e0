-- Laws of undoing.
pub mod RollbackLaws
pub mod SentMessages
pub mod RoomLaws
pub mod UndoLaws
pub mod Settling
pub mod StoredCancels
