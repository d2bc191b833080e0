-- Laws of lists and families.
pub mod BoolLaws
pub mod ListLaws
pub mod FamilyLaws
pub mod Ascents
pub mod SearchLaws
pub mod PositionLaws
pub mod PieceLaws
