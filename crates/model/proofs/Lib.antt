-- Laws of the lamp model.
pub mod Comparing
pub mod Keys
pub mod Arrays
pub mod Replies
pub mod Ordered
pub mod Sending
pub mod KindNumbers
pub mod LeadTimeLaws
