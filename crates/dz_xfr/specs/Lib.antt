pub mod Answers
pub mod Apex
pub mod Feeding
pub mod Place
pub mod Room
pub mod Stands
pub mod inner
