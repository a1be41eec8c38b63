pub mod Examples
pub mod Laws
pub mod Schedule
pub mod ScheduleExamples
pub mod ScheduleLaws
pub mod Timing
pub mod Values
pub mod inner
