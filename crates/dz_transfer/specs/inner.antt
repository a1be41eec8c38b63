-- Inner: jobs that were handed out, and marks of reports.
pub mod Marks
