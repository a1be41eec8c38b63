pub mod Disk
pub mod Laws
pub mod MemoryDisk
pub mod RecordLog
pub mod Several
pub mod inner
