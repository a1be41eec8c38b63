-- Answer: the fault of a store that an error of its records is.
use Rattle.dz_disk.specs.declared.record_error.RecordError.{RecordError}
use Rattle.dz_disk.specs.declared.record_error.RecordError.TheVariants as errors
use Rattle.dz_store.specs.declared.fault.StoreFault.{StoreFault}
use Rattle.dz_store.specs.declared.fault.StoreFault.TheVariants as faults

-- the fault that an error of the records is
abbrev pub fault_of : RecordError → StoreFault
fault_of errors.Disk = faults.DiskFault
fault_of errors.Full = faults.Full
fault_of errors.OutOfMemory = faults.OutOfMemory
