-- Meaning: the numbers of the faults of a message.
use Rattle.std.specs.Prelude.{ℕ}
use Rattle.dz_message.specs.declared.fault.MessageFault.{MessageFault}
use Rattle.dz_message.specs.declared.fault.MessageFault.TheVariants.{Wire, ShortHeader, BadRdata, BadType, Trailing}

-- the number of a fault
abbrev pub fault_number : MessageFault → ℕ
fault_number Wire = 1
fault_number ShortHeader = 2
fault_number BadRdata = 3
fault_number BadType = 4
fault_number Trailing = 5
