-- Meaning: why a transfer is refused, as it is written.
use Rattle.std.specs.Prelude.{◌++◌, ℕ, codes, decimal}
use Rattle.dz_name.specs.Words.{Octets}
use Rattle.dz_message.specs.Fault.{fault_number}
use Rattle.dz_xfr.specs.declared.fault.ShapeFault.{ShapeFault}
use Rattle.dz_xfr.specs.declared.fault.ShapeFault.TheVariants.{NotSoaFirst, AfterEnd, SerialGap, DeleteMissing}
use Rattle.dz_xfr.specs.declared.fault.ShapeFault.TheVariants.{AddPresent}
use Rattle.dz_zone.specs.declared.fault.ZoneFault.{ZoneFault}
use Rattle.dz_zone.specs.declared.fault.ZoneFault.TheVariants.{NoSoa, SoaTwice, SoaBelow, NoNs, OutOfZone, CnameBeside}
use Rattle.dz_zone.specs.declared.fault.ZoneFault.TheVariants.{CnameTwice, DnameTwice, TooMany}
use Rattle.dz_tsig.specs.Fault.{number_of}
use Rattle.dz_take.specs.declared.outcome.TakeFault.{TakeFault}
use Rattle.dz_take.specs.declared.outcome.TakeFault.TheVariants.{Incomplete, Message, WrongId, WrongQuestion, Rcode}
use Rattle.dz_take.specs.declared.outcome.TakeFault.TheVariants.{Shape, Zone, OldSerial, TooLong, Tsig}

-- the word for what is wrong with the records' form
abbrev pub shape_word : ShapeFault → Octets
shape_word NotSoaFirst = codes "not-soa-first"
shape_word AfterEnd = codes "after-end"
shape_word SerialGap = codes "serial-gap"
shape_word DeleteMissing = codes "delete-missing"
shape_word AddPresent = codes "add-present"

-- the word for what is wrong with the zone
abbrev pub zone_word : ZoneFault → Octets
zone_word NoSoa = codes "no-soa"
zone_word SoaTwice = codes "soa-twice"
zone_word SoaBelow = codes "soa-below"
zone_word NoNs = codes "no-ns"
zone_word OutOfZone = codes "out-of-zone"
zone_word CnameBeside = codes "cname-beside"
zone_word CnameTwice = codes "cname-twice"
zone_word DnameTwice = codes "dname-twice"
zone_word TooMany = codes "too-many"

-- a word, and a number in decimal right after it
abbrev pub numbered : Octets → ℕ → Octets
numbered word number = word ++ decimal number

-- the words of a refusal's reason, and the number after them where it has one
abbrev pub reason_of : TakeFault → Octets
reason_of Incomplete = codes "incomplete"
reason_of (Message fault) = numbered (codes "message ") (fault_number fault)
reason_of WrongId = codes "wrong-id"
reason_of WrongQuestion = codes "wrong-question"
reason_of (Rcode code) = numbered (codes "rcode ") code
reason_of (Shape fault) = codes "shape " ++ shape_word fault
reason_of (Zone fault) = codes "zone " ++ zone_word fault
reason_of (OldSerial serial) = numbered (codes "old-serial ") serial
reason_of TooLong = codes "too-long"
reason_of (Tsig fault) = numbered (codes "tsig ") (number_of fault)
