-- Meaning: values that are read, or the least of the faults found where they should be.
use Rattle.std.specs.Prelude.{ℕ, nat_le, List, [], ◌∷◌, ◌++◌, Result, Ok, Err, if◌then◌else◌}
use Rattle.std.specs.List.{fold}
use Rattle.dz_config.specs.declared.fault.ConfigFault.{ConfigFault}
use Rattle.dz_config.specs.declared.fault.ConfigFault.TheVariants.{NotToml, UnknownKey, MissingValue, BadName}
use Rattle.dz_config.specs.declared.fault.ConfigFault.TheVariants.{UnknownPolicy, BadPeer, OutOfLimits, Twice}
use Rattle.dz_config.specs.declared.fault.ConfigFault.TheVariants.{BadSecret}

-- a value that was read, or a fault
abbrev pub Reading : Type 0 → Type 0
Reading X = Result X ConfigFault

-- the number of a fault, by which faults are compared
abbrev pub number_of : ConfigFault → ℕ
number_of NotToml = 1
number_of UnknownKey = 2
number_of MissingValue = 3
number_of BadName = 4
number_of UnknownPolicy = 5
number_of BadPeer = 6
number_of OutOfLimits = 7
number_of Twice = 8
number_of BadSecret = 9

-- the fault of the lesser number
abbrev pub least : ConfigFault → ConfigFault → ConfigFault
least f g = if nat_le (number_of f) (number_of g) then f else g

-- two values, or the lesser fault
abbrev pub both : {X Y : Type 0} → Reading X → Reading Y → Reading (X × Y)
both (Ok x) (Ok y) = Ok (x, y)
both (Ok x) (Err g) = Err g
both (Err f) (Ok y) = Err f
both (Err f) (Err g) = Err (least f g)

-- what is made of a value that was read
abbrev pub made : {X Y : Type 0} → (X → Y) → Reading X → Reading Y
made make (Ok x) = Ok (make x)
made make (Err f) = Err f

-- what is read in a value that was read
abbrev pub read_in : {X Y : Type 0} → (X → Reading Y) → Reading X → Reading Y
read_in read (Ok x) = read x
read_in read (Err f) = Err f

-- values and one more, or the least fault among them
abbrev pub more : {X : Type 0} → Reading (List X) → Reading X → Reading (List X)
more all one = made (λ p. p.0 ++ p.1 ∷ []) (both all one)

-- values in order, or the least fault among them
abbrev pub gathered : {X : Type 0} → List (Reading X) → Reading (List X)
gathered readings = fold more (Ok []) readings
