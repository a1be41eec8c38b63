-- Judge: laws of what comes of a transfer.
use Rattle.std.specs.Prelude.{◌≡◌, ℕ, ◌<◌, true, List, [], ◌∷◌, ◌++◌, length, take, slice_index_or, Option, Some, None}
use Rattle.std.specs.Prelude.{if◌then◌else◌}
use Rattle.dz_name.specs.Words.{Name, Octets}
use Rattle.dz_record.specs.Record.{Record}
use Rattle.dz_zone.specs.Version.{Zone}
use Rattle.dz_xfr.specs.Apex.{is_apex_soa}
use Rattle.dz_xfr.specs.Stands.{Stands, Reading}
use Rattle.dz_axfr.specs.Whole.{IsWhole}
use Rattle.dz_axfr.specs.Whole as whole
use Rattle.dz_ixfr.specs.Incremental.{IsIncremental}
use Rattle.dz_ixfr.specs.Incremental as incremental
use Rattle.dz_message.specs.Frame.{AreShort, first_size, stream}
use Rattle.dz_take.specs.Form.{settled, base_of, is_old_soa, reading_of, decision_of, form}
use Rattle.dz_take.specs.Outcome.{judge, decided, or_incomplete, outcome, DecidesAt}
use Rattle.dz_take.specs.Transfer.{Transfer, Decision}

-- the outcome is that of the messages, however their octets were cut; a part of a frame after them doesn't count
abbrev pub MessagesDecide : Type 0
MessagesDecide = (transfer : Transfer) (messages : List Octets) (part : Octets) → AreShort messages
    → first_size part ≡ None → outcome transfer (stream messages ++ part) ≡ or_incomplete (decided transfer messages)

-- what messages decide is what one of them decides, and none before it decides
abbrev pub FirstDecides : Type 0
FirstDecides = (transfer : Transfer) (messages : List Octets) (decision : Decision)
    → decided transfer messages ≡ Some decision → (k : ℕ) × DecidesAt transfer messages k decision

-- what a message decides, where none before it decides, is what the messages decide
abbrev pub DecidingDecides : Type 0
DecidingDecides = (transfer : Transfer) (messages : List Octets) (k : ℕ) (decision : Decision)
    → DecidesAt transfer messages k decision → decided transfer messages ≡ Some decision

-- where messages decide nothing, none of them does
abbrev pub NoneDecides : Type 0
NoneDecides = (transfer : Transfer) (messages : List Octets) → decided transfer messages ≡ None → (j : ℕ)
    → j < length messages → judge transfer (take j messages) (slice_index_or messages j []) ≡ None

-- the version against which the records are read as differences, where they are of the incremental kind
abbrev pub kind_in : Name → Option Zone → List Record → Option Zone
kind_in apex None records = None
kind_in apex (Some zone) [] = None
kind_in apex (Some zone) (first ∷ []) = None
kind_in apex (Some zone) (first ∷ second ∷ rest) = if is_old_soa apex first second then Some zone else None

-- what holds of records as a whole, by the form of their kind
abbrev pub StandsOf : Name → Option Zone → List Record → Reading → Type 0
StandsOf apex None records reading = Stands (IsWhole apex) whole.Blames records reading
StandsOf apex (Some zone) records reading = Stands (IsIncremental zone) (incremental.Blames zone.apex) records reading

-- after a first SOA that settles nothing, what holds of the records by the form of their kind decides
abbrev pub FormDecides : Type 0
FormDecides = (transfer : Transfer) (first : Record) (rest : List Record) (reading : Reading)
    → is_apex_soa transfer.apex first ≡ true → settled transfer.held first ≡ None
    → StandsOf transfer.apex (kind_in transfer.apex (base_of transfer.ask transfer.held) (first ∷ rest))
    (first ∷ rest) reading → form transfer (first ∷ rest) ≡ decision_of transfer.apex reading

-- something holds of any records, by the form of their kind
abbrev pub FormStands : Type 0
FormStands = (apex : Name) (base : Option Zone) (records : List Record)
    → StandsOf apex (kind_in apex base records) records (reading_of apex base records)
