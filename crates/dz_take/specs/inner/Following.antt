-- Inner: the state of a taking, and the messages and answer records that led to it.
use Rattle.std.specs.Prelude.{◌≡◌, ℕ, ◌+◌, Bool, true, false, ◌==◌, not, nat_lt, List, [], ◌∷◌, ◌++◌, length, Option}
use Rattle.std.specs.Prelude.{Some, None, Result, Ok, Err, if◌then◌else◌}
use Rattle.dz_name.specs.Words.{Name, Octets}
use Rattle.dz_name.specs.declared.dns.TheConstants.{TRANSFER_OCTETS}
use Rattle.dz_record.specs.Record.{Record}
use Rattle.dz_zone.specs.Version.{Zone}
use Rattle.dz_serial.specs.Serial.{is_newer}
use Rattle.dz_xfr.specs.declared.fault.FeedError.{FeedError}
use Rattle.dz_xfr.specs.declared.fault.FeedError.TheVariants as feed_errors
use Rattle.dz_xfr.specs.declared.fault.Progress.{Progress}
use Rattle.dz_xfr.specs.declared.fault.Progress.TheVariants as progress
use Rattle.dz_xfr.specs.Apex.{is_apex_soa, held_serial}
use Rattle.dz_xfr.specs.Feeding.{IsOpen}
use Rattle.dz_axfr.specs.Whole.{IsWhole}
use Rattle.dz_axfr.specs.Whole as whole
use Rattle.dz_axfr.specs.Assembly as whole_assembly
use Rattle.dz_ixfr.specs.Incremental.{IsIncremental}
use Rattle.dz_ixfr.specs.Incremental as incremental
use Rattle.dz_ixfr.specs.Assembly as incremental_assembly
use Rattle.dz_message.specs.declared.fault.MessageError.{MessageError}
use Rattle.dz_message.specs.declared.fault.MessageError.TheVariants as message_errors
use Rattle.dz_message.specs.declared.fault.MessageFault.{MessageFault}
use Rattle.dz_message.specs.Frame.{stream, AreShort}
use Rattle.dz_name.specs.declared.dns.TheConstants.{LENGTH_OCTETS}
use Rattle.dz_message.specs.Message.{Content}
use Rattle.dz_message.specs.Reading.{message_of}
use Rattle.dz_header.specs.Flags.{code_of}
use Rattle.dz_take.specs.declared.outcome.Outcome.{Outcome}
use Rattle.dz_take.specs.declared.outcome.TakeFault.TheVariants.{Incomplete, Message, WrongId, WrongQuestion, Rcode}
use Rattle.dz_take.specs.declared.outcome.TakeFault.TheVariants.{Shape, OldSerial, TooLong}
use Rattle.dz_take.specs.declared.state.State.{State}
use Rattle.dz_take.specs.declared.state.State.TheVariants.{Waiting, First, Whole, Differences, Ended}
use Rattle.dz_take.specs.Form.{settled, base_of, is_old_soa, form}
use Rattle.dz_take.specs.Outcome.{answers, answers_in, responds, has_no_error, fits_question, decided, read_from}
use Rattle.dz_take.specs.Taken.{meaning_of}
use Rattle.dz_take.specs.Transfer.{Transfer, Decision, up_to_date, refused}

-- the second record begins the incremental form, where there is a version that differences lead on from
abbrev pub begins_differences : Name → Option Zone → Record → Record → Bool
begins_differences apex None first second = false
begins_differences apex (Some zone) first second = is_old_soa apex first second

-- the first record opens a form, and the held version leaves it open
pub record Opens (transfer : Transfer) (first : Record) : Type 0 where
  pub soa : is_apex_soa transfer.apex first ≡ true
  pub unsettled : settled transfer.held first ≡ None

-- two records or more that by the second are of the whole form
pub record IsWholeKind (transfer : Transfer) (records : List Record) : Type 0 where
  pub first : Record
  pub second : Record
  pub rest : List Record
  pub are : records ≡ first ∷ second ∷ rest
  pub opens : Opens transfer first
  pub kind : begins_differences transfer.apex (base_of transfer.ask transfer.held) first second ≡ false

-- records of the incremental form, from this version on
pub record IsIncrementalKind (transfer : Transfer) (zone : Zone) (records : List Record) : Type 0 where
  pub first : Record
  pub second : Record
  pub rest : List Record
  pub are : records ≡ first ∷ second ∷ rest
  pub opens : Opens transfer first
  pub base : base_of transfer.ask transfer.held ≡ Some zone
  pub kind : is_old_soa transfer.apex first second ≡ true

-- an assembler of the whole form that was fed these records, and that more is to come for
pub record AtWhole (transfer : Transfer) (records : List Record) (w : whole_assembly.Assembly) : Type 0 where
  pub is : w ≡ record { apex = transfer.apex; fed = records }
  pub is_open : IsOpen (IsWhole w.apex) whole.Blames w.fed
  pub kind : IsWholeKind transfer records

-- an assembler of the incremental form that was fed these records, and that more is to come for
pub record AtDifferences (transfer : Transfer) (records : List Record)
    (d : incremental_assembly.Assembly) : Type 0 where
  pub fed : d.fed ≡ records
  pub is_open : IsOpen (IsIncremental d.held) (incremental.Blames d.held.apex) d.fed
  pub kind : IsIncrementalKind transfer d.held records

-- the state after these answer records, where this is decided
abbrev pub Follows : Transfer → Option Decision → List Record → State → Type 0
Follows transfer decision records Waiting = (decision ≡ None) × (records ≡ [])
Follows transfer decision records (First first) = (decision ≡ None) × (records ≡ first ∷ []) × Opens transfer first
Follows transfer decision records (Whole w) = (decision ≡ None) × AtWhole transfer records w
Follows transfer decision records (Differences d) = (decision ≡ None) × AtDifferences transfer records d
Follows transfer decision records (Ended outcome) = decision ≡ Some (meaning_of outcome)

-- the state after these answer records
abbrev pub Reads : Transfer → List Record → State → Type 0
Reads transfer records state = Follows transfer (form transfer records) records state

-- the answer records that the state represents
abbrev pub records_in : State → List Record
records_in Waiting = []
records_in (First first) = first ∷ []
records_in (Whole w) = w.fed
records_in (Differences d) = d.fed
records_in (Ended outcome) = []

-- a state in which nothing is decided
abbrev pub IsUndecided : Transfer → State → Type 0
IsUndecided transfer state = Follows transfer None (records_in state) state

-- the outcome that an assembler's fault makes; running out of memory makes none
abbrev pub Refuses : FeedError → Outcome → Type 0
Refuses (feed_errors.Shape fault) outcome = meaning_of outcome ≡ refused (Shape fault)
Refuses feed_errors.OutOfMemory outcome = ⊥

-- the outcome of octets that aren't a message
abbrev pub IsUnreadable : MessageError → Outcome → Type 0
IsUnreadable (message_errors.Fault fault) outcome = meaning_of outcome ≡ refused (Message fault)
IsUnreadable message_errors.OutOfMemory outcome = ⊥

-- the version that differences lead on from, where the second record begins them
abbrev pub IsBase : Transfer → Record → Record → Option Zone → Type 0
IsBase transfer first second None =
    begins_differences transfer.apex (base_of transfer.ask transfer.held) first second ≡ false
IsBase transfer first second (Some zone) =
    (base_of transfer.ask transfer.held ≡ Some zone) × (is_old_soa transfer.apex first second ≡ true)
    × (zone.apex ≡ transfer.apex)

-- what a serial of the first SOA settles
abbrev pub serial_settles : Option Zone → ℕ → Option Decision
serial_settles None serial = None
serial_settles (Some zone) serial =
    if serial == held_serial zone then Some up_to_date
    else if is_newer (held_serial zone) serial then None
    else Some (refused (OldSerial serial))

-- what a message decides after these answer records, once it is read
abbrev pub content_decides : Transfer → Bool → List Record → Content → Option Decision
content_decides transfer is_first before m =
    if not (responds transfer.id m) then Some (refused WrongId)
    else if not (has_no_error m) then Some (refused (Rcode (code_of m.header.flags)))
    else if not (fits_question transfer is_first m.questions) then Some (refused WrongQuestion)
    else form transfer (before ++ m.answers)

-- what a message decides after these answer records, read or unreadable
abbrev pub read_decides : Transfer → Bool → List Record → Result Content MessageFault → Option Decision
read_decides transfer is_first before (Err fault) = Some (refused (Message fault))
read_decides transfer is_first before (Ok m) = content_decides transfer is_first before m

-- what the octets of a message decide after the given number of octets and these answer records
abbrev pub octets_decide : Transfer → ℕ → List Record → Octets → Option Decision
octets_decide transfer used before message =
    if nat_lt TRANSFER_OCTETS (used + LENGTH_OCTETS + length message) then Some (refused TooLong)
    else read_decides transfer (used == 0) before (message_of message)

-- the state after a message
abbrev pub Judges : Transfer → Bool → State → Content → State → Type 0
Judges transfer is_first old m new =
    Follows transfer (content_decides transfer is_first (records_in old) m) (records_in old ++ m.answers) new

-- the state after the octets of a message
abbrev pub JudgesOctets : Transfer → ℕ → State → Octets → State → Type 0
JudgesOctets transfer used old message new =
    Follows transfer (octets_decide transfer used (records_in old) message) (records_in old ++ answers_in message) new

-- the octets are those of messages, each preceded by its length, and the state is that after them
pub record IsTaking (transfer : Transfer) (octets : Octets) (state : State) : Type 0 where
  pub messages : List Octets
  pub are : octets ≡ stream messages
  pub short : AreShort messages
  pub follows : Follows transfer (decided transfer messages) (answers messages) state
  pub all : read_from transfer [] messages ≡ length messages

-- whether the state has an outcome
abbrev pub IsProgress : State → Progress → Type 0
IsProgress Waiting p = p ≡ progress.More
IsProgress (First first) p = p ≡ progress.More
IsProgress (Whole w) p = p ≡ progress.More
IsProgress (Differences d) p = p ≡ progress.More
IsProgress (Ended outcome) p = p ≡ progress.Ended

-- the outcome where the stream ends in this state
abbrev pub IsOutcome : State → Outcome → Type 0
IsOutcome Waiting result = meaning_of result ≡ refused Incomplete
IsOutcome (First first) result = meaning_of result ≡ refused Incomplete
IsOutcome (Whole w) result = meaning_of result ≡ refused Incomplete
IsOutcome (Differences d) result = meaning_of result ≡ refused Incomplete
IsOutcome (Ended outcome) result = result ≡ outcome
