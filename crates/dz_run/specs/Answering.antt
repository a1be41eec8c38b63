-- Meaning: what `answer` writes: a zone is taken from the first line, and each further line is a request over UDP at
-- moment 0.
use Rattle.std.specs.Prelude.{ℕ, false, List, [], ◌∷◌, ◌++◌, codes, decimal, Option, Some, None, if◌then◌else◌}
use Rattle.std.specs.Option.{option_and_then, option_map_or}
use Rattle.hex.specs.Hex.{encode_lower}
use Rattle.dz_script.specs.Script.{Turn, goes_on, ends, Said, Rules}
use Rattle.dz_name.specs.Text.{text_of}
use Rattle.dz_record.specs.Record.{soa_of}
use Rattle.dz_zone.specs.Version.{Zone, apex_soa}
use Rattle.dz_message.specs.Frame.{frame}
use Rattle.dz_table.specs.Slot.{SlotOf}
use Rattle.dz_reply.specs.Reply.{Reply, nothing, written, notify, reply_of}
use Rattle.dz_take.specs.Outcome.{outcome}
use Rattle.dz_take.specs.Transfer.{Transfer, Decision, up_to_date, new, refused}
use Rattle.dz_take.specs.declared.ask.Ask.TheVariants.{Axfr}
use Rattle.dz_take.specs.declared.outcome.TakeFault.{TakeFault}
use Rattle.dz_report.specs.Reason.{reason_of}
use Rattle.dz_run.specs.declared.answering.End.{End}
use Rattle.dz_run.specs.declared.answering.End.TheVariants.{Done, BadInput}
use Rattle.dz_run.specs.ZoneLine.{zone_line}
use Rattle.dz_name.specs.Words.{Name, Octets}
use Rattle.dz_script.specs.Hex.{octets_in}
use Rattle.dz_script.specs.Line.{is_skipped}

-- what `answer` goes on with: the table, once the zone is there
abbrev pub State : Type 0
State = Option (List SlotOf)

-- a word, a number in decimal, and the end of the line
abbrev pub numbered_line : Octets → ℕ → Octets
numbered_line word number = word ++ (decimal number ++ (10 ∷ []))

-- what is written of a bad line, by its number
abbrev pub bad : ℕ → Octets
bad number = numbered_line (codes "bad ") number

-- the serial of a zone's SOA
abbrev pub serial_of : Zone → ℕ
serial_of zone = option_map_or (λ soa. soa.serial) (option_and_then soa_of (apex_soa zone)) 0

-- the one slot of the table: the zone, refreshed at moment 0
abbrev pub slot_for : Name → Option Zone → List SlotOf
slot_for apex version = record { zone = apex; refreshed = 0; version = version } ∷ []

-- the transfer of the first line: of the whole zone, with ID 1, and without a held version
abbrev pub transfer_of : Name → Transfer
transfer_of apex = record { apex = apex; ask = Axfr; id = 1; held = None }

-- what is written of a refused transfer: its reason
abbrev pub refusal : TakeFault → Octets
refusal fault = codes "refused " ++ (reason_of fault ++ (10 ∷ []))

-- what comes of the zone's octets: it is served with its version, or without one. The outcome that a held version is
-- the primary's doesn't occur, since none is held (`outcomes_fit`)
abbrev pub taking_turn : Name → Decision → Turn State End
taking_turn apex (new zone) =
    goes_on (numbered_line (codes "taken ") (serial_of zone)) (Some (slot_for apex (Some zone)))
taking_turn apex (refused fault) = goes_on (refusal fault) (Some (slot_for apex None))
taking_turn apex up_to_date = goes_on [] (Some (slot_for apex None))

-- the one message of the line is the whole stream
abbrev pub zone_turn : ℕ → Option (Name × Octets) → Turn State End
zone_turn number None = ends (bad number) None BadInput
zone_turn number (Some fields) = taking_turn fields.0 (outcome (transfer_of fields.0) (frame fields.1))

-- what is written for a reply
abbrev pub reply_text : Reply → Octets
reply_text nothing = codes "none\n"
reply_text (written octets) = encode_lower octets ++ (10 ∷ [])
reply_text (notify name) = codes "notify " ++ (text_of name ++ (10 ∷ []))

-- a request is answered by the table at moment 0; one that isn't in hex is a bad line
abbrev pub request_turn : List SlotOf → ℕ → Option Octets → Turn State End
request_turn slots number None = ends (bad number) (Some slots) BadInput
request_turn slots number (Some octets) = goes_on (reply_text (reply_of slots octets 0 false)) (Some slots)

-- a line that isn't skipped: the zone's, or a request
abbrev pub line_turn : State → ℕ → Octets → Turn State End
line_turn None number line = zone_turn number (zone_line line)
line_turn (Some slots) number line = request_turn slots number (octets_in line)

-- what a line does; before the zone is taken there is no table
abbrev pub answer_turn : State → ℕ → Octets → Turn State End
answer_turn state number line = if is_skipped line then goes_on [] state else line_turn state number line

-- a line past the limit is bad
abbrev pub answer_too_long : State → ℕ → Said State End
answer_too_long state number = record { text = bad number; state = state; ending = BadInput }

-- the first line must be there
abbrev pub answer_finish : State → ℕ → Said State End
answer_finish None number = record { text = bad number; state = None; ending = BadInput }
answer_finish (Some slots) number = record { text = []; state = Some slots; ending = Done }

-- the rules of the script
abbrev pub answer_rules : Rules State End
answer_rules = record { turn = answer_turn; too_long = answer_too_long; finish = answer_finish }

-- a turn with this text and this state, and how it ends the script if it does
abbrev pub turn_from : {S E : Type 0} → Octets → Option E → S → Turn S E
turn_from text None state = goes_on text state
turn_from text (Some ending) state = ends text state ending
