-- What comes of a transfer fits it.
use Rattle.std.proofs.Common.{◌≡◌, Bool, true, false, cond, List, [], ◌∷◌, ◌++◌, length, not, Option, Some, None}
use Rattle.std.proofs.Common.{Result, Ok, Err, refl}
use Rattle.std.specs.Bool.{⊤}
use Rattle.std.specs.Prelude.{◌==◌, nat_lt}
use Rattle.dz_name.specs.Words.{Octets}
use Rattle.dz_name.specs.declared.dns.TheConstants.{TRANSFER_OCTETS}
use Rattle.dz_record.specs.Record.{Record}
use Rattle.dz_record.specs.Records.{distinct}
use Rattle.dz_serial.specs.Serial.{is_newer}
use Rattle.dz_zone.specs.Valid.{fault_of}
use Rattle.dz_zone.specs.Version.{Zone}
use Rattle.dz_zone.specs.declared.fault.ZoneFault.{ZoneFault}
use Rattle.dz_xfr.specs.Apex.{is_apex_soa, serial_of, held_serial}
use Rattle.dz_xfr.specs.Stands.{Reading, more, complete, misfit}
use Rattle.dz_message.specs.Frame.{stream, messages_in}
use Rattle.dz_message.specs.Message.{Content}
use Rattle.dz_message.specs.Reading.{message_of}
use Rattle.dz_message.specs.declared.fault.MessageFault.{MessageFault}
use Rattle.dz_take.specs.Fit.{Fits, OutcomesFit}
use Rattle.dz_take.specs.Form.{settled, base_of, reading_of, checked, decision_of, or_else, form}
use Rattle.dz_take.specs.Outcome.{answers, responds, has_no_error, fits_question, judge_content, judge, decided_from}
use Rattle.dz_take.specs.Outcome.{decided, or_incomplete}
use Rattle.dz_take.specs.Transfer.{Transfer, Decision}

-- the same where something was decided
abbrev FitsIf : Transfer → Option Decision → Type 0
FitsIf transfer None = ⊤
FitsIf transfer (Some decision) = Fits transfer decision

either : {A : Type 0} (P : A → Type 0) (b : Bool) (x y : A) → P x → P y → P (cond b x y)
either P true x y one two = one
either P false x y one two = two

or_else_fits : (transfer : Transfer) (a b : Option Decision) → FitsIf transfer a → FitsIf transfer b
    → FitsIf transfer (or_else a b)
or_else_fits transfer None b one two = two
or_else_fits transfer (Some decision) b one two = one

settled_fits : (transfer : Transfer) (held : Option Zone) (first : Record) → transfer.held ≡ held
    → FitsIf transfer (settled held first)
settled_fits transfer None first e = tt
settled_fits transfer (Some zone) first e =
    either (FitsIf transfer) (serial_of first == held_serial zone) _ _ (rw e refl)
    (either (FitsIf transfer) (is_newer (held_serial zone) (serial_of first)) _ _ tt tt)

checked_fits : (transfer : Transfer) (records : List Record) (fault : Option ZoneFault)
    → Fits transfer (checked transfer.apex records fault)
checked_fits transfer records None = refl
checked_fits transfer records (Some fault) = tt

decision_fits : (transfer : Transfer) (reading : Reading) → FitsIf transfer (decision_of transfer.apex reading)
decision_fits transfer more = tt
decision_fits transfer (complete zone) = checked_fits transfer zone (fault_of transfer.apex (distinct zone))
decision_fits transfer (misfit fault) = tt

form_fits : (transfer : Transfer) (records : List Record) → FitsIf transfer (form transfer records)
unfolding form
form_fits transfer [] = tt
form_fits transfer (first ∷ rest) =
    either (FitsIf transfer) (is_apex_soa transfer.apex first) _ _
    (or_else_fits transfer (settled transfer.held first) _ (settled_fits transfer transfer.held first refl)
    (decision_fits transfer (reading_of transfer.apex (base_of transfer.ask transfer.held) (first ∷ rest))))
    tt

content_fits : (transfer : Transfer) (front : List Octets) (message : Result Content MessageFault)
    → FitsIf transfer (judge_content transfer front message)
content_fits transfer front (Err fault) = tt
content_fits transfer front (Ok m) =
    either (FitsIf transfer) (not (responds transfer.id m)) _ _ tt
    (either (FitsIf transfer) (not (has_no_error m)) _ _ tt
    (either (FitsIf transfer) (not (fits_question transfer (length front == 0) m.questions)) _ _ tt
    (form_fits transfer (answers front ++ m.answers))))

judge_fits : (transfer : Transfer) (front : List Octets) (message : Octets)
    → FitsIf transfer (judge transfer front message)
unfolding judge
judge_fits transfer front message =
    either (FitsIf transfer) (nat_lt TRANSFER_OCTETS (length (stream (front ++ message ∷ [])))) _ _ tt
    (content_fits transfer front (message_of message))

decided_fits : (transfer : Transfer) (front messages : List Octets)
    → FitsIf transfer (decided_from transfer front messages)
unfolding decided_from
decided_fits transfer front [] = tt
decided_fits transfer front (message ∷ messages) =
    or_else_fits transfer (judge transfer front message) _ (judge_fits transfer front message)
    (decided_fits transfer (front ++ message ∷ []) messages)

in_the_end : (transfer : Transfer) (decision : Option Decision) → FitsIf transfer decision
    → Fits transfer (or_incomplete decision)
in_the_end transfer None fits = tt
in_the_end transfer (Some decision) fits = fits

pub outcomes_fit : OutcomesFit
outcomes_fit transfer octets =
    in_the_end transfer (decided transfer (messages_in octets)) (decided_fits transfer [] (messages_in octets))
