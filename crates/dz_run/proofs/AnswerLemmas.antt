-- No line of `answer` ends it with Done.
use Rattle.std.proofs.Common.{ℕ, List, Option, Some, None}
use Rattle.dz_name.specs.Words.{Name, Octets}
use Rattle.dz_message.specs.Frame.{frame}
use Rattle.dz_table.specs.Slot.{SlotOf}
use Rattle.dz_take.specs.Outcome.{outcome}
use Rattle.dz_take.specs.Transfer.{Decision, up_to_date, new, refused}
use Rattle.dz_script.specs.Hex.{octets_in}
use Rattle.dz_script.specs.Line.{is_skipped}
use Rattle.dz_run.specs.Answering.{State, transfer_of, answer_rules, answer_turn, line_turn, zone_turn, taking_turn}
use Rattle.dz_run.specs.Answering.{request_turn}
use Rattle.dz_run.specs.ZoneLine.{zone_line}
use Rattle.dz_run.proofs.EndLemmas.{IsTurnBefore, EndBefore, either}

taking_before : (apex : Name) (decision : Decision) → IsTurnBefore (taking_turn apex decision)
taking_before apex (new zone) = tt
taking_before apex (refused fault) = tt
taking_before apex up_to_date = tt

zone_before : (number : ℕ) (fields : Option (Name × Octets)) → IsTurnBefore (zone_turn number fields)
zone_before number None = λ is. cc
zone_before number (Some fields) = taking_before fields.0 (outcome (transfer_of fields.0) (frame fields.1))

request_before : (slots : List SlotOf) (number : ℕ) (octets : Option Octets)
    → IsTurnBefore (request_turn slots number octets)
request_before slots number None = λ is. cc
request_before slots number (Some octets) = tt

line_before : (state : State) (number : ℕ) (line : Octets) → IsTurnBefore (line_turn state number line)
unfolding line_turn
line_before None number line = zone_before number (zone_line line)
line_before (Some slots) number line = request_before slots number (octets_in line)

turn_before : (state : State) (number : ℕ) (line : Octets) → IsTurnBefore (answer_turn state number line)
unfolding answer_turn
turn_before state number line = either IsTurnBefore (is_skipped line) _ _ tt (line_before state number line)

pub answer_ends : EndBefore answer_rules
answer_ends = record { turn = turn_before; long = λ state number is. cc }
