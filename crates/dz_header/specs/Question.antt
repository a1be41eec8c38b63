-- Meaning: the question at an offset of a message (RFC 1035 section 4.1.2).
use Rattle.std.specs.Prelude.{ℕ, ◌+◌, ◌-◌, nat_lt, length, drop, Result, Ok, Err, if◌then◌else◌}
use Rattle.dz_name.specs.Numbers.{number_of_two}
use Rattle.dz_name.specs.Reading.{Reading, name_at}
use Rattle.dz_name.specs.declared.wire_fault.WireFault.{WireFault}
use Rattle.dz_name.specs.declared.wire_fault.WireFault.TheVariants.{Short}
use Rattle.dz_header.specs.declared.question.Question.{Question}
use Rattle.dz_header.specs.declared.question.TheConstants.{QUESTION_OCTETS}
use Rattle.dz_name.specs.Words.{Name, Octets}

-- a question of this name whose type and class are the first octets
abbrev pub question_of : Name → Octets → Question
question_of name octets = record { name = name; kind = number_of_two octets; class = number_of_two (drop 2 octets) }

-- the question of a name that was read and the type and class after it, and the offset after them
abbrev pub question_behind : Octets → Reading → Result (Question × ℕ) WireFault
question_behind m (Ok name) =
    if nat_lt (length m - name.1) QUESTION_OCTETS then Err Short
    else Ok (question_of name.0 (drop name.1 m), name.1 + QUESTION_OCTETS)
question_behind m (Err fault) = Err fault

-- the question at an offset and the offset after it, or the first fault
unfoldable pub question_at : Octets → ℕ → Result (Question × ℕ) WireFault
question_at m at = question_behind m (name_at m at)
