-- Judge: values of zones and the first of them, computed by the checker.
use Rattle.std.specs.Prelude.{◌≡◌, refl, true, false, ℕ, List, [], ◌∷◌, Option, Some, None, slice_set}
use Rattle.std.specs.List.{position}
use Rattle.dz_timer.specs.Values.{ValuesOf, fresh, departed, succeeded, failed, refused, notified, turned_back}
use Rattle.dz_timer.specs.Schedule.{is_first}

-- a zone with three primaries: its first job, of the moment 10, succeeds with REFRESH 100, and the next job starts
abbrev asking : ValuesOf
asking = departed (succeeded (departed fresh) 10 100)

begins_in_turn_0 : fresh.turn ≡ 0
begins_in_turn_0 = refl

success_keeps_the_turn : (succeeded (departed (failed asking 115 (Some 60) 3)) 180 100).turn ≡ 1
success_keeps_the_turn = refl

failure_asks_the_next : (failed asking 115 (Some 60) 3).turn ≡ 1
failure_asks_the_next = refl

failure_waits_for_retry : (failed asking 115 (Some 60) 3).timing.next ≡ 175
failure_waits_for_retry = refl

three_failures_ask_the_first_again :
    (failed (departed (failed (departed (failed asking 115 (Some 60) 3)) 175 (Some 60) 3)) 235 (Some 60) 3).turn ≡ 0
three_failures_ask_the_first_again = refl

one_primary_is_asked_again : (failed asking 115 (Some 60) 1).turn ≡ 0
one_primary_is_asked_again = refl

failure_asks_for_the_same : (failed asking 115 None 3).whole ≡ false
failure_asks_for_the_same = refl

refusal_asks_for_the_whole : refused asking 115 (Some 60) 3
    ≡ record { timing = record { next = 175; again = false; busy = false }; whole = true; turn = 1 }
refusal_asks_for_the_whole = refl

failure_keeps_the_whole : (failed (departed (refused asking 115 (Some 60) 3)) 175 (Some 60) 3).whole ≡ true
failure_keeps_the_whole = refl

success_asks_for_differences : (succeeded (departed (refused asking 115 (Some 60) 3)) 175 100).whole ≡ false
success_asks_for_differences = refl

notify_keeps_the_whole_and_the_turn : notified (refused asking 115 (Some 60) 3)
    ≡ record { timing = record { next = 0; again = false; busy = false }; whole = true; turn = 1 }
notify_keeps_the_whole_and_the_turn = refl

other_primaries_keep_the_wait : turned_back (refused asking 115 (Some 60) 3)
    ≡ record { timing = record { next = 175; again = false; busy = false }; whole = true; turn = 0 }
other_primaries_keep_the_wait = refl

-- a zone that waits for this moment
abbrev waiting : ℕ → ValuesOf
waiting next = record fresh { timing = record { next = next; again = false; busy = false } }

-- the place of the first zone that is due
abbrev first : List ValuesOf → Option ℕ
first zones = position (is_first zones) zones

-- five zones, of which two wait for the earliest moment
abbrev five : List ValuesOf
five = waiting 30 ∷ waiting 20 ∷ waiting 40 ∷ waiting 20 ∷ waiting 50 ∷ []

tie_to_the_least_place : first five ≡ Some 1
tie_to_the_least_place = refl

-- a zone with a job in flight is skipped, though no zone waits for an earlier moment
busy_is_passed_over : first (slice_set five 1 (departed (waiting 20))) ≡ Some 3
busy_is_passed_over = refl

notified_is_first : first (slice_set five 4 (notified (waiting 50))) ≡ Some 4
notified_is_first = refl

notified_in_flight_is_passed_over : first (departed fresh ∷ notified (departed fresh) ∷ waiting 7 ∷ []) ≡ Some 2
notified_in_flight_is_passed_over = refl

all_busy : first (departed fresh ∷ departed (waiting 20) ∷ []) ≡ None
all_busy = refl

no_zone : first [] ≡ None
no_zone = refl
