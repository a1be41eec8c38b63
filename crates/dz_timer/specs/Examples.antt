-- Judge: timings of zones, computed by the checker.
use Rattle.std.specs.Prelude.{◌≡◌, refl, true, false, Some, None}
use Rattle.dz_timer.specs.Timing.{Timing, fresh, is_due, departed, succeeded, failed, ended, notified, is_live}
use Rattle.dz_timer.specs.declared.timer.TheConstants.{UNHELD_RETRY}

due_at_first : is_due fresh 0 ≡ true
due_at_first = refl

not_due_in_flight : is_due (departed fresh) 1000 ≡ false
not_due_in_flight = refl

-- the job of the moment 10 succeeds, with REFRESH 100
abbrev refreshed : Timing
refreshed = succeeded (departed fresh) 10 100

waits_for_refresh : is_due refreshed 109 ≡ false
waits_for_refresh = refl

due_after_refresh : is_due refreshed 110 ≡ true
due_after_refresh = refl

refresh_of_0 : (succeeded (departed fresh) 10 0).next ≡ 11
refresh_of_0 = refl

retried : (failed (departed refreshed) 115 (Some 60)).next ≡ 175
retried = refl

retry_of_0 : (failed (departed refreshed) 115 (Some 0)).next ≡ 116
retry_of_0 = refl

-- without a version it waits a minute
no_version : (failed (departed fresh) 5 None).next ≡ 65
no_version = refl

handed_back : ended (departed refreshed) ≡ refreshed
handed_back = refl

notify_in_idleness : is_due (notified refreshed) 20 ≡ true
notify_in_idleness = refl

notify_in_flight : succeeded (notified (departed refreshed)) 110 100 ≡ fresh
notify_in_flight = refl

-- it sets the moment while the job is in flight, too
notify_sets_the_moment : notified (departed refreshed) ≡ record { next = 0; again = true; busy = true }
notify_sets_the_moment = refl

-- the end of the job in flight uses up the NOTIFY
notify_once : (succeeded (departed (failed (notified (departed refreshed)) 115 (Some 60))) 116 100).next ≡ 216
notify_once = refl

-- refreshed at 10 with EXPIRE 600
live : is_live 10 600 609 ≡ true
live = refl

expired : is_live 10 600 610 ≡ false
expired = refl

never_live : is_live 10 0 10 ≡ false
never_live = refl

-- ---- the numbers of zones without a version, so that none can change
pub unheld_retry_is_60 : UNHELD_RETRY ≡ 60
unheld_retry_is_60 = refl
