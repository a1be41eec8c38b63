-- The moments that a clock in memory has given, with the next one.
use Rattle.std.proofs.Common.{◌≡◌, ◌+◌, ◌-◌, ◌^◌, ℕ, Bool, true, false, List, Option, Some, None, map, nat_eq}
use Rattle.std.proofs.Common.{if◌then◌else◌, refl, ap, zero-add, arith}
use Rattle.std.proofs.lemmas.Bool.Decides.{nat_tests}
use Rattle.std.proofs.lemmas.List.FromFn.{map-range_with_len_more}
use Rattle.std.specs.List.{range_with_len}
use Rattle.dz_io.specs.Clocks.{GivesMoment}
use Rattle.dz_io.specs.Memory.{one_more}
use Rattle.dz_io.specs.MemoryDevices.{ClockOf, moment_at, moments_given}

-- the first moments, of the given number, until the counter is at its maximum
abbrev first_moments : (ℕ → ℕ) → Bool → ℕ → Option (List ℕ)
first_moments f is_last n = if is_last then None else Some (map f (range_with_len 0 n))

next_moment : (f : ℕ → ℕ) (n : ℕ) (before after : Bool)
    → nat_eq n (2 ^ 64 - 1) ≡ before → nat_eq (one_more n) (2 ^ 64 - 1) ≡ after
    → GivesMoment (f n) (first_moments f before n) (first_moments f after (one_more n))
next_moment f n before true was is told = absurd (cc)
next_moment f n true false was is told = absurd (grind (arith, nat_tests))
next_moment f n false false was is told =
    let more : one_more n ≡ n + 1 = grind (arith, nat_tests) in
    rw more (ap Some (map-range_with_len_more f 0 n n (zero-add n)))

pub gives_next : (clock : ClockOf) → GivesMoment (moment_at clock clock.count) (moments_given clock)
    (moments_given (record clock { count = one_more clock.count }))
gives_next clock = next_moment (moment_at clock) clock.count (nat_eq clock.count (2 ^ 64 - 1))
    (nat_eq (one_more clock.count) (2 ^ 64 - 1)) refl refl
