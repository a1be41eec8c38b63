-- What a tape gave, and what is left of it, when its front was moved.
use Rattle.std.proofs.Common.{◌≡◌, ◌+◌, ◌-◌, ℕ, List, ◌++◌, length, take, drop, ap, sym, ◌∙◌}
use Rattle.std.proofs.lemmas.List.{take-append-drop, drop-drop, take_rest}
use Rattle.std.proofs.Math.Seq.{take-add}

-- moving the beginning of what was at `at` leaves what follows it
-- what was given before, and the front of what was at `at`
pub join_at : (given all text moved : List ℕ) (at n : ℕ) → given ≡ take at all → text ≡ all
    → moved ≡ take n (take (length text - at) (drop at text)) → take (at + n) all ≡ given ++ moved
join_at given all text moved at n whole same front =
    rw (whole, front, same, take_rest) (take-add at n all)

pub split_at : (octets all text moved : List ℕ) (at n : ℕ) → octets ≡ drop at all → text ≡ all
    → moved ≡ take n (take (length text - at) (drop at text)) → octets ≡ moved ++ drop (at + n) all
split_at octets all text moved at n whole same front =
    rw (whole, front, same, take_rest)
    (sym (ap (λ rest. take n (drop at all) ++ rest) (sym (drop-drop n at all)) ∙ take-append-drop n (drop at all)))
