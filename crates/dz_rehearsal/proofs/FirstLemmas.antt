-- Which zone's job is handed out first, where no job is in flight.
use Rattle.std.proofs.Common.{◌≡◌, ℕ, suc, ◌-◌, ◌^◌, ◌<◌, ◌≤◌, Bool, true, false, cond, not, List, [], ◌∷◌, ◌++◌}
use Rattle.std.proofs.Common.{length, get_or, Some, None, refl, ap, ◌∙◌, arith}
use Rattle.std.specs.List.{list_any, position_or_len}
use Rattle.std.specs.Prelude.{◌&&◌, ◌||◌, nat_le, nat_lt, position}
use Rattle.std.proofs.lemmas.Bool.{lt-leb, lt-ltb, le-ltb, eq-eqb}
use Rattle.std.proofs.lemmas.List.Folds.{list_any_at}
use Rattle.std.proofs.lemmas.List.Sums.{position_or_len_is}
use Rattle.dz_timer.specs.Values.{ValuesOf, fresh}
use Rattle.dz_timer.specs.Schedule.{is_first, is_earlier}
use Rattle.dz_fleet.specs.Values.{value_at}
use Rattle.dz_job.specs.Job.{JobOf}
use Rattle.dz_fleet.specs.Core.{Core, others, is_full, first_place, quiet_of, due_from, due_of, job_at}
use Rattle.dz_fleet.specs.declared.due.Due.TheVariants as due

-- a test that no element passes
any_never : {X : Type 0} (p : X → Bool) (xs : List X) (d : X) → ((i : ℕ) → i < length xs → p (get_or xs i d) ≡ false)
    → list_any p xs ≡ false
any_never p [] d none = refl
any_never p (x ∷ xs) d none = ap (λ b. b || list_any p xs) (none 0 (omega arith))
    ∙ any_never p xs d (λ i lt. none (suc i) (omega arith))

-- ---- the first place
-- it is at this place: no timer is due earlier, and those before it are due later
pub first_is : (values : List ValuesOf) (place : ℕ) → place < length values
    → ((i : ℕ) → i < length values → (value_at values i).timing.busy ≡ false)
    → ((i : ℕ) → i < length values → (value_at values place).timing.next ≤ (value_at values i).timing.next)
    → ((i : ℕ) → i < place → (value_at values place).timing.next < (value_at values i).timing.next)
    → position (is_first values) values ≡ Some place
first_is values place lt idle least before =
    let v = value_at values place in
    let none : list_any (λ other. is_earlier other v) values ≡ false =
    any_never (λ other. is_earlier other v) values fresh
    (λ i less. ap (λ b. not b && nat_lt (value_at values i).timing.next v.timing.next) (idle i less)
    ∙ le-ltb (value_at values i).timing.next v.timing.next (least i less)) in
    let here : is_first values v ≡ true = ap (λ b. not b && not (list_any (λ other. is_earlier other v) values))
    (idle place lt) ∙ ap not none in
    let earlier : (i : ℕ) → i < place → is_first values (value_at values i) ≡ false = λ i less.
    let w = value_at values i in
    let some : list_any (λ other. is_earlier other w) values ≡ true =
    list_any_at (λ other. is_earlier other w) values place fresh lt
    (ap (λ b. not b && nat_lt v.timing.next w.timing.next) (idle place lt)
    ∙ lt-ltb v.timing.next w.timing.next (before i less)) in
    ap (λ b. not b && not (list_any (λ other. is_earlier other w) values)) (idle i (omega arith)) ∙ ap not some in
    let at : position_or_len (is_first values) values ≡ place =
    position_or_len_is (is_first values) values place fresh (omega arith) earlier (λ less. here) in
    ap (λ n. cond (nat_lt n (length values)) (Some n) None) at
    ∙ ap (λ b. cond b (Some place) None) (lt-ltb place (length values) lt)

-- there is room for a job
room_left : (c : Core) → c.flight ≡ [] → c.tickets < 2 ^ 64 - 2 → is_full c ≡ false
room_left c none few = ap (λ jobs. nat_le 16 (length jobs) || nat_le (2 ^ 64 - 2) c.tickets) none
    ∙ lt-leb (2 ^ 64 - 2) c.tickets few

-- the job of this place is due
pub due_at : (c : Core) (place now : ℕ) → c.flight ≡ [] → c.tickets < 2 ^ 64 - 2 → first_place c ≡ Some place
    → (value_at c.values place).timing.next ≤ now
    → due_of c now ≡ due.Job (job_at c now place)
due_at c place now none few first late =
    ap (λ b. cond b (due.Full (quiet_of c now)) (due_from c now (first_place c))) (room_left c none few)
    ∙ ap (λ o. due_from c now o) first
    ∙ ap (λ b. cond b (due.Idle (quiet_of c now)) (due.Job (job_at c now place)))
    (le-ltb now (value_at c.values place).timing.next late)

-- the job that is in flight alone leaves none
pub no_others : (flight : List JobOf) (job : JobOf) → flight ≡ [] → others (flight ++ job ∷ []) job ≡ []
no_others flight job idle = ap (λ jobs. others (jobs ++ job ∷ []) job) idle
    ∙ ap (λ b. cond (not b) (job ∷ []) []) (eq-eqb job.flight.ticket job.flight.ticket refl)
