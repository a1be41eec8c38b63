-- Jobs in flight: which one is a job's, and what the others are.
use Rattle.std.proofs.Common.{◌≡◌, ℕ, ◌+◌, ◌<◌, ◌≤◌, Bool, true, false, List, [], ◌∷◌, ◌++◌, map, length, refl, sym}
use Rattle.std.proofs.Common.{◌∙◌, ap, subst, arith, inl, inr, Some, None}
use Rattle.std.specs.Prelude.{filter, not, ◌==◌, ◌&&◌, ◌||◌}
use Rattle.std.specs.List.{AllByRecursion, list_any, find}
use Rattle.std.proofs.lemmas.Bool.{cases_Bool, eqb-true}
use Rattle.std.proofs.lemmas.Bool.Decides.{nat_tests}
use Rattle.dz_name.specs.Name.{same_name}
use Rattle.dz_name.specs.Order.{same_decides}
use Rattle.dz_job.specs.declared.flight.Flight.{Flight}
use Rattle.dz_job.specs.Job.{JobOf}
use Rattle.dz_history.specs.declared.entry.Entry.{Entry}
use Rattle.dz_history.specs.Ended.{ended}
use Rattle.dz_history.specs.Places.{Seat}
use Rattle.dz_fleet.specs.declared.flight.Flying.{Flying}
use Rattle.dz_fleet.specs.Core.{others}
use Rattle.dz_fleet.specs.Sound.{is_of, seat_of, AreApart, IsAmong}
use Rattle.dz_fleet.specs.inner.Flying.{job_in, IsMarked}

-- ---- lists
pub all_filter : {X : Type 0} (P : X → Type 0) (q : X → Bool) (xs : List X) → AllByRecursion P xs
    → AllByRecursion P (filter q xs)
all_filter P q [] h = tt
all_filter P q (x ∷ xs) h = elim (cases_Bool (q x)) [
  | inl t ↦ rw t (h.0, all_filter P q xs h.1)
  | inr f ↦ rw f (all_filter P q xs h.1)
]

pub all_weaker : {X : Type 0} (P Q : X → Type 0) (xs : List X) → ((x : X) → P x → Q x) → AllByRecursion P xs
    → AllByRecursion Q xs
all_weaker P Q [] f h = tt
all_weaker P Q (x ∷ xs) f h = (f x h.0, all_weaker P Q xs f h.1)

pub all_both : {X : Type 0} (P Q R : X → Type 0) (xs : List X) → ((x : X) → P x → Q x → R x) → AllByRecursion P xs
    → AllByRecursion Q xs → AllByRecursion R xs
all_both P Q R [] f h g = tt
all_both P Q R (x ∷ xs) f h g = (f x h.0 g.0, all_both P Q R xs f h.1 g.1)

pub all_push : {X : Type 0} (P : X → Type 0) (xs : List X) (x : X) → AllByRecursion P xs → P x
    → AllByRecursion P (xs ++ x ∷ [])
all_push P [] x h p = (p, tt)
all_push P (y ∷ ys) x h p = (h.0, all_push P ys x h.1 p)

pub all_mapped : {X Y : Type 0} (f : X → Y) (P : Y → Type 0) (xs : List X) → AllByRecursion P (map f xs)
    → AllByRecursion (λ x. P (f x)) xs
all_mapped f P [] h = tt
all_mapped f P (x ∷ xs) h = (h.0, all_mapped f P xs h.1)

pub all_map : {X Y : Type 0} (f : X → Y) (P : Y → Type 0) (xs : List X) → AllByRecursion (λ x. P (f x)) xs
    → AllByRecursion P (map f xs)
all_map f P [] h = tt
all_map f P (x ∷ xs) h = (h.0, all_map f P xs h.1)

all_kept : {X : Type 0} (q : X → Bool) (xs : List X) → AllByRecursion (λ x. q x ≡ true) xs → filter q xs ≡ xs
all_kept q [] h = refl
all_kept q (x ∷ xs) h = rw (h.0, all_kept q xs h.1) refl

pub fewer_kept : {X : Type 0} (q : X → Bool) (xs : List X) → length (filter q xs) ≤ length xs
fewer_kept q [] = omega arith
fewer_kept q (x ∷ xs) = elim (cases_Bool (q x)) [
  | inl t ↦ rw t (omega (arith, fewer_kept q xs))
  | inr f ↦ rw f (omega (arith, fewer_kept q xs))
]

pub none_any : {X : Type 0} (p : X → Bool) (xs : List X) → AllByRecursion (λ x. p x ≡ false) xs → list_any p xs ≡ false
none_any p [] h = refl
none_any p (x ∷ xs) h = rw (h.0, none_any p xs h.1) refl

pub any_none : {X : Type 0} (p : X → Bool) (xs : List X) → list_any p xs ≡ false → AllByRecursion (λ x. p x ≡ false) xs
any_none p [] h = tt
any_none p (x ∷ xs) h = elim (cases_Bool (p x)) [
  | inl t ↦ absurd (let e : true ≡ false = rw t at h in cc)
  | inr f ↦ (f, any_none p xs (rw f at h))
]

-- ---- one incarnation
pub of_it : (job : JobOf) → is_of (seat_of job) job ≡ true
of_it job =
    let a : same_name job.flight.zone job.flight.zone ≡ true = (same_decides job.flight.zone job.flight.zone).1 refl in
    rw a (grind (arith, nat_tests))

pub of_parts : (seat : Seat) (job : JobOf) → is_of seat job ≡ true
    → (job.flight.zone ≡ seat.zone) × (job.flight.incarnation ≡ seat.incarnation)
of_parts seat job h = elim (cases_Bool (same_name job.flight.zone seat.zone)) [
  | inl t ↦
      ((same_decides job.flight.zone seat.zone).0 t, eqb-true job.flight.incarnation seat.incarnation (rw t at h))
  | inr f ↦ absurd (let e : false ≡ true = rw f at h in cc)
]

pub of_same : (seat : Seat) (job : JobOf) → job.flight.zone ≡ seat.zone → job.flight.incarnation ≡ seat.incarnation
    → is_of seat job ≡ true
of_same seat job e f =
    let a : same_name job.flight.zone seat.zone ≡ true = (same_decides job.flight.zone seat.zone).1 e in
    rw a (grind (arith, nat_tests))

of_flight : (seat : Seat) (a b : JobOf) → a.flight ≡ b.flight → is_of seat a ≡ is_of seat b
of_flight seat a b e = ap (λ (f : Flight). same_name f.zone seat.zone && f.incarnation == seat.incarnation) e

-- neither of two jobs is of the other's incarnation
turned : (a b : JobOf) → is_of (seat_of a) b ≡ false → is_of (seat_of b) a ≡ false
turned a b h = elim (cases_Bool (is_of (seat_of b) a)) [
  | inl t ↦ absurd (let p = of_parts (seat_of b) a t in
      let q : is_of (seat_of a) b ≡ true = of_same (seat_of a) b (sym p.0) (sym p.1) in cc)
  | inr f ↦ f
]

-- ---- a job among those in flight
pub among_all : (P : Flight → Type 0) (flight : Flight) (jobs : List JobOf) → IsAmong flight jobs
    → AllByRecursion (λ j. P j.flight) jobs → P flight
unfolding IsAmong
among_all P flight [] h all = absurd h
among_all P flight (j ∷ js) (inl e) all = subst P e all.0
among_all P flight (j ∷ js) (inr r) all = among_all P flight js r all.1

kept_test : (a b : ℕ) → (a ≡ b → ⊥) → not (a == b) ≡ true
kept_test a b h = elim (cases_Bool (a == b)) [ inl t ↦ absurd (h (eqb-true a b t)) | inr f ↦ rw f refl ]

gone_test : (a b : ℕ) → a ≡ b → not (a == b) ≡ false
gone_test a b e = let t : (a == b) ≡ true = grind (arith, nat_tests) in rw t refl

later_kept : (job : JobOf) (t : ℕ) (jobs : List JobOf) → t ≡ job.flight.ticket
    → AllByRecursion (λ other. t < other.flight.ticket) jobs → others jobs job ≡ jobs
later_kept job t jobs e h = all_kept (λ j. not (j.flight.ticket == job.flight.ticket)) jobs
    (all_weaker (λ (other : JobOf). t < other.flight.ticket) (λ (j : JobOf). not (j.flight.ticket == job.flight.ticket)
    ≡ true) jobs (λ x h. kept_test x.flight.ticket job.flight.ticket (λ e'. omega arith)) h)

-- the first job is the one that goes, or it stays
front_goes : (job j : JobOf) (js : List JobOf) → j.flight ≡ job.flight
    → AllByRecursion (λ other. j.flight.ticket < other.flight.ticket) js → others (j ∷ js) job ≡ js
front_goes job j js e h =
    let t : j.flight.ticket ≡ job.flight.ticket = ap (λ (f : Flight). f.ticket) e in
    rw (gone_test j.flight.ticket job.flight.ticket t) (later_kept job j.flight.ticket js t h)

front_stays : (job j : JobOf) (js : List JobOf) → IsAmong job.flight js
    → AllByRecursion (λ other. j.flight.ticket < other.flight.ticket) js → others (j ∷ js) job ≡ j ∷ others js job
front_stays job j js h up =
    let lt : j.flight.ticket < job.flight.ticket = among_all (λ f. j.flight.ticket < f.ticket) job.flight js h up in
    rw (kept_test j.flight.ticket job.flight.ticket (λ e. omega arith)) refl

pub apart_others : (job : JobOf) (jobs : List JobOf) → AreApart jobs → AreApart (others jobs job)
unfolding AreApart
apart_others job [] h = tt
apart_others job (j ∷ js) h = elim (cases_Bool (not (j.flight.ticket == job.flight.ticket))) [
  | inl t ↦ rw t (
    all_filter (λ (o : JobOf). j.flight.ticket < o.flight.ticket)
        (λ o. not (o.flight.ticket == job.flight.ticket)) js h.0,
    all_filter (λ (o : JobOf). is_of (seat_of j) o ≡ false) (λ o. not (o.flight.ticket == job.flight.ticket)) js h.1,
    apart_others job js h.2,
  )
  | inr f ↦ rw f (apart_others job js h.2)
]

pub fewer : (job : JobOf) (jobs : List JobOf) → AreApart jobs → IsAmong job.flight jobs
    → length (others jobs job) + 1 ≤ length jobs
unfolding AreApart IsAmong
fewer job [] h a = absurd a
fewer job (j ∷ js) h (inl e) = rw (front_goes job j js e h.0) (omega arith)
fewer job (j ∷ js) h (inr r) = rw (front_stays job j js r h.0) (omega (arith, fewer job js h.2 r))

-- no other job is of its incarnation
pub none_others : (job : JobOf) (jobs : List JobOf) → AreApart jobs → IsAmong job.flight jobs
    → list_any (is_of (seat_of job)) (others jobs job) ≡ false
unfolding AreApart IsAmong
none_others job [] h a = absurd a
none_others job (j ∷ js) h (inl e) =
    rw (front_goes job j js e h.0) (none_any (is_of (seat_of job)) js
    (subst (λ (f : Flight). AllByRecursion (λ (o : JobOf).
    (same_name o.flight.zone f.zone && o.flight.incarnation == f.incarnation) ≡ false) js) e h.1))
none_others job (j ∷ js) h (inr r) =
    let apart : is_of (seat_of j) job ≡ false = among_all
    (λ f. (same_name f.zone j.flight.zone && f.incarnation == j.flight.incarnation) ≡ false) job.flight js r h.1 in
    rw (front_stays job j js r h.0, turned j job apart) (none_others job js h.2 r)

-- of another incarnation there are as many as before
pub any_others : (seat : Seat) (job : JobOf) (jobs : List JobOf) → AreApart jobs → IsAmong job.flight jobs
    → is_of seat job ≡ false
    → list_any (is_of seat) (others jobs job) ≡ list_any (is_of seat) jobs
unfolding AreApart IsAmong
any_others seat job [] h a ne = absurd a
any_others seat job (j ∷ js) h (inl e) ne = rw (front_goes job j js e h.0, of_flight seat j job e, ne) refl
any_others seat job (j ∷ js) h (inr r) ne = rw (front_stays job j js r h.0, any_others seat job js h.2 r ne) refl

pub any_itself : (job : JobOf) (jobs : List JobOf) → IsAmong job.flight jobs
    → list_any (is_of (seat_of job)) jobs ≡ true
unfolding IsAmong
any_itself job [] a = absurd a
any_itself job (j ∷ js) (inl e) = rw (of_flight (seat_of job) j job e, of_it job) refl
any_itself job (j ∷ js) (inr r) = elim (cases_Bool (is_of (seat_of job) j)) [
  | inl t ↦ rw t refl
  | inr f ↦ rw (f, any_itself job js r) refl
]

-- ---- a new job
pub apart_push : (job : JobOf) (jobs : List JobOf) → AreApart jobs
    → AllByRecursion (λ j. j.flight.ticket < job.flight.ticket) jobs → list_any (is_of (seat_of job)) jobs ≡ false
    → AreApart (jobs ++ job ∷ [])
unfolding AreApart
apart_push job [] h up none = (tt, tt, tt)
apart_push job (j ∷ js) h up none =
    let all = any_none (is_of (seat_of job)) (j ∷ js) none in (
      all_push (λ (o : JobOf). j.flight.ticket < o.flight.ticket) js job h.0 up.0,
      all_push (λ (o : JobOf). is_of (seat_of j) o ≡ false) js job h.1 (turned job j all.0),
      apart_push job js h.2 up.1 (none_any (is_of (seat_of job)) js all.1),
    )

pub any_push : (seat : Seat) (job : JobOf) (jobs : List JobOf)
    → list_any (is_of seat) (jobs ++ job ∷ []) ≡ (list_any (is_of seat) jobs || is_of seat job)
any_push seat job [] = elim (cases_Bool (is_of seat job)) [ inl t ↦ rw t refl | inr f ↦ rw f refl ]
any_push seat job (j ∷ js) = elim (cases_Bool (is_of seat j)) [
  | inl t ↦ rw t refl
  | inr f ↦ rw f (any_push seat job js)
]

-- ---- as they are kept
pub landed_jobs : (ticket : ℕ) (fs : List Flying) → map job_in (filter (λ f. not (f.flight.ticket == ticket)) fs)
    ≡ filter (λ j. not (j.flight.ticket == ticket)) (map job_in fs)
landed_jobs ticket [] = refl
landed_jobs ticket (f ∷ fs) = elim (cases_Bool (not (f.flight.ticket == ticket))) [
  | inl t ↦ rw (t, landed_jobs ticket fs) refl
  | inr n ↦ rw (n, landed_jobs ticket fs) refl
]

found_flight : (flight : Flight) (fs : List Flying) → AreApart (map job_in fs) → IsAmong flight (map job_in fs)
    → (f : Flying) × (find (λ g. g.flight.ticket == flight.ticket) fs ≡ Some f) × (f.flight ≡ flight)
unfolding AreApart IsAmong
found_flight flight [] h a = absurd a
found_flight flight (f ∷ fs) h (inl e) =
    let t : (f.flight.ticket == flight.ticket) ≡ true =
    let same : f.flight.ticket ≡ flight.ticket = ap (λ (x : Flight). x.ticket) e in
    grind (arith, nat_tests) in
    (f, rw t refl, e)
found_flight flight (f ∷ fs) h (inr r) =
    let lt : f.flight.ticket < flight.ticket =
    among_all (λ x. f.flight.ticket < x.ticket) flight (map job_in fs) r h.0 in
    let n : (f.flight.ticket == flight.ticket) ≡ false = grind (arith, nat_tests) in
    let rest = found_flight flight fs h.2 r in
    (rest.0, rw n rest.1, rest.2)

found_passes : (list : List Entry) (p : Flying → Bool) (fs : List Flying) (f : Flying)
    → AllByRecursion (IsMarked list) fs → find p fs ≡ Some f → IsMarked list f
found_passes list p [] f h e = absurd (cc)
found_passes list p (g ∷ gs) f h e = elim (cases_Bool (p g)) [
  | inl t ↦ let s : Some g ≡ Some f = rw t at e in let same : g ≡ f = cc in subst (IsMarked list) same h.0
  | inr n ↦ found_passes list p gs f h.1 (rw n at e)
]

-- what is found by the ticket of a job in flight has the position at which its incarnation ended
pub found_ended : (list : List Entry) (flight : Flight) (fs : List Flying) (f : Flying) → AreApart (map job_in fs)
    → AllByRecursion (IsMarked list) fs → IsAmong flight (map job_in fs)
    → Some f ≡ find (λ g. g.flight.ticket == flight.ticket) fs → f.ended ≡ ended list flight.zone flight.incarnation
found_ended list flight fs f h marks a e =
    let found = found_flight flight fs h a in
    let s : Some f ≡ Some found.0 = e ∙ found.1 in
    let same : f ≡ found.0 = cc in
    let own : f.flight ≡ flight = ap (λ (x : Flying). x.flight) same ∙ found.2 in
    found_passes list (λ g. g.flight.ticket == flight.ticket) fs f marks (sym e)
    ∙ ap (λ (x : Flight). ended list x.zone x.incarnation) own

pub found_there : {A : Type 0} (flight : Flight) (fs : List Flying) → AreApart (map job_in fs)
    → IsAmong flight (map job_in fs) → None ≡ find (λ g. g.flight.ticket == flight.ticket) fs → A
found_there flight fs h a e =
    let found = found_flight flight fs h a in
    let s : None ≡ Some found.0 = e ∙ found.1 in absurd (cc)
