-- Jobs in flight, by their places and by their tickets.
use Rattle.std.proofs.Common.{◌≡◌, ℕ, zero, suc, ◌<◌, ◌≤◌, Bool, true, false, List, [], ◌∷◌, length, get_or, refl, sym}
use Rattle.std.proofs.Common.{◌∙◌, ap, subst, arith, inl, inr, Some, None}
use Rattle.std.specs.Prelude.{◌==◌, not, filter, nat_lt, slice_get, slice_index_or}
use Rattle.std.specs.List.{AllByRecursion, find, position, position_or_len, remove}
use Rattle.std.proofs.lemmas.Bool.{cases_Bool, eqb-true}
use Rattle.std.proofs.lemmas.Bool.Decides.{nat_tests}
use Rattle.std.proofs.lemmas.List.Quantifiers.{position-Some}
use Rattle.std.proofs.lemmas.List.Folds.{find_at}
use Rattle.dz_job.specs.Job.{JobOf}
use Rattle.dz_fleet.specs.Core.{others}
use Rattle.dz_fleet.specs.Sound.{AreApart}

-- ---- the others
kept_test : (a b : ℕ) → (a ≡ b → ⊥) → not (a == b) ≡ true
kept_test a b h = elim (cases_Bool (a == b)) [ inl t ↦ absurd (h (eqb-true a b t)) | inr f ↦ rw f refl ]

gone_test : (a b : ℕ) → a ≡ b → not (a == b) ≡ false
gone_test a b e = let t : (a == b) ≡ true = grind (arith, nat_tests) in rw t refl

later_kept : (t : ℕ) (jobs : List JobOf) → AllByRecursion (λ other. t < other.flight.ticket) jobs
    → filter (λ j. not (j.flight.ticket == t)) jobs ≡ jobs
later_kept t [] h = refl
later_kept t (j ∷ js) h =
    let first : t < j.flight.ticket = h.0 in
    rw (kept_test j.flight.ticket t (λ e. omega arith), later_kept t js h.1) refl

ticket_above : (t : ℕ) (jobs : List JobOf) (place : ℕ) (job : JobOf)
    → AllByRecursion (λ other. t < other.flight.ticket) jobs → slice_get jobs place ≡ Some job → t < job.flight.ticket
ticket_above t [] place job h e = absurd (cc)
ticket_above t (j ∷ js) zero job h e = let s : j ≡ job = cc in subst (λ (x : JobOf). t < x.flight.ticket) s h.0
ticket_above t (j ∷ js) (suc k) job h e = ticket_above t js k job h.1 e

pub removed_is : (jobs : List JobOf) (place : ℕ) (job : JobOf) → AreApart jobs → slice_get jobs place ≡ Some job
    → remove jobs place ≡ others jobs job
unfolding AreApart
removed_is [] place job h e = absurd (cc)
removed_is (j ∷ js) zero job h e =
    let s : j ≡ job = cc in
    let t : j.flight.ticket ≡ job.flight.ticket = ap (λ (x : JobOf). x.flight.ticket) s in
    rw (gone_test j.flight.ticket job.flight.ticket t) (sym (later_kept job.flight.ticket js
    (subst (λ (n : ℕ). AllByRecursion (λ (other : JobOf). n < other.flight.ticket) js) t h.0)))
removed_is (j ∷ js) (suc k) job h e =
    let lt : j.flight.ticket < job.flight.ticket = ticket_above j.flight.ticket js k job h.0 e in
    rw (kept_test j.flight.ticket job.flight.ticket (λ e. omega arith))
    (ap (λ (xs : List JobOf). j ∷ xs) (removed_is js k job h.2 e))

-- ---- the job of a ticket
pub got_at : (jobs : List JobOf) (place : ℕ) (d : JobOf) → place < length jobs
    → slice_get jobs place ≡ Some (slice_index_or jobs place d)
got_at [] place d inside = absurd (omega arith)
got_at (j ∷ js) zero d inside = refl
got_at (j ∷ js) (suc k) d inside = got_at js k d (omega arith)

found_at : (p : JobOf → Bool) (jobs : List JobOf) (place : ℕ) (d : JobOf) → place < length jobs
    → p (get_or jobs place d) ≡ true → ((k : ℕ) → k < place → p (get_or jobs k d) ≡ false)
    → find p jobs ≡ Some (get_or jobs place d)
found_at p [] place d inside here before = absurd (omega arith)
found_at p (j ∷ js) zero d inside here before = rw here refl
found_at p (j ∷ js) (suc k) d inside here before =
    rw (before 0 (omega arith)) (found_at p js k d (omega arith) here (λ i lt. before (suc i) (omega arith)))

get_past : (jobs : List JobOf) (place : ℕ) → length jobs ≤ place → slice_get jobs place ≡ None
get_past [] place past = refl
get_past (j ∷ js) zero past = absurd (omega arith)
get_past (j ∷ js) (suc k) past = get_past js k (omega arith)

pub none_found : (ticket : ℕ) (jobs : List JobOf) → position (λ j. j.flight.ticket == ticket) jobs ≡ None
    → find (λ j. j.flight.ticket == ticket) jobs ≡ None
none_found ticket jobs e =
    let place = position_or_len (λ (j : JobOf). j.flight.ticket == ticket) jobs in
    elim (cases_Bool (nat_lt place (length jobs))) [
      | inl t ↦ absurd (let f : Some place ≡ None = rw t at e in cc)
      | inr f ↦ find_at (λ (j : JobOf). j.flight.ticket == ticket) jobs
          ∙ get_past jobs place (grind (arith, nat_tests))
    ]

-- the place that is found, and the job there
pub record IsPlace (jobs : List JobOf) (place ticket : ℕ) (job : JobOf) : Type 0 where
  pub inside : place < length jobs
  pub there : slice_get jobs place ≡ Some job
  pub found : find (λ j. j.flight.ticket == ticket) jobs ≡ Some job

pub place_is : (jobs : List JobOf) (place ticket : ℕ) (job : JobOf) → position (λ j. j.flight.ticket == ticket) jobs
    ≡ Some place → job ≡ slice_index_or jobs place job → IsPlace jobs place ticket job
place_is jobs place ticket job at is =
    let p = position-Some (λ (j : JobOf). j.flight.ticket == ticket) jobs place job at in
    record {
      inside = p.0;
      there = got_at jobs place job p.0 ∙ ap (λ (x : JobOf). Some x) (sym is);
      found = found_at (λ j. j.flight.ticket == ticket) jobs place job p.0 p.1 p.2
          ∙ ap (λ (x : JobOf). Some x) (sym is);
    }

-- ---- the jobs that are kept are those in flight
pub job_there : (jobs flight : List JobOf) (place : ℕ) (job : JobOf) → jobs ≡ flight → place < length flight
    → job ≡ slice_index_or jobs place job → slice_get flight place ≡ Some job
job_there jobs flight place job same inside is = got_at flight place job inside
    ∙ ap (λ (x : JobOf). Some x) (sym (is ∙ ap (λ (js : List JobOf). slice_index_or js place job) same))

pub still_flying : (jobs flight after : List JobOf) (place : ℕ) (job : JobOf) → jobs ≡ flight → AreApart flight
    → slice_get flight place ≡ Some job → after ≡ remove jobs place → after ≡ others flight job
still_flying jobs flight after place job same apart there is =
    is ∙ ap (λ (js : List JobOf). remove js place) same ∙ removed_is flight place job apart there
