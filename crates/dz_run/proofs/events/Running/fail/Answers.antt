use Rattle.std.proofs.Common.{◌≡◌, sym, ◌∙◌, ap, Option, Some, None, List}
use Rattle.std.specs.Prelude.{slice_get}
use Rattle.dz_job.specs.Job.{JobOf}
use Rattle.dz_fleet.proofs.FlyingLemmas.{flies}
use Rattle.dz_run.specs.Flight.{job_in}
use Rattle.dz_run.specs.Replaying.{fail_turn}
use Rattle.dz_run.proofs.FlightLemmas.{none_found, place_is, still_flying}
use Rattle.dz_run.proofs.StepLemmas.{failed_made, failing_flight, fail_taken, bad_taken}
use Rattle.dz_run.proofs.events.Running.fail.Goals as goal

pub fail-requires-clause-given : goal.fail-requires-clause-given
fail-requires-clause-given g c =
    let before = rw (← c.self.view_is) at c.requires.«open» in
    let same = c.self.invariant.0 before in
    let job = c.remove-job.result in
    let at = place_is c.self.inside.jobs.items c.in-Some.place c.args.ticket job
    (sym (rw c.as_slice.ensures.value at c.in-Some.ensures)) c.remove-job.ensures.value in
    let there : slice_get c.self.inside.provisioner.core.flight c.in-Some.place ≡ Some job =
    ap (λ (js : List JobOf). slice_get js c.in-Some.place) (sym same) ∙ at.there in
    λ ok. (flies c.self.inside.provisioner.core c.in-Some.place job ok there).given

pub by_failing-requires : goal.by_failing-requires
by_failing-requires g c =
    let before = rw (← c.self.view_is) at c.requires.«open» in
    let same = c.self.invariant.0 before in
    let job = c.remove-job.result in
    let at = place_is c.self.inside.jobs.items c.in-Some.place c.args.ticket job
    (sym (rw c.as_slice.ensures.value at c.in-Some.ensures)) c.remove-job.ensures.value in
    let there : slice_get c.self.inside.provisioner.core.flight c.in-Some.place ≡ Some job =
    ap (λ (js : List JobOf). slice_get js c.in-Some.place) (sym same) ∙ at.there in
    failed_made c.self.inside.provisioner c.fail.new.self job c.args.moment c.fail.result
    (flies c.self.inside.provisioner.core c.in-Some.place job (c.fail.ensures.sound before) there)
    c.fail.ensures.failed

pub invariant_of-self : goal.invariant_of-self
invariant_of-self g c =
    let before = rw (← c.self.view_is) at c.requires.«open» in
    let same = c.self.invariant.0 before in
    let job = c.remove-job.result in
    let at = place_is c.self.inside.jobs.items c.in-Some.place c.args.ticket job
    (sym (rw c.as_slice.ensures.value at c.in-Some.ensures)) c.remove-job.ensures.value in
    let there : slice_get c.self.inside.provisioner.core.flight c.in-Some.place ≡ Some job =
    ap (λ (js : List JobOf). slice_get js c.in-Some.place) (sym same) ∙ at.there in
    let fly = flies c.self.inside.provisioner.core c.in-Some.place job (c.fail.ensures.sound before) there in (
      λ still. still_flying c.self.inside.jobs.items c.self.inside.provisioner.core.flight c.remove-job.new.self.items
          c.in-Some.place job same (c.fail.ensures.sound before).apart there c.remove-job.ensures.items
          ∙ sym (failing_flight c.self.inside.provisioner c.fail.new.self job c.args.moment c.fail.result before fly
          c.fail.ensures.failed),
      c.self.invariant.1,
    )

pub returns-in-None : goal.returns-in-None
returns-in-None g c number =
    let before = rw (← c.self.view_is) at c.requires.«open» in
    let same = c.self.invariant.0 before in
    let none : job_in c.self.inside.provisioner.core.flight c.args.ticket ≡ None =
    ap (λ (js : List JobOf). job_in js c.args.ticket) (sym same)
    ∙ none_found c.args.ticket c.self.inside.jobs.items (sym (rw c.as_slice.ensures.value at c.in-None.ensures)) in
    rw (← c.self.view_is) (bad_taken c.self.inside.provisioner _ number
    (ap (λ (j : Option JobOf). fail_turn c.self.inside.provisioner.core number c.args.moment j) none))

pub returns-in-Some : goal.returns-in-Some
returns-in-Some g c number =
    let before = rw (← c.self.view_is) at c.requires.«open» in
    let same = c.self.invariant.0 before in
    let job = c.remove-job.result in
    let at = place_is c.self.inside.jobs.items c.in-Some.place c.args.ticket job
    (sym (rw c.as_slice.ensures.value at c.in-Some.ensures)) c.remove-job.ensures.value in
    let there : slice_get c.self.inside.provisioner.core.flight c.in-Some.place ≡ Some job =
    ap (λ (js : List JobOf). slice_get js c.in-Some.place) (sym same) ∙ at.there in
    let found : job_in c.self.inside.provisioner.core.flight c.args.ticket ≡ Some job =
    ap (λ (js : List JobOf). job_in js c.args.ticket) (sym same) ∙ at.found in
    let fly = flies c.self.inside.provisioner.core c.in-Some.place job (c.fail.ensures.sound before) there in
    rw (← c.self.view_is, c.by_failing.ensures) (fail_taken c.self.inside.provisioner c.fail.new.self number
    c.args.moment c.args.ticket job c.fail.result before found fly c.fail.ensures.failed)
