use Rattle.std.proofs.Common.{◌≡◌, sym, ◌∙◌, ap, subst, Option, Some, None, List}
use Rattle.std.specs.Prelude.{slice_get}
use Rattle.dz_job.specs.Job.{JobOf, transfer_for}
use Rattle.dz_fleet.proofs.FlyingLemmas.{flies}
use Rattle.dz_job.specs.Stream.{IsReadOf}
use Rattle.dz_run.specs.Flight.{job_in}
use Rattle.dz_run.specs.Replaying.{take_turn}
use Rattle.dz_run.proofs.FlightLemmas.{none_found, place_is, still_flying}
use Rattle.dz_run.proofs.StepLemmas.{settled_made, settling_flight, take_taken, bad_taken, wanting}
use Rattle.dz_run.proofs.LeadLemmas.{take_leads}
use Rattle.dz_run.proofs.events.Running.take.Goals as goal

pub returns-in-Err : goal.returns-in-Err
returns-in-Err g c number = wanting c.args.self.now _ number (take_leads c.args.self.now.core number c.args.moment
    c.args.octets.now (job_in c.args.self.now.core.flight c.args.ticket))

pub settle-requires-clause-transfer : goal.settle-requires-clause-transfer
settle-requires-clause-transfer g c =
    let a = place_is c.self.inside.jobs.items c.in-Some.place c.args.ticket c.index.result.now
    (sym (rw c.as_slice.ensures.value at c.in-Some.ensures)) c.index.ensures in
    let b = place_is c.self.inside.jobs.items c.in-Some.place c.args.ticket c.remove-job.result
    (sym (rw c.as_slice.ensures.value at c.in-Some.ensures)) c.remove-job.ensures.value in
    let two : Some c.index.result.now ≡ Some c.remove-job.result = sym a.there ∙ b.there in
    let one : c.index.result.now ≡ c.remove-job.result = cc two in
    c.in-Ok.ensures.transfer ∙ ap transfer_for one

pub settle-requires-clause-given : goal.settle-requires-clause-given
settle-requires-clause-given g c =
    let before = rw (← c.self.view_is) at c.requires.«open» in
    let same = c.self.invariant.0 before in
    let job = c.remove-job.result in
    let at = place_is c.self.inside.jobs.items c.in-Some.place c.args.ticket job
    (sym (rw c.as_slice.ensures.value at c.in-Some.ensures)) c.remove-job.ensures.value in
    let there : slice_get c.self.inside.provisioner.core.flight c.in-Some.place ≡ Some job =
    ap (λ (js : List JobOf). slice_get js c.in-Some.place) (sym same) ∙ at.there in
    λ ok. (flies c.self.inside.provisioner.core c.in-Some.place job ok there).given

pub by_settling-requires : goal.by_settling-requires
by_settling-requires g c =
    let before = rw (← c.self.view_is) at c.requires.«open» in
    let same = c.self.invariant.0 before in
    let job = c.remove-job.result in
    let at = place_is c.self.inside.jobs.items c.in-Some.place c.args.ticket job
    (sym (rw c.as_slice.ensures.value at c.in-Some.ensures)) c.remove-job.ensures.value in
    let there : slice_get c.self.inside.provisioner.core.flight c.in-Some.place ≡ Some job =
    ap (λ (js : List JobOf). slice_get js c.in-Some.place) (sym same) ∙ at.there in
    settled_made c.self.inside.provisioner c.settle.new.self job _ c.args.moment c.settle.result
    (flies c.self.inside.provisioner.core c.in-Some.place job (c.settle.ensures.sound before) there)
    c.settle.ensures.settled

pub invariant_of-self : goal.invariant_of-self
invariant_of-self g c =
    let before = rw (← c.self.view_is) at c.requires.«open» in
    let same = c.self.invariant.0 before in
    let job = c.remove-job.result in
    let at = place_is c.self.inside.jobs.items c.in-Some.place c.args.ticket job
    (sym (rw c.as_slice.ensures.value at c.in-Some.ensures)) c.remove-job.ensures.value in
    let there : slice_get c.self.inside.provisioner.core.flight c.in-Some.place ≡ Some job =
    ap (λ (js : List JobOf). slice_get js c.in-Some.place) (sym same) ∙ at.there in
    let fly = flies c.self.inside.provisioner.core c.in-Some.place job (c.settle.ensures.sound before) there in (
      λ still. still_flying c.self.inside.jobs.items c.self.inside.provisioner.core.flight c.remove-job.new.self.items
          c.in-Some.place job same (c.settle.ensures.sound before).apart there c.remove-job.ensures.items
          ∙ sym (settling_flight c.self.inside.provisioner c.settle.new.self job _ c.args.moment c.settle.result before
          fly c.settle.ensures.settled),
      c.self.invariant.1,
    )

pub returns-in-None : goal.returns-in-None
returns-in-None g c number =
    let before = rw (← c.self.view_is) at c.requires.«open» in
    let same = c.self.invariant.0 before in
    let none : job_in c.self.inside.provisioner.core.flight c.args.ticket ≡ None =
    ap (λ (js : List JobOf). job_in js c.args.ticket) (sym same)
    ∙ none_found c.args.ticket c.self.inside.jobs.items (sym (rw c.as_slice.ensures.value at c.in-None.ensures)) in
    rw (← c.self.view_is) (bad_taken c.self.inside.provisioner _ number (ap (λ (j : Option JobOf).
    take_turn c.self.inside.provisioner.core number c.args.moment c.args.octets.now j) none))

pub returns-in-Ok : goal.returns-in-Ok
returns-in-Ok g c number =
    let before = rw (← c.self.view_is) at c.requires.«open» in
    let same = c.self.invariant.0 before in
    let job = c.remove-job.result in
    let at = place_is c.self.inside.jobs.items c.in-Some.place c.args.ticket job
    (sym (rw c.as_slice.ensures.value at c.in-Some.ensures)) c.remove-job.ensures.value in
    let again = place_is c.self.inside.jobs.items c.in-Some.place c.args.ticket c.index.result.now
    (sym (rw c.as_slice.ensures.value at c.in-Some.ensures)) c.index.ensures in
    let two : Some c.index.result.now ≡ Some job = sym again.there ∙ at.there in
    let one : c.index.result.now ≡ job = cc two in
    let there : slice_get c.self.inside.provisioner.core.flight c.in-Some.place ≡ Some job =
    ap (λ (js : List JobOf). slice_get js c.in-Some.place) (sym same) ∙ at.there in
    let found : job_in c.self.inside.provisioner.core.flight c.args.ticket ≡ Some job =
    ap (λ (js : List JobOf). job_in js c.args.ticket) (sym same) ∙ at.found in
    let fly = flies c.self.inside.provisioner.core c.in-Some.place job (c.settle.ensures.sound before) there in
    let read = subst (λ (j : JobOf). IsReadOf (transfer_for j) c.args.octets.now c.in-Ok.finished.octets) one
    c.in-Ok.ensures.read in
    rw (← c.self.view_is, c.by_settling.ensures)
    (take_taken c.self.inside.provisioner c.settle.new.self number c.args.moment c.args.ticket c.args.octets.now _
    job c.settle.result before found read fly c.settle.ensures.settled)
