use Rattle.std.proofs.Common.{◌≡◌, [], ◌∷◌, ◌++◌, Some, sym, ap, subst, ◌∙◌, arith}
use Rattle.dz_disk.specs.Disk.{Leaves}
use Rattle.dz_disk.specs.RecordLog.{body, records, IsPayload, IsLeft, IsLog}
use Rattle.dz_disk.proofs.LogLemmas.{HasJoined, gate_there, known_so, joined_kept, joined_records, idle}
use Rattle.dz_disk.proofs.record_log.RecordLog.append.Goals as goal

pub returns-then-room-lt9-clause-crash : goal.returns-then-room-lt9-clause-crash
returns-then-room-lt9-clause-crash g c = λ able f told.
    let store = subst (λ s. IsLog g.I.RecordIndex.reads g.I.RecordIndex.is_of (g.D.Disk.file s.disk)
    (g.D.Disk.may_leave s.disk) s.index s.end s.has_failed) c.self.view_is c.self.invariant in
    idle g.D.Disk.clock g.D.Disk.left_from g.I.RecordIndex.reads g.I.RecordIndex.is_of
    (g.D.Disk.may_leave c.args.self.now.disk) c.args.self.now.disk c.args.self.now.index c.args.self.now.end f
    c.args.payload.now (store.kept able f told)
    (λ x left. g.met.D.Disk.now_alone c.args.self.now.disk x left)

pub returns-in_err-staged-clause-crash : goal.returns-in_err-staged-clause-crash
returns-in_err-staged-clause-crash g c = λ able f told.
    let store = subst (λ s. IsLog g.I.RecordIndex.reads g.I.RecordIndex.is_of (g.D.Disk.file s.disk)
    (g.D.Disk.may_leave s.disk) s.index s.end s.has_failed) c.self.view_is c.self.invariant in
    idle g.D.Disk.clock g.D.Disk.left_from g.I.RecordIndex.reads g.I.RecordIndex.is_of
    (g.D.Disk.may_leave c.args.self.now.disk) c.args.self.now.disk c.args.self.now.index c.args.self.now.end f
    c.args.payload.now (store.kept able f told)
    (λ x left. g.met.D.Disk.now_alone c.args.self.now.disk x left)

pub returns-in_err-add-clause-crash : goal.returns-in_err-add-clause-crash
returns-in_err-add-clause-crash g c = λ able f told.
    let store = subst (λ s. IsLog g.I.RecordIndex.reads g.I.RecordIndex.is_of (g.D.Disk.file s.disk)
    (g.D.Disk.may_leave s.disk) s.index s.end s.has_failed) c.self.view_is c.self.invariant in
    subst (λ d. Leaves g.D.Disk.clock g.D.Disk.left_from c.args.self.now.disk d
    (IsLeft (records g.I.RecordIndex.reads f) c.args.payload.now)) (sym (ap (λ s. s.disk) c.self.view_is))
    (idle g.D.Disk.clock g.D.Disk.left_from g.I.RecordIndex.reads g.I.RecordIndex.is_of
    (g.D.Disk.may_leave c.args.self.now.disk) c.args.self.now.disk c.args.self.now.index c.args.self.now.end f
    c.args.payload.now (store.kept able f told)
    (λ x left. g.met.D.Disk.now_alone c.args.self.now.disk x left))

pub invariant_of-self : goal.invariant_of-self
invariant_of-self g c = record {
  within = c.self.invariant.within;
  kept = λ able f told. known_so g.I.RecordIndex.reads g.I.RecordIndex.is_of
      (g.D.Disk.may_leave c.self.inside.disk) c.self.inside.index c.add.new.self c.self.inside.end f
      (c.self.invariant.kept able f told) c.in_err-add.ensures.err;
}

pub join-requires-clause-there : goal.join-requires-clause-there
join-requires-clause-there g c = λ f told.
    gate_there g.I.RecordIndex.reads g.I.RecordIndex.is_of (g.D.Disk.may_leave c.self.inside.disk) c.self.inside.index
    c.self.inside.end f (c.self.invariant.kept c.if-self.false f told)

pub invariant_of-self-in-Ok : goal.invariant_of-self-in-Ok
invariant_of-self-in-Ok g c =
    let staged : c.deref.result.now ≡ body c.args.payload.now ++ 0 ∷ [] =
    c.deref.ensures.value ∙ c.in_ok-staged.ensures in
    record {
      within = omega arith;
      kept = λ able f2 told2.
          let before = c.in-Ok.ensures.told f2 told2 in
          let kept = c.self.invariant.kept able before.0 before.1 in
          let joined = c.in-Ok.ensures.joined (records g.I.RecordIndex.reads before.0) c.args.payload.now before.0
          before.1 kept.rest kept.ends staged in
          let has : HasJoined (g.D.Disk.file c.join.new.disk) (records g.I.RecordIndex.reads before.0)
          c.args.payload.now = record { file = joined.0; is = joined.1; rest = joined.2 } in
          let is : IsPayload g.I.RecordIndex.reads c.args.payload.now =
          record { short = omega arith; readable = c.requires.reads } in
          joined_kept g.I.RecordIndex.reads g.I.RecordIndex.is_of (g.D.Disk.may_leave c.self.inside.disk)
          (g.D.Disk.may_leave c.join.new.disk) c.self.inside.index c.add.new.self c.self.inside.end before.0 f2
          c.args.payload.now (g.D.Disk.file c.join.new.disk)
          kept is has told2 (c.in-Ok.ensures.sure f2 told2)
          (c.in_ok-add.ensures.ok (records g.I.RecordIndex.reads before.0) kept.known kept.ends);
    }

pub returns-in-Ok-clause-joined : goal.returns-in-Ok-clause-joined
returns-in-Ok-clause-joined g c = λ old told.
    let staged : c.deref.result.now ≡ body c.args.payload.now ++ 0 ∷ [] =
    c.deref.ensures.value ∙ c.in_ok-staged.ensures in
    let here : g.D.Disk.file c.self.inside.disk ≡ Some old = ap (λ s. g.D.Disk.file s.disk) c.self.view_is ∙ told in
    let kept = c.self.invariant.kept c.if-self.false old here in
    let joined = c.in-Ok.ensures.joined (records g.I.RecordIndex.reads old) c.args.payload.now old here kept.rest
    kept.ends staged in
    let is : IsPayload g.I.RecordIndex.reads c.args.payload.now =
    record { short = omega arith; readable = c.requires.reads } in (
      joined.0,
      joined.1,
      joined_records g.I.RecordIndex.reads
          (records g.I.RecordIndex.reads old) c.args.payload.now joined.0 kept.fits is joined.2,
    )

pub returns-in-Ok-clause-crash : goal.returns-in-Ok-clause-crash
returns-in-Ok-clause-crash g c = λ able f told.
    let staged : c.deref.result.now ≡ body c.args.payload.now ++ 0 ∷ [] =
    c.deref.ensures.value ∙ c.in_ok-staged.ensures in
    let here : g.D.Disk.file c.self.inside.disk ≡ Some f = ap (λ s. g.D.Disk.file s.disk) c.self.view_is ∙ told in
    let kept = c.self.invariant.kept c.if-self.false f here in
    subst (λ d. Leaves g.D.Disk.clock g.D.Disk.left_from d c.join.new.disk
    (IsLeft (records g.I.RecordIndex.reads f) c.args.payload.now)) (ap (λ s. s.disk) c.self.view_is)
    (c.join.ensures.crash (records g.I.RecordIndex.reads f) c.args.payload.now f here kept.sure kept.rest
    kept.ends staged)

pub returns-clause-crash : goal.returns-clause-crash
returns-clause-crash g c = λ able f told.
    let staged : c.deref.result.now ≡ body c.args.payload.now ++ 0 ∷ [] =
    c.deref.ensures.value ∙ c.in_ok-staged.ensures in
    let here : g.D.Disk.file c.self.inside.disk ≡ Some f = ap (λ s. g.D.Disk.file s.disk) c.self.view_is ∙ told in
    let kept = c.self.invariant.kept c.if-self.false f here in
    subst (λ d. Leaves g.D.Disk.clock g.D.Disk.left_from d c.join.new.disk
    (IsLeft (records g.I.RecordIndex.reads f) c.args.payload.now)) (ap (λ s. s.disk) c.self.view_is)
    (c.join.ensures.crash (records g.I.RecordIndex.reads f) c.args.payload.now f here kept.sure kept.rest
    kept.ends staged)
