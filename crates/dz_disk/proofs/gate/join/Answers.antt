use Rattle.std.proofs.Common.{◌≡◌, ◌+◌, [], ◌∷◌, length, Some, ap, ◌∙◌}
use Rattle.std.specs.Option.{option_map}
use Rattle.dz_disk.specs.Disk.{put, IsTorn}
use Rattle.dz_disk.specs.RecordLog.{IsLeft}
use Rattle.dz_disk.proofs.MomentLemmas.{wider, both_calls}
use Rattle.dz_disk.proofs.CrashLemmas.{staging, staging_done, opening, opening_done}
use Rattle.dz_disk.proofs.gate.join.Goals as goal

pub returns-in_err-write_through-clause-crash : goal.returns-in_err-write_through-clause-crash
returns-in_err-write_through-clause-crash g c = λ list payload f told sure rest at is.
    wider g.D.Disk.clock g.D.Disk.left_from c.args.disk.now c.write_through.new.disk
    (IsTorn (c.args.gate + 1) (length c.args.staged.now) f) (IsLeft list payload)
    (λ x torn. staging list payload f x c.args.gate (length c.args.staged.now) rest at torn)
    (c.write_through.ensures.crash f sure)

pub returns-in_err-write_through-2-clause-crash : goal.returns-in_err-write_through-2-clause-crash
returns-in_err-write_through-2-clause-crash g c = λ list payload f told sure rest at is.
    let f1 = put (c.args.gate + 1) c.args.staged.now f in
    let one : g.D.Disk.file c.write_through.new.disk ≡ Some f1 =
    c.in_ok-write_through.ensures.written ∙ ap (option_map (put (c.args.gate + 1) c.args.staged.now)) told in
    let staged = staging_done list payload f c.args.staged.now c.args.gate rest at is in
    both_calls g.D.Disk.clock g.D.Disk.left_from c.args.disk.now c.write_through.new.disk c.write_through-2.new.disk
    (IsLeft list payload)
    (wider g.D.Disk.clock g.D.Disk.left_from c.args.disk.now c.write_through.new.disk
    (IsTorn (c.args.gate + 1) (length c.args.staged.now) f) (IsLeft list payload)
    (λ x torn. staging list payload f x c.args.gate (length c.args.staged.now) rest at torn)
    (c.write_through.ensures.crash f sure))
    (wider g.D.Disk.clock g.D.Disk.left_from c.write_through.new.disk c.write_through-2.new.disk
    (IsTorn c.args.gate 1 f1) (IsLeft list payload)
    (λ x torn. opening list payload f1 x c.args.gate staged at torn)
    (c.write_through-2.ensures.crash f1 (c.in_ok-write_through.ensures.sure f1 one)))

pub returns-clause-crash : goal.returns-clause-crash
returns-clause-crash g c = λ list payload f told sure rest at is.
    let f1 = put (c.args.gate + 1) c.args.staged.now f in
    let one : g.D.Disk.file c.write_through.new.disk ≡ Some f1 =
    c.in_ok-write_through.ensures.written ∙ ap (option_map (put (c.args.gate + 1) c.args.staged.now)) told in
    let staged = staging_done list payload f c.args.staged.now c.args.gate rest at is in
    both_calls g.D.Disk.clock g.D.Disk.left_from c.args.disk.now c.write_through.new.disk c.write_through-2.new.disk
    (IsLeft list payload)
    (wider g.D.Disk.clock g.D.Disk.left_from c.args.disk.now c.write_through.new.disk
    (IsTorn (c.args.gate + 1) (length c.args.staged.now) f) (IsLeft list payload)
    (λ x torn. staging list payload f x c.args.gate (length c.args.staged.now) rest at torn)
    (c.write_through.ensures.crash f sure))
    (wider g.D.Disk.clock g.D.Disk.left_from c.write_through.new.disk c.write_through-2.new.disk
    (IsTorn c.args.gate 1 f1) (IsLeft list payload)
    (λ x torn. opening list payload f1 x c.args.gate staged at torn)
    (c.write_through-2.ensures.crash f1 (c.in_ok-write_through.ensures.sure f1 one)))

pub returns-clause-joined : goal.returns-clause-joined
returns-clause-joined g c = λ list payload f told rest at is.
    let f1 = put (c.args.gate + 1) c.args.staged.now f in
    let one : g.D.Disk.file c.write_through.new.disk ≡ Some f1 =
    c.in_ok-write_through.ensures.written ∙ ap (option_map (put (c.args.gate + 1) c.args.staged.now)) told in
    let two : g.D.Disk.file c.write_through-2.new.disk ≡ Some (put c.args.gate (1 ∷ []) f1) =
    c.in_ok-write_through-2.ensures.written ∙ ap (option_map (put c.args.gate (1 ∷ []))) one in (
      put c.args.gate (1 ∷ []) f1,
      two,
      opening_done list payload f1 c.args.gate
          (staging_done list payload f c.args.staged.now c.args.gate rest at is) at,
    )
