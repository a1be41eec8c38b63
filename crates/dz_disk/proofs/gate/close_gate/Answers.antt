use Rattle.std.proofs.Common.{◌≡◌, ◌≢◌, ◌⊎◌, inr, ◌+◌, drop, Some, ap, ◌∙◌, arith}
use Rattle.std.specs.Prelude.{slice_get}
use Rattle.dz_disk.specs.Disk.{IsTorn}
use Rattle.dz_disk.proofs.MomentLemmas.{wider}
use Rattle.dz_disk.proofs.OctetLemmas.{split_place}
use Rattle.dz_disk.proofs.gate.close_gate.Goals as goal
use Rattle.dz_disk.proofs.gate.close_gate.Goals.{in_default-via-in-Some+in_default, in_default-via-in_default}

pub returns-in-Some-eq0-clause-closed : goal.returns-in-Some-eq0-clause-closed
returns-in-Some-eq0-clause-closed g c = λ f told.
    let gate = c.requires.gate f told in
    let here : slice_get f c.args.at ≡ Some 0 = grind arith in
    (drop (c.args.at + 1) f, told ∙ ap (λ l. Some l) (split_place f c.args.at 0 here))

pub returns-in_default-clause-crash : goal.returns-in_default-clause-crash
returns-in_default-clause-crash g c = λ f told.
    let gate = c.requires.gate f told in
    let other : slice_get f c.args.at ≢ Some 0 = elim c.in_default.branch
    [ in_default-via-in-Some+in_default w ↦ λ e. grind arith | in_default-via-in_default w ↦ λ e. grind arith ] in
    wider g.D.Disk.clock g.D.Disk.left_from c.args.disk.now c.write_through.new.disk (IsTorn c.args.at 1 f)
    (λ x. (x ≡ f) ⊎ ((slice_get f c.args.at ≢ Some 0) × IsTorn c.args.at 1 f x))
    (λ x torn. inr (other, torn)) (c.write_through.ensures.crash f (c.requires.sure f told))
