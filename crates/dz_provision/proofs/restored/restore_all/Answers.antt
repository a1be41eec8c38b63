use Rattle.std.proofs.Common.{◌≡◌, ◌+◌, length, ◌∙◌, ap, subst, arith}
use Rattle.dz_disk.specs.RecordLog.{records}
use Rattle.dz_store.specs.Payload.{reads}
use Rattle.dz_member.specs.Fold.{FoldOf}
use Rattle.dz_fleet.specs.Core.{state_of}
use Rattle.dz_provision.specs.Held.{Held}
use Rattle.dz_provision.specs.inner.Told.{HasStopped}
use Rattle.dz_provision.proofs.RestoreLemmas.{begin, had_all}
use Rattle.dz_provision.proofs.restored.restore_all.Goals as goal

pub returns-clause-restored : goal.returns-clause-restored
returns-clause-restored g c = λ is f told.
    let one = c.restore_places-ended in
    let n = length c.catalogs-count.result.now in
    let m = c.member_count.result in
    let before = begin c.args.store.now.has_failed in
    let done = c.is_done.ensures.0 c.if-not-is_done.false in
    let first = one.ensures.turns done f told before.0 before.1 in
    let second = c.restore_places.ensures.turns is f (one.ensures.quiet.same ∙ told) first.later (subst
    (HasStopped one.new.store.has_failed first.later) (let e : 0 + n ≡ n = omega arith in e) first.stopped) in
    let config : n ≡ length (state_of c.args.provisioner.now.core).fold.config =
    ap (λ l. length l) (c.catalogs-count.ensures.catalogs ∙ ap (λ (x : FoldOf). x.config) c.fold.ensures.fold
    ∙ ap (λ (h : Held). (state_of h.core).fold.config) c.provisioner.view_is) in
    let members : m ≡ length (state_of one.new.provisioner.core).fold.members =
    c.member_count.ensures.count
    ∙ ap (λ (h : Held). length (state_of h.core).fold.members) c.provisioner-2.view_is in
    had_all (records reads f) one.new.store.has_failed c.restore_places.new.store.has_failed before.0 n m
    c.args.provisioner.now.core one.new.provisioner.core c.restore_places.new.provisioner.core first config
    members second
