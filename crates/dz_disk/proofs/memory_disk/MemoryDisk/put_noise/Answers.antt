use Rattle.std.proofs.Common.{◌≡◌, ◌≤◌, length, ap, ◌∙◌, arith}
use Rattle.dz_disk.specs.Disk.{put}
use Rattle.dz_disk.specs.MemoryDisk.{state_of}
use Rattle.dz_disk.proofs.ActLemmas.{tried_kept}
use Rattle.dz_disk.proofs.memory_disk.MemoryDisk.put_noise.Goals as goal

pub invariant_of-self-2 : goal.invariant_of-self-2
invariant_of-self-2 c =
    let was = c.self.inside in
    let le : c.args.at ≤ length was.octets.items = omega (
      arith,
      c.requires,
      ap length c.self.invariant.octets_are,
      ap (λ d. length (state_of d).octets) c.self.view_is,
    ) in
    let long : length c.in_ok-noise.noise.items ≡ c.args.count = omega (arith, c.in_ok-noise.ensures.len) in
    let noisy : c.in_ok-noisy.noisy.items ≡ put c.args.at c.in_ok-noise.noise.items was.noisy.items =
    c.in_ok-noisy.ensures ∙ ap (λ l. put c.args.at c.deref-2.result.now l) c.deref.ensures.value
    ∙ ap (λ l. put c.args.at l was.noisy.items) c.deref-2.ensures.value in
    let kept = tried_kept was.origin.items was.acts.items was.octets.items was.sure.items was.noisy.items
    c.in_ok-noise.noise.items c.args.at c.args.count c.self.invariant le long in
    rw (noisy, c.in_ok-push.ensures.items) kept
