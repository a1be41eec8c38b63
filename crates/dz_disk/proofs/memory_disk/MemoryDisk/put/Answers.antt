use Rattle.std.proofs.Common.{◌≡◌, ◌≤◌, ◌∷◌, [], ◌++◌, length, sym, ap, ◌∙◌, arith, rules}
use Rattle.dz_disk.specs.Disk.{put}
use Rattle.dz_disk.specs.MemoryDisk.{DiskOf, state_of}
use Rattle.dz_disk.specs.declared.memory_disk.DiskAct.TheVariants.{Wrote}
use Rattle.dz_disk.proofs.ActLemmas.{wrote_kept}
use Rattle.dz_disk.proofs.memory_disk.MemoryDisk.put.Goals as goal

pub invariant_of-self-2 : goal.invariant_of-self-2
invariant_of-self-2 c =
    let was = c.self.inside in
    let v = c.in_ok-to_vec.field-0 in
    let piece : v.items ≡ c.args.piece.now = search rules in
    let le : c.args.at ≤ length was.octets.items = omega (
      arith,
      c.requires,
      ap length c.self.invariant.octets_are,
      ap (λ d. length (state_of d).octets) c.self.view_is,
    ) in
    let long : length c.in_ok-noise.noise.items ≡ length v.items =
    omega (arith, c.in_ok-noise.ensures.len, ap length piece) in
    let octets : c.in_ok-octets.octets.items ≡ put c.args.at v.items was.octets.items =
    c.in_ok-octets.ensures ∙ ap (λ l. put c.args.at c.args.piece.now l) c.deref.ensures.value
    ∙ ap (λ l. put c.args.at l was.octets.items) (sym piece) in
    let noisy : c.in_ok-noisy.noisy.items ≡ put c.args.at c.in_ok-noise.noise.items was.noisy.items =
    c.in_ok-noisy.ensures ∙ ap (λ l. put c.args.at c.deref-3.result.now l) c.deref-2.ensures.value
    ∙ ap (λ l. put c.args.at l was.noisy.items) c.deref-3.ensures.value in
    let kept = wrote_kept was.origin.items was.acts.items was.octets.items was.sure.items was.noisy.items
    c.in_ok-noise.noise.items c.args.at v c.self.invariant le long in
    rw (octets, noisy, c.in_ok-push.ensures.items) kept

pub returns-clause-ok : goal.returns-clause-ok
returns-clause-ok c =
    let v = c.in_ok-to_vec.field-0 in
    let piece : v.items ≡ c.args.piece.now = search rules in (
      v,
      piece,
      ap (λ l. record {
        begun = c.self.inside.origin.items;
        acts = l;
        calls = record {
          count = c.self.inside.count;
          failing = c.self.inside.failing.items;
          faults = c.self.inside.faults;
        };
      }) c.in_ok-push.ensures.items
          ∙ ap (λ (d : DiskOf). record d { acts = d.acts ++ Wrote c.args.at v ∷ [] }) c.self.view_is,
    )
