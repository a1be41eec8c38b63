use Rattle.std.proofs.Common.{arith, length, ◌<◌, get_or, ap}
use Rattle.std.specs.Prelude.{bit_xor}
use Rattle.std.proofs.lemmas.List.{get_or_default}
use Rattle.std.proofs.lemmas.List.Edits.{map_over_more}
use Rattle.dz_tsig.proofs.HmacLemmas.{length_mapped, padded_is}
use Rattle.dz_tsig.proofs.mac.padded.Goals as goal

pub octets-preserved : goal.octets-preserved
octets-preserved c =
    let within : c.octets.at < length c.put_front.new.block =
    omega (arith, c.octets-test.true, c.put_front.array_long) in
    let there : c.octets.at < length c.octets.block = omega (
      arith,
      within,
      ap length c.octets.invariant,
      length_mapped (λ octet. bit_xor octet c.args.pad) c.octets.at c.put_front.new.block,
    ) in
    map_over_more (λ octet. bit_xor octet c.args.pad) c.put_front.new.block c.octets.block c.octets.at
    (get_or c.octets.block c.octets.at 0) within c.octets.invariant
    (get_or_default c.octets.block c.octets.at 0 (get_or c.octets.block c.octets.at 0) there)

pub returns : goal.returns
returns c = padded_is c.args.key.now c.args.pad c.put_front.new.block c.octets.block c.octets.at c.put_front.ensures
    c.octets-test.false c.octets.invariant c.requires
