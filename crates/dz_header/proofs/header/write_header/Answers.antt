use Rattle.std.proofs.Common.{refl, arith}
use Rattle.dz_name.specs.Numbers.{two}
use Rattle.dz_header.specs.Header.{header_octets}
use Rattle.dz_header.proofs.HeaderLemmas.{four_items}
use Rattle.dz_header.proofs.header.write_header.Goals as goal

pub returns : goal.returns
unfolding header_octets two
returns c =
    rw (
      c.two.ensures,
      c.two-2.ensures,
      c.two-3.ensures,
      c.two-4.ensures,
      c.two-5.ensures,
      c.two-6.ensures,
      four_items c.args.header.now.counts (omega arith),
    ) refl
