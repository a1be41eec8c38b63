use Rattle.std.proofs.Common.{arith}
use Rattle.dz_record.proofs.KeptLemmas.{Opened, opened_long, opened_sized_rdata}
use Rattle.dz_record.proofs.rr.Rr.sized_rdata.Goals as goal

pub split_at-requires : goal.split_at-requires
split_at-requires c =
    let o : Opened c.args.self.now c.octets.result.now c.owner_size.result = record {
      is = c.octets.ensures.valid;
      octets_are = c.octets.ensures.octets;
      owner_len_is = c.owner_size.ensures.size;
    } in
    omega (arith, opened_long _ _ _ o)

pub returns : goal.returns
returns c =
    let o : Opened c.args.self.now c.octets.result.now c.owner_size.result = record {
      is = c.octets.ensures.valid;
      octets_are = c.octets.ensures.octets;
      owner_len_is = c.owner_size.ensures.size;
    } in
    opened_sized_rdata _ _ _ _ o c.split_at.ensures.back
