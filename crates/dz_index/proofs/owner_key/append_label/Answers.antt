use Rattle.std.proofs.Common.{arith, take, get_or, refl}
use Rattle.dz_index.proofs.OwnerKeyLemmas.{behind_step, behind_end}
use Rattle.dz_index.proofs.owner_key.append_label.Goals as goal

pub octets-preserved : goal.octets-preserved
octets-preserved c = record {
  key = behind_step c.args.label.now _ (take c.octets.end c.octets.octets) _
      (get_or c.args.label.now c.octets.octet-index 0) c.octets.octet-index c.octets-test.true refl
      c.append_octet-end.ensures.octets c.octets.invariant.key;
  behind = omega (arith, c.append_octet-end.ensures.behind, c.octets.invariant.behind);
  room = omega (arith, c.append_octet-end.ensures.room, c.octets.invariant.room, c.octets-test.true);
}

pub returns-clause-octets : goal.returns-clause-octets
returns-clause-octets c = behind_end c.args.label.now _ (take c.octets.end c.octets.octets) _ c.octets.octet-index
    (omega (arith, c.octets-test.false)) c.append_at.ensures.octets c.octets.invariant.key
