use Rattle.std.proofs.Common.{◌≡◌, ◌+◌, ◌<◌, ◌≤◌, length, drop, get_or}
use Rattle.dz_name.specs.Words.{Name}
use Rattle.dz_record.specs.Record.{Record}
use Rattle.dz_reply.specs.Secure.{gain_all, wildcard_proofs}
use Rattle.dz_reply.proofs.evidence.put_wildcards.Given as goal

abbrev pub invariant-trail : goal.invariant-trail
invariant-trail l = record {
  name : (d : Name × Record) → l.number < length l.chain → l.name ≡ (get_or l.chain l.number d).0;
  gained : gain_all l.authority (wildcard_proofs l.version.records (drop l.number l.chain))
      ≡ gain_all l.fn.authority (wildcard_proofs l.version.records l.chain);
  few : length l.authority ≤ length l.fn.authority + l.number;
}
