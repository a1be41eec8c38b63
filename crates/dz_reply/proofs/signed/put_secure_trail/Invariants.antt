use Rattle.std.proofs.Common.{◌≡◌, ◌<◌, [], length, take, drop, get_or}
use Rattle.dz_name.specs.Words.{Name}
use Rattle.dz_record.specs.Record.{Record}
use Rattle.dz_header.specs.Writing.{also}
use Rattle.dz_reply.specs.Layout.{entries_octets}
use Rattle.dz_reply.specs.Secure.{secure_trail}
use Rattle.dz_reply.proofs.signed.put_secure_trail.Given as goal

abbrev pub invariant-trail : goal.invariant-trail
invariant-trail l = record {
  name : (d : Name × Record) → l.number < length l.chain → l.name ≡ (get_or l.chain l.number d).0;
  octets : also l.writer.writing (entries_octets l.signing.question.now
      (secure_trail l.signing.version.now.records l.signing.bare (take l.number l.chain) (drop l.number l.chain)))
      ≡ also l.fn.writer.writing
      (entries_octets l.signing.question.now (secure_trail l.signing.version.now.records l.signing.bare [] l.chain));
}
