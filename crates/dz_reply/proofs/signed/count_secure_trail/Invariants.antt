use Rattle.std.proofs.Common.{◌≡◌, ◌+◌, ◌%◌, ◌<◌, [], length, take, drop}
use Rattle.dz_reply.specs.Secure.{secure_trail}
use Rattle.dz_reply.proofs.signed.count_secure_trail.Given as goal

abbrev pub invariant-trail : goal.invariant-trail
invariant-trail l = record {
  count : (l.count + length (secure_trail l.signing.version.now.records l.signing.bare
      (take l.number l.chain) (drop l.number l.chain))) % 65536
      ≡ length (secure_trail l.signing.version.now.records l.signing.bare [] l.chain) % 65536;
  small : l.count < 65536;
}
