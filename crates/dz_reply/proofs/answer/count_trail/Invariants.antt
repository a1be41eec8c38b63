use Rattle.std.proofs.Common.{◌≡◌, ◌+◌, ◌≤◌, length, take, drop}
use Rattle.dz_reply.specs.Answer.{entries_behind, trail_entries}
use Rattle.dz_reply.proofs.answer.count_trail.Given as goal

abbrev pub invariant-trail : goal.invariant-trail
invariant-trail l = record {
  count : l.count + length (entries_behind (take l.number l.chain) (drop l.number l.chain))
      ≡ length (trail_entries l.chain);
  few : l.count ≤ l.number + l.number;
}
