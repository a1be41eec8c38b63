use Rattle.std.proofs.Common.{◌≡◌, ◌+◌, ◌%◌, ◌<◌, drop, length}
use Rattle.std.specs.List.{flat_map}
use Rattle.dz_header.specs.Writing.{also}
use Rattle.dz_reply.specs.Layout.{entries_octets}
use Rattle.dz_reply.specs.Answer.{glue_of}
use Rattle.dz_reply.proofs.glue.put_glue.Given as goal

abbrev pub invariant-servers : goal.invariant-servers
invariant-servers l = record {
  written : also l.writer.writing (entries_octets l.question (flat_map (glue_of l.version) (drop l.server-index l.servers)))
      ≡ also l.initial.writer.writing (entries_octets l.question (flat_map (glue_of l.version) l.servers));
  count : (l.count + length (flat_map (glue_of l.version) (drop l.server-index l.servers))) % 65536
      ≡ length (flat_map (glue_of l.version) l.servers) % 65536;
  small : l.count < 65536;
}
