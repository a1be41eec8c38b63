use Rattle.std.proofs.Common.{sym, ◌∙◌, ap, subst}
use Rattle.dz_chunks.specs.Chunked.{flat, AreChunks}
use Rattle.dz_chunks.proofs.cut.cut.Goals as goal

pub returns-clause-entries : goal.returns-clause-entries
returns-clause-entries g c =
    ap flat c.reverse.ensures.items ∙ (c.in_ok-push_first.ensures.entries ∙ c.in_ok-cut_full.ensures.entries)

pub returns-clause-sized : goal.returns-clause-sized
returns-clause-sized g c =
    subst AreChunks (sym c.reverse.ensures.items) c.in_ok-push_first.ensures.sized
