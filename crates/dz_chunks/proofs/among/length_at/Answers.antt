use Rattle.std.proofs.Common.{◌∙◌, sym, ap, length, arith}
use Rattle.dz_chunks.proofs.JoinLemmas.{seen_length, length_past}
use Rattle.dz_chunks.proofs.among.length_at.Goals as goal

pub returns-then-at-chunks : goal.returns-then-at-chunks
returns-then-at-chunks g c =
    ap length (c.entries.ensures ∙ c.index-chunks-at.is)
    ∙ sym (seen_length c.args.chunks.now c.args.at c.index-chunks-at.result c.if-at-chunks.true)

pub returns-else-at-chunks : goal.returns-else-at-chunks
returns-else-at-chunks g c =
    sym (length_past c.args.chunks.now c.args.at (omega (arith, c.if-at-chunks.false)))
