use Rattle.std.proofs.Common.{◌∙◌, ◌∷◌, [], ◌+◌, ap, subst, sym, arith, take, drop}
use Rattle.dz_chunks.specs.Chunked.{flat, AreChunks}
use Rattle.dz_chunks.proofs.JoinLemmas.{copied_around, flat-append, one_flat, one_between}
use Rattle.dz_chunks.proofs.joins.with_chunk.Goals as goal

pub returns-clause-entries : goal.returns-clause-entries
returns-clause-entries g c =
    let cs = c.args.chunks.now in
    let made = copied_around c.args.chunks.now c.in_ok-made.made.items c.copy_chunks.new.copies.items
    c.push_chunk.new.chunks.items c.copy_chunks-2.new.copies.items c.in_ok-before.before.place
    c.in_ok-behind.behind.place (c.in_ok-behind.behind.entries.items ∷ []) c.in_ok-made.ensures.items
    c.in_ok-copy_chunks.ensures.copied c.in_ok-push_chunk.ensures c.in_ok-copy_chunks-2.ensures.copied in
    ap flat made ∙ (flat-append (take c.in_ok-before.before.place cs)
    (c.in_ok-behind.behind.entries.items ∷ drop c.in_ok-behind.behind.place cs)
    ∙ one_flat (flat (take c.in_ok-before.before.place cs)) (flat (drop c.in_ok-behind.behind.place cs))
    (flat (take c.args.at cs)) (flat (drop (c.args.at + 1) cs)) c.in_ok-before.before.entries.items
    c.in_ok-behind.behind.entries.items c.args.entries.items
    c.in_ok-before.ensures.entries c.in_ok-behind.ensures.entries)

pub returns-clause-sized : goal.returns-clause-sized
returns-clause-sized g c =
    let cs = c.args.chunks.now in
    let made = copied_around c.args.chunks.now c.in_ok-made.made.items c.copy_chunks.new.copies.items
    c.push_chunk.new.chunks.items c.copy_chunks-2.new.copies.items c.in_ok-before.before.place
    c.in_ok-behind.behind.place (c.in_ok-behind.behind.entries.items ∷ []) c.in_ok-made.ensures.items
    c.in_ok-copy_chunks.ensures.copied c.in_ok-push_chunk.ensures c.in_ok-copy_chunks-2.ensures.copied in
    subst AreChunks (sym made)
    (one_between cs c.in_ok-before.before.place c.in_ok-behind.behind.place c.in_ok-behind.behind.entries.items
    (omega (arith, c.in_ok-before.ensures.within, c.requires.within))
    (omega (arith, c.requires.some, c.in_ok-before.ensures.longer, c.in_ok-behind.ensures.longer))
    c.in_ok-behind.ensures.short
    (omega (arith, c.in_ok-before.ensures.joined, c.in_ok-behind.ensures.longer))
    c.in_ok-behind.ensures.joined
    c.requires.sized)
