use Rattle.std.proofs.Common.{◌∙◌, ◌+◌, [], ap, subst, sym, arith, take, drop}
use Rattle.std.proofs.lemmas.List.{append-nil}
use Rattle.dz_chunks.specs.Chunked.{flat, AreChunks}
use Rattle.dz_chunks.proofs.JoinLemmas.{copied_around, flat-append, none_between}
use Rattle.dz_chunks.proofs.joins.without_chunk.Goals as goal

pub returns-clause-entries : goal.returns-clause-entries
returns-clause-entries g c =
    let cs = c.args.chunks.now in
    let made = copied_around c.args.chunks.now c.in_ok-copies.copies.items c.copy_chunks.new.copies.items
    c.copy_chunks.new.copies.items c.copy_chunks-2.new.copies.items c.args.at
    (c.args.at + 1) [] c.in_ok-copies.ensures.items
    c.in_ok-copy_chunks.ensures.copied
    (sym (append-nil c.copy_chunks.new.copies.items)) c.in_ok-copy_chunks-2.ensures.copied in
    ap flat made ∙ flat-append (take c.args.at cs) (drop (c.args.at + 1) cs)

pub returns-clause-sized : goal.returns-clause-sized
returns-clause-sized g c =
    let made = copied_around c.args.chunks.now c.in_ok-copies.copies.items c.copy_chunks.new.copies.items
    c.copy_chunks.new.copies.items c.copy_chunks-2.new.copies.items c.args.at
    (c.args.at + 1) [] c.in_ok-copies.ensures.items
    c.in_ok-copy_chunks.ensures.copied
    (sym (append-nil c.copy_chunks.new.copies.items)) c.in_ok-copy_chunks-2.ensures.copied in
    subst AreChunks (sym made)
    (none_between c.args.chunks.now c.args.at (omega (arith, c.requires.within)) c.requires.last c.requires.sized)
