use Rattle.std.proofs.Common.{◌∙◌, ◌∷◌, [], ◌+◌, ap, subst, sym, arith, take, drop}
use Rattle.dz_chunks.specs.Chunked.{flat, AreChunks}
use Rattle.dz_chunks.proofs.JoinLemmas.{copied_around, pushed_both, flat-append, two_flat, two_between, halves_join}
use Rattle.dz_chunks.proofs.joins.with_split.Goals as goal

pub returns-clause-entries : goal.returns-clause-entries
returns-clause-entries g c =
    let cs = c.args.chunks.now in
    let x = c.in_ok-before.before.entries.items in
    let y = c.in_ok-behind.behind.entries.items in
    let both = pushed_both c.copy_chunks.new.copies.items c.push_chunk.new.chunks.items c.push_chunk-2.new.chunks.items
    x y c.in_ok-push_chunk.ensures c.in_ok-push_chunk-2.ensures in
    let made = copied_around c.args.chunks.now c.in_ok-made.made.items c.copy_chunks.new.copies.items
    c.push_chunk-2.new.chunks.items c.copy_chunks-2.new.copies.items c.in_ok-before.before.place
    c.in_ok-behind.behind.place (x ∷ y ∷ []) c.in_ok-made.ensures.items
    c.in_ok-copy_chunks.ensures.copied both c.in_ok-copy_chunks-2.ensures.copied in
    ap flat made ∙ (flat-append (take c.in_ok-before.before.place cs) (x ∷ y ∷ drop c.in_ok-behind.behind.place cs)
    ∙ two_flat (flat (take c.in_ok-before.before.place cs))
    (flat (drop c.in_ok-behind.behind.place cs)) (flat (take c.args.at cs))
    (flat (drop (c.args.at + 1) cs)) x y c.in_ok-first.first.items c.in_ok-first.second.items c.args.entries.items
    c.in_ok-before.ensures.entries c.in_ok-behind.ensures.entries (halves_join c.args.entries.items
    c.in_ok-first.first.items c.in_ok-first.second.items c.in_ok-first.ensures.first c.in_ok-first.ensures.second))

pub returns-clause-sized : goal.returns-clause-sized
returns-clause-sized g c =
    let cs = c.args.chunks.now in
    let x = c.in_ok-before.before.entries.items in
    let y = c.in_ok-behind.behind.entries.items in
    let both = pushed_both c.copy_chunks.new.copies.items c.push_chunk.new.chunks.items c.push_chunk-2.new.chunks.items
    x y c.in_ok-push_chunk.ensures c.in_ok-push_chunk-2.ensures in
    let made = copied_around c.args.chunks.now c.in_ok-made.made.items c.copy_chunks.new.copies.items
    c.push_chunk-2.new.chunks.items c.copy_chunks-2.new.copies.items c.in_ok-before.before.place
    c.in_ok-behind.behind.place (x ∷ y ∷ []) c.in_ok-made.ensures.items
    c.in_ok-copy_chunks.ensures.copied both c.in_ok-copy_chunks-2.ensures.copied in
    subst AreChunks (sym made) (two_between cs c.in_ok-before.before.place c.in_ok-behind.behind.place x y
    (omega (arith, c.in_ok-before.ensures.within, c.requires.within))
    (omega (arith, c.in_ok-before.ensures.longer, c.in_ok-first.ensures.first_length))
    c.in_ok-before.ensures.short
    (omega (arith, c.in_ok-behind.ensures.longer, c.in_ok-first.ensures.second_length))
    c.in_ok-behind.ensures.short
    c.in_ok-before.ensures.joined
    c.in_ok-behind.ensures.joined
    c.requires.sized)
