use Rattle.std.proofs.Common.{◌<◌, ◌∙◌, ap, arith, length, length-append}
use Rattle.dz_chunks.proofs.JoinLemmas.{within_of, behind_length, behind_flat}
use Rattle.dz_chunks.proofs.joins.joined_behind.Goals as goal

pub bounds-chunks-at : goal.bounds-chunks-at
bounds-chunks-at g c =
    within_of c.args.chunks.now c.args.at (omega (arith, c.if-length_at-room.false, c.length_at.ensures))

pub returns-in_err-copy_entries-clause-cost : goal.returns-in_err-copy_entries-clause-cost
returns-in_err-copy_entries-clause-cost g c =
    let few : c.length_at.result < 128 = omega (arith, c.if-length_at-room.false) in
    let part = c.entries.ensures ∙ c.index-chunks-at.is in
    let known = behind_length c.args.chunks.now c.args.at c.index-chunks-at.result c.length_at.result
    c.entries.result.now c.length_at.ensures few part c.requires.sized in
    omega
    (arith, c.if-length_at-room.false, c.copy_entries.ensures.cost, known.0, c.len-room.ensures, c.requires.short)

pub returns-clause-within : goal.returns-clause-within
returns-clause-within g c =
    let within =
    within_of c.args.chunks.now c.args.at (omega (arith, c.if-length_at-room.false, c.length_at.ensures)) in
    omega (arith, within)

pub returns-clause-entries : goal.returns-clause-entries
returns-clause-entries g c =
    let within =
    within_of c.args.chunks.now c.args.at (omega (arith, c.if-length_at-room.false, c.length_at.ensures)) in
    let part = c.entries.ensures ∙ c.index-chunks-at.is in
    behind_flat c.args.chunks.now c.args.at c.index-chunks-at.result c.entries.result.now c.args.entries.items
    c.copy_entries.new.copies.items within part c.in_ok-copy_entries.ensures.copied

pub returns-clause-short : goal.returns-clause-short
returns-clause-short g c =
    let few : c.length_at.result < 128 = omega (arith, c.if-length_at-room.false) in
    let part = c.entries.ensures ∙ c.index-chunks-at.is in
    let known = behind_length c.args.chunks.now c.args.at c.index-chunks-at.result c.length_at.result
    c.entries.result.now c.length_at.ensures few part c.requires.sized in
    omega (
      arith,
      c.if-length_at-room.false,
      known.0,
      c.len-room.ensures,
      c.requires.short,
      ap length c.in_ok-copy_entries.ensures.copied,
      length-append c.args.entries.items c.entries.result.now,
    )

pub returns-clause-joined : goal.returns-clause-joined
returns-clause-joined g c =
    let few : c.length_at.result < 128 = omega (arith, c.if-length_at-room.false) in
    let part = c.entries.ensures ∙ c.index-chunks-at.is in
    let known = behind_length c.args.chunks.now c.args.at c.index-chunks-at.result c.length_at.result
    c.entries.result.now c.length_at.ensures few part c.requires.sized in
    omega (
      arith,
      known.0,
      known.1,
      ap length c.in_ok-copy_entries.ensures.copied,
      length-append c.args.entries.items c.entries.result.now,
    )

pub returns-clause-cost : goal.returns-clause-cost
returns-clause-cost g c =
    let few : c.length_at.result < 128 = omega (arith, c.if-length_at-room.false) in
    let part = c.entries.ensures ∙ c.index-chunks-at.is in
    let known = behind_length c.args.chunks.now c.args.at c.index-chunks-at.result c.length_at.result
    c.entries.result.now c.length_at.ensures few part c.requires.sized in
    omega
    (arith, c.if-length_at-room.false, c.copy_entries.ensures.cost, known.0, c.len-room.ensures, c.requires.short)
