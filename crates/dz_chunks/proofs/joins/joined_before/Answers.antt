use Rattle.std.proofs.Common.{◌<◌, ◌∙◌, ap, arith, length, length-append}
use Rattle.dz_chunks.proofs.JoinLemmas.{before_length, before_flat}
use Rattle.dz_chunks.proofs.joins.joined_before.Goals as goal

pub returns-in_err-entries-clause-cost : goal.returns-in_err-entries-clause-cost
returns-in_err-entries-clause-cost g c =
    let few : c.length_before.result < 128 = omega (arith, c.if-length_before-room.false) in
    let part = c.entries.ensures ∙ c.index-chunks-at.is in
    let known = before_length c.args.chunks.now c.args.at c.index-chunks-at.result c.length_before.result
    c.entries.result.now c.requires.within c.length_before.ensures few part c.requires.sized in
    omega
    (arith, c.if-length_before-room.false, c.prepended.ensures.cost, known.1, c.len-room.ensures, c.requires.short)

pub returns-clause-entries : goal.returns-clause-entries
returns-clause-entries g c =
    let few : c.length_before.result < 128 = omega (arith, c.if-length_before-room.false) in
    let part = c.entries.ensures ∙ c.index-chunks-at.is in
    let known = before_length c.args.chunks.now c.args.at c.index-chunks-at.result c.length_before.result
    c.entries.result.now c.requires.within c.length_before.ensures few part c.requires.sized in
    before_flat c.args.chunks.now c.args.at c.index-chunks-at.result c.entries.result.now c.args.entries.items
    c.in_ok-entries.entries.items known.0 c.requires.within part c.in_ok-entries.ensures.items

pub returns-clause-short : goal.returns-clause-short
returns-clause-short g c =
    let few : c.length_before.result < 128 = omega (arith, c.if-length_before-room.false) in
    let part = c.entries.ensures ∙ c.index-chunks-at.is in
    let known = before_length c.args.chunks.now c.args.at c.index-chunks-at.result c.length_before.result
    c.entries.result.now c.requires.within c.length_before.ensures few part c.requires.sized in
    omega (
      arith,
      c.if-length_before-room.false,
      known.1,
      c.len-room.ensures,
      c.requires.short,
      ap length c.in_ok-entries.ensures.items,
      length-append c.entries.result.now c.args.entries.items,
    )

pub returns-clause-joined : goal.returns-clause-joined
returns-clause-joined g c =
    let few : c.length_before.result < 128 = omega (arith, c.if-length_before-room.false) in
    let part = c.entries.ensures ∙ c.index-chunks-at.is in
    let known = before_length c.args.chunks.now c.args.at c.index-chunks-at.result c.length_before.result
    c.entries.result.now c.requires.within c.length_before.ensures few part c.requires.sized in
    omega (
      arith,
      known.1,
      known.2,
      ap length c.in_ok-entries.ensures.items,
      length-append c.entries.result.now c.args.entries.items,
    )

pub returns-clause-cost : goal.returns-clause-cost
returns-clause-cost g c =
    let few : c.length_before.result < 128 = omega (arith, c.if-length_before-room.false) in
    let part = c.entries.ensures ∙ c.index-chunks-at.is in
    let known = before_length c.args.chunks.now c.args.at c.index-chunks-at.result c.length_before.result
    c.entries.result.now c.requires.within c.length_before.ensures few part c.requires.sized in
    omega
    (arith, c.if-length_before-room.false, c.prepended.ensures.cost, known.1, c.len-room.ensures, c.requires.short)
