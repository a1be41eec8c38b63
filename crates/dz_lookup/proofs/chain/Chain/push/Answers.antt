use Rattle.std.proofs.Common.{rules, arith, ◌<◌, ap, length, length-append, Some, [], ◌∷◌}
use Rattle.dz_lookup.proofs.LinkLemmas.{length_pairs, there_more, pushed_first, pushed_later}
use Rattle.dz_lookup.proofs.chain.Chain.push.Goals.{then-is_empty, else-is_empty}
use Rattle.dz_lookup.proofs.chain.Chain.push.Goals as goal

pub push-requires : goal.push-requires
push-requires c =
    let few : length c.self.inside.records.items < 16 = omega (
      arith,
      c.requires.room,
      ap length c.self.view_is,
      length_pairs c.self.inside.first c.self.inside.records.items,
    ) in
    elim c.if-is_empty.branch [
      | then-is_empty w ↦ rw w.self-inside-is (omega arith, few)
      | else-is_empty w ↦ rw w.self-inside-is (omega arith, few)
    ]

pub invariant_of-self : goal.invariant_of-self
invariant_of-self c =
    let few : length c.self.inside.records.items < 16 = omega (
      arith,
      c.requires.room,
      ap length c.self.view_is,
      length_pairs c.self.inside.first c.self.inside.records.items,
    ) in
    let there = there_more c.self.inside.records.items c.args.rr c.self.invariant.1 in
    elim c.if-is_empty.branch [
      | then-is_empty w ↦
          let e = rw w.self-inside-is at c.push.ensures.items in
          rw e (omega (arith, few, length-append c.self.inside.records.items (Some c.args.rr ∷ [])), there)
      | else-is_empty w ↦
          let e = rw w.self-inside-is at c.push.ensures.items in
          rw e (omega (arith, few, length-append c.self.inside.records.items (Some c.args.rr ∷ [])), there)
    ]

pub returns : goal.returns
returns c = elim c.if-is_empty.branch [
  | then-is_empty w ↦
      rw (w.self-inside-is, rw w.self-inside-is at c.push.ensures.items)
      (pushed_first c.self.inside.first c.args.name.now c.self.inside.records.items (Some c.args.rr) c.args.self.now
      (search rules) c.self.view_is)
  | else-is_empty w ↦
      rw (w.self-inside-is, rw w.self-inside-is at c.push.ensures.items)
      (pushed_later c.self.inside.first c.args.name.now c.self.inside.records.items (Some c.args.rr) c.args.self.now
      (search rules) c.self.view_is c.requires.next)
]
