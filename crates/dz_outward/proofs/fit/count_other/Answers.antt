use Rattle.std.proofs.Common.{◌≡◌, ◌≤◌, ◌+◌, true, sym, ◌∙◌, ap, subst, arith}
use Rattle.std.proofs.lemmas.Bool.Decides.{nat_tests}
use Rattle.dz_message.specs.Piece.{octets_behind, total_of, TallyState}
use Rattle.dz_outward.specs.Stream.{is_other}
use Rattle.dz_outward.proofs.SizingLemmas.{other_counted, one_grows}
use Rattle.dz_outward.proofs.fit.count_other.Goals as goal

pub returns-then-kind-ne-TYPE_SOA-clause-counts : goal.returns-then-kind-ne-TYPE_SOA-clause-counts
returns-then-kind-ne-TYPE_SOA-clause-counts c = λ rest.
    let other : is_other c.args.rr.now ≡ true = grind (arith, nat_tests) in
    other_counted c.args.tally.now c.args.rr.now rest other
    ∙ ap (λ (t : TallyState). octets_behind t rest) (sym c.add.ensures)

pub returns-then-kind-ne-TYPE_SOA-clause-grows : goal.returns-then-kind-ne-TYPE_SOA-clause-grows
returns-then-kind-ne-TYPE_SOA-clause-grows c =
    subst (λ (t : TallyState). total_of t ≤ total_of c.args.tally.now + 70000) (sym c.add.ensures)
    (one_grows c.args.tally.now c.args.rr.now c.kind.ensures.valid)
