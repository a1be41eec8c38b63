use Rattle.std.proofs.Common.{◌≡◌, true, sym, ◌∙◌, arith}
use Rattle.std.proofs.lemmas.Bool.Decides.{nat_tests}
use Rattle.dz_outward.specs.Stream.{is_other}
use Rattle.dz_outward.proofs.OutgoingLemmas.{reaches_one}
use Rattle.dz_outward.proofs.outgoing.skip_or_add.Goals as goal

pub returns-else-kind-eq-TYPE_SOA-clause-reaches : goal.returns-else-kind-eq-TYPE_SOA-clause-reaches
returns-else-kind-eq-TYPE_SOA-clause-reaches c = λ added.
    let other : is_other c.args.rr.now ≡ true = grind (arith, nat_tests) in
    reaches_one c.args.piece.now c.add.new.self c.args.out.now c.add.new.out c.args.rr.now other
    (sym c.add.ensures.room ∙ added)
    (λ id questions current holds. let next = c.add.ensures.holds id questions current holds in rw added at next)
