use Rattle.dz_axfr.proofs.SiftLemmas.{sift_on}
use Rattle.dz_axfr.proofs.kept.sifted.Goals as goal

pub rest-preserved : goal.rest-preserved
rest-preserved c = (
  c.in_ok-sift.ensures.known,
  sift_on c.rest.records.items _ _ _ _ c.in-Some.found c.in_ok-sift.ensures.sifted c.in-Some.ensures.items
      c.rest.invariant.1,
)
