use Rattle.std.proofs.Common.{ap, arith, length}
use Rattle.dz_chunks.proofs.JoinLemmas.{few_chunks}
use Rattle.dz_chunks.proofs.ranked.Ranked.without.Goals as goal

pub returns-in_err-chunks-clause-references : goal.returns-in_err-chunks-clause-references
returns-in_err-chunks-clause-references g c =
    let few = few_chunks c.self.inside.chunks.items c.self.invariant.chunked.sized in
    omega (
      arith,
      c.chunks_without.ensures.reference_cost,
      few,
      ap length c.as_slice.ensures.value,
      ap length c.self.view_is,
    )

pub returns-clause-references : goal.returns-clause-references
returns-clause-references g c =
    let few = few_chunks c.self.inside.chunks.items c.self.invariant.chunked.sized in
    omega (
      arith,
      c.chunks_without.ensures.reference_cost,
      few,
      ap length c.as_slice.ensures.value,
      ap length c.self.view_is,
    )
