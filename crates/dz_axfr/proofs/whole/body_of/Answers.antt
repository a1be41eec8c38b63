use Rattle.std.proofs.Common.{◌∷◌, refl, sym, arith}
use Rattle.dz_axfr.proofs.KeptLemmas.{no_soa_there, other_rdata, more_behind, at_the_end, ends_there}
use Rattle.dz_axfr.proofs.whole.body_of.Goals as goal

pub returns-in-None-clause-body : goal.returns-in-None-clause-body
returns-in-None-clause-body c =
    let at = rw c.as_slice.ensures.value at (sym c.in-None.ensures) in
    λ body. (no_soa_there _ (c.args.first.now ∷ body) _ c.requires at, refl)

pub returns-then-not-same_rdata-clause-fault : goal.returns-then-not-same_rdata-clause-fault
returns-then-not-same_rdata-clause-fault c =
    let at = rw c.as_slice.ensures.value at (sym c.in-Some.ensures) in
    λ body. other_rdata _ (c.args.first.now ∷ body) _ c.args.first.now c.index.result.now c.in-Some.at c.requires refl
    at c.index.ensures (sym c.if-not-same_rdata.ensures)

pub returns-then-at-len-clause-fault : goal.returns-then-at-len-clause-fault
returns-then-at-len-clause-fault c =
    let at = rw c.as_slice.ensures.value at (sym c.in-Some.ensures) in
    λ body. more_behind _ (c.args.first.now ∷ body) _ c.args.first.now c.index.result.now c.in-Some.at c.requires refl
    at c.index.ensures (sym c.if-not-same_rdata.ensures) (omega (arith, c.args.records.ok.0))

pub returns-else-at-len-clause-body : goal.returns-else-at-len-clause-body
returns-else-at-len-clause-body c =
    let at = rw c.as_slice.ensures.value at (sym c.in-Some.ensures) in
    rw c.truncate.ensures.items (λ body. (
      at_the_end _ (c.args.first.now ∷ body) _ c.args.first.now c.index.result.now c.in-Some.at c.requires refl
          at c.index.ensures (sym c.if-not-same_rdata.ensures) (omega (arith, c.args.records.ok.0)),
      ends_there _ (c.args.first.now ∷ body) _ c.index.result.now c.in-Some.at
          at c.index.ensures (omega (arith, c.args.records.ok.0)),
    ))
