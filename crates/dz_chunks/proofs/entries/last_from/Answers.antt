use Rattle.std.proofs.Common.{rules, arith, ◌≡◌, ◌<◌, ◌+◌, length, inl, inr, subst, sym}
use Rattle.std.proofs.lemmas.Bool.{cases_lt}
use Rattle.dz_chunks.specs.inner.Chunked.{IsBehindAt}
use Rattle.dz_chunks.proofs.UptoLemmas.{found_last}
use Rattle.dz_chunks.proofs.entries.last_from.Goals as goal

pub returns-clause-value : goal.returns-clause-value
returns-clause-value g c =
    let last = c.last_between-last.result in
    let run = c.args.run in
    let within : last < length c.args.entries.now = search rules in
    rw (c.value.ensures.key, c.value.ensures.value)
    (rw (← c.index-entries-last.is) at (found_last g.K.Ord.cmp g.met.K.Ord.total c.args.key.now c.args.entries.now
    last c.index-entries-last.result c.requires.sorted within c.last_between-last.ensures.upto
    (λ lt. elim (cases_lt (last + 1) (run + c.min.result)) [
      | inl near ↦ c.last_between-last.ensures.last near
      | inr far ↦
          let at : last + 1 ≡ run + 16 =
          omega (arith, lt, far, c.min.ensures, c.last_between-last.ensures.within, c.requires.within) in
          subst (λ place. IsBehindAt g.K.Ord.cmp c.args.key.now c.args.entries.now place) (sym at)
          (c.requires.last (omega (arith, lt, at)))
    ])))
