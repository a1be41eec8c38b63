use Rattle.std.proofs.Common.{◌∙◌, ◌+◌, ◌∷◌, ◌++◌, arith, sym, ap, take, drop}
use Rattle.dz_chunks.proofs.EntryLemmas.{replaced_is, inserted_is, ok_into}
use Rattle.dz_chunks.proofs.SearchLemmas.{in_chunk}
use Rattle.dz_chunks.proofs.entries.with_entry.Goals as goal

pub returns-then-is_at-clause-put : goal.returns-then-is_at-clause-put
returns-then-is_at-clause-put g c =
    let es = c.args.entries.now in
    let at = c.place_of-place.result in
    ok_into (λ v. v.items) c.replaced.result _ _ c.replaced.ensures.items
    (ap (λ key. take at es ++ (key, c.args.value) ∷ drop (at + 1) es) (sym c.requires.own)
    ∙ replaced_is g.K.Ord.cmp g.met.K.Ord.total g.met.K.Lead.one c.args.key.now c.args.value es
    at c.place_of-place.ensures.before (sym c.is_at.ensures.value ∙ c.if-is_at.true))

pub returns-else-is_at-clause-put : goal.returns-else-is_at-clause-put
returns-else-is_at-clause-put g c =
    let es = c.args.entries.now in
    let at = c.place_of-place.result in
    ok_into (λ v. v.items) c.inserted.result _ _ c.inserted.ensures.items
    (ap (λ key. take at es ++ (key, c.args.value) ∷ drop at es) (sym c.requires.own)
    ∙ inserted_is g.K.Ord.cmp g.met.K.Ord.total c.args.key.now c.args.value es
    at c.place_of-place.ensures.before c.place_of-place.ensures.here (sym c.is_at.ensures.value ∙ c.if-is_at.false))

pub returns-then-is_at-clause-comparisons : goal.returns-then-is_at-clause-comparisons
returns-then-is_at-clause-comparisons g c =
    omega (arith, c.is_at.ensures.cost, in_chunk _ _ c.requires.short c.place_of-place.ensures.cost)

pub returns-else-is_at-clause-comparisons : goal.returns-else-is_at-clause-comparisons
returns-else-is_at-clause-comparisons g c =
    omega (arith, c.is_at.ensures.cost, in_chunk _ _ c.requires.short c.place_of-place.ensures.cost)
