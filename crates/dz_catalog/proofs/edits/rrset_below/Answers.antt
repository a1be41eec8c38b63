use Rattle.std.proofs.Common.{◌∙◌, ◌∷◌, ap, sym, List, ℕ}
use Rattle.std.specs.Prelude.{filter}
use Rattle.dz_catalog.specs.inner.Below.{is_at}
use Rattle.dz_catalog.proofs.ReadLemmas.{none_long}
use Rattle.dz_catalog.proofs.edits.rrset_below.Goals as goal

pub returns-in-None : goal.returns-in-None
returns-in-None c = sym
    (none_long c.args.version.now.records (c.args.label.now ∷ c.args.above.now) c.args.kind c.in-None.ensures
    c.records.ensures.held)

pub returns-in-Some : goal.returns-in-Some
returns-in-Some c =
    c.rrset_at.ensures.rrset
    ∙ ap (λ (n : List (List ℕ)). filter (is_at c.args.kind n) c.args.version.now.records) c.in-Some.ensures
