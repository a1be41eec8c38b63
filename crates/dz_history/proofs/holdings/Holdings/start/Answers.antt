use Rattle.std.proofs.Common.{◌∙◌, ap, length}
use Rattle.dz_member.specs.Fold.{FoldOf}
use Rattle.dz_history.proofs.SourceLemmas.{none_read, opened_state}
use Rattle.dz_history.proofs.holdings.Holdings.start.Goals as goal

pub invariant_of-result : goal.invariant_of-result
invariant_of-result c = record {
  state = rw (
    c.in_ok-new.ensures.ok,
    c.in_ok-fold.ensures,
    c.in_ok-versions.ensures,
    c.catalogs-count.ensures,
    c.in_ok-new-2.ensures.ok,
    c.empty.ensures,
  ) (opened_state c.args.config c.requires);
  read = none_read c.in_ok-new.field-0.value c.in_ok-sources.sources.items (length c.args.config)
      (ap (λ (f : FoldOf). f.listings) (c.in_ok-new.ensures.ok ∙ c.in_ok-fold.ensures))
      (rw c.catalogs-count.ensures at c.in_ok-sources.ensures);
}
