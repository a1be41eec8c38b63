use Rattle.std.proofs.Common.{sym, subst}
use Rattle.dz_table.specs.inner.Ahead.{AreOf}
use Rattle.dz_table.specs.inner.Kept.{slots_of}
use Rattle.dz_table.proofs.AheadLemmas.{given}
use Rattle.dz_table.proofs.ahead.Ahead.of.Goals as goal

pub invariant_of-result : goal.invariant_of-result
invariant_of-result c =
    let left = given (λ r. r.now) c.next_entry-first.result c.args.behind c.next_entry-first.new.self
    c.next_entry-first.ensures in
    subst (λ entries. AreOf c.args.table.now (slots_of entries)) (sym left) c.requires
