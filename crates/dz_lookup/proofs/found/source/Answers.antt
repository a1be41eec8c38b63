use Rattle.std.proofs.Common.{arith, ◌≡◌, true, false}
use Rattle.dz_runs.specs.Runs.{exists}
use Rattle.dz_lookup.proofs.FoundLemmas.{source_is}
use Rattle.dz_lookup.proofs.Within.{exists_all, exists_not}
use Rattle.dz_lookup.proofs.found.source.Goals as goal

pub returns-then-missing_labels-eq0-clause-source : goal.returns-then-missing_labels-eq0-clause-source
returns-then-missing_labels-eq0-clause-source g c =
    let zone = c.args.version.now.records in
    let missing = rw c.as_ref-2.ensures at c.missing_labels-missing.ensures in
    let none = exists_not zone c.args.name.now c.missing_labels-missing.result missing
    (omega (arith, c.if-missing-eq0.false)) in
    let there : exists zone c.in-Some.wildcard ≡ true = exists_all zone c.in-Some.wildcard c.missing_labels.result
    (rw c.as_ref-4.ensures at c.missing_labels.ensures) c.if-missing_labels-eq0.true in
    rw there at (source_is zone c.args.name.now c.in-Some.wildcard none (c.in-Some.ensures zone missing))

pub returns-else-missing_labels-eq0-clause-source : goal.returns-else-missing_labels-eq0-clause-source
returns-else-missing_labels-eq0-clause-source g c =
    let zone = c.args.version.now.records in
    let missing = rw c.as_ref-2.ensures at c.missing_labels-missing.ensures in
    let none = exists_not zone c.args.name.now c.missing_labels-missing.result missing
    (omega (arith, c.if-missing-eq0.false)) in
    let there : exists zone c.in-Some.wildcard ≡ false = exists_not zone c.in-Some.wildcard c.missing_labels.result
    (rw c.as_ref-4.ensures at c.missing_labels.ensures) (omega (arith, c.if-missing_labels-eq0.false)) in
    rw there at (source_is zone c.args.name.now c.in-Some.wildcard none (c.in-Some.ensures zone missing))
