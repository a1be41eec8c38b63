use Rattle.std.proofs.Common.{rules}
use Rattle.dz_catalog.specs.Broken.{broken_records}
use Rattle.dz_catalog.proofs.broken.broken_records.Goals as goal

pub returns-then-no_version : goal.returns-then-no_version
unfolding broken_records
returns-then-no_version c = search rules

pub returns-then-version_twice : goal.returns-then-version_twice
unfolding broken_records
returns-then-version_twice c = search rules

pub returns-then-other_version : goal.returns-then-other_version
unfolding broken_records
returns-then-other_version c = search rules

pub returns-then-not-pointers_twice : goal.returns-then-not-pointers_twice
unfolding broken_records
returns-then-not-pointers_twice c = search rules

pub returns-then-member_twice : goal.returns-then-member_twice
unfolding broken_records
returns-then-member_twice c = search rules

pub returns-then-coo_twice : goal.returns-then-coo_twice
unfolding broken_records
returns-then-coo_twice c = search rules

pub returns-else-coo_twice : goal.returns-else-coo_twice
unfolding broken_records
returns-else-coo_twice c = search rules
