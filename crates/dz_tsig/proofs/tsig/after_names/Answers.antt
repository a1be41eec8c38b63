use Rattle.std.proofs.Common.{rules}
use Rattle.dz_tsig.specs.Tsig.{after_names, after_size}
use Rattle.dz_tsig.proofs.tsig.after_names.Goals as goal

pub returns-then-octets-lt10-clause-value : goal.returns-then-octets-lt10-clause-value
unfolding after_names after_size
returns-then-octets-lt10-clause-value c = search rules

pub returns-then-rest-size-clause-value : goal.returns-then-rest-size-clause-value
unfolding after_names after_size
returns-then-rest-size-clause-value c = search rules

pub returns-then-rest-size-2-clause-value : goal.returns-then-rest-size-2-clause-value
unfolding after_names after_size
returns-then-rest-size-2-clause-value c = search rules

pub returns-clause-value : goal.returns-clause-value
unfolding after_names after_size
returns-clause-value c = search rules
