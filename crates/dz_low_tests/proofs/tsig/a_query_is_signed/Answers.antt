use Rattle.std.proofs.Common.{rules}
use Rattle.dz_name.specs.Numbers.{number_of_two}
use Rattle.dz_low_tests.proofs.tsig.a_query_is_signed.Goals as goal

pub sign_query-requires-clause-room : goal.sign_query-requires-clause-room
unfolding number_of_two
sign_query-requires-clause-room g c = search rules
