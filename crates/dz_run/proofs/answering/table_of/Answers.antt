use Rattle.std.proofs.Common.{rules}
use Rattle.dz_table.specs.Table.{put}
use Rattle.dz_run.proofs.answering.table_of.Goals as goal

pub returns : goal.returns
unfolding put
returns c = search rules
