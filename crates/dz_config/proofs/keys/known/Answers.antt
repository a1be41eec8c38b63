use Rattle.dz_config.proofs.TreeLemmas.{known_bad, known_good}
use Rattle.dz_config.proofs.keys.known.Goals as goal

pub returns-then-has_unknown : goal.returns-then-has_unknown
returns-then-has_unknown c =
    known_bad c.args.place c.args.table.now.entries c.has_unknown.result c.has_unknown.ensures c.if-has_unknown.true

pub returns-else-has_unknown : goal.returns-else-has_unknown
returns-else-has_unknown c =
    known_good c.args.place c.args.table.now.entries c.has_unknown.result c.has_unknown.ensures c.if-has_unknown.false
