use Rattle.dz_restore.proofs.CoreLemmas.{due_in_turn, fails_in_turn, refused_in_turn, succeeds_in_turn}
use Rattle.dz_restore.proofs.laws.zones_have_turns.Goals as goal

pub returns-clause-due : goal.returns-clause-due
returns-clause-due c = due_in_turn

pub returns-clause-fails : goal.returns-clause-fails
returns-clause-fails c = fails_in_turn

pub returns-clause-succeeds : goal.returns-clause-succeeds
returns-clause-succeeds c = succeeds_in_turn

pub returns-clause-refused : goal.returns-clause-refused
returns-clause-refused c = refused_in_turn
