use Rattle.std.proofs.Common.{arith}
use Rattle.dz_name.specs.Reading.{cut_label, too_long}
use Rattle.dz_name.proofs.wire_fault.check_label.Goals as goal

pub returns-then-message-offset-clause-fault : goal.returns-then-message-offset-clause-fault
returns-then-message-offset-clause-fault c = λ piece.
    cut_label (omega arith) (omega arith) (omega arith) (omega arith)

pub returns-then-used-first-ge255-clause-fault : goal.returns-then-used-first-ge255-clause-fault
returns-then-used-first-ge255-clause-fault c = λ piece.
    too_long (omega arith) (omega arith) (omega arith) (omega arith) (omega arith)
