use Rattle.std.proofs.Common.{arith}
use Rattle.dz_message.proofs.WrittenLemmas.{header_held, on_ok}
use Rattle.dz_message.proofs.write.write_head.Goals as goal

pub returns-clause-held : goal.returns-clause-held
returns-clause-held c = on_ok c.extend_from_slice.result (header_held c.args.header (omega arith)
    (omega (arith, c.if-prove.false)) (omega (arith, c.if-prove-6.false)) (omega (arith, c.if-prove-2.false))
    (omega (arith, c.if-prove-3.false)) (omega (arith, c.if-prove-4.false)) (omega (arith, c.if-prove-5.false)))
