use Rattle.std.proofs.Common.{sym, subst}
use Rattle.dz_message.specs.Piece.{FitsAlone}
use Rattle.dz_message.proofs.PieceLemmas.{packs_next, packs_all, on_ok_from}
use Rattle.dz_message.proofs.packed.put_all.Goals as goal

pub put-requires-clause-fits : goal.put-requires-clause-fits
put-requires-clause-fits c =
    subst FitsAlone (sym c.rr-item.is) (c.requires.fits c.records.rr-index c.rr-item.result c.records-test.true)

pub records-preserved : goal.records-preserved
records-preserved c = packs_next c.records.piece c.in_ok-piece.piece c.records.buffer c.put.new.buffer
    c.records.out.items c.put.new.out.items c.args.id c.args.records.now c.records.rr-index c.rr-item.result _
    c.records-test.true c.rr-item.is c.records.invariant c.in_ok-piece.ensures

pub returns : goal.returns
returns c = on_ok_from c.end.result c.end.ensures
    (λ ends. packs_all c.records.piece c.records.buffer c.records.out.items c.end.new.out.items c.args.id
    c.args.records.now c.records.rr-index _ c.records-test.false c.records.invariant ends)
