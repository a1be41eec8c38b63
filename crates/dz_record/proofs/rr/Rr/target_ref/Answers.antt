use Rattle.std.proofs.Common.{◌≡◌, sym, true}
use Rattle.dz_record.specs.Record.{has_target}
use Rattle.dz_record.proofs.FieldLemmas.{target_wire, target_is}
use Rattle.dz_record.proofs.rr.Rr.target_ref.Goals as goal

pub of_wire-requires : goal.of_wire-requires
of_wire-requires c =
    let kind : has_target c.args.self.now.kind ≡ true = rw c.kind.ensures.kind at (sym c.if-not-has_target.ensures) in
    rw c.rdata.ensures.rdata (target_wire c.args.self.now c.rdata.ensures.valid kind)

pub returns : goal.returns
returns c =
    target_is c.args.self.now _ (rw c.kind.ensures.kind at (sym c.if-not-has_target.ensures))
    (rw c.rdata.ensures.rdata at c.of_wire.ensures)
