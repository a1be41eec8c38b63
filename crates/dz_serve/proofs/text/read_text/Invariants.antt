use Rattle.std.proofs.Common.{◌≡◌, ◌+◌, ◌-◌, length}
use Rattle.dz_io.specs.Device.{Gives}
use Rattle.dz_config.specs.declared.config.TheConstants.{TEXT_OCTETS}
use Rattle.dz_serve.proofs.text.read_text.Given as goal

abbrev pub invariant-pieces : goal.invariant-pieces
invariant-pieces g l = record {
  read : Gives l.text.items (g.S.Source.left l.fn.source) (g.S.Source.left l.source);
  count : g.S.Source.faults l.source ≡ g.S.Source.faults l.fn.source;
}

abbrev pub decreases-pieces : goal.decreases-pieces
decreases-pieces g l = TEXT_OCTETS + 1 - length l.text.items
