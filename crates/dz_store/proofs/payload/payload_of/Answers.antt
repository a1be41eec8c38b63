use Rattle.std.proofs.Common.{◌≡◌, true, sym, ap, subst, ◌∙◌}
use Rattle.std.specs.Arc.{arc_value}
use Rattle.dz_zone.specs.Version.{IsVersion}
use Rattle.dz_outward.specs.Stream.{messages_of, is_fit}
use Rattle.dz_store.specs.Kept.{meaning_of}
use Rattle.dz_store.proofs.WritingLemmas.{written_payload}
use Rattle.dz_store.proofs.payload.payload_of.Goals as goal

pub returns-clause-payload : goal.returns-clause-payload
returns-clause-payload c =
    written_payload (meaning_of c.args.kept.now) c.in_ok-payload.payload.items c.push_stream.new.out.items
    c.in-Ok.outgoing c.in_ok-payload.ensures.head c.in_ok-push_stream.ensures
    (c.in-Ok.ensures.messages ∙ ap (messages_of 0) c.in_ok-version.ensures)

pub returns-clause-can : goal.returns-clause-can
returns-clause-can c =
    record {
      zone = c.in_ok-payload.ensures.names.0;
      catalog = c.in_ok-payload.ensures.names.1;
      label = c.in_ok-payload.ensures.label;
      refreshed = c.requires.moment;
      apex = c.requires.zone;
      version = subst IsVersion c.in_ok-version.ensures c.in-Ok.ensures.version;
      fit = ap is_fit (sym c.in_ok-version.ensures) ∙ sym c.in-Ok.ensures.fit;
    }
