use Rattle.std.proofs.Common.{◌∙◌, ap, [], ◌∷◌}
use Rattle.dz_message.specs.Frame.{stream}
use Rattle.dz_message.specs.Piece.{written}
use Rattle.dz_outward.specs.Stream.{is_fit, messages_of}
use Rattle.dz_zone.specs.Version.{Zone}
use Rattle.dz_produce.specs.Producing.{is_faulty, text_of, version_of, hex_line}
use Rattle.dz_produce.proofs.MakingLemmas.{at_none, fit_of}
use Rattle.dz_produce.proofs.making.make_whole.Goals as goal

pub stream_of-requires : goal.stream_of-requires
stream_of-requires c =
    let made = rw c.in-Some.is at c.in_ok-produced.ensures in
    ap is_fit made.version_is ∙ fit_of c.args.apex.now c.args.serial c.args.added.now made.faultless

pub returns-in-None : goal.returns-in-None
unfolding is_faulty
returns-in-None c = rw c.in-None.is at c.in_ok-produced.ensures

pub returns-in_ok-line-in-Some : goal.returns-in_ok-line-in-Some
unfolding is_faulty text_of version_of
returns-in_ok-line-in-Some c =
    let made = rw c.in-Some.is at c.in_ok-produced.ensures in
    record {
      faultless = at_none made.faultless;
      version_is = made.version_is;
      line_is = c.in_ok-line-in-Some.ensures
          ∙ ap (hex_line (97 ∷ 120 ∷ 102 ∷ 114 ∷ 32 ∷ [])) (c.as_slice.ensures.octets ∙ (c.in_ok-stream-in-Some.ensures
          ∙ ap (λ (zone : Zone). stream (written (messages_of 0 zone))) made.version_is));
      catalog = made.catalog;
      serial_is = made.serial_is;
    }
