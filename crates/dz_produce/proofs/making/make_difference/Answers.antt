use Rattle.std.proofs.Common.{◌∙◌, ap, [], ◌∷◌}
use Rattle.dz_produce.specs.Producing.{is_faulty, text_of, version_of, hex_line}
use Rattle.dz_produce.proofs.MakingLemmas.{at_none}
use Rattle.dz_produce.proofs.making.make_difference.Goals as goal

pub returns-in-None : goal.returns-in-None
unfolding is_faulty
returns-in-None c = rw c.in-None.is at c.in_ok-amended.ensures

pub returns-in_ok-line-in-Some : goal.returns-in_ok-line-in-Some
unfolding is_faulty text_of version_of
returns-in_ok-line-in-Some c =
    let leads = rw c.in-Some.is at c.in_ok-amended.ensures in
    record {
      faultless = at_none leads.faultless;
      version_is = leads.version;
      line_is = c.in_ok-line-in-Some.ensures
          ∙ ap (hex_line (105 ∷ 120 ∷ 102 ∷ 114 ∷ 32 ∷ [])) (c.as_slice.ensures.octets ∙ leads.octets);
      catalog = leads.catalog;
      serial_is = leads.serial_is;
    }
