use Rattle.std.proofs.Common.{◌∙◌, ap, map}
use Rattle.std.specs.Prelude.{slice_get, Some}
use Rattle.dz_member.proofs.PlaceLemmas.{places_are}
use Rattle.dz_member.proofs.sort.sorted_places.Goals as goal

pub returns : goal.returns
returns c =
    let nodes = c.args.nodes.now in
    let places = c.in_ok-places_of.ensures ∙ ap (map (λ p. p.place)) c.deref-2.ensures.value in (
      record {
        labels = c.requires.labels;
        zones =
            c.in_ok-sorted.ensures.once
            (rw c.deref.ensures.value at (c.zones_rise.ensures.0 c.if-not-zones_rise.false));
        few = c.requires.few;
      },
      ap (map (slice_get nodes)) places ∙ (places_are nodes c.in_ok-sorted.sorted.items c.in_ok-sorted.ensures.places
          ∙ ap (map Some) c.in_ok-sorted.ensures.is),
    )
