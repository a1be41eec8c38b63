use Rattle.std.proofs.Common.{◌≡◌, ◌+◌, ◌<◌, ◌^◌, take}
use Rattle.std.specs.List.{All, AllByRecursion}
use Rattle.dz_producer.specs.Draft.{saturated}
use Rattle.dz_producer.specs.inner.Sizes.{text_octets}
use Rattle.dz_producer.proofs.draft.text_octets.Given as goal

abbrev pub invariant-texts : goal.invariant-texts
invariant-texts l = record {
  counted : l.octets ≡ saturated (l.pointers + text_octets l.owner (take l.text-index l.texts));
  below : AllByRecursion (All (λ octet. octet < 2 ^ 8)) (take l.text-index l.texts);
}
