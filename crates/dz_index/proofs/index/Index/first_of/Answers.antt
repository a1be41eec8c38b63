use Rattle.std.proofs.Common.{◌∙◌, ap}
use Rattle.dz_index.specs.SortKey.{key_of}
use Rattle.dz_index.proofs.SearchLemmas.{first_place}
use Rattle.dz_index.proofs.index.Index.first_of.Goals as goal

pub returns-clause-place : goal.returns-clause-place
returns-clause-place g c = λ owners index.
    first_place c.args.name.now owners c.args.self.now c.octets.result.now c.search-found.result c.first.result
    (c.octets.ensures.value ∙ (c.of-key.ensures ∙ ap key_of c.as_ref.ensures)) index
    (c.search-found.ensures.place index.rise) c.search-found.ensures.within c.first.ensures.first
