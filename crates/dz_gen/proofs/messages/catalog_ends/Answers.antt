use Rattle.std.proofs.Common.{◌≡◌, [], ◌∷◌, rules}
use Rattle.dz_gen.specs.Records.{catalog, soa}
use Rattle.dz_gen.proofs.MadeLemmas.{ends_fits}
use Rattle.dz_gen.proofs.messages.catalog_ends.Goals as goal

pub response-requires : goal.response-requires
response-requires c =
    let answers : c.push.new.self.items ≡ soa catalog 1 ∷ [] = search rules in
    rw (c.new.ensures.items, answers) ends_fits
