use Rattle.std.proofs.Common.{◌≡◌, ◌∷◌, rules}
use Rattle.dz_name.specs.Numbers.{two}
use Rattle.dz_gen.proofs.MadeLemmas.{address_is}
use Rattle.dz_gen.proofs.records.address.Goals as goal

pub hourly-requires-clause-rdata : goal.hourly-requires-clause-rdata
hourly-requires-clause-rdata c =
    let is : c.extend_from_slice.new.self.items ≡ 10 ∷ c.args.second ∷ two c.args.k = search rules in
    rw is (address_is c.args.second c.args.k)
