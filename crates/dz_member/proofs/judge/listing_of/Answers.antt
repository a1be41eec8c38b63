use Rattle.std.proofs.Common.{◌∙◌, sym}
use Rattle.dz_member.proofs.NumberLemmas.{listing_back}
use Rattle.dz_member.proofs.judge.listing_of.Goals as goal

pub returns : goal.returns
returns c = c.listing.ensures
    ∙ sym (listing_back c.args.fold.now c.args.member.now.catalog c.requires.fold.allowed c.requires.held.catalog)
