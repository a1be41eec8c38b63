use Rattle.std.proofs.Common.{◌≡◌, ◌++◌, ◌∙◌, ap}
use Rattle.sha2.specs.Sha256.{sha256}
use Rattle.dz_tsig.specs.Hmac.{hmac, padded}
use Rattle.dz_tsig.proofs.mac.MacHasher.finish.Goals as goal

pub returns : goal.returns
unfolding hmac
returns c = λ key text is.
    let inner : c.as_slice.result.now ≡ sha256 (padded 54 key ++ text) =
    c.as_slice.ensures ∙ c.finalize-hashed.ensures (padded 54 key ++ text) is.inner in
    c.finalize.ensures (padded 92 key ++ c.as_slice.result.now) (c.update.ensures (padded 92 key) is.outer)
    ∙ ap (λ m. sha256 (padded 92 key ++ m)) inner
