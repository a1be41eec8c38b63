-- What is kept of a secret.
use Rattle.std.proofs.Common.{◌≡◌, ℕ, ◌≤◌, List, ◌++◌, length, take, drop, refl, sym, ◌∙◌, ap}
use Rattle.std.specs.Prelude.{replicate}
use Rattle.std.proofs.lemmas.List.{take_at, drop-replicate}
use Rattle.dz_settings.specs.inner.Secrets.{IsSecretKept, secret_padded}

pub secret_kept : (octets new : List ℕ) → length octets ≤ 64 → new ≡ octets ++ drop (length octets) (replicate 64 0)
    → IsSecretKept new (length octets)
secret_kept octets new short e =
    let f : take (length octets) new ≡ octets = ap (λ xs. take (length octets) xs) e
    ∙ take_at octets (drop (length octets) (replicate 64 0)) (length octets) refl in
    let g : secret_padded octets ≡ new = ap (λ xs. octets ++ xs) (sym (drop-replicate (length octets) 64 0)) ∙ sym e in
    record { short = rw f short; padded = rw f g; len_is = rw f refl }
