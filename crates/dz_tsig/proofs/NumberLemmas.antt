-- Numbers of six octets, and how long MACs, TSIG records and signed messages are.
use Rattle.std.proofs.Common.{◌≡◌, ℕ, zero, suc, ◌+◌, ◌*◌, ◌≤◌, ◌++◌, ◌∙◌, ap, refl, length, List, arith, append_assoc}
use Rattle.std.proofs.Common.{length-append, length-drop}
use Rattle.std.proofs.lemmas.List.{length-take-le}
use Rattle.dz_name.specs.Words.{Name, Octets}
use Rattle.dz_name.specs.Name.{wire_of}
use Rattle.dz_name.specs.Numbers.{two, four, number_of_two}
use Rattle.dz_name.proofs.NumberLemmas.{length_two}
use Rattle.dz_tsig.specs.Numbers.{six}
use Rattle.dz_tsig.specs.Signing.{tsig_rdata, tsig_head, tsig_octets, request_mac, with_tsig}
use Rattle.dz_tsig.specs.Hmac.{hmac}
use Rattle.dz_settings.specs.declared.key.Key.{Key}
use Rattle.sha2.specs.Sha256.{sha256, digest_bytes}

pub length_six : (n : ℕ) → length (six n) ≡ 6
unfolding six
length_six n = refl

pub rdata_long : (time : ℕ) (mac : List ℕ) (id : ℕ) → length mac ≡ 32 → length (tsig_rdata time mac id) ≡ 61
unfolding wire_of tsig_rdata
rdata_long time mac id long = simp (length-append, length_two, length_six) (omega (arith, long))

-- a TSIG record piece by piece
pub tsig_joined : (key : Name) (time : ℕ) (mac : Octets) (id : ℕ) (old first second third : Octets) → length mac ≡ 32
    → first ≡ old ++ wire_of key → second ≡ first ++ tsig_head 61
    → third ≡ second ++ tsig_rdata time mac id → third ≡ old ++ tsig_octets key time mac id
unfolding tsig_octets
tsig_joined key time mac id old first second third long a b c =
    let n : length (tsig_rdata time mac id) ≡ 61 = rdata_long time mac id long in
    rw n (c ∙ (ap (λ o. o ++ tsig_rdata time mac id) (b ∙ ap (λ o. o ++ tsig_head 61) a)
    ∙ (append_assoc (old ++ wire_of key) (tsig_head 61) (tsig_rdata time mac id)
    ∙ append_assoc old (wire_of key) (tsig_head 61 ++ tsig_rdata time mac id))))

head_long : (size : ℕ) → length (tsig_head size) ≡ 10
unfolding tsig_head two four
head_long size = refl

-- a message with a TSIG is as much longer as the TSIG is long
pub with_tsig_long : (key : Name) (time : ℕ) (mac m : Octets) → length mac ≡ 32 → 12 ≤ length m
    → length (with_tsig key time mac m) ≡ length m + (length (wire_of key) + 71)
unfolding with_tsig tsig_octets
with_tsig_long key time mac m long header =
    let rdata = tsig_rdata time mac (number_of_two m) in
    let size : length rdata ≡ 61 = rdata_long time mac (number_of_two m) long in
    simp (length-append, length_two) (omega
    (arith, size, head_long (length rdata), length-take-le 10 m (omega (arith, header)), length-drop 12 m, header))

-- ---- a MAC has 32 octets
digest_long : (h : List ℕ) (n : ℕ) → length (digest_bytes h n) ≡ 4 * n
unfolding digest_bytes
digest_long h zero = omega arith
digest_long h (suc n) = length-append (digest_bytes h n) _ ∙ omega (arith, digest_long h n)

pub hmac_long : (key text : Octets) → length (hmac key text) ≡ 32
unfolding hmac sha256
hmac_long key text = digest_long _ 8

pub request_mac_long : (key : Key) (query : Octets) (moment : ℕ) → length (request_mac key query moment) ≡ 32
unfolding request_mac
request_mac_long key query moment = hmac_long key.secret _
