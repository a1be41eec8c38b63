-- The OPT record of a reply, one field after another.
use Rattle.std.proofs.Common.{◌≡◌, ℕ, ◌/◌, List, [], ◌∷◌, ◌++◌, sym, Some, None, if◌then◌else◌}
use Rattle.dz_name.specs.Numbers.{two}
use Rattle.dz_header.specs.Edns.{opt_octets}
use Rattle.dz_header.specs.declared.edns.Edns.{Edns}
use Rattle.dz_header.specs.Writing.{Writing, also}
use Rattle.dz_header.proofs.WriterLemmas.{also_append, also_nil}

pub opt_written : (code : ℕ) (edns : Edns) (w w1 w2 w3 w4 w5 w6 : Writing) → w1 ≡ also w (0 ∷ [])
    → w2 ≡ also w1 (two 41) → w3 ≡ also w2 (two 1232)
    → w4 ≡ also w3 (code / 16 ∷ 0 ∷ []) → w5 ≡ also w4 (two (if edns.dnssec_ok then 32768 else 0))
    → w6 ≡ also w5 (two 0) → w6 ≡ also w (opt_octets code (Some edns))
unfolding opt_octets
opt_written code edns w w1 w2 w3 w4 w5 w6 e1 e2 e3 e4 e5 e6 =
    let tail : List ℕ = two (if edns.dnssec_ok then 32768 else 0) ++ two 0 in
    let middle = also_append w3 (code / 16 ∷ 0 ∷ []) tail in
    let front = also_append w (0 ∷ []) (two 41 ++ (two 1232 ++ ((code / 16 ∷ 0 ∷ []) ++ tail))) in
    let fields = also_append w1 (two 41) (two 1232 ++ ((code / 16 ∷ 0 ∷ []) ++ tail)) in
    let size = also_append w2 (two 1232) ((code / 16 ∷ 0 ∷ []) ++ tail) in
    let end = also_append w4 (two (if edns.dnssec_ok then 32768 else 0)) (two 0) in
    cc

pub opt_none : (code : ℕ) (w : Writing) → w ≡ also w (opt_octets code None)
unfolding opt_octets
opt_none code w = sym (also_nil w)
