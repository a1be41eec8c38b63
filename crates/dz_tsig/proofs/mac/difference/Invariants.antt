use Rattle.std.proofs.Common.{◌≡◌, ℕ, ◌<◌, get_or}
use Rattle.dz_tsig.proofs.mac.difference.Given as goal

abbrev pub invariant-octets : goal.invariant-octets
invariant-octets l = record {
  same : l.difference ≡ 0 → (k : ℕ) → k < l.at → get_or l.octets k 0 ≡ get_or l.mac k 0;
  none : l.octets ≡ l.mac → l.difference ≡ 0;
}
