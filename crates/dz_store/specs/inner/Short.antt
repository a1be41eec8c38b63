-- Inner: no payload that can be read is longer than the longest.
use Rattle.std.specs.Prelude.{◌≡◌, ◌≤◌, true, length, nat_le}
use Rattle.std.proofs.lemmas.Bool.{and_parts, leb-true}
use Rattle.dz_name.specs.Words.{Octets}
use Rattle.dz_store.specs.Payload.{reads}
use Rattle.dz_store.specs.declared.places.TheConstants.{MOST}

pub short : (payload : Octets) → reads payload ≡ true → length payload ≤ MOST
unfolding reads
short payload some = leb-true (length payload) MOST (and_parts (nat_le (length payload) MOST) _ some).0
