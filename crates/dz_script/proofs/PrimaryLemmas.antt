-- Primaries, read one by one.
use Rattle.std.proofs.Common.{◌≡◌, ℕ, ◌<◌, ◌≤◌, Bool, true, false, List, [], ◌∷◌, ◌++◌, length, refl, sym, ap, arith}
use Rattle.std.proofs.Common.{append_assoc, Option, Some, None, if◌then◌else◌}
use Rattle.std.specs.Prelude.{nat_le}
use Rattle.std.proofs.lemmas.Bool.Decides.{nat_tests}
use Rattle.std.proofs.lemmas.List.{append-nil}
use Rattle.dz_io.specs.declared.peer.Peer.{Peer}
use Rattle.dz_settings.specs.Peer.{peer_of}
use Rattle.dz_script.specs.Fields.{parts_of}
use Rattle.dz_script.specs.Settings.{in_front, peers_of, primaries_of}
use Rattle.dz_script.specs.inner.Left.{with_peers}

front : (peers : List Peer) (peer : Peer) (o : Option (List Peer))
    → with_peers peers (in_front (Some peer) o) ≡ with_peers (peers ++ peer ∷ []) o
front peers peer None = refl
front peers peer (Some others) = ap Some (sym (append_assoc peers (peer ∷ []) others))

-- one peer more
pub one_more : (peers : List Peer) (peer : Peer) (part : List ℕ) (parts rest : List (List ℕ)) → parts ≡ part ∷ rest
    → peer_of part ≡ Some peer
    → with_peers peers (peers_of parts) ≡ with_peers (peers ++ peer ∷ []) (peers_of rest)
unfolding peers_of
one_more peers peer part parts rest e is = rw (e, is) (front peers peer (peers_of rest))

-- a part that is no peer
pub bad_part : (peers : List Peer) (part : List ℕ) (parts rest : List (List ℕ)) → parts ≡ part ∷ rest
    → peer_of part ≡ None → with_peers peers (peers_of parts) ≡ None
unfolding peers_of
bad_part peers part parts rest e is = rw (e, is) refl

-- no part is left
pub all_read : (peers : List Peer) (parts : List (List ℕ)) → parts ≡ []
    → with_peers peers (peers_of parts) ≡ Some peers
unfolding peers_of
all_read peers parts e = rw e (ap Some (append-nil peers))

pub too_many : (text : List ℕ) → 8 < length (parts_of 44 text) → primaries_of text ≡ None
unfolding primaries_of
too_many text h = let t : nat_le (length (parts_of 44 text)) 8 ≡ false = grind (arith, nat_tests) in rw t refl

pub few_enough : (text : List ℕ) → length (parts_of 44 text) ≤ 8 → primaries_of text ≡ peers_of (parts_of 44 text)
unfolding primaries_of
few_enough text h = let t : nat_le (length (parts_of 44 text)) 8 ≡ true = grind (arith, nat_tests) in rw t refl

choice : (b : Bool) (o : Option (List Peer)) → o ≡ None → (if b then o else None) ≡ None
choice true o h = h
choice false o h = refl

-- with a part that is no peer there are none, however many there are
pub not_all : (text : List ℕ) → peers_of (parts_of 44 text) ≡ None → primaries_of text ≡ None
unfolding primaries_of
not_all text h = choice (nat_le (length (parts_of 44 text)) 8) (peers_of (parts_of 44 text)) h
